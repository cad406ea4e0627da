-- An answer of the crate's own text to a nested join, and whether the definition gives it. Assumes nothing: these are
-- definitions.
use Rattle.std.specs.Prelude.{Bool, ◌&&◌, List, eqb, Option}
use Rattle.std.specs.List.{list_all}
use Rattle.std.specs.Option.{option_eq}
use lib.Pointwise.{pointwise}
use Rattle.flat.specs.Tree.{DataType, kinds_of, args_of}
use Rattle.supertype_nested.specs.Nested.{SuperTypeOptions, options, supertype_tree}

-- what was asked, with the flags of the call and of its inner calls, and what was answered
pub record Recorded : Type 0 where
  pub outer : SuperTypeOptions
  pub inner : SuperTypeOptions
  pub left : DataType
  pub right : DataType
  pub answer : Option DataType

-- i and j are allow_implode_list, s and t allow_primitive_to_string
abbrev pub asked : (i s j t : Bool) → DataType → DataType → Option DataType → Recorded
asked i s j t l r a = record { outer = options i s; inner = options j t; left = l; right = r; answer = a }

-- the same nodes: not the crate's `==`, by which all dyn ints are equal
unfoldable pub same_nodes : DataType → DataType → Bool
same_nodes t u = pointwise eqb (kinds_of t) (kinds_of u) && pointwise eqb (args_of t) (args_of u)

-- the definition gives the answer
unfoldable pub agrees : Recorded → Bool
agrees a = option_eq same_nodes (supertype_tree a.outer a.inner a.left a.right) a.answer

unfoldable pub all_lists_agree : List (List Recorded) → Bool
all_lists_agree = list_all (list_all agrees)
