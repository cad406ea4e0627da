-- What a row of the table asks of the definitions, and what they answer. Assumes nothing: these are definitions.
use Rattle.std.specs.Prelude.{Bool, List, [], ◌∷◌, ℕ, ℤ, get_or, replicate, Option, None, Some, option_map}
use Rattle.flat.specs.Tree.{DataType, kinds_of, args_of}
use Rattle.flat.specs.Reading.{Reading, refused, type, reading, checked_of, root_of}
use Rattle.flat.specs.Refusal.{answer_number}
use Rattle.flat.specs.Reply.{value_in}
use Rattle.flat.specs.Refusals.{number_given}
use Rattle.flat.specs.Output.{fitting, written_of, fitting_found, optional_of}
use Rattle.encoded.specs.Encoding.{encoding, decoding}
use Rattle.dtype_cast.specs.Cast.{can_cast_to}
use Rattle.supertype_numbers.specs.DynInt.{materialize_smallest_dyn_int}
use Rattle.dtype_build.specs.Build.{materialized}
use Rattle.supertype_answer.specs.Join.{joining}
use Rattle.supertype_lossless.specs.Lossless.{lossless_of}
use Rattle.supertype.specs.Pair.{supertype_of}
use Rattle.supertype_nested.specs.Nested.{SuperTypeOptions, supertype_tree}
use Rattle.channels.specs.Merge.{merged_of, codes_after}

-- The limits that the code sets: the most nodes, the most nodes above a node, the number of channels, and the bytes of
-- an encoded argument.
pub record Limits : Type 0 where
  pub nodes : ℕ
  pub deep : ℕ
  pub channels : ℕ
  pub width : ℕ

-- A call on flat types. A type is handed over as the two arrays of a tree; they are no type where a leaf has a kind or
-- an argument that no leaf has.
pub data FlatCall : Type 0 where
  -- of two arrays
  check : (kinds args : List ℕ) → FlatCall
  -- of bytes
  check_encoded : List ℕ → FlatCall
  -- with the two flags, and output arrays of so many elements
  get_supertype_call : (implode to_string : Bool) → DataType → DataType → (room : ℕ) → FlatCall
  -- with the flag that allows any, and output arrays of so many elements
  materialize_unknown_call : (allow : Bool) → DataType → (room : ℕ) → FlatCall
  -- a column of this type merged into a channel, where every channel holds this code
  merge : (held channel : ℕ) → DataType → FlatCall

-- what the arrays of a tree are
abbrev pub reading_of : Limits → DataType → Reading
reading_of l t = reading l.nodes l.deep (kinds_of t) (args_of t)

-- the number of a call's answer, by the definitions that its contract cites
abbrev pub call_number : Limits → FlatCall → ℕ
call_number l (check ks xs) = number_given l.nodes l.deep ks xs
call_number l (check_encoded s) = answer_number (checked_of (decoding l.width l.nodes l.deep s))
call_number l (get_supertype_call implode to_string t u room) =
    let found = joining (supertype_of implode to_string) (reading_of l t) (reading_of l u) in
    answer_number (optional_of (fitting_found room room found))
call_number l (materialize_unknown_call allow t room) =
    answer_number (written_of (fitting room room (materialized allow (reading_of l t))))
call_number l (merge held channel t) =
    answer_number (merged_of l.channels (replicate l.channels held) channel (reading_of l t))

-- what is asked
pub data Asked : Type 0 where
  -- of the rules, of types that are valid
  supertype : (implode to_string : Bool) → DataType → DataType → Asked
  -- of any two types, with the flags of the call and of its inner calls
  nested_supertype : (outer inner : SuperTypeOptions) → DataType → DataType → Asked
  lossless : DataType → DataType → Asked
  smallest_dyn_int : ℤ → Asked
  can_cast : DataType → DataType → Asked
  materialize : (allow : Bool) → DataType → Asked
  -- columns of these types, merged one after another into channel 0, where all channels were empty
  merge_all_call : List DataType → Asked
  -- the number of a call
  number_of : FlatCall → Asked
  -- the root that is read from the arrays of a tree
  root : DataType → Asked
  -- the bytes of a type, and what bytes are
  encoded : DataType → Asked
  decoded : List ℕ → Asked
  -- the codes of these kinds
  codes : List ℕ → Asked

-- what is answered
pub data Answered : Type 0 where
  -- some type, None or a refusal
  joined : Option Reading → Answered
  kind : ℕ → Answered
  -- yes, no or no verdict
  verdict : Option Bool → Answered
  -- a number, as document 01 has it beside every result, and the type where it is 0: no Result, which hides the number
  result : ℕ → Option DataType → Answered
  -- the number and the value of every answer, and the code that is left
  merged : List (ℕ × ℕ) → ℕ → Answered
  number : ℕ → Answered
  numbers : List ℕ → Answered

-- the type, where there is one
abbrev pub type_read : Reading → Option DataType
type_read (refused e) = None
type_read (type t) = Some t

-- what a call comes to that writes a type
abbrev pub written_result : Reading → Answered
written_result r = result (answer_number (written_of r)) (type_read r)

-- what `merge_all_call` answers, from these codes
abbrev pub merge_all : Limits → List ℕ → List DataType → List (ℕ × ℕ) × ℕ
merge_all l cs [] = ([], get_or cs 0 0)
merge_all l cs (t ∷ ts) =
    let a = merged_of l.channels cs 0 (type t) in
    let rest = merge_all l (codes_after cs 0 a) ts in
    ((answer_number a, value_in (λ code. code) a) ∷ rest.0, rest.1)

-- what the definitions answer
abbrev pub answer_to : Limits → Asked → Answered
answer_to l (supertype implode to_string t u) = joined (supertype_of implode to_string t u)
answer_to l (nested_supertype o i t u) = joined (option_map type (supertype_tree o i t u))
answer_to l (lossless t u) = joined (lossless_of t u)
answer_to l (smallest_dyn_int v) = kind (materialize_smallest_dyn_int v)
answer_to l (can_cast from to) = verdict (can_cast_to from to)
answer_to l (materialize allow t) = written_result (materialized allow (type t))
answer_to l (merge_all_call ts) = let a = merge_all l (replicate l.channels 0) ts in merged a.0 a.1
answer_to l (number_of call) = number (call_number l call)
answer_to l (root t) =
    let r = root_of (reading_of l t) in
    numbers (answer_number r ∷ value_in (λ n. n.kind) r ∷ value_in (λ n. n.arg) r ∷ [])
answer_to l (encoded t) = numbers (encoding l.width (kinds_of t) (args_of t))
answer_to l (decoded s) = written_result (decoding l.width l.nodes l.deep s)
answer_to l (codes ks) = numbers ks
