-- When two types are equal: `PartialEq` of dtype.rs and of field.rs. Assumes nothing: these are definitions.
use Rattle.std.specs.Prelude.{Bool, false, ◌&&◌, ◌||◌, ℕ, eqb}
use Rattle.flat.specs.Tree.{DataType, leaf, list, array, struct, Fields, empty, field}
use Rattle.dtype.specs.Match.{if_leaf, if_list, if_array, if_struct, if_field, is_empty}
use Rattle.dtype.specs.Predicate.{is_unknown_int}

-- Two nodes: `Unknown(Int(_))` are equal whatever they hold, others where kind and argument are. An argument is a
-- Datetime's unit and zone, a Duration's unit, a Decimal's precision and scale.
unfoldable pub equal_node : ℕ → ℕ → ℕ → ℕ → Bool
equal_node k a l b = (is_unknown_int k && is_unknown_int l) || (eqb k l && eqb a b)

unfoldable mutual
  -- of two types: Lists with equal inner types, Arrays of equal width with equal inner types, Structs with equal fields
  pub equal : DataType → DataType → Bool
  equal (leaf k a) = if_leaf false (equal_node k a)
  equal (list t) = if_list false (equal t)
  equal (array w t) = if_array false (λ v u. eqb w v && equal t u)
  equal (struct fs) = if_struct false (equal_fields fs)

  -- of their fields: as many, with equal names and types
  pub equal_fields : Fields → Fields → Bool
  equal_fields empty = is_empty
  equal_fields (field name t fs) = if_field false (λ other u gs. eqb name other && equal t u && equal_fields fs gs)
