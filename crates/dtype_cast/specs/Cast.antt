-- `can_cast_to` of dtype.rs: yes, no, or none for no verdict. Assumes nothing: these are definitions.
use Rattle.std.specs.Prelude.{Bool, true, false, cond, ◌&&◌, ◌||◌, [], ◌∷◌, ℕ, eqb}
use Rattle.std.specs.Prelude.{Option, None, Some}
use Rattle.flat.specs.Kind
use Rattle.flat.specs.Tree.{DataType, leaf, list, array, struct, Fields, empty, field, count, head_kind}
use Rattle.dtype.specs.Match.{among, if_list, if_array, if_struct, if_field, is_empty}
use Rattle.dtype.specs.Predicate.{is_primitive_numeric}
use Rattle.dtype.specs.Equality.{equal}

-- the arm of Boolean: whether it casts to and from a type of the kind k
unfoldable pub casts_with_boolean : ℕ → Bool
casts_with_boolean k = is_primitive_numeric k || among (Kind.Decimal ∷ Kind.String ∷ Kind.Binary ∷ []) k

-- What stands before the arms of nested types: equal types, two primitive numeric types, Null, then Boolean on either
-- side.
unfoldable pub before_nested : DataType → DataType → Option Bool → Option Bool
before_nested from to rest =
    cond (equal from to) (Some true)
    (cond (is_primitive_numeric (head_kind from) && is_primitive_numeric (head_kind to)) (Some true)
    (cond (eqb (head_kind from) Kind.Null) (Some true)
    (cond (eqb (head_kind from) Kind.Boolean) (Some (casts_with_boolean (head_kind to)))
    (cond (eqb (head_kind to) Kind.Boolean) (Some (casts_with_boolean (head_kind from)))
    rest))))

-- the first no or no verdict decides
abbrev pub and_then : Option Bool → Option Bool → Option Bool
and_then None rest = None
and_then (Some false) rest = Some false
and_then (Some true) rest = rest

unfoldable mutual
  pub can_cast_to : DataType → DataType → Option Bool
  can_cast_to (leaf k a) to = before_nested (leaf k a) to None
  can_cast_to (list t) to = before_nested (list t) to (if_list None (can_cast_to t) to)
  can_cast_to (array w t) to =
      before_nested (array w t) to
      (if_array None (λ v u. cond (eqb w v) (can_cast_to t u) (Some false)) to)
  can_cast_to (struct fs) to =
      before_nested (struct fs) to
      (if_struct None
      (λ gs. cond (is_empty fs) (Some true) (cond (eqb (count fs) (count gs)) (fields_cast fs gs) (Some false))) to)

  -- fields left to right; names don't count
  pub fields_cast : Fields → Fields → Option Bool
  fields_cast empty gs = Some true
  fields_cast (field name t fs) gs =
      if_field (Some true) (λ other u hs. and_then (can_cast_to t u) (fields_cast fs hs)) gs
