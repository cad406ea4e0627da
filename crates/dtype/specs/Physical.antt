-- `to_physical` of dtype.rs and of field.rs. Assumes nothing: these are definitions.
use Rattle.std.specs.Prelude.{cond, [], ◌∷◌, ℕ, eqb}
use Rattle.flat.specs.Kind
use Rattle.flat.specs.Tree.{DataType, leaf, list, array, struct, Fields, empty, field, head_kind}
use Rattle.dtype.specs.Match.{among}

-- the physical form of a type that is not nested
unfoldable pub physical_leaf : ℕ → ℕ → DataType
physical_leaf k a =
    cond (eqb k Kind.Date) (leaf Kind.Int32 0)
    (cond (among (Kind.Datetime ∷ Kind.Duration ∷ Kind.Time ∷ []) k) (leaf Kind.Int64 0)
    (cond (eqb k Kind.Decimal) (leaf Kind.Int128 0)
    (leaf k a)))

-- its kind, in which the argument has no part
unfoldable pub physical_kind : ℕ → ℕ
physical_kind k = head_kind (physical_leaf k 0)

-- the physical form of a type: that of every type in it that is not nested
unfoldable mutual
  pub to_physical : DataType → DataType
  to_physical (leaf k a) = physical_leaf k a
  to_physical (array w t) = array w (to_physical t)
  to_physical (list t) = list (to_physical t)
  to_physical (struct fs) = struct (physical_fields fs)

  pub physical_fields : Fields → Fields
  physical_fields empty = empty
  physical_fields (field name t fs) = field name (to_physical t) (physical_fields fs)
