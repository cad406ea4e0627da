-- What becomes of unknown types: `UnknownKind::materialize` and `materialize_unknown` of dtype.rs. Assumes nothing:
-- these are definitions.
use Rattle.std.specs.Prelude.{Bool, true, false, cond, ℕ, eqb}
use Rattle.std.specs.Prelude.{Option, None, Some}
use Rattle.std.specs.Prelude.{option_map, option_and_then}
use Rattle.flat.specs.Kind
use Rattle.flat.specs.Tree.{DataType, leaf, list, array, struct, Fields, empty, field}
use Rattle.dtype.specs.Predicate.{is_unknown, is_unknown_int}
use Rattle.supertype_numbers.specs.DynInt.{value_of, materialize_dyn_int}

-- `UnknownKind::materialize`, of the unknown kinds: any has no such type
unfoldable pub materialize : ℕ → ℕ → Option DataType
materialize k a =
    cond (is_unknown_int k) (Some (leaf (materialize_dyn_int (value_of k a)) 0))
    (cond (eqb k Kind.UnknownFloat) (Some (leaf Kind.Float64 0))
    (cond (eqb k Kind.UnknownStr) (Some (leaf Kind.String 0))
    None))

-- the known type; where there is none, t itself if unknown types are allowed
abbrev pub or_kept : Bool → DataType → Option DataType → Option DataType
or_kept allow t (Some known) = Some known
or_kept true t None = Some t
or_kept false t None = None

-- materialize_unknown: none where the source gives an error
unfoldable mutual
  pub materialize_unknown : Bool → DataType → Option DataType
  materialize_unknown allow (leaf k a) =
      cond (is_unknown k) (or_kept allow (leaf k a) (materialize k a)) (Some (leaf k a))
  materialize_unknown allow (list t) = option_map list (materialize_unknown allow t)
  materialize_unknown allow (array w t) = option_map (array w) (materialize_unknown allow t)
  materialize_unknown allow (struct fs) = option_map struct (materialize_fields allow fs)

  -- field after field: the first error is the whole call's
  pub materialize_fields : Bool → Fields → Option Fields
  materialize_fields allow empty = Some empty
  materialize_fields allow (field name t fs) =
      option_and_then (λ u. option_map (field name u) (materialize_fields allow fs)) (materialize_unknown allow t)
