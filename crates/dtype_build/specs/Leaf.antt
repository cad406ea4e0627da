-- The types that are built anew differ from the old in their leaves alone: `map_leaves` of dtype.rs, and the rule of
-- each form, which for the physical one is `physical_leaf` and else `materialized_leaf` (proofs/Leaves.antt).
-- Assumes nothing: these are definitions.
use Rattle.std.specs.Prelude.{◌≡◌, Bool, cond, List, ℕ, ◌≤◌, eqb, length}
use Rattle.std.specs.List.{list_any}
use Rattle.flat.specs.Kind
use Rattle.flat.specs.Tree.{DataType, leaf, list, array, struct, Fields, empty, field, head_kind}
use Rattle.flat.specs.Tree.{kinds_of, kinds_ofs, args_of, args_ofs}
use Rattle.flat.specs.Walk.{with_default}
use Rattle.flat.specs.Output.{over}
use Rattle.dtype_build.specs.Materialize.{materialize}
use Rattle.dtype.specs.Physical.{physical_kind}

-- a leaf with its type known, where there is such a type; any stays
unfoldable pub materialized_leaf : ℕ → ℕ → DataType
materialized_leaf k a = with_default (leaf k a) (materialize k a)

-- the kind of a leaf in its physical form, and once its type is known
abbrev pub physical_in : ℕ → ℕ → ℕ
physical_in k a = physical_kind k

abbrev pub materialized_in : ℕ → ℕ → ℕ
materialized_in k a = head_kind (materialized_leaf k a)

-- map_leaves: the rule at every leaf, and all else as it is
unfoldable mutual
  pub map_leaves : (ℕ → ℕ → DataType) → DataType → DataType
  map_leaves rule (leaf k a) = rule k a
  map_leaves rule (list t) = list (map_leaves rule t)
  map_leaves rule (array w t) = array w (map_leaves rule t)
  map_leaves rule (struct fs) = struct (map_fields rule fs)

  pub map_fields : (ℕ → ℕ → DataType) → Fields → Fields
  map_fields rule empty = empty
  map_fields rule (field name t fs) = field name (map_leaves rule t) (map_fields rule fs)

-- the argument of a leaf of the kind k and the argument a that becomes one of the kind new
unfoldable pub kept_arg : ℕ → ℕ → ℕ → ℕ
kept_arg k new a = cond (eqb new k) a 0

-- the rule of a form that is told by the kind that each leaf has in it
abbrev pub leaf_with : (ℕ → ℕ → ℕ) → ℕ → ℕ → DataType
leaf_with kind_in k a = leaf (kind_in k a) (kept_arg k (kind_in k a) a)

-- any stands among the kinds
abbrev pub has_any : List ℕ → Bool
has_any = list_any (λ k. eqb k Kind.UnknownAny)

-- n nodes have room in both arrays
pub record HasRoom (n : ℕ) (K A : List ℕ) : Type 0 where
  pub kinds : n ≤ length K
  pub args : n ≤ length A

-- What a walk leaves that builds nodes of the kinds ks and the arguments xs: their number, and the two lent arrays, K
-- and A before it and K' and A' after it.
pub record Built (ks xs K A K' A' : List ℕ) (r : ℕ) : Type 0 where
  pub nodes : r ≡ length ks
  pub kinds : K' ≡ over ks K
  pub args : A' ≡ over xs A

-- what a walk leaves that builds a type
abbrev pub BuiltType : DataType → (K A K' A' : List ℕ) → ℕ → Type 0
BuiltType t = Built (kinds_of t) (args_of t)

-- what a walk leaves that builds fields
abbrev pub BuiltFields : Fields → (K A K' A' : List ℕ) → ℕ → Type 0
BuiltFields fs = Built (kinds_ofs fs) (args_ofs fs)
