-- What a root tells of its type. Assumes nothing.
use mathlib.Core.Path.{◌≡◌, ap₂}
use Prim.Native.Nat.{ℕ, ◌≤◌, ◌<◌}
use native.Mathlib.Omega.{arith}
use lib.Dec.{leb}
use borrow.Author.Tests.{leb-true}
use Rattle.flat.specs.Kind as kind
use Rattle.flat.specs.Tree.{DataType, leaf, list, array, struct, Fields, head_kind, head_arg}
use Rattle.flat.proofs.Truths.{both_true}
use Rattle.supertype_nested.specs.Laws.{Each, LeavesFit}
use Rattle.supertype_nested.proofs.Beside.{IsNested, is_list, is_array, is_struct}
use Rattle.supertype_step.specs.Decided.{RootOf, Wraps, list_wraps, array_wraps}

-- a leaf's kind
low : (k a : ℕ) → LeavesFit (leaf k a) → k ≤ kind.UnknownIntNeg
unfolding Each
low k a h = leb-true k kind.UnknownIntNeg (both_true (leb k kind.UnknownIntNeg) _ h).0

-- a Struct
pub data IsStruct : DataType → Type 0 where
  fields_of_lem : {fs : Fields} → IsStruct (struct fs)

module _ {k a : ℕ} where
  pub leaf_root : (t : DataType) → RootOf t k a → k < kind.List → t ≡ leaf k a
  unfolding head_kind head_arg
  leaf_root (leaf j b) r h = ap₂ leaf r.kind r.arg
  leaf_root (list t) r h = absurd (omega (arith, r.kind))
  leaf_root (array w t) r h = absurd (omega (arith, r.kind))
  leaf_root (struct fs) r h = absurd (omega (arith, r.kind))

  pub nested_root : (t : DataType) → RootOf t k a → kind.List ≤ k → IsNested t
  unfolding head_kind
  nested_root (leaf j b) r h = absurd (omega (arith, r.kind, low j b r.fits))
  nested_root (list t) r h = is_list
  nested_root (array w t) r h = is_array
  nested_root (struct fs) r h = is_struct

  pub wraps_root : (t : DataType) → RootOf t k a → kind.List ≤ k → k < kind.Struct → Wraps t
  unfolding head_kind
  wraps_root (leaf j b) r h g = absurd (omega (arith, r.kind, low j b r.fits))
  wraps_root (list t) r h g = list_wraps
  wraps_root (array w t) r h g = array_wraps
  wraps_root (struct fs) r h g = absurd (omega (arith, r.kind))

  pub struct_root : (t : DataType) → RootOf t k a → k ≡ kind.Struct → IsStruct t
  unfolding head_kind
  struct_root (leaf j b) r e = absurd (omega (arith, r.kind, low j b r.fits))
  struct_root (list t) r e = absurd (omega (arith, r.kind))
  struct_root (array w t) r e = absurd (omega (arith, r.kind))
  struct_root (struct fs) r e = fields_of_lem
