-- The shape of a type stands at the front of its flat form: the widths of the Arrays there, no more of them than the
-- type is deep. Assumes nothing.
use mathlib.Core.Path.{◌≡◌, refl, sym, ap, ap₂, ◌∙◌}
use mathlib.Core.List.{List, ◌∷◌}
use Prim.Native.Nat.{ℕ, ◌≤◌}
use native.Mathlib.Omega.{arith}
use native.Mathlib.Nat.{le_trans}
use Rattle.flat.specs.Kind
use Rattle.flat.specs.Tree.{DataType, leaf, list, array, struct, depth, kinds_of, args_of}
use Rattle.flat.specs.Reading.{reading, Ruled, IsType}
use Rattle.flat.proofs.Meaning.{Passed}
use Rattle.std.specs.Prelude.{Ok}
use Rattle.dtype_inner.specs.declared.Shape.{Shape}
use Rattle.dtype_inner.specs.Inner.{widths_of, get_shape}
use Rattle.flat.specs.Kind.{between}
use Rattle.dtype_inner.specs.Shape.{shape, shape_found, shape_of, arrays_at, widths_at}
use Rattle.dtype_inner.proofs.Endings.{is_below}
use Rattle.dtype_inner.proofs.Endings.{one_more}

arrays_deep : (t : DataType) → Ruled t → arrays_at (kinds_of t) ≤ depth t
unfolding between kinds_of depth Ruled
arrays_deep (leaf k a) r = rw (is_below Kind.Array Kind.Array k (omega (arith, r.0))) (omega arith)
arrays_deep (list t) r = omega arith
arrays_deep (array w t) r = let h = arrays_deep t r in omega arith
arrays_deep (struct fs) r = omega arith

widths_at_lem : (t : DataType) → Ruled t → widths_at (kinds_of t) (args_of t) ≡ widths_of t
unfolding between kinds_of args_of widths_of Ruled
widths_at_lem (leaf k a) r = rw (is_below Kind.Array Kind.Array k (omega (arith, r.0)))
widths_at_lem (list t) r = refl
widths_at_lem (array w t) r = rw one_more (ap (λ (l : List ℕ). w ∷ l) (widths_at_lem t r))
widths_at_lem (struct fs) r = refl

-- None has no widths, and no other type has none
shape_of_lem : (places : ℕ) (t : DataType) → shape places (widths_of t) ≡ shape_found places (get_shape t)
unfolding widths_of get_shape
shape_of_lem places (leaf k a) = refl
shape_of_lem places (list t) = refl
shape_of_lem places (array w t) = refl
shape_of_lem places (struct fs) = refl

-- no width of a valid type is cut off
module _ {nodes deep : ℕ} {t : DataType} (v : IsType nodes deep t) where
  pub arrays_fit : arrays_at (kinds_of t) ≤ deep
  arrays_fit = le_trans (arrays_deep t v.ruled) v.shallow

  pub shape_at : shape deep (widths_at (kinds_of t) (args_of t)) ≡ shape_found deep (get_shape t)
  shape_at = ap (shape deep) (widths_at_lem t v.ruled) ∙ shape_of_lem deep t

-- two arrays that a check passed
module _ {nodes deep : ℕ} {ks xs : List ℕ} (v : Passed nodes deep ks xs) where
  pub checked_fit : arrays_at ks ≤ deep
  checked_fit = rw v.form.kinds (arrays_fit v.form.is_type)

  pub checked_shape : {r : Shape} → r ≡ shape deep (widths_at ks xs) → Ok r ≡ shape_of deep (reading nodes deep ks xs)
  checked_shape e =
      ap Ok (e ∙ ap (shape deep) (ap₂ widths_at v.form.kinds v.form.args) ∙ shape_at v.form.is_type)
      ∙ ap (shape_of deep) (sym v.reads)
