-- Two types in either order. Assumes nothing.
use mathlib.Core.Path.{◌≡◌, sym, ◌∙◌}
use mathlib.Core.Bool.{Bool, true, false}
use Rattle.std.specs.Prelude.{Some}
use Prim.Native.Nat.{ℕ, ◌≤◌, ◌<◌}
use native.Mathlib.Omega.{arith}
use Rattle.flat.specs.Kind
use Rattle.flat.specs.declared.Node.{Node}
use Rattle.supertype_answer.specs.Join.{node}
use Rattle.supertype_arms.specs.declared.plan.Plan.TheVariants as plan
use Rattle.supertype_arms.specs.Node.{same, fits}
use Rattle.supertype_arms.specs.Supertype.{plan_of, run, answered, inner, supertype_with, known_supertype, supertype}
use Rattle.supertype_arms.specs.Rule.{rule_of, Apart}
use Rattle.supertype_arms.proofs.Areas.{any_string as any-string-plan, dyn_str as dyn-str-plan}
use Rattle.supertype_arms.proofs.Answers.{is_in_range, same_sym, tries, settled, lopsided, either_order, are_apart}

-- two different types
pub record Different (l r : Node) : Type 0 where
  pub fits_left : fits l ≡ true
  pub fits_right : fits r ≡ true
  pub differ : same l r ≡ false

-- what `ordered` requires of two types
abbrev Ready : Node → Node → Type 0
Ready l r = (fits l ≡ true) × (fits r ≡ true) × Apart l.kind r.kind

module _ {l r : Node} (w : Different l r) where
  turned : Different r l
  turned = record { fits_left = w.fits_right; fits_right = w.fits_left; differ = same_sym r l ∙ w.differ }

  pub ready : l.kind ≤ r.kind → Ready l r
  ready h = (w.fits_left, w.fits_right, are_apart l r w.fits_left w.fits_right w.differ h)

pub ready_turned : {l r : Node} → Different l r → r.kind < l.kind → Ready r l
ready_turned w h = ready (turned w) (omega arith)

pub equal : (i s : Bool) (l r : Node) → same l r ≡ true → Some l ≡ supertype i s l r
unfolding supertype supertype_with inner
equal i s l r e = rw e

module _ (i s : Bool) {l r : Node} (w : Different l r) where
  pub in_order : l.kind ≤ r.kind → answered known_supertype (rule_of s l.kind r.kind) l r ≡ supertype i s l r
  unfolding supertype
  in_order h = sym (settled known_supertype s l r (ready w h).2 w.differ)

  pub out_of_order : r.kind < l.kind → lopsided l.kind r.kind ≡ false
      → answered known_supertype (rule_of s r.kind l.kind) r l ≡ supertype i s l r
  unfolding supertype
  out_of_order h n =
      let apart = (ready_turned w h).2 in
      sym (settled known_supertype s r l apart (turned w).differ)
      ∙ sym (either_order known_supertype s l r w.fits_left w.fits_right h apart n w.differ)

  -- the first try answers with a kind
  first_try : (k : ℕ) → plan_of s l.kind r.kind ≡ Some (plan.Kind k) → Some (node k 0) ≡ supertype i s l r
  unfolding supertype run
  first_try k p = sym (tries known_supertype s l r w.differ ∙ rw p)

  pub any_string : l.kind ≡ Kind.UnknownAny → r.kind ≡ Kind.String → Some (node Kind.String 0) ≡ supertype i s l r
  any_string e f = first_try Kind.String (rw (e, f) (any-string-plan s))

  pub dyn_str : Kind.UnknownStr < l.kind → r.kind ≡ Kind.UnknownStr
      → Some (node Kind.UnknownAny 0) ≡ supertype i s l r
  dyn_str h f =
      first_try Kind.UnknownAny
      (rw f (dyn-str-plan s l.kind (omega arith) (omega (arith, is_in_range l w.fits_left))))
