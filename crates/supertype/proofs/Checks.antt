-- What the checks of two kinds say, and what a call comes to after them. Assumes nothing.
use mathlib.Core.Path.{◌≡◌, refl, sym, ◌∙◌, ap, ap₂}
use mathlib.Core.Bool.{Bool, true, false, cond, ◌&&◌, ◌||◌}
use Rattle.std.specs.Prelude.{Option, Some, Result, Ok, Err}
use Prim.Native.Nat.{ℕ, ◌≤◌}
use native.Mathlib.Omega.{arith}
use native.Mathlib.Decide.{dec_le}
use lib.Dec.{leb}
use borrow.Author.Tests.{le-leb}
use Rattle.flat.specs.Kind
use Rattle.flat.specs.Argument.{argument_fits}
use Rattle.flat.specs.Tree.{head_kind}
use Rattle.flat.specs.Reading.{Reading, refused, root_of, RootFits}
use Rattle.flat.specs.declared.error.Error.{Error}
use Rattle.flat.specs.declared.error.Error.TheVariants.{Nested}
use Rattle.flat.specs.declared.Node.{Node}
use Rattle.flat.proofs.Truths.{impossible, never}
use Rattle.dtype.specs.Predicate.{is_nested}
use Rattle.dtype.proofs.Runs.{says, of_run}
use Rattle.supertype_answer.specs.Join.{root_node, found_of, joining, joining_roots}
use Rattle.supertype_answer.proofs.Joins.{joining_roots_lem}
use Rattle.supertype_arms.specs.Node.{fits}
use Rattle.supertype_arms.specs.Supertype.{supertype}
use Rattle.supertype_arms.proofs.Recursive.{supertype_laws}
use Rattle.supertype.specs.Pair.{pair_checked, after_check, root_supertype, supertype_of}

-- ---- two kinds

abbrev pub passed : Result (Unit {0}) Error
passed = Ok tt

-- a pair that passes is not nested
none_nested : (k l : ℕ) → passed ≡ pair_checked k l → (is_nested k ≡ false) × (is_nested l ≡ false)
unfolding pair_checked
none_nested k l = go (is_nested k) (is_nested l)
  where
    go : (a b : Bool) → passed ≡ cond (a || b) (Err Nested) passed → (a ≡ false) × (b ≡ false)
    go true b e = impossible cc
    go false true e = impossible cc
    go false false e = (refl, refl)

-- ---- two roots

-- a root that is not nested is a type of its own
root_fits : (n : Node) → RootFits (Ok n) → is_nested n.kind ≡ false → fits n ≡ true
unfolding fits
root_fits n h e = go (dec_le n.kind Kind.UnknownIntNeg)
  where
    go : Dec (n.kind ≤ Kind.UnknownIntNeg)
        → (leb n.kind Kind.UnknownIntNeg && argument_fits n.kind n.arg) ≡ true
    go (yes l) = rw (le-leb n.kind Kind.UnknownIntNeg l) h.1
    go (no m) = never (sym (of_run is_nested true Kind.List 3 (unfold says in tt) n.kind (omega (arith, h.0)) ∙ e))

module _ (l r : Node) where
  pub both_fit : RootFits (Ok l) × RootFits (Ok r) → passed ≡ pair_checked l.kind r.kind
      → (fits l ≡ true) × (fits r ≡ true)
  both_fit h p =
      let n = none_nested l.kind r.kind p in
      (root_fits l h.0 n.0, root_fits r h.1 n.1)

  module _ (s : Bool) where
    pub pair_refused : (e : Error) → Err e ≡ pair_checked l.kind r.kind
        → Some (refused e) ≡ root_supertype false s l r
    unfolding root_supertype
    pair_refused e p = rw (← p)

    pub pair_joined : {found : Option Node} → passed ≡ pair_checked l.kind r.kind → found ≡ supertype false s l r
        → found_of found ≡ root_supertype false s l r
    unfolding root_supertype
    pair_joined p e = rw (← p) (ap found_of e)

-- what is found of the roots of two readings; the implode flag has no part in it
pub joined : (i s : Bool) (left right : Reading) {found : Option Reading} {l r : Result Node Error} → l ≡ root_of left
    → r ≡ root_of right → found ≡ joining_roots (root_supertype false s) l r → found ≡ joining (supertype_of i s) left right
unfolding supertype_of root_supertype
joined i s left right p q e =
    e ∙ ap₂ (joining_roots (root_supertype false s)) p q ∙ sym (joining_roots_lem (root_supertype false s) left right)
    ∙ (λ j. joining
    (λ t u. after_check (pair_checked (head_kind t) (head_kind u))
    (found_of (supertype_laws.implode false i s (root_node t) (root_node u) j))) left right)
