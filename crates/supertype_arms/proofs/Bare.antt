-- Two types without an argument, of numeric kinds: what the definition gives for them in either order, whatever its
-- inner call. Assumes nothing.
use mathlib.Core.Path.{◌≡◌, refl, sym, ◌∙◌, ap, ap₂}
use mathlib.Core.Bool.{Bool, true, false}
use Prim.Native.Nat.{ℕ, ◌≤◌, ◌<◌, min, max}
use native.Mathlib.Omega.{arith}
use native.Mathlib.Decide.{dec_lt}
use borrow.Author.Tests.{ne_eqb, le-ltb}
use Rattle.flat.specs.Kind
use Rattle.flat.specs.Argument.{argument_fits, argument_rule}
use Rattle.flat.proofs.Rules.{in_run}
use Rattle.flat.proofs.Truths.{is_true}
use Rattle.dtype.specs.Predicate.{is_unknown_int}
use Rattle.dtype.proofs.Runs.{says, of_run}
use Rattle.dtype.proofs.Pairs.{nodes_same, left_known}
use Rattle.supertype_answer.specs.Join.{node}
use Rattle.std.specs.Prelude.{Option, Some}
use Rattle.supertype_arms.specs.declared.plan.Plan.{Plan}
use Rattle.supertype_arms.specs.declared.plan.Plan.TheVariants as plan
use Rattle.supertype_arms.specs.Node.{same, fits}
use Rattle.supertype_arms.specs.Supertype.{Call, run, answered, inner, supertype_with}
use Rattle.supertype_arms.specs.Rule.{rule_of, skip, Apart, Settles, IsSupertype}
use Rattle.supertype_arms.proofs.Answers.{settled, either_order, level}

pub apart_below : {a b : ℕ} → a < b → b ≤ Kind.Float64 → Apart a b
unfolding skip
apart_below {a} {b} h l =
    let known = sym (of_run is_unknown_int false Kind.Null 15 (unfold says in tt) a (omega arith)) in
    record {
      in_order = omega arith;
      is_in_range = omega arith;
      two = rw (known, ne_eqb a b (omega arith), le-ltb b a (omega arith));
    }

bare : (a : ℕ) → a ≤ Kind.Float64 → fits (node a 0) ≡ true
bare a h =
    is_true (fits (node a 0))
    (in_run (λ a. fits (node a 0)) Kind.Null 15 (unfold fits argument_fits argument_rule in tt) a (omega arith)
    (omega arith))

distinct : (a b : ℕ) → (a ≡ b → ⊥) → a ≤ Kind.Float64 → same (node a 0) (node b 0) ≡ false
distinct a b n h = left_known a 0 b 0 n (omega arith) (omega arith)

module _ (call : Call) (s : Bool) where
  pub of_one : {a b : ℕ} → a ≡ b → Some (node a 0) ≡ supertype_with call s (node a 0) (node b 0)
  unfolding supertype_with inner
  of_one {a} {b} e = rw (nodes_same a 0 b 0 e refl)

  module _ {a b : ℕ} {p : Option Plan} (below : a < b) (numbers : b ≤ Kind.Float64) (e : p ≡ rule_of s a b) where
    pub up : answered call p (node a 0) (node b 0) ≡ supertype_with call s (node a 0) (node b 0)
    up =
        ap (λ (q : Option Plan). answered call q (node a 0) (node b 0)) e
        ∙ sym (settled call s (node a 0) (node b 0) (apart_below below numbers)
        (distinct a b (omega arith) (omega arith)))

    pub down : answered call p (node a 0) (node b 0) ≡ supertype_with call s (node b 0) (node a 0)
    down =
        up
        ∙ sym (either_order call s (node b 0) (node a 0) (bare b numbers) (bare a (omega arith)) below
        (apart_below below numbers) (level b a (omega arith) (omega arith)) (distinct b a (omega arith) numbers))

-- two kinds, whichever is the lesser, by the plan of the lesser with the greater
pub by_order : {a b k m n : ℕ} → (a ≡ b → ⊥) → a ≤ Kind.Float64 → b ≤ Kind.Float64 → m ≡ min a b → n ≡ max a b
    → Settles m n (Some (plan.Kind k)) → IsSupertype a b k
unfolding run
by_order {a} {b} {k} {m} {n} d f g low high e call s = go (dec_lt a b)
  where
    go : Dec (a < b) → supertype_with call s (node a 0) (node b 0) ≡ Some (node k 0)
    go (yes h) =
        let i : m ≡ a = omega arith in
        let j : n ≡ b = omega arith in
        sym (up call s h g (e s ∙ ap₂ (rule_of s) i j))
    go (no h) =
        let i : m ≡ b = omega arith in
        let j : n ≡ a = omega arith in
        sym (down call s (omega arith) f (e s ∙ ap₂ (rule_of s) i j))
