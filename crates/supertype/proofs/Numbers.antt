-- The inner call: an integer type with the smallest type of a dyn int, which have no argument. Assumes nothing.
use mathlib.Core.Path.{◌≡◌, sym}
use mathlib.Core.Bool.{true, false, not, ◌&&◌, and-false}
use Rattle.std.specs.Prelude.{Option, None, Some}
use Prim.Native.Nat.{ℕ, ◌≤◌, ◌<◌}
use native.Mathlib.Omega.{arith}
use native.Mathlib.Decide.{ℕ_discrete}
use lib.Dec.{T, leb, eqb, leb→le}
use lib.IntN.{ℤ}
use borrow.Author.Tests.{eq-eqb, ne_eqb, eqb-false, not-true}
use Rattle.flat.specs.Kind
use Rattle.flat.proofs.Rules.{and_left, and_right}
use Rattle.flat.proofs.Truths.{is_true}
use Rattle.dtype.specs.Predicate.{is_signed_integer, is_unsigned_integer}
use Rattle.dtype.proofs.Runs.{says, of_run}
use Rattle.supertype_numbers.specs.DynInt.{value_of, materialize_dyn_int_pos, materialize_smallest_dyn_int}
use Rattle.flat.specs.declared.Node.{Node}
use Rattle.supertype_answer.specs.Join.{node}
use Rattle.supertype_arms.specs.declared.plan.Plan.TheVariants as plan
use Rattle.supertype_arms.specs.Supertype.{smallest_fitting, dyn_number, Call, run, known_supertype}
use Rattle.supertype_arms.specs.Rule.{IsSupertype}
use Rattle.supertype_arms.proofs.Areas.{right, rule}
use Rattle.supertype_arms.proofs.Bare.{up, down}
use Rattle.supertype_arms.proofs.Recursive.{smallest_of}

-- ---- the smallest fitting type

module _ (dt k a : ℕ) where
  pub of_unsigned : Kind.UInt8 ≤ dt → dt ≤ Kind.UInt128 → k ≡ Kind.UnknownIntPos
      → materialize_dyn_int_pos (value_of k a) ≡ smallest_fitting dt (value_of k a)
  unfolding smallest_fitting value_of
  of_unsigned h l e = rw (e, sym (of_run is_unsigned_integer true Kind.UInt8 5 (unfold says in tt) dt (omega arith)))

  pub of_negative : (k ≡ Kind.UnknownIntPos → ⊥)
      → materialize_smallest_dyn_int (value_of k a) ≡ smallest_fitting dt (value_of k a)
  unfolding smallest_fitting value_of
  of_negative n = rw (ne_eqb k Kind.UnknownIntPos n, and-false)

  pub of_signed : Kind.UInt128 < dt → dt ≤ Kind.Int64
      → materialize_smallest_dyn_int (value_of k a) ≡ smallest_fitting dt (value_of k a)
  unfolding smallest_fitting
  of_signed h l = rw (sym (of_run is_unsigned_integer false Kind.Int8 4 (unfold says in tt) dt (omega arith)))

-- an integer type up to Int64, or Null
pub smallest : (dt : ℕ) (v : ℤ) (k : ℕ) → k ≡ smallest_fitting dt v
    → (k ≡ smallest_fitting dt v) × (k ≤ Kind.Int64) × (k ≡ Kind.Boolean → ⊥)
smallest dt v k e =
    let u = smallest_of (λ k. leb k Kind.Int64 && not (eqb k Kind.Boolean)) tt tt tt dt v in
    let t : T (leb k Kind.Int64 && not (eqb k Kind.Boolean)) = rw e u in
    let no_boolean = not-true (eqb k Kind.Boolean) (is_true _ (and_right (leb k Kind.Int64) _ t)) in
    (e, leb→le k Kind.Int64 (and_left (leb k Kind.Int64) _ t), eqb-false k Kind.Boolean no_boolean)

-- ---- two kinds with no argument

-- no inner call is made
abbrev stop : Call
stop l r = None

pub known_null : (a b : ℕ) → Kind.UInt8 ≤ a → a ≤ Kind.Int64 → b ≡ Kind.Null
    → Some (node a 0) ≡ known_supertype (node a 0) (node b 0)
unfolding run known_supertype
known_null a b l h e =
    let r = rule (λ s a b. Some plan.Right) Kind.Null 1 Kind.Boolean 14 (unfold right in tt) true Kind.Null a
    (omega arith) in
    rw e (down stop true {p = Some plan.Right} (omega arith) (omega arith) r)

pub known_boolean : (k : ℕ) → Kind.UInt8 ≤ k → k ≤ Kind.Int128
    → Some (node k 0) ≡ known_supertype (node Kind.Boolean 0) (node k 0)
unfolding run known_supertype
known_boolean k l h =
    up stop true {p = Some (plan.Kind k)} (omega arith) (omega arith)
    (rule (λ s a b. Some (plan.Kind b)) Kind.Boolean 1 Kind.UInt8 10 (unfold right in tt) true Kind.Boolean k (omega arith))

-- ---- an integer type with a dyn int

module _ (dt k : ℕ) (v : ℤ) (is-smallest : k ≡ smallest_fitting dt v) where
  pub to_int64 : dt ≡ Kind.UInt64 → Kind.Int8 ≤ k → k ≤ Kind.Int64
      → Some (node Kind.Int64 0) ≡ dyn_number known_supertype (node dt 0) v
  unfolding dyn_number
  to_int64 e h l =
      rw (
        ← is-smallest,
        eq-eqb dt Kind.UInt64 e,
        sym (of_run is_signed_integer true Kind.Int8 5 (unfold says in tt) k (omega arith)),
      )

  -- no UInt64, or with no signed type
  not_both : {t : Option Node} → (dt ≡ Kind.UInt64 → k < Kind.Int8) → t ≡ known_supertype (node dt 0) (node k 0)
      → t ≡ dyn_number known_supertype (node dt 0) v
  unfolding dyn_number
  not_both {t} h e = go (ℕ_discrete dt Kind.UInt64)
    where
      go : Dec (dt ≡ Kind.UInt64) → t ≡ dyn_number known_supertype (node dt 0) v
      go (yes f) =
          let low : k < Kind.Int8 = h f in
          rw (
            ← is-smallest,
            sym (of_run is_signed_integer false Kind.Null 7 (unfold says in tt) k (omega arith)),
            and-false,
          )
          e
      go (no n) = rw (← is-smallest, ne_eqb dt Kind.UInt64 n) e

  pub to_numeric : {j : ℕ} → (dt ≡ Kind.UInt64 → k < Kind.Int8) → IsSupertype dt k j
      → Some (node j 0) ≡ dyn_number known_supertype (node dt 0) v
  unfolding known_supertype
  to_numeric h e = not_both h (sym (e stop true))

  -- no type holds v
  pub to_itself : Kind.UInt8 ≤ dt → dt ≤ Kind.Int64 → k ≡ Kind.Null
      → Some (node dt 0) ≡ dyn_number known_supertype (node dt 0) v
  to_itself l h e = not_both (λ f. omega arith) (known_null dt k l h e)
