-- The definition's two layers of calls are the source's recursion: the inner call meets Null, Boolean, integers and
-- floats, for which no arm calls again or asks for a flag. Assumes nothing.
use mathlib.Core.Path.{◌≡◌, refl, ap, ◌∙◌}
use mathlib.Core.Bool.{Bool, true, false, cond, not, ◌&&◌, ◌||◌}
use mathlib.Core.List.{List, [], ◌∷◌}
use Prim.Native.Nat.{ℕ, ◌≤◌, ◌<◌}
use native.Mathlib.Omega.{arith}
use native.Mathlib.Decide.{dec_lt}
use native.Mathlib.Nat.{le_antisymm}
use lib.Dec.{T, leb→le, ltb, ltb→lt}
use lib.IntN.{ℤ, pos, negsuc}
use lib.Signed.{le_z, non_neg, ◌≤ℤ◌}
use borrow.Author.Tests.{le-ltb}
use Rattle.flat.specs.Kind.{Null, UInt8, UInt16, UInt32, UInt64, Int8, Int16, Int32, Int64, Int128, Decimal}
use Rattle.flat.specs.Kind.{UnknownIntNeg}
use Rattle.flat.proofs.Rules.{in_area, and_left, and_right, or_right}
use Rattle.flat.proofs.Truths.{is_true, to_T}
use Rattle.dtype.specs.Predicate.{is_unknown_int, is_unsigned_integer}
use Rattle.supertype_numbers.specs.Integer.{holds, first_that_holds}
use Rattle.dtype.specs.Equality.{equal_node}
use Rattle.supertype_numbers.specs.DynInt.{materialize_dyn_int, materialize_dyn_int_pos, materialize_smallest_dyn_int}
use Rattle.flat.specs.declared.Node.{Node}
use Rattle.supertype_answer.specs.Join.{node}
use Rattle.std.specs.Prelude.{Option, None, Some}
use Rattle.supertype_arms.specs.declared.plan.Plan.{Plan}
use Rattle.supertype_arms.specs.declared.plan.Plan.TheVariants.{Left, Right, Kind, Decimals, DecimalInteger}
use Rattle.supertype_arms.specs.declared.plan.Plan.TheVariants.{DatetimeDuration, Datetimes, Durations}
use Rattle.supertype_arms.specs.declared.plan.Plan.TheVariants.{DynNumber, DynBoolean, DynDecimal}
use Rattle.supertype_arms.specs.Node.{value, same, fits}
use Rattle.supertype_arms.specs.Supertype.{plan_of, max_dyn, smallest_fitting, dyn_number, Call, run, answered}
use Rattle.std.specs.Option.{option_or}
use Rattle.supertype_arms.specs.Supertype.{inner, supertype_with, known_supertype, supertype}
use Rattle.supertype_arms.specs.Laws.{SupertypeLaws}
use Rattle.supertype_arms.proofs.Areas.{alike, alike_eq, right_at}
use Rattle.supertype_arms.proofs.Answers.{is_in_range, of_flag}
use Rattle.supertype_arms.proofs.Decimals.{decimal_integer}

-- ---- which plans call

-- a plan that makes no inner call
abbrev pub quiet : Option Plan → Bool
quiet None = true
quiet (Some Left) = true
quiet (Some Right) = true
quiet (Some (Kind k)) = true
quiet (Some Decimals) = true
quiet (Some DecimalInteger) = true
quiet (Some DatetimeDuration) = true
quiet (Some Datetimes) = true
quiet (Some Durations) = true
quiet (Some DynNumber) = false
quiet (Some DynBoolean) = false
quiet (Some DynDecimal) = true

module _ (f g : Call) (l r : Node) where
  pub quiet_run : (p : Option Plan) → T (quiet p) → answered f p l r ≡ answered g p l r
  unfolding run
  quiet_run None t = refl
  quiet_run (Some Left) t = refl
  quiet_run (Some Right) t = refl
  quiet_run (Some (Kind k)) t = refl
  quiet_run (Some Decimals) t = refl
  quiet_run (Some DecimalInteger) t = refl
  quiet_run (Some DatetimeDuration) t = refl
  quiet_run (Some Datetimes) t = refl
  quiet_run (Some Durations) t = refl
  quiet_run (Some DynNumber) t = absurd t
  quiet_run (Some DynBoolean) t = absurd t
  quiet_run (Some DynDecimal) t = refl

-- nor does the arm of a number with a dyn int, where the left type is a dyn int too
pub dyn_run : (f g : Call) (l r : Node) → is_unknown_int l.kind ≡ true → (p : Option Plan) → T (quiet p || alike p (Some DynNumber))
    → answered f p l r ≡ answered g p l r
unfolding run
dyn_run f g l r e p t = go (quiet p) refl t
  where
    maxima : answered f (Some DynNumber) l r ≡ answered g (Some DynNumber) l r
    maxima = rw e

    go : (b : Bool) → quiet p ≡ b → T (b || alike p (Some DynNumber)) → answered f p l r ≡ answered g p l r
    go true q u = quiet_run f g l r p (to_T q)
    go false q u = rw (alike_eq p (Some DynNumber) u) maxima

-- two kinds below Decimal's: their plan makes no inner call, and is the same for both flags
unfoldable settled_early : ℕ → ℕ → Bool
unfolding right_at
settled_early a b = quiet (plan_of true a b) && alike (plan_of true a b) (plan_of false a b)

below_decimal : (a b : ℕ) → a < Decimal → b < Decimal → T (settled_early a b)
below_decimal a b p q = in_area settled_early 0 Decimal 0 Decimal (unfold settled_early in tt) a b (omega arith)

either_flag : (s : Bool) (a b : ℕ) → a < Decimal → b < Decimal → plan_of true a b ≡ plan_of s a b
unfolding settled_early
either_flag true a b p q = refl
either_flag false a b p q =
    alike_eq (plan_of true a b) (plan_of false a b) (and_right (quiet (plan_of true a b)) _ (below_decimal a b p q))

module _ (f g : Call) (s : Bool) where
  quiet_inner : (l r : Node) → l.kind < Decimal → r.kind < Decimal → inner f true l r ≡ inner g s l r
  unfolding inner settled_early
  quiet_inner l r p q =
      ap (cond (same l r) (Some l))
      (quiet_run f g l r (plan_of true l.kind r.kind)
      (and_left (quiet (plan_of true l.kind r.kind)) _ (below_decimal l.kind r.kind p q))
      ∙ ap (λ (plan : Option Plan). answered g plan l r) (either_flag s l.kind r.kind p q))

  quiet_with : (l r : Node) → l.kind < Decimal → r.kind < Decimal → supertype_with f true l r ≡ supertype_with g s l r
  unfolding supertype_with
  quiet_with l r p q = λ i. option_or (quiet_inner l r p q i) (quiet_inner r l q p i)

-- so the inner call answers as the function does with any flag, over any inner call
pub known_with : (call : Call) (s : Bool) (l r : Node) → l.kind < Decimal → r.kind < Decimal
    → known_supertype l r ≡ supertype_with call s l r
unfolding known_supertype
known_with call s l r p q = quiet_with (λ l r. None) call s l r p q

-- what holds of some types holds of the first of them that holds v
abbrev all : (ℕ → Bool) → List ℕ → Bool
all p [] = true
all p (k ∷ ks) = p k && all p ks

first_of : (p : ℕ → Bool) (ks : List ℕ) (other : ℕ) → T (all p ks) → T (p other) → (v : ℤ)
    → T (p (first_that_holds ks other v))
first_of p [] other t o v = o
first_of p (k ∷ ks) other t o v = go (holds k v) (first_of p ks other (and_right (p k) (all p ks) t) o v)
  where
    go : (b : Bool) → T (p (first_that_holds ks other v)) → T (p (cond b k (first_that_holds ks other v)))
    go true f = and_left (p k) (all p ks) t
    go false f = f

pub dyn_int_of : (p : ℕ → Bool) → T (all p (Int32 ∷ Int64 ∷ UInt64 ∷ [])) → T (p Int128) → (v : ℤ)
    → T (p (materialize_dyn_int v))
unfolding materialize_dyn_int
dyn_int_of p t o v = first_of p (Int32 ∷ Int64 ∷ UInt64 ∷ []) Int128 t o v

pub smallest_of : (p : ℕ → Bool) → T (all p (UInt8 ∷ UInt16 ∷ UInt32 ∷ UInt64 ∷ []))
    → T (all p (Int8 ∷ Int16 ∷ Int32 ∷ Int64 ∷ UInt64 ∷ [])) → T (p Null) → (dt : ℕ) (v : ℤ)
    → T (p (smallest_fitting dt v))
unfolding smallest_fitting materialize_dyn_int_pos materialize_smallest_dyn_int
smallest_of p t u o dt v = go (is_unsigned_integer dt && non_neg v)
  where
    go : (b : Bool) → T (p (cond b (materialize_dyn_int_pos v) (materialize_smallest_dyn_int v)))
    go true = first_of p (UInt8 ∷ UInt16 ∷ UInt32 ∷ UInt64 ∷ []) Null t o v
    go false = first_of p (Int8 ∷ Int16 ∷ Int32 ∷ Int64 ∷ UInt64 ∷ []) Null u o v

-- the types that an inner call meets on the right
dyn_below : (v : ℤ) → materialize_dyn_int v < Decimal
dyn_below v = ltb→lt _ Decimal (dyn_int_of (λ k. ltb k Decimal) tt tt v)

smallest_below : (dt : ℕ) (v : ℤ) → smallest_fitting dt v < Decimal
smallest_below dt v = ltb→lt _ Decimal (smallest_of (λ k. ltb k Decimal) tt tt tt dt v)

-- where a plan may be run: it makes no inner call, or makes it with a left kind below Decimal's, or the left type is a
-- dyn int and both are
unfoldable calls : Bool → ℕ → ℕ → Bool
unfolding right_at
calls s a b = quiet (plan_of s a b) || (ltb a Decimal || (is_unknown_int a && alike (plan_of s a b) (Some DynNumber)))

calls_hold : (s : Bool) (a b : ℕ) → a ≤ UnknownIntNeg → b ≤ UnknownIntNeg → T (calls s a b)
calls_hold s a b h g =
    of_flag (λ s. calls s a b)
    (in_area (λ a b. calls true a b && calls false a b) 0 28 0 28 (unfold calls in tt) a b (omega arith)) s

-- two calls that answer alike where dyn arms call them
module _ (f g : Call) (l r : Node) (agree : (k : ℕ) → k < Decimal → f l (node k 0) ≡ g l (node k 0)) where
  pub runs_same : (p : Option Plan) → answered f p l r ≡ answered g p l r
  unfolding run dyn_number
  runs_same None = refl
  runs_same (Some Left) = refl
  runs_same (Some Right) = refl
  runs_same (Some (Kind k)) = refl
  runs_same (Some Decimals) = refl
  runs_same (Some DecimalInteger) = refl
  runs_same (Some DatetimeDuration) = refl
  runs_same (Some Datetimes) = refl
  runs_same (Some Durations) = refl
  runs_same (Some DynNumber) = rw (agree (smallest_fitting l.kind (value r)) (smallest_below l.kind (value r)))
  runs_same (Some DynBoolean) = agree (materialize_dyn_int (value r)) (dyn_below (value r))
  runs_same (Some DynDecimal) = refl

-- of a call that answers as the inner one does where dyn arms call it
module _ (call : Call)
    (agree : (l r : Node) → l.kind < Decimal → r.kind < Decimal → known_supertype l r ≡ call l r) where
  runs_alike : (s : Bool) (l r : Node) → l.kind ≤ UnknownIntNeg → r.kind ≤ UnknownIntNeg
      → answered known_supertype (plan_of s l.kind r.kind) l r ≡ answered call (plan_of s l.kind r.kind) l r
  unfolding calls
  runs_alike s l r p q = go (dec_lt l.kind Decimal) (quiet plan) refl (calls_hold s l.kind r.kind p q)
    where
      plan : Option Plan
      plan = plan_of s l.kind r.kind

      go : Dec (l.kind < Decimal) → (b : Bool) → quiet plan ≡ b
          → T (b || (ltb l.kind Decimal || (is_unknown_int l.kind && alike plan (Some DynNumber))))
          → answered known_supertype plan l r ≡ answered call plan l r
      go (yes h) b e t = runs_same known_supertype call l r (λ k m. agree l (node k 0) h m) plan
      go (no h) true e t = quiet_run known_supertype call l r plan (to_T e)
      go (no h) false e t =
          let u : T (is_unknown_int l.kind && alike plan (Some DynNumber)) = or_right
          (is_unknown_int l.kind && alike plan (Some DynNumber)) (le-ltb l.kind Decimal (omega arith)) t in
          dyn_run known_supertype call l r
          (is_true (is_unknown_int l.kind) (and_left (is_unknown_int l.kind) (alike plan (Some DynNumber)) u)) plan
          (rw e (and_right (is_unknown_int l.kind) (alike plan (Some DynNumber)) u))

  inner_alike : (s : Bool) (l r : Node) → l.kind ≤ UnknownIntNeg → r.kind ≤ UnknownIntNeg
      → inner known_supertype s l r ≡ inner call s l r
  unfolding inner
  inner_alike s l r p q = ap (cond (same l r) (Some l)) (runs_alike s l r p q)

  pub over_call : (i s : Bool) (l r : Node) → l.kind ≤ UnknownIntNeg → r.kind ≤ UnknownIntNeg
      → supertype i s l r ≡ supertype_with call s l r
  unfolding supertype supertype_with
  over_call i s l r p q = λ j. option_or (inner_alike s l r p q j) (inner_alike s r l q p j)

implode : (i j s : Bool) (l r : Node) → supertype i s l r ≡ supertype j s l r
unfolding supertype
implode i j s l r = refl

recursive : (i s j t : Bool) (l r : Node) → fits l ≡ true → fits r ≡ true
    → supertype i s l r ≡ supertype_with (supertype j t) s l r
unfolding supertype
recursive i s j t l r p q =
    over_call (supertype j t) (λ l r. known_with known_supertype t l r) i s l r (is_in_range l p) (is_in_range r q)

dyn_ints : (i s : Bool) (l r : Node) → is_unknown_int l.kind ≡ true → is_unknown_int r.kind ≡ true
    → supertype i s l r ≡ Some l
unfolding supertype supertype_with inner equal_node
dyn_ints i s l r p q = rw (p, q)

-- the two tests of an order agree on one number alone
antisym : (v w : ℤ) → T (le_z v w) → T (le_z w v) → v ≡ w
antisym (pos m) (pos n) t u = ap pos (le_antisymm (leb→le m n t) (leb→le n m u))
antisym (pos m) (negsuc n) t u = absurd t
antisym (negsuc m) (pos n) t u = absurd u
antisym (negsuc m) (negsuc n) t u = ap negsuc (le_antisymm (leb→le m n u) (leb→le n m t))

maximum : (v w : ℤ) → v ≤ℤ w → (max_dyn v w ≡ w) × (max_dyn w v ≡ w)
maximum v w h = (rw (max_dyn, is_true (le_z v w) h.le), go (le_z w v) refl)
  where
    go : (b : Bool) → le_z w v ≡ b → elim b [ true ↦ v | false ↦ w ] ≡ w
    go true e = antisym v w h.le (to_T e)
    go false e = refl

-- two kinds of which the left is a dyn int reach the arm of the dyn ints only where the right is one too
unfoldable both_dyn : Bool → ℕ → ℕ → Bool
unfolding right_at
both_dyn s a b = not (alike (plan_of s a b) (Some DynNumber) && is_unknown_int a) || is_unknown_int b

no_maximum : (s : Bool) (l r : Node) → fits l ≡ true → fits r ≡ true → plan_of s l.kind r.kind ≡ Some DynNumber
    → is_unknown_int l.kind ≡ true → same l r ≡ true
unfolding equal_node both_dyn
no_maximum s l r p q e d =
    let t : T (both_dyn s l.kind r.kind) = of_flag (λ s. both_dyn s l.kind r.kind)
    (in_area (λ a b. both_dyn true a b && both_dyn false a b) 0 28 0 28 (unfold both_dyn in tt) l.kind r.kind
    (omega (arith, is_in_range l p, is_in_range r q))) s in
    rw (d, is_true (is_unknown_int r.kind) (rw (e, d) at t))

pub supertype_laws : SupertypeLaws
supertype_laws =
    record {
      implode = implode;
      recursive = recursive;
      dyn_ints = dyn_ints;
      maximum = maximum;
      no_maximum = no_maximum;
      decimal_integer = decimal_integer;
    }
