-- The answer by its plan, for two types in the order of their kinds. Assumes nothing.
use mathlib.Core.Path.{◌≡◌, refl, sym, ◌∙◌, ap}
use mathlib.Core.Bool.{Bool, true, false, not, ◌&&◌, ◌||◌}
use Rattle.std.specs.Prelude.{Option, None, Some}
use Prim.Native.Nat.{ℕ, ◌+◌, ◌*◌, ◌/◌, ◌%◌, ◌≤◌, ◌<◌, max}
use native.Mathlib.Nat.{max_comm}
use native.Mathlib.Omega.{arith}
use lib.Dec.{T, leb, eqb, leb→le, eqb→eq}
use borrow.Author.Tests.{eq-eqb, ne_eqb, ltb-true}
use Rattle.flat.specs.Kind
use Rattle.flat.specs.Argument.{time_units, dec128_max_prec, argument_fits, argument_rule}
use Rattle.flat.proofs.Rules.{in_run, and_left, and_right, or_right}
use Rattle.flat.proofs.Truths.{is_true, both_true}
use Rattle.dtype.specs.Match.{among}
use Rattle.dtype.specs.Predicate.{is_unknown_int}
use Rattle.dtype.specs.TimeUnit.{unit_number, unit_of}
use Rattle.dtype.specs.TimeUnits.{get_time_units}
use Rattle.dtype.proofs.Coarser.{coarser}
use Rattle.dtype.proofs.Runs.{says, of_run}
use Rattle.supertype_numbers.specs.DynInt.{materialize_dyn_int}
use Rattle.supertype_numbers.specs.Range.{Listed, is_listed}
use Rattle.supertype_numbers.proofs.Tests.{to_listed}
use Rattle.flat.specs.declared.Node.{Node}
use Rattle.supertype_answer.specs.Join.{node}
use Rattle.supertype_arms.specs.declared.plan.Plan.{Plan}
use Rattle.supertype_arms.specs.declared.plan.Plan.TheVariants as plan
use Rattle.supertype_arms.specs.Node.{precision, scale, decimal, unit_in, unit, zone, value, plain, fits}
use Rattle.supertype_arms.specs.Supertype.{beside_integer, dyn_number, run, answered, known_supertype}
use Rattle.supertype_arms.specs.Rule.{rule_of, Apart}
use Rattle.supertype_arms.proofs.Areas.{code_of, alike}
use Rattle.supertype_arms.proofs.Answers.{plain_zero, same_node, zones, everywhere, at_apart}
use Rattle.supertype_arms.proofs.Recursive.{dyn_int_of}
use Rattle.supertype.proofs.Numbers.{known_boolean}

-- p is the plan of two different types in the order of their kinds
pub record Planned (s : Bool) (l r : Node) (p : Option Plan) : Type 0 where
  pub fits_left : fits l ≡ true
  pub fits_right : fits r ≡ true
  pub apart : Apart l.kind r.kind
  pub is : p ≡ rule_of s l.kind r.kind

-- ---- units

number_of : (n : ℕ) → n < time_units → unit_number (unit_in (unit_of n)) ≡ n
unfolding unit_of
number_of n h =
    eqb→eq _ n (in_run (λ n. eqb (unit_number (unit_in (unit_of n))) n) 0 time_units tt n (omega arith) (omega arith))

-- the coarser unit has the larger number
larger_unit : (l r : Node) → l.arg % 4 < time_units → r.arg % 4 < time_units
    → unit_number (get_time_units (unit l) (unit r)) ≡ max (l.arg % 4) (r.arg % 4)
larger_unit l r h g =
    coarser (unit l) (unit r) ∙ (λ i. max (number_of (l.arg % 4) h i) (number_of (r.arg % 4) g i))

module _ (n : Node) (f : fits n ≡ true) where
  unit_of_datetime : n.kind ≡ Kind.Datetime → n.arg % 4 < time_units
  unfolding fits argument_fits argument_rule
  unit_of_datetime e = ltb-true (n.arg % 4) time_units (both_true _ _ (rw e at f)).0

  unit_of_duration : n.kind ≡ Kind.Duration → n.arg < time_units
  unfolding fits argument_fits argument_rule
  unit_of_duration e = ltb-true n.arg time_units (rw e at f)

-- ---- the kinds that a plan belongs to

abbrev among_kinds : Option Plan → (ℕ → ℕ → Bool) → Bool → ℕ → ℕ → Bool
among_kinds p q s a b = not (alike (rule_of s a b) p) || q a b

only : {s : Bool} {l r : Node} {p : Option Plan} → Planned s l r p → (q : ℕ → ℕ → Bool) → T (everywhere (among_kinds p q))
    → T (q l.kind r.kind)
only {s} {l} {r} {p} w q t =
    let same_plan : alike (rule_of s l.kind r.kind) p ≡ true = rw (← w.is) (eq-eqb (code_of p) (code_of p) refl) in
    or_right (q l.kind r.kind) (ap not same_plan) (at_apart (among_kinds p q) t s l.kind r.kind w.apart)

-- both kinds, where the plan is that of one pair
pair : {s : Bool} {l r : Node} {p : Option Plan} → Planned s l r p → (a b : ℕ)
    → T (everywhere (among_kinds p (λ i j. eqb i a && eqb j b)))
    → (l.kind ≡ a) × (r.kind ≡ b)
pair {s} {l} {r} w a b t =
    let u = only w (λ i j. eqb i a && eqb j b) t in
    (eqb→eq l.kind a (and_left (eqb l.kind a) _ u), eqb→eq r.kind b (and_right (eqb l.kind a) _ u))

-- ---- the answer

-- a type without an argument
bare : (n : Node) → fits n ≡ true → n.kind ≤ Kind.Float64 → node n.kind 0 ≡ n
bare n f h =
    let t = in_run plain Kind.Null 15 (unfold plain among in tt) n.kind (omega arith) (omega arith) in
    same_node n (plain_zero n f (is_true (plain n.kind) t))

-- what the definition gives for two types in order
abbrev given : Bool → Node → Node → Option Node
given s l r = answered known_supertype (rule_of s l.kind r.kind) l r

module _ {s : Bool} {l r : Node} where
  by_plan : {p : Option Plan} (t : Option Node) → Planned s l r p → t ≡ answered known_supertype p l r → t ≡ given s l r
  by_plan t w h = h ∙ ap (λ (x : Option Plan). answered known_supertype x l r) w.is

  pub left : Planned s l r (Some plan.Left) → Some l ≡ given s l r
  unfolding run
  left w = by_plan (Some l) w refl

  pub right : Planned s l r (Some plan.Right) → Some r ≡ given s l r
  unfolding run
  right w = by_plan (Some r) w refl

  pub kind : {k : ℕ} {n : Node} → Planned s l r (Some (plan.Kind k)) → n ≡ node k 0 → Some n ≡ given s l r
  unfolding run
  kind {k} {n} w h = by_plan (Some n) w (ap Some h)

  pub decimals : {n : Node} → Planned s l r (Some plan.Decimals)
      → n ≡ decimal (max (precision l) (precision r)) (max (scale l) (scale r)) → Some n ≡ given s l r
  unfolding run
  decimals {n} w h = by_plan (Some n) w (ap Some h)

  pub decimal_kinds : Planned s l r (Some plan.DecimalInteger) → (r.kind ≡ Kind.Decimal) × (fits r ≡ true) × Listed l.kind
  decimal_kinds w =
      let u = only w (λ a b. is_listed a && eqb b Kind.Decimal) (unfold everywhere is_listed in tt) in
      let e = eqb→eq r.kind Kind.Decimal (and_right (is_listed l.kind) _ u) in
      (e, w.fits_right, to_listed l.kind (and_left (is_listed l.kind) _ u))

  pub decimal_integer : {n : Node} → Planned s l r (Some plan.DecimalInteger) → n ≡ beside_integer r l.kind
      → Some n ≡ given s l r
  unfolding run
  decimal_integer {n} w h =
      let k = (decimal_kinds w).2 in
      by_plan (Some n) w (rw (ne_eqb l.kind Kind.Decimal (omega arith)) (ap Some h))

  pub dyn_decimal : {n : Node} → Planned s l r (Some plan.DynDecimal) → n ≡ decimal dec128_max_prec (scale l)
      → Some n ≡ given s l r
  unfolding run
  dyn_decimal {n} w h = by_plan (Some n) w (ap Some h)

  pub datetime_duration : {n : Node} → Planned s l r (Some plan.DatetimeDuration)
      → n ≡ node Kind.Datetime (4 * (l.arg / 4) + max (l.arg % 4) (r.arg % 4)) → Some n ≡ given s l r
  unfolding run
  datetime_duration {n} w h =
      let k = pair w Kind.Datetime Kind.Duration (unfold everywhere in tt) in
      let f = unit_of_datetime l w.fits_left k.0 in
      let g = unit_of_duration r w.fits_right k.1 in
      by_plan (Some n) w
      (rw (h, eq-eqb l.kind Kind.Datetime k.0, larger_unit l r f (omega arith)))

  pub one_zone : {n : Node} → Planned s l r (Some plan.Datetimes) → l.arg / 4 ≡ r.arg / 4
      → n ≡ node Kind.Datetime (4 * (r.arg / 4) + max (r.arg % 4) (l.arg % 4)) → Some n ≡ given s l r
  unfolding run
  one_zone {n} w z h =
      let k = pair w Kind.Datetime Kind.Datetime (unfold everywhere in tt) in
      let f = unit_of_datetime l w.fits_left k.0 in
      let g = unit_of_datetime r w.fits_right k.1 in
      by_plan (Some n) w
      (rw (
        h,
        zones (zone l) (zone r),
        eq-eqb (zone l) (zone r) z,
        larger_unit l r f g,
        max_comm (r.arg % 4) (l.arg % 4),
      ))

  pub two_zones : Planned s l r (Some plan.Datetimes) → (l.arg / 4 ≡ r.arg / 4 → ⊥) → None ≡ given s l r
  unfolding run
  two_zones w n = by_plan None w (rw (zones (zone l) (zone r), ne_eqb (zone l) (zone r) n))

  pub durations : {m : ℕ} → Planned s l r (Some plan.Durations) → m ≡ max l.arg r.arg
      → Some (node Kind.Duration m) ≡ given s l r
  unfolding run
  durations {m} w h =
      let k = pair w Kind.Duration Kind.Duration (unfold everywhere in tt) in
      let f = unit_of_duration l w.fits_left k.0 in
      let g = unit_of_duration r w.fits_right k.1 in
      let u : l.arg % 4 ≡ l.arg = omega arith in
      let v : r.arg % 4 ≡ r.arg = omega arith in
      by_plan (Some (node Kind.Duration m)) w (rw (h, larger_unit l r (omega arith) (omega arith), u, v))

  pub number_kinds : Planned s l r (Some plan.DynNumber) → (Kind.UInt8 ≤ l.kind) × (l.kind ≤ Kind.Int64)
  number_kinds w =
      let u = only w (λ a b. leb Kind.UInt8 a && leb a Kind.Int64) (unfold everywhere in tt) in
      let low = leb Kind.UInt8 l.kind in
      (leb→le Kind.UInt8 l.kind (and_left low _ u), leb→le l.kind Kind.Int64 (and_right low _ u))

  pub number : {k : ℕ} → Planned s l r (Some plan.DynNumber)
      → Some (node k 0) ≡ dyn_number known_supertype (node l.kind 0) (value r) → Some (node k 0) ≡ given s l r
  unfolding run
  number {k} w h =
      let b = number_kinds w in
      by_plan (Some (node k 0)) w
      (rw (sym (of_run is_unknown_int false Kind.Null 26 (unfold says in tt) l.kind (omega arith)))
      (h ∙ ap (λ (n : Node). dyn_number known_supertype n (value r)) (bare l w.fits_left (omega arith))))

  pub boolean : {k : ℕ} → Planned s l r (Some plan.DynBoolean) → k ≡ materialize_dyn_int (value r)
      → Some (node k 0) ≡ given s l r
  unfolding run
  boolean {k} w h =
      let one : l.kind ≡ Kind.Boolean = eqb→eq _ _ (only w (λ a b. eqb a Kind.Boolean) (unfold everywhere in tt)) in
      let t : Listed k = to_listed k
      (rw h (dyn_int_of is_listed (unfold is_listed in tt) (unfold is_listed in tt) (value r))) in
      by_plan (Some (node k 0)) w
      (rw (← h) (known_boolean k t.0 t.1
      ∙ ap (λ (n : Node). known_supertype n (node k 0))
      ((λ i. node (sym one i) 0) ∙ bare l w.fits_left (omega arith))))
