-- The arms that answer by the two roots answer with types that follow their argument's rule. Assumes nothing.
use mathlib.Core.Path.{◌≡◌, refl}
use mathlib.Core.Bool.{Bool, true, false, cond, ◌&&◌}
use Prim.Native.Nat.{ℕ, ◌+◌, ◌*◌, ◌^◌, ◌/◌, ◌%◌, ◌≤◌, ◌<◌, max}
use native.Mathlib.Omega.{arith}
use lib.Dec.{T, ltb}
use lib.IntN.{ℤ, pos, negsuc}
use borrow.Author.Tests.{le-leb, lt-ltb, eq-eqb, ltb-true}
use Rattle.std.specs.Prelude.{Option, None, Some}
use Rattle.flat.specs.Kind as kind
use Rattle.flat.specs.Argument.{time_units, dec128_max_prec, argument_fits, argument_rule, datetime_fits, leaf_fits}
use Rattle.flat.proofs.Truths.{is_true, both_true}
use Rattle.dtype.specs.Predicate.{is_unknown_int, is_signed_integer}
use Rattle.dtype.specs.TimeUnit.{unit_number}
use Rattle.dtype.specs.TimeUnits.{get_time_units}
use Rattle.dtype.specs.declared.time_unit.TimeUnit.{TimeUnit}
use Rattle.dtype.specs.declared.time_unit.TimeUnit.TheVariants.{Nanoseconds, Microseconds, Milliseconds}
use Rattle.flat.specs.declared.Node.{Node}
use Rattle.supertype_answer.specs.Join.{node}
use Rattle.supertype_arms.specs.Node.{precision, scale, decimal, unit, zone, datetime, duration}
use Rattle.supertype_arms.specs.Node.{value, dyn_int, fits}
use Rattle.supertype_arms.specs.Supertype.{is, Call, max_dyn, smallest_fitting, dyn_number, same_zone, run}
use Rattle.supertype_arms.specs.Supertype.{fits_orig_prec_scale, beside_integer}
use Rattle.supertype_arms.specs.declared.plan.Plan.{Plan}
use Rattle.supertype_arms.specs.declared.plan.Plan.TheVariants.{Left, Right, Kind, Decimals, DecimalInteger}
use Rattle.supertype_arms.specs.declared.plan.Plan.TheVariants.{DatetimeDuration, Datetimes, Durations}
use Rattle.supertype_arms.specs.declared.plan.Plan.TheVariants.{DynNumber, DynBoolean, DynDecimal}
use Rattle.supertype_arms.proofs.Decimals.{IsDecimal, least, most, within}
use Rattle.supertype_arms.proofs.Recursive.{dyn_int_of, smallest_of}
use Rattle.supertype_numbers.specs.DynInt.{materialize_dyn_int}

-- ---- types made of their parts

decimal_fits_lem : (p s : ℕ) → 1 ≤ p → p ≤ dec128_max_prec → s ≤ p → fits (decimal p s) ≡ true
unfolding fits argument_fits argument_rule
decimal_fits_lem p s a b c =
    let rest : (256 * s + p) % 256 ≡ p = omega arith in
    let part : (256 * s + p) / 256 ≡ s = omega arith in
    rw (rest, part, le-leb 1 p a, le-leb p dec128_max_prec b, le-leb s p c) refl

unit_below : (u : TimeUnit) → unit_number u < time_units
unit_below Nanoseconds = omega arith
unit_below Microseconds = omega arith
unit_below Milliseconds = omega arith

duration_fits : (u : TimeUnit) → fits (duration u) ≡ true
unfolding fits argument_fits argument_rule
duration_fits u = lt-ltb (unit_number u) time_units (unit_below u)

datetime_fits_lem : (u : TimeUnit) (z : ℕ) → z < 2 ^ 32 → fits (datetime u z) ≡ true
unfolding fits argument_fits argument_rule
datetime_fits_lem u z h =
    let b = unit_below u in
    let rest : (4 * z + unit_number u) % 4 ≡ unit_number u = omega arith in
    let part : (4 * z + unit_number u) / 4 ≡ z = omega arith in
    rw (rest, part, lt-ltb (unit_number u) time_units b, lt-ltb z (2 ^ 32) h) refl

pub zone_below : (n : Node) → n.kind ≡ kind.Datetime → fits n ≡ true → zone n < 2 ^ 32
unfolding fits argument_fits argument_rule
zone_below n e f =
    let rule : datetime_fits n.arg ≡ true = rw e at f in
    ltb-true (zone n) (2 ^ 32) (both_true (ltb (n.arg % 4) time_units) _ rule).1

dyn_fits : (v : ℤ) → fits (dyn_int v) ≡ true
unfolding fits argument_fits argument_rule
dyn_fits (pos v) = refl
dyn_fits (negsuc v) = refl

-- ---- what a plan answers

-- what was found fits, if something was
abbrev pub Fitting : Option Node → Type 0
Fitting (Some n) = fits n ≡ true
Fitting None = Unit {0}

-- what is asked of two types for that
abbrev pub Suits : Node → Node → Plan → Type 0
Suits l r Left = fits l ≡ true
Suits l r Right = fits r ≡ true
Suits l r (Kind k) = fits (node k 0) ≡ true
Suits l r Decimals = IsDecimal l × IsDecimal r
Suits l r DecimalInteger = IsDecimal l
Suits l r DatetimeDuration = cond (is kind.Datetime l.kind) (zone l) (zone r) < 2 ^ 32
Suits l r Datetimes = zone r < 2 ^ 32
Suits l r Durations = Unit {0}
Suits l r DynNumber = fits l ≡ true
Suits l r DynBoolean = fits l ≡ true
Suits l r DynDecimal = IsDecimal l

picked : (b : Bool) (p q : Option Node) → Fitting p → Fitting q → Fitting (cond b p q)
picked true p q h g = h
picked false p q h g = g

-- a Decimal beside an integer type
beside_fits : (n : Node) → IsDecimal n → (k : ℕ) → fits (beside_integer n k) ≡ true
unfolding beside_integer
beside_fits n w k = go (fits_orig_prec_scale n k)
  where
    go : (b : Bool) → fits (decimal (cond b (precision n) dec128_max_prec) (scale n)) ≡ true
    go true = decimal_fits_lem (precision n) (scale n) (least w) (most w) (within w)
    go false = decimal_fits_lem dec128_max_prec (scale n) (omega arith) (omega arith) (omega (arith, most w, within w))

-- a kind that is a type with the argument 0
abbrev bare : ℕ → Bool
bare k = leaf_fits k 0

module _ (call : Call) (s : (l r : Node) → fits l ≡ true → fits r ≡ true → Fitting (call l r)) (l r : Node) where
  -- the integer type that a dyn arm joins its left type with
  with_bare : (k : ℕ) → T (bare k) → fits l ≡ true → Fitting (call l (node k 0))
  unfolding fits
  with_bare k t h = s l (node k 0) h (is_true (leaf_fits k 0) t)

  pub run_fits : (p : Plan) → Suits l r p → Fitting (run call p l r)
  unfolding run dyn_number fits argument_fits argument_rule
  run_fits Left h = h
  run_fits Right h = h
  run_fits (Kind k) h = h
  run_fits Decimals h =
      decimal_fits_lem (max (precision l) (precision r)) (max (scale l) (scale r)) (omega (arith, least h.0))
      (omega (arith, most h.0, most h.1)) (omega (arith, within h.0, within h.1))
  run_fits DecimalInteger h = rw (eq-eqb l.kind kind.Decimal h.kind) (beside_fits l h r.kind)
  run_fits DatetimeDuration h = datetime_fits_lem (get_time_units (unit l) (unit r)) _ h
  run_fits Datetimes h =
      picked (same_zone (zone l) (zone r)) (Some (datetime (get_time_units (unit l) (unit r)) (zone r))) None
      (datetime_fits_lem (get_time_units (unit l) (unit r)) (zone r) h) tt
  run_fits Durations h = duration_fits (get_time_units (unit l) (unit r))
  run_fits DynNumber h =
      picked (is_unknown_int l.kind) (Some (dyn_int (max_dyn (value r) (value l)))) _ (dyn_fits (max_dyn (value r) (value l)))
      (picked (is kind.UInt64 l.kind && is_signed_integer (smallest_fitting l.kind (value r))) (Some (node kind.Int64 0))
      (call l (node (smallest_fitting l.kind (value r)) 0)) refl
      (with_bare (smallest_fitting l.kind (value r))
      (smallest_of bare tt tt tt l.kind (value r)) h))
  run_fits DynBoolean h = with_bare (materialize_dyn_int (value r)) (dyn_int_of bare tt tt (value r)) h
  run_fits DynDecimal h =
      decimal_fits_lem dec128_max_prec (scale l) (omega arith) (omega arith) (omega (arith, most h, within h))
