-- A rule over two kinds: one test that antt computes, for all pairs of an area at once. Assumes nothing.
use mathlib.Core.Path.{◌≡◌, refl, sym, ◌∙◌, ap, subst}
use mathlib.Core.Bool.{Bool, true, false, ◌&&◌, ◌||◌}
use mathlib.Core.List.{List, [], ◌∷◌}
use Rattle.std.specs.Prelude.{Option, None, Some}
use Prim.Native.Nat.{ℕ, ◌+◌, ◌-◌, ◌≤◌, ◌<◌}
use native.Mathlib.Omega.{arith}
use lib.Dec.{T, eqb, eqb→eq}
use lib.ListN.{get_or, get_or-eq_default}
use Rattle.flat.specs.Kind.{String, UnknownAny, UnknownStr, UnknownFloat}
use Rattle.flat.specs.Tree.{head_kind}
use Rattle.flat.proofs.Rules.{In, in_run, area, in_area, and_left, and_right, or_right}
use Rattle.dtype.specs.Match.{among}
use Rattle.dtype.specs.Predicate.{is_float, is_unknown_int, is_signed_integer, is_unsigned_integer, is_integer}
use Rattle.dtype.specs.Predicate.{is_primitive_numeric, is_primitive, is_string, is_unknown}
use Rattle.dtype.specs.Physical.{physical_leaf, physical_kind}
use Rattle.supertype_arms.specs.declared.plan.Plan.{Plan}
use Rattle.supertype_arms.specs.declared.plan.Plan.TheVariants.{Left, Right, Kind, Decimals, DecimalInteger}
use Rattle.supertype_arms.specs.declared.plan.Plan.TheVariants.{DatetimeDuration, Datetimes, Durations}
use Rattle.supertype_arms.specs.declared.plan.Plan.TheVariants.{DynNumber, DynBoolean, DynDecimal}
use Rattle.supertype_arms.specs.Node.{plain}
use Rattle.supertype_arms.specs.Supertype.{arms, unknown_arms, plan_of}
use Rattle.supertype_arms.specs.Rule.{rule_of, skip, Apart}

-- ---- plans, and no plan, as numbers

abbrev pub code_of : Option Plan → ℕ
code_of None = 0
code_of (Some Left) = 1
code_of (Some Right) = 2
code_of (Some Decimals) = 3
code_of (Some DatetimeDuration) = 4
code_of (Some Datetimes) = 5
code_of (Some Durations) = 6
code_of (Some DynNumber) = 7
code_of (Some DynBoolean) = 8
code_of (Some DynDecimal) = 9
code_of (Some DecimalInteger) = 10
code_of (Some (Kind k)) = 11 + k

abbrev listed : List (Option Plan)
listed =
    None ∷ Some Left ∷ Some Right ∷ Some Decimals ∷ Some DatetimeDuration ∷ Some Datetimes ∷ Some Durations
    ∷ Some DynNumber ∷ Some DynBoolean ∷ Some DynDecimal ∷ Some DecimalInteger ∷ []

abbrev plans : ℕ → Option Plan
plans n = get_or listed n (Some (Kind (n - 11)))

abbrev pub alike : Option Plan → Option Plan → Bool
alike p q = eqb (code_of p) (code_of q)

far : (k : ℕ) → plans (11 + k) ≡ Some (Kind k)
far k =
    get_or-eq_default listed (Some (Kind (11 + k - 11))) {n = 11 + k} (omega arith)
    ∙ ap (λ (k : ℕ). Some (Kind k)) (omega arith)

back : (p : Option Plan) → plans (code_of p) ≡ p
back None = refl
back (Some Left) = refl
back (Some Right) = refl
back (Some Decimals) = refl
back (Some DatetimeDuration) = refl
back (Some Datetimes) = refl
back (Some Durations) = refl
back (Some DynNumber) = refl
back (Some DynBoolean) = refl
back (Some DynDecimal) = refl
back (Some DecimalInteger) = refl
back (Some (Kind k)) = far k

pub alike_eq : (p q : Option Plan) → T (alike p q) → p ≡ q
alike_eq p q t = sym (back p) ∙ ap plans (eqb→eq (code_of p) (code_of q) t) ∙ back q

-- ---- the plan of two kinds

-- f is the plan of a and b, by the flag
unfoldable pub right_at : (Bool → ℕ → ℕ → Option Plan) → Bool → ℕ → ℕ → Bool
unfolding rule_of plan_of arms unknown_arms plain skip among is_float is_unknown_int is_signed_integer
    is_unsigned_integer is_integer is_primitive_numeric is_primitive is_string is_unknown head_kind physical_leaf
    physical_kind
right_at f s a b = alike (f s a b) (rule_of s a b)

-- f is the plan of a and b, the flag on and off
unfoldable pub right : (Bool → ℕ → ℕ → Option Plan) → ℕ → ℕ → Bool
unfolding right_at
right f a b = right_at f true a b && right_at f false a b

-- where a and b are two kinds in order, f is their plan, the flag on and off
unfoldable pub right_apart : (Bool → ℕ → ℕ → Option Plan) → ℕ → ℕ → Bool
unfolding right
right_apart f a b = skip a b || right f a b

is_right : (f : Bool → ℕ → ℕ → Option Plan) (s : Bool) (a b : ℕ) → T (right f a b) → f s a b ≡ rule_of s a b
unfolding right right_at
is_right f true a b u =
    alike_eq (f true a b) (rule_of true a b) (and_left (right_at f true a b) (right_at f false a b) u)
is_right f false a b u =
    alike_eq (f false a b) (rule_of false a b) (and_right (right_at f true a b) (right_at f false a b) u)

-- the laws that each row's answers cite: f is right all over an area
pub rule : (f : Bool → ℕ → ℕ → Option Plan) (i m j n : ℕ) → T (area (right f) i m j n) → (s : Bool) (a b : ℕ) → In i m j n a b
    → f s a b ≡ rule_of s a b
rule f i m j n t s a b h = is_right f s a b (in_area (right f) i m j n t a b h)

pub rule_apart : (f : Bool → ℕ → ℕ → Option Plan) (i m j n : ℕ) → T (area (right_apart f) i m j n) → (s : Bool) (a b : ℕ)
    → In i m j n a b → skip a b ≡ false → f s a b ≡ rule_of s a b
unfolding right_apart
rule_apart f i m j n t s a b h e = is_right f s a b (or_right (right f a b) e (in_area (right_apart f) i m j n t a b h))

pub apart_at : {k a b : ℕ} → a ≡ k → Apart a b → Apart k b
apart_at {k} {a} {b} e h = subst (λ (i : ℕ). Apart i b) e h

-- ---- the plans of the pairs whose two orders differ, against the order of their kinds

-- any with String: the String arm's guard holds whichever the flag
pub any_string : (s : Bool) → plan_of s UnknownAny String ≡ Some (Kind String)
unfolding right_at
any_string true = refl
any_string false = refl

-- dyn float or a dyn int with str
pub dyn_str : (s : Bool) (a : ℕ) → UnknownFloat ≤ a → a < UnknownFloat + 3 → plan_of s a UnknownStr ≡ Some (Kind UnknownAny)
unfolding right_at
dyn_str s a h u = alike_eq (plan_of s a UnknownStr) (Some (Kind UnknownAny)) (go s)
  where
    go : (s : Bool) → T (alike (plan_of s a UnknownStr) (Some (Kind UnknownAny)))
    go true = in_run (λ a. alike (plan_of true a UnknownStr) (Some (Kind UnknownAny))) UnknownFloat 3 tt a h u
    go false = in_run (λ a. alike (plan_of false a UnknownStr) (Some (Kind UnknownAny))) UnknownFloat 3 tt a h u
