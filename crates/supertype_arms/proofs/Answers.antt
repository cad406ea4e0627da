-- From plans of kinds to answers for types: what the definition gives in its two tries is what the plan of the kinds in
-- order gives. Assumes nothing.
use mathlib.Core.Path.{◌≡◌, refl, sym, ◌∙◌, ap, subst}
use mathlib.Core.Bool.{Bool, true, false, not, cond, ◌&&◌, ◌||◌, and_comm, and-false}
use mathlib.Core.List.{[], ◌∷◌}
use Prim.Native.Nat.{ℕ, ◌≤◌, ◌<◌}
use native.Mathlib.Nat.{max_comm}
use native.Mathlib.Omega.{arith}
use native.Mathlib.Decide.{ℕ_discrete}
use lib.Dec.{T, leb, ltb, eqb, eqb→eq}
use borrow.Author.Tests.{eq-eqb, ne_eqb, leb-true, le-ltb, lt-leb, not-true}
use Rattle.flat.specs.Kind.{Decimal, Duration, Datetime, String, UnknownAny, UnknownStr, UnknownFloat, UnknownIntPos}
use Rattle.flat.specs.Kind.{UnknownIntNeg}
use Rattle.flat.specs.Argument.{argument_fits, argument_rule}
use Rattle.flat.proofs.Rules.{in_run, area, in_area, and_left, and_right, or_right, implies, is_zero}
use Rattle.flat.proofs.Truths.{never, is_true, to_T, both_true}
use Rattle.dtype.specs.Match.{among}
use Rattle.dtype.specs.Predicate.{is_unknown_int}
use Rattle.dtype.specs.Equality.{equal_node}
use Rattle.dtype.specs.TimeUnit.{unit_number, unit_of}
use Rattle.dtype.specs.declared.time_unit.TimeUnit.{TimeUnit}
use Rattle.dtype.specs.declared.time_unit.TimeUnit.TheVariants.{Nanoseconds, Microseconds, Milliseconds}
use Rattle.dtype.specs.TimeUnits.{get_time_units}
use Rattle.flat.specs.declared.Node.{Node}
use Rattle.supertype_answer.specs.Join.{node}
use Rattle.std.specs.Prelude.{Option, None, Some, option_map}
use Rattle.supertype_answer.proofs.Nodes.{no_argument}
use Rattle.dtype.proofs.Coarser.{coarser}
use Rattle.supertype_arms.specs.declared.plan.Plan.{Plan}
use Rattle.supertype_arms.specs.declared.plan.Plan.TheVariants.{Left, Right, Kind, Decimals, DecimalInteger}
use Rattle.supertype_arms.specs.declared.plan.Plan.TheVariants.{DatetimeDuration, Datetimes, Durations}
use Rattle.supertype_arms.specs.declared.plan.Plan.TheVariants.{DynNumber, DynBoolean, DynDecimal}
use Rattle.supertype_arms.specs.Node.{unit_in, unit, zone, same, plain, fits}
use Rattle.supertype_arms.specs.Supertype.{is, plan_of, Call, same_zone, run, answered, inner, supertype_with}
use Rattle.std.specs.Option.{option_or}
use Rattle.supertype_arms.specs.Rule.{turn, rule_of, skip, Apart}
use Rattle.supertype_arms.proofs.Areas.{alike, alike_eq, right_at}

-- ---- Booleans and answers

or_no : (a b : Bool) → (a || b) ≡ false → (a ≡ false) × (b ≡ false)
or_no true b e = never (sym e)
or_no false b e = (refl, e)

or_cases : (x y : Bool) {X : Type 0} → T (x || y) → (T x → X) → (T y → X) → X
or_cases true y t f g = f t
or_cases false y t f g = g t

or_nothing : (s : Option Node) → option_or s None ≡ s
or_nothing (Some n) = refl
or_nothing None = refl

eqb_sym : (a b : ℕ) → eqb a b ≡ eqb b a
eqb_sym a b = go (ℕ_discrete a b)
  where
    go : Dec (a ≡ b) → eqb a b ≡ eqb b a
    go (yes e) = eq-eqb a b e ∙ sym (eq-eqb b a (sym e))
    go (no n) = ne_eqb a b n ∙ sym (ne_eqb b a (λ e. n (sym e)))

pub same_sym : (l r : Node) → same l r ≡ same r l
unfolding equal_node
same_sym l r =
    λ i. and_comm (is_unknown_int l.kind) (is_unknown_int r.kind) i
    || (eqb_sym l.kind r.kind i && eqb_sym l.arg r.arg i)

-- ---- types that fit

module _ (n : Node) (f : fits n ≡ true) where
  both : (leb n.kind UnknownIntNeg ≡ true) × (argument_fits n.kind n.arg ≡ true)
  unfolding fits
  both = both_true (leb n.kind UnknownIntNeg) _ f

  pub is_in_range : n.kind ≤ UnknownIntNeg
  is_in_range = leb-true n.kind UnknownIntNeg both.0

  -- a kind that has no argument has the argument 0
  pub plain_zero : plain n.kind ≡ true → n.arg ≡ 0
  unfolding plain argument_rule among
  plain_zero p =
      let low : n.kind < 28 = omega (arith, is_in_range) in
      let t = in_run (λ k. not (plain k) || is_zero (argument_rule k)) 0 28 tt n.kind (omega arith) low in
      no_argument n.kind n.arg (implies (plain n.kind) _ t (to_T p)) both.1

pub same_node : (n : Node) → n.arg ≡ 0 → node n.kind 0 ≡ n
same_node n e = λ i. record { kind = n.kind; arg = sym e i }

-- ---- one plan for two tries

-- the plans that say the same of (r, l) as, turned, of (l, r), whose kinds are a and b
abbrev turns : ℕ → ℕ → Option Plan → Bool
turns a b None = true
turns a b (Some Left) = true
turns a b (Some Right) = true
turns a b (Some (Kind k)) = true
turns a b (Some Decimals) = false
turns a b (Some DecimalInteger) = is Decimal b && not (is Decimal a)
turns a b (Some DatetimeDuration) = false
turns a b (Some Datetimes) = false
turns a b (Some Durations) = false
turns a b (Some DynNumber) = false
turns a b (Some DynBoolean) = false
turns a b (Some DynDecimal) = false

-- the plans p of (a, b) and q of (b, a) make one plan
abbrev merges : ℕ → ℕ → Option Plan → Option Plan → Bool
merges a b None q = turns a b q
merges a b (Some Left) q = true
merges a b (Some Right) q = true
merges a b (Some (Kind k)) q = true
merges a b (Some Decimals) q = true
merges a b (Some DecimalInteger) q = true
merges a b (Some DatetimeDuration) q = true
merges a b (Some Datetimes) q = alike q (Some Datetimes)
merges a b (Some Durations) q = true
merges a b (Some DynNumber) q = alike q None
merges a b (Some DynBoolean) q = alike q None
merges a b (Some DynDecimal) q = true

module _ (call : Call) (l r : Node) where
  turned : (q : Option Plan) → T (turns l.kind r.kind q) → answered call q r l ≡ answered call (option_map turn q) l r
  unfolding run
  turned None t = refl
  turned (Some Left) t = refl
  turned (Some Right) t = refl
  turned (Some (Kind k)) t = refl
  turned (Some Decimals) t = absurd t
  turned (Some DecimalInteger) t =
      let e = is_true (is Decimal r.kind) (and_left (is Decimal r.kind) _ t) in
      let f = not-true (is Decimal l.kind) (is_true _ (and_right (is Decimal r.kind) _ t)) in
      rw (e, f)
  turned (Some DatetimeDuration) t = absurd t
  turned (Some Datetimes) t = absurd t
  turned (Some Durations) t = absurd t
  turned (Some DynNumber) t = absurd t
  turned (Some DynBoolean) t = absurd t
  turned (Some DynDecimal) t = absurd t

  none_after : (p q : Option Plan) → T (alike q None) → option_or (answered call p l r) (answered call q r l) ≡ answered call p l r
  unfolding run
  none_after p q t = rw (alike_eq q None t) (or_nothing (answered call p l r))

-- the guard of the Datetime arm asks for one zone, or none twice
pub zones : (x y : ℕ) → same_zone x y ≡ eqb x y
zones x y = go (ℕ_discrete x 0) (ℕ_discrete y 0)
  where
    go : Dec (x ≡ 0) → Dec (y ≡ 0) → same_zone x y ≡ eqb x y
    go (yes e) (yes f) = simp (eq-eqb x 0 e, eq-eqb y 0 f, eq-eqb x y (omega arith))
    go (yes e) (no f) = simp (eq-eqb x 0 e, ne_eqb y 0 f, ne_eqb x y (λ g. f (omega arith)))
    go (no e) d = simp (ne_eqb x 0 e)

pick_twice : (a b : Bool) (x y : Node) → a ≡ b
    → option_or (cond a (Some x) None) (cond b (Some y) None) ≡ cond a (Some x) None
pick_twice true b x y e = refl
pick_twice false true x y e = never e
pick_twice false false x y e = refl

module _ (call : Call) (l r : Node) where
  merged : (p q : Option Plan) → T (merges l.kind r.kind p q)
      → option_or (answered call p l r) (answered call q r l) ≡ answered call (option_or p (option_map turn q)) l r
  unfolding run
  merged None q t = turned call l r q t
  merged (Some Left) q t = refl
  merged (Some Right) q t = refl
  merged (Some (Kind k)) q t = refl
  merged (Some Decimals) q t = refl
  merged (Some DecimalInteger) q t = refl
  merged (Some DatetimeDuration) q t = refl
  merged (Some Datetimes) q t =
      rw (alike_eq q (Some Datetimes) t)
      (pick_twice _ _ _ _ (zones (zone l) (zone r) ∙ eqb_sym (zone l) (zone r) ∙ sym (zones (zone r) (zone l))))
  merged (Some Durations) q t = refl
  merged (Some DynNumber) q t = none_after call l r (Some DynNumber) q t
  merged (Some DynBoolean) q t = none_after call l r (Some DynBoolean) q t
  merged (Some DynDecimal) q t = refl

-- ---- the laws

-- two different types: both tries run a plan
pub tries : (call : Call) (s : Bool) (l r : Node) → same l r ≡ false
    → supertype_with call s l r
    ≡ option_or (answered call (plan_of s l.kind r.kind) l r) (answered call (plan_of s r.kind l.kind) r l)
unfolding supertype_with inner
tries call s l r e = rw (e, sym (same_sym l r) ∙ e)

-- f holds of every two kinds in order, the flag on and off
unfoldable pub everywhere : (Bool → ℕ → ℕ → Bool) → Bool
unfolding right_at
everywhere f = area (λ a b. skip a b || (f true a b && f false a b)) 0 28 0 28

pub of_flag : (f : Bool → Bool) → T (f true && f false) → (s : Bool) → T (f s)
of_flag f t true = and_left (f true) (f false) t
of_flag f t false = and_right (f true) (f false) t

pub at_apart : (f : Bool → ℕ → ℕ → Bool) → T (everywhere f) → (s : Bool) (a b : ℕ) → Apart a b → T (f s a b)
unfolding everywhere
at_apart f t s a b h =
    of_flag (λ s. f s a b)
    (or_right (f true a b && f false a b) h.two
    (in_area (λ a b. skip a b || (f true a b && f false a b)) 0 28 0 28 t a b (omega arith))) s

-- two types in the order of their kinds
pub settled : (call : Call) (s : Bool) (l r : Node) → Apart l.kind r.kind → same l r ≡ false
    → supertype_with call s l r ≡ answered call (rule_of s l.kind r.kind) l r
unfolding rule_of
settled call s l r h e =
    tries call s l r e
    ∙ merged call l r (plan_of s l.kind r.kind) (plan_of s r.kind l.kind)
    (at_apart (λ s a b. merges a b (plan_of s a b) (plan_of s b a)) (unfold everywhere in tt) s l.kind r.kind h)

-- ---- the other order

-- any with String, and dyn float or a dyn int with str: the two orders differ
unfoldable pub lopsided : ℕ → ℕ → Bool
lopsided a b =
    (is UnknownAny a && is String b) || (among (UnknownFloat ∷ UnknownIntPos ∷ UnknownIntNeg ∷ []) a && is UnknownStr b)

-- pairs that don't depend on their order
level_any : (a b : ℕ) → a ≡ UnknownAny → (b ≡ String → ⊥) → lopsided a b ≡ false
unfolding lopsided among
level_any a b e n = rw (e, ne_eqb b String n)

pub level : (a b : ℕ) → (a ≡ UnknownAny → ⊥) → (b ≡ UnknownStr → ⊥) → lopsided a b ≡ false
unfolding lopsided
level a b m n = rw (ne_eqb a UnknownAny m, ne_eqb b UnknownStr n, and-false)

pub level_other : (a b : ℕ) → (a ≡ UnknownAny → b ≡ String → ⊥) → (b ≡ UnknownStr → ⊥) → lopsided a b ≡ false
level_other a b m n = go (ℕ_discrete a UnknownAny)
  where
    go : Dec (a ≡ UnknownAny) → lopsided a b ≡ false
    go (yes e) = level_any a b e (m e)
    go (no d) = level a b d n

-- the test t holds, and the plans p and q are these
abbrev these : Bool → Option Plan → Option Plan → Option Plan → Option Plan → Bool
these t p x q y = t && (alike p x && alike q y)

of_these : (t : Bool) (p x q y : Option Plan) → T (these t p x q y) → T t × (p ≡ x) × (q ≡ y)
of_these t p x q y u =
    let v = and_right t _ u in
    (and_left t _ u, alike_eq p x (and_left (alike p x) _ v), alike_eq q y (and_right (alike p x) _ v))

-- (a, b) out of order and its plans p of (a, b) and q of (b, a): their answers don't depend on which is tried first.
-- One plan gives none, the two are one, one names the kind of the type that the other gives, or a Duration meets a
-- Datetime
abbrev swaps : ℕ → ℕ → Option Plan → Option Plan → Bool
swaps a b p q =
    alike p None || (alike q None || ((turns a b q && alike p (option_map turn q))
    || (these (plain a) p (Some Left) q (Some (Kind a))
    || (these (plain b) p (Some (Kind b)) q (Some Left)
    || these (is Duration a && is Datetime b) p (Some DatetimeDuration) q (Some DatetimeDuration)))))

swap_of : (s : Bool) (a b : ℕ) → b < a → Apart b a → lopsided a b ≡ false → T (swaps a b (plan_of s a b) (plan_of s b a))
swap_of s a b lt h n =
    or_right (swaps a b (plan_of s a b) (plan_of s b a)) n
    (or_right (lopsided a b || swaps a b (plan_of s a b) (plan_of s b a)) (lt-leb a b lt)
    (at_apart (λ s b a. leb a b || (lopsided a b || swaps a b (plan_of s a b) (plan_of s b a)))
    (unfold everywhere lopsided in tt) s b a h))

-- a unit is read back from its number
of_number : (u : TimeUnit) → unit_in (unit_of (unit_number u)) ≡ u
unfolding unit_of
of_number Nanoseconds = refl
of_number Microseconds = refl
of_number Milliseconds = refl

-- the coarser of two units, in either order
units_sym : (u v : TimeUnit) → get_time_units u v ≡ get_time_units v u
units_sym u v =
    sym (of_number (get_time_units u v))
    ∙ ap (λ (n : ℕ). unit_in (unit_of n)) (coarser u v ∙ max_comm (unit_number u) (unit_number v) ∙ sym (coarser v u))
    ∙ of_number (get_time_units v u)

module _ (call : Call) (l r : Node) (fl : fits l ≡ true) (fr : fits r ≡ true) where
  -- the answers of p and q, whichever is tried first
  abbrev Level : Option Plan → Option Plan → Type 0
  Level p q = option_or (answered call p l r) (answered call q r l) ≡ option_or (answered call q r l) (answered call p l r)

  swapped : (p q : Option Plan) → T (swaps l.kind r.kind p q) → Level p q
  unfolding run
  swapped p q t =
      or_cases (alike p None) _ t (λ u. rw (alike_eq p None u) (sym (or_nothing (answered call q r l))))
      (λ t. or_cases (alike q None) _ t (λ u. rw (alike_eq q None u) (or_nothing (answered call p l r)))
      (λ t. or_cases (turns l.kind r.kind q && alike p (option_map turn q)) _ t one_turns
      (λ t. or_cases (these (plain l.kind) p (Some Left) q (Some (Kind l.kind))) _ t named_left
      (λ t. or_cases (these (plain r.kind) p (Some (Kind r.kind)) q (Some Left)) _ t named_right timed))))
    where
      one_turns : T (turns l.kind r.kind q && alike p (option_map turn q)) → Level p q
      one_turns u =
          let does = turns l.kind r.kind q in
          rw (alike_eq p (option_map turn q) (and_right does _ u), turned call l r q (and_left does _ u))

      named_left : T (these (plain l.kind) p (Some Left) q (Some (Kind l.kind))) → Level p q
      named_left u =
          let v = of_these (plain l.kind) p (Some Left) q (Some (Kind l.kind)) u in
          rw (v.1, v.2) (ap Some (sym (same_node l (plain_zero l fl (is_true (plain l.kind) v.0)))))

      named_right : T (these (plain r.kind) p (Some (Kind r.kind)) q (Some Left)) → Level p q
      named_right u =
          let v = of_these (plain r.kind) p (Some (Kind r.kind)) q (Some Left) u in
          rw (v.1, v.2) (ap Some (same_node r (plain_zero r fr (is_true (plain r.kind) v.0))))

      timed : T (these (is Duration l.kind && is Datetime r.kind) p (Some DatetimeDuration) q (Some DatetimeDuration))
          → Level p q
      timed u =
          let v = of_these (is Duration l.kind && is Datetime r.kind) p (Some DatetimeDuration) q (Some DatetimeDuration) u in
          let a = eqb→eq l.kind Duration (and_left (is Duration l.kind) _ v.0) in
          let b = eqb→eq r.kind Datetime (and_right (is Duration l.kind) _ v.0) in
          rw (v.1, v.2, a, b, units_sym (unit l) (unit r))

-- two types against the order of their kinds, the lopsided pairs apart
pub either_order : (call : Call) (s : Bool) (l r : Node) → fits l ≡ true → fits r ≡ true → r.kind < l.kind
    → Apart r.kind l.kind → lopsided l.kind r.kind ≡ false → same l r ≡ false
    → supertype_with call s l r ≡ supertype_with call s r l
either_order call s l r fl fr lt h n e =
    tries call s l r e
    ∙ swapped call l r fl fr (plan_of s l.kind r.kind) (plan_of s r.kind l.kind)
    (swap_of s l.kind r.kind lt h n)
    ∙ sym (tries call s r l (same_sym r l ∙ e))

-- ---- two different types are apart

apart : (l r : Node) → fits l ≡ true → fits r ≡ true → same l r ≡ false → l.kind ≤ r.kind
    → skip l.kind r.kind ≡ false
unfolding skip equal_node
apart l r fl fr e h = go (plain l.kind) refl (ℕ_discrete l.kind r.kind)
  where
    neither : ((is_unknown_int l.kind && is_unknown_int r.kind) ≡ false)
        × ((eqb l.kind r.kind && eqb l.arg r.arg) ≡ false)
    neither =
        or_no (is_unknown_int l.kind && is_unknown_int r.kind) (eqb l.kind r.kind && eqb l.arg r.arg) e

    go : (b : Bool) → plain l.kind ≡ b → Dec (l.kind ≡ r.kind)
        → ((is_unknown_int l.kind && is_unknown_int r.kind) || (eqb l.kind r.kind && b)
        || ltb r.kind l.kind) ≡ false
    go b p (no n) = rw (neither.0, ne_eqb l.kind r.kind n, le-ltb r.kind l.kind h)
    go false p (yes k) = rw (neither.0, eq-eqb l.kind r.kind k, le-ltb r.kind l.kind h)
    go true p (yes k) =
        let x : l.arg ≡ 0 = plain_zero l fl p in
        let y : r.arg ≡ 0 = plain_zero r fr (subst (λ (j : ℕ). plain j ≡ true) k p) in
        never (sym (rw (eq-eqb l.kind r.kind k, eq-eqb l.arg r.arg (omega arith)) at neither.1))

pub are_apart : (l r : Node) → fits l ≡ true → fits r ≡ true → same l r ≡ false → l.kind ≤ r.kind
    → Apart l.kind r.kind
are_apart l r fl fr e h = record { in_order = h; is_in_range = is_in_range r fr; two = apart l r fl fr e h }
