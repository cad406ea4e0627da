-- The rules of the leaves, by bounds on their kinds and arguments. Assumes nothing.
use mathlib.Core.Path.{◌≡◌, refl, sym, ap, ◌∙◌}
use mathlib.Core.Bool.{Bool, true, false, cond, true≢false}
use mathlib.Core.List.{[], ◌∷◌}
use Prim.Native.Nat.{ℕ, ◌≤◌}
use native.Mathlib.Omega.{arith}
use lib.IntN.{ℤ}
use lib.Dec.{eqb}
use borrow.Author.Tests.{eq-eqb, eqb-true, ne_eqb}
use Rattle.flat.specs.Kind
use Rattle.flat.specs.Argument.{argument_fits, argument_rule}
use Rattle.flat.specs.Tree.{DataType, leaf, head_kind}
use Rattle.flat.specs.Reading.{Ruled}
use Rattle.flat.specs.Walk.{with_default}
use Rattle.flat.proofs.Rules.{passes}
use Rattle.dtype.specs.Match.{among}
use Rattle.dtype.specs.Predicate.{is_unknown_int}
use Rattle.supertype_numbers.specs.Integer.{holds}
use Rattle.supertype_numbers.specs.DynInt.{value_of, materialize_dyn_int}
use Rattle.dtype_build.specs.Materialize.{materialize}
use Rattle.dtype.specs.Physical.{physical_leaf, physical_kind}
use Rattle.dtype_build.specs.Leaf.{materialized_leaf, physical_in, materialized_in, leaf_with, kept_arg}

-- ---- the physical form
pub physical_kind_lem : (k a : ℕ) → head_kind (physical_leaf k a) ≡ physical_kind k
unfolding physical_kind physical_leaf head_kind
physical_kind_lem k a = go (eqb k Kind.Date) (among (Kind.Datetime ∷ Kind.Duration ∷ Kind.Time ∷ []) k) (eqb k Kind.Decimal)
  where
    go : (b c d : Bool) → head_kind (cond b (leaf Kind.Int32 0) (cond c (leaf Kind.Int64 0) (cond d (leaf Kind.Int128 0) (leaf k a)))) ≡ head_kind (cond b (leaf Kind.Int32 0) (cond c (leaf Kind.Int64 0) (cond d (leaf Kind.Int128 0) (leaf k 0))))
    go true c d = refl
    go false true d = refl
    go false false true = refl
    go false false false = refl

pub physical_int64 : (k : ℕ) → Kind.Datetime ≤ k → k ≤ Kind.Time → Kind.Int64 ≡ physical_kind k
physical_int64 k l h = eqb-true _ _ (passes (λ k. eqb Kind.Int64 (physical_kind k)) Kind.Datetime 3 (unfold physical_kind physical_leaf head_kind among in tt) k l (omega arith))

pub physical_same : (k : ℕ) → (k ≡ Kind.Decimal → ⊥) → (k ≡ Kind.Date → ⊥) → (k ≡ Kind.Datetime → ⊥) → (k ≡ Kind.Duration → ⊥) → (k ≡ Kind.Time → ⊥) → k ≡ physical_kind k
unfolding physical_kind physical_leaf head_kind among
physical_same k a b c d e = rw (ne_eqb k Kind.Decimal a, ne_eqb k Kind.Date b, ne_eqb k Kind.Datetime c, ne_eqb k Kind.Duration d, ne_eqb k Kind.Time e)

-- ---- unknown types
pub materialized_str : (k a : ℕ) → k ≡ Kind.UnknownStr → Kind.String ≡ head_kind (materialized_leaf k a)
unfolding materialized_leaf materialize is_unknown_int among head_kind
materialized_str k a e = rw e

pub materialized_float : (k a : ℕ) → k ≡ Kind.UnknownFloat → Kind.Float64 ≡ head_kind (materialized_leaf k a)
unfolding materialized_leaf materialize is_unknown_int among head_kind
materialized_float k a e = rw e

pub materialized_int : (k a n : ℕ) → Kind.UnknownIntPos ≤ k → k ≤ Kind.UnknownIntNeg → n ≡ materialize_dyn_int (value_of k a) → n ≡ head_kind (materialized_leaf k a)
unfolding materialized_leaf materialize head_kind
materialized_int k a n l h e = rw (passes is_unknown_int Kind.UnknownIntPos 2 (unfold is_unknown_int among in tt) k l (omega arith)) e

pub materialized_same : (k a : ℕ) → (k ≡ Kind.UnknownStr → ⊥) → (k ≡ Kind.UnknownFloat → ⊥) → (k ≡ Kind.UnknownIntPos → ⊥) → (k ≡ Kind.UnknownIntNeg → ⊥) → k ≡ head_kind (materialized_leaf k a)
unfolding materialized_leaf materialize is_unknown_int among head_kind
materialized_same k a s f p n = rw (ne_eqb k Kind.UnknownStr s, ne_eqb k Kind.UnknownFloat f, ne_eqb k Kind.UnknownIntPos p, ne_eqb k Kind.UnknownIntNeg n)

-- ---- what a rule makes of a leaf
-- what holds of each integer type that a dyn integer may become holds of the one that it becomes
dyn_each : (P : ℕ → Type 0) → P Kind.Int32 → P Kind.Int64 → P Kind.UInt64 → P Kind.Int128 → (v : ℤ) → P (materialize_dyn_int v)
unfolding materialize_dyn_int
dyn_each P a b c d v = go (holds Kind.Int32 v) (holds Kind.Int64 v) (holds Kind.UInt64 v)
  where
    go : (i j k : Bool) → P (cond i Kind.Int32 (cond j Kind.Int64 (cond k Kind.UInt64 Kind.Int128)))
    go true j k = a
    go false true k = b
    go false false true = c
    go false false false = d

module _ (k a : ℕ) where
  -- t is a leaf that keeps its argument where it keeps its kind, and else has 0; and it keeps document 01's rules
  record Leaf (t : DataType) : Type 0 where
    is : t ≡ leaf (head_kind t) (kept_arg k (head_kind t) a)
    ruled : Ruled (leaf k a) → Ruled t

  same : Leaf (leaf k a)
  unfolding head_kind kept_arg
  same = record { is = rw (eq-eqb k k refl); ruled = λ r. r }

  -- the new kind is none of those that the test is for, and has the argument 0
  abbrev Fresh : (ℕ → Bool) → ℕ → Type 0
  Fresh test new = (test new ≡ false) × Ruled (leaf new 0)

  if_kind : {A : Type 0} (f : A → DataType) (test : ℕ → Bool) (new : ℕ) (x u : A) → f x ≡ leaf new 0 → Fresh test new → Leaf (f u) → Leaf (f (cond (test k) x u))
  unfolding head_kind kept_arg
  if_kind f test new x u e d s = go (test k) refl
    where
      go : (b : Bool) → test k ≡ b → Leaf (f (cond b x u))
      go false t = s
      go true t =
          rw e (record { is = rw (ne_eqb new k (λ h. true≢false (sym t ∙ ap test (sym h) ∙ d.0))); ruled = λ r. d.1 })

  physical_is_leaf : Leaf (physical_leaf k a)
  unfolding physical_leaf among Ruled argument_fits argument_rule
  physical_is_leaf =
      if_kind (λ t. t) (λ j. eqb j Kind.Date) Kind.Int32 _ _ refl (refl, (omega arith, refl))
      (if_kind (λ t. t) (among (Kind.Datetime ∷ Kind.Duration ∷ Kind.Time ∷ [])) Kind.Int64 _ _ refl (refl, (omega arith, refl))
      (if_kind (λ t. t) (λ j. eqb j Kind.Decimal) Kind.Int128 _ _ refl (refl, (omega arith, refl))
      same))

  materialized_is_leaf : Leaf (materialized_leaf k a)
  unfolding materialized_leaf materialize is_unknown_int among Ruled argument_fits argument_rule
  materialized_is_leaf =
      if_kind (with_default (leaf k a)) is_unknown_int (materialize_dyn_int (value_of k a)) _ _ refl
      (dyn_each (Fresh is_unknown_int) (refl, (omega arith, refl)) (refl, (omega arith, refl)) (refl, (omega arith, refl)) (refl, (omega arith, refl)) (value_of k a))
      (if_kind (with_default (leaf k a)) (λ j. eqb j Kind.UnknownFloat) Kind.Float64 _ _ refl (refl, (omega arith, refl))
      (if_kind (with_default (leaf k a)) (λ j. eqb j Kind.UnknownStr) Kind.String _ _ refl (refl, (omega arith, refl))
      same))

-- the rules of the two forms
pub physical_rule : physical_leaf ≡ leaf_with physical_in
physical_rule = λ i k a. (
    (physical_is_leaf k a).is ∙ ap (λ new. leaf new (kept_arg k new a)) (physical_kind_lem k a)) i

pub materialized_rule : materialized_leaf ≡ leaf_with materialized_in
materialized_rule = λ i k a. (materialized_is_leaf k a).is i

-- a leaf that keeps document 01's rules becomes one that does
pub physical_ruled : (k a : ℕ) → Ruled (leaf k a) → Ruled (physical_leaf k a)
physical_ruled k a = (physical_is_leaf k a).ruled

pub materialized_ruled : (k a : ℕ) → Ruled (leaf k a) → Ruled (materialized_leaf k a)
materialized_ruled k a = (materialized_is_leaf k a).ruled

-- the argument 0 stays, whatever becomes of the kind
pub zero_is : (kind_in : ℕ → ℕ → ℕ) (k : ℕ) → leaf_with kind_in k 0 ≡ leaf (kind_in k 0) 0
unfolding kept_arg
zero_is kind_in k = ap (leaf (kind_in k 0)) (go (eqb (kind_in k 0) k))
  where
    go : (b : Bool) → ◌≡◌ {A = ℕ} (cond b 0 0) 0
    go true = refl
    go false = refl
