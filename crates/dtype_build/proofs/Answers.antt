-- What the calls come to: the walk builds what `physical` and `materialized` say of the reading. Assumes nothing.
use mathlib.Core.Path.{◌≡◌, sym, ap, ◌∙◌}
use mathlib.Core.Bool.{Bool, true, false, not, ◌&&◌}
use mathlib.Core.List.{List}
use Prim.Native.Nat.{ℕ}
use lib.ListN.{length, take}
use lib.Seq.{take_at}
use Rattle.flat.specs.Tree.{DataType, size, kinds_of, args_of}
use Rattle.flat.specs.Walk.{Valid, type_at}
use Rattle.flat.specs.Reading.{Reading, refused, type, reading}
use Rattle.flat.specs.Output.{fitting, Writes}
use Rattle.std.specs.Prelude.{Result, Err}
use Rattle.flat.specs.declared.error.Error.{Error}
use Rattle.flat.specs.declared.error.Error.TheVariants.{Unknown}
use Rattle.flat.proofs.Truths.{handed_on}
use Rattle.flat.proofs.Sizes.{length_kinds, length_args}
use Rattle.flat.proofs.Meaning.{Passed}
use Rattle.flat.proofs.Outputs.{writes_refused}
use Rattle.dtype_build.specs.Build.{or_unknown, materialized, physical}
use Rattle.dtype_build.specs.Leaf.{physical_in, materialized_in, leaf_with, map_leaves, has_any, BuiltType}
use Rattle.dtype_build.proofs.Forms.{physical_is, known_is, none_if}

-- ---- a refusal
pub physical_refused : {r : Reading} {e : Error} → r ≡ refused e → physical r ≡ refused e
unfolding physical
physical_refused h = rw h

pub materialized_refused : (allow : Bool) {r : Reading} {e : Error} → r ≡ refused e → materialized allow r ≡ refused e
unfolding materialized
materialized_refused allow h = rw h

-- a refusal is given whatever room there is
pub refusal : (k a : ℕ) {r : Reading} {e : Error} {K A : List ℕ} → r ≡ refused e →
    Writes (fitting k a r) K A K A (Err e)
unfolding fitting
refusal k a h = writes_refused (rw h)

-- the same, of an answer that a `?` hands on
pub handed_refusal : (k a : ℕ) {r : Reading} {e : Error} {K A : List ℕ} {w : Result ℕ Error} →
    (y : Error) × (w ≡ Err y) × (y ≡ e) → r ≡ refused e → Writes (fitting k a r) K A K A w
handed_refusal k a p h = rw (handed_on p) (refusal k a h)

-- ---- a type

-- Two arrays that the check passed, by the limits nodes and deep: a type stands at their front, and nothing after it.
pub record Whole : Type 0 where
  pub nodes : ℕ
  pub deep : ℕ
  pub ks : List ℕ
  pub xs : List ℕ
  pub passed : Passed nodes deep ks xs

module _ (p : Whole) where
  open p use {nodes, deep, ks, xs, passed}

  -- what `build` requires
  pub whole_requires : Valid ks xs × (size (type_at ks xs) ≡ length ks)
  whole_requires = (passed.valid, ap size passed.front ∙ passed.whole)

  reads : reading nodes deep ks xs ≡ type (type_at ks xs)
  reads = passed.reads ∙ ap type (sym passed.front)

  pub physical_type : physical (reading nodes deep ks xs) ≡ type (map_leaves (leaf_with physical_in) (type_at ks xs))
  unfolding physical
  physical_type = ap physical reads ∙ ap type (sym (physical_is (type_at ks xs)))

  -- b is the answer of any_refused
  module _ (allow : Bool) {b : Bool} (e : b ≡ (has_any ks && not allow)) where
    known : materialized allow (reading nodes deep ks xs) ≡
        or_unknown (none_if b (map_leaves (leaf_with materialized_in) (type_at ks xs)))
    unfolding materialized
    known =
        let k : ks ≡ kinds_of (type_at ks xs) = passed.form.kinds ∙ ap kinds_of (sym passed.front) in
        let a : (has_any (kinds_of (type_at ks xs)) && not allow) ≡ b =
        ap (λ (l : List ℕ). has_any l && not allow) (sym k) ∙ sym e in
        rw (reads, known_is allow (type_at ks xs), a)

    pub known_none : b ≡ true → materialized allow (reading nodes deep ks xs) ≡ refused Unknown
    known_none h = known ∙ rw h

    pub known_type : b ≡ false →
        materialized allow (reading nodes deep ks xs) ≡ type (map_leaves (leaf_with materialized_in) (type_at ks xs))
    known_type h = known ∙ rw h

-- what is written of a reading is written of one that is equal to it
pub writes_as : (k a : ℕ) {r r' : Reading} {K A K' A' : List ℕ} {w : Result ℕ Error} → r ≡ r' →
    Writes (fitting k a r') K A K' A' w → Writes (fitting k a r) K A K' A' w
writes_as k a e w = rw e w

-- What a caller of the walk finds at the front of the two arrays: the flat form of the type that was built.
pub front : (t : DataType) {K A K' A' : List ℕ} {r : ℕ} → BuiltType t K A K' A' r →
    (r ≡ size t) × (take r K' ≡ kinds_of t) × (take r A' ≡ args_of t)
front t {r = r} b =
    let n = b.nodes ∙ length_kinds t in
    let kinds = ap (take r) b.kinds ∙ take_at (kinds_of t) _ r (sym b.nodes) in
    let args = ap (take r) b.args ∙ take_at (args_of t) _ r (length_args t ∙ sym n) in
    (n, kinds, args)
