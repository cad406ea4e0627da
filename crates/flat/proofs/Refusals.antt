-- Which of 4 and 5 two arrays get: what `reading` answers, told apart by its six ways out. Assumes nothing.
use mathlib.Core.Path.{◌≡◌, refl, sym, ap, ◌∙◌}
use mathlib.Core.Bool.{Bool, true, false}
use mathlib.Core.List.{List}
use Rattle.std.specs.Prelude.{Option, None, Some}
use Prim.Native.Nat.{ℕ, ◌≤◌, ◌<◌}
use native.Mathlib.Omega.{arith}
use borrow.Author.Tests.{eqb-true, eqb-false, leb-true, leb-false}
use lib.Dec.{leb, eqb}
use lib.ListN.{length}
use Rattle.flat.specs.Tree.{DataType, size, depth}
use Rattle.flat.specs.Reader.{node_at}
use Rattle.flat.specs.Reading.{Reading, refused, type, unless, length_fits, kinds_fit, arguments_fit, shaped}
use Rattle.flat.specs.Reading.{reading, checked_of}
use Rattle.flat.specs.Refusal.{answer_number}
use Rattle.flat.specs.Refusals.{FlatForm, NodesFit, RefusalLaws}
use Rattle.flat.specs.declared.error.Error.TheVariants.{Length, Kind, Argument, Shape, Depth}
use Rattle.flat.proofs.Truths.{never, impossible}
use Rattle.flat.proofs.Meaning.{form_length, form_read, form_fits, read_form, lengths_fit}

module _ (nodes deep : ℕ) (ks xs : List ℕ) where
  -- the six ways out
  data Outcome : Reading → Type 0 where
    bad_lengths : length_fits nodes ks xs ≡ false → Outcome (refused Length)
    bad_kind : kinds_fit ks ≡ false → Outcome (refused Kind)
    bad_argument : arguments_fit ks xs ≡ false → Outcome (refused Argument)
    no_tree : NodesFit nodes ks xs → ((t : DataType) → FlatForm ks xs t → ⊥) → Outcome (refused Shape)
    too_deep : (t : DataType) → FlatForm ks xs t → size t ≤ nodes → deep < depth t → Outcome (refused Depth)
    one_type : (t : DataType) → FlatForm ks xs t → depth t ≤ deep → Outcome (type t)

  same_tree : {t u : DataType} → FlatForm ks xs t → node_at ks xs ≡ Some u → t ≡ u
  same_tree f q = let e = form_read f in cc

  shape_outcome : NodesFit nodes ks xs → (p : Option DataType) → node_at ks xs ≡ p → Outcome (shaped deep (length ks) p)
  shape_outcome f None q = no_tree f (λ t g. let e = form_read g in impossible cc)
  shape_outcome f (Some u) q = whole (eqb (size u) (length ks)) refl
    where
      level : FlatForm ks xs u → (b : Bool) → leb (depth u) deep ≡ b → Outcome (unless b Depth (type u))
      level g true e = one_type u g (leb-true (depth u) deep e)
      level g false e =
          too_deep u g (omega (arith, form_length g, lengths_fit nodes ks xs f.lengths)) (leb-false (depth u) deep e)

      whole :
          (b : Bool) → eqb (size u) (length ks) ≡ b
          → Outcome (unless b Shape (unless (leb (depth u) deep) Depth (type u)))
      whole true e =
          level (read_form u q (eqb-true (size u) (length ks) e) (lengths_fit nodes ks xs f.lengths).0 f.args)
          (leb (depth u) deep) refl
      whole false e =
          no_tree f (λ t g. eqb-false (size u) (length ks) e (ap size (sym (same_tree g q)) ∙ sym (form_length g)))

  outcome : Outcome (reading nodes deep ks xs)
  unfolding reading
  outcome = by_lengths (length_fits nodes ks xs) refl
    where
      by_args :
          length_fits nodes ks xs ≡ true → kinds_fit ks ≡ true → (b : Bool) → arguments_fit ks xs ≡ b
          → Outcome (unless b Argument (shaped deep (length ks) (node_at ks xs)))
      by_args l k true e = shape_outcome (record { lengths = l; kinds = k; args = e }) (node_at ks xs) refl
      by_args l k false e = bad_argument e

      by_kinds :
          length_fits nodes ks xs ≡ true → (b : Bool) → kinds_fit ks ≡ b
          → Outcome (unless b Kind (unless (arguments_fit ks xs) Argument (shaped deep (length ks) (node_at ks xs))))
      by_kinds l true e = by_args l e (arguments_fit ks xs) refl
      by_kinds l false e = bad_kind e

      by_lengths : (b : Bool) → length_fits nodes ks xs ≡ b → Outcome (unless b Length (unless (kinds_fit ks) Kind (unless (arguments_fit ks xs) Argument (shaped deep (length ks) (node_at ks xs)))))
      by_lengths true e = by_kinds e (kinds_fit ks) refl
      by_lengths false e = bad_lengths e

  four_only :
      {r : Reading} → Outcome r → answer_number (checked_of r) ≡ 4
      → NodesFit nodes ks xs × ((t : DataType) → FlatForm ks xs t → ⊥)
  four_only (bad_lengths f) e = absurd (omega arith)
  four_only (bad_kind f) e = absurd (omega arith)
  four_only (bad_argument f) e = absurd (omega arith)
  four_only (no_tree f n) e = (f, n)
  four_only (too_deep t g s d) e = absurd (omega arith)
  four_only (one_type t g d) e = absurd (omega arith)

  four_given :
      NodesFit nodes ks xs → ((t : DataType) → FlatForm ks xs t → ⊥) → {r : Reading} → Outcome r
      → answer_number (checked_of r) ≡ 4
  four_given f n (bad_lengths e) = never (sym e ∙ f.lengths)
  four_given f n (bad_kind e) = never (sym e ∙ f.kinds)
  four_given f n (bad_argument e) = never (sym e ∙ f.args)
  four_given f n (no_tree g m) = refl
  four_given f n (too_deep t g s d) = absurd (n t g)
  four_given f n (one_type t g d) = absurd (n t g)

  five_only :
      {r : Reading} → Outcome r → answer_number (checked_of r) ≡ 5
      → (t : DataType) × FlatForm ks xs t × (size t ≤ nodes) × (deep < depth t)
  five_only (bad_lengths f) e = absurd (omega arith)
  five_only (bad_kind f) e = absurd (omega arith)
  five_only (bad_argument f) e = absurd (omega arith)
  five_only (no_tree f n) e = absurd (omega arith)
  five_only (too_deep t g s d) e = (t, g, s, d)
  five_only (one_type t g d) e = absurd (omega arith)

  five_given :
      {t : DataType} → FlatForm ks xs t → size t ≤ nodes → deep < depth t → {r : Reading} → Outcome r
      → answer_number (checked_of r) ≡ 5
  five_given f s d (bad_lengths e) = never (sym e ∙ (form_fits f s).lengths)
  five_given f s d (bad_kind e) = never (sym e ∙ (form_fits f s).kinds)
  five_given f s d (bad_argument e) = never (sym e ∙ (form_fits f s).args)
  five_given {t} f s d (no_tree g n) = absurd (n t f)
  five_given f s d (too_deep u g r e) = refl
  five_given f s d (one_type u g l) = absurd (omega (arith, ap depth (same_tree f (form_read g))))

  pub refusals : RefusalLaws nodes deep ks xs
  refusals = record { four = (four_only outcome, λ h. four_given h.0 h.1 outcome); five = (five_only outcome, λ h. five_given h.1 h.2 h.3 outcome) }
