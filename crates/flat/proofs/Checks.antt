-- Which answer each way out of the check gives. Assumes nothing.
use mathlib.Core.Path.{◌≡◌, refl, sym, ap, ◌∙◌}
use mathlib.Core.Bool.{Bool, true, false}
use mathlib.Core.List.{List}
use Rattle.std.specs.Prelude.{Option, None, Some, Ok, Err}
use Prim.Native.Nat.{ℕ, ◌*◌, ◌≤◌, ◌<◌}
use native.Mathlib.Omega.{arith}
use borrow.Author.Tests.{le-leb, lt-leb, lt-ltb, le-ltb, eq-eqb, ne_eqb, eqb-true}
use lib.Dec.{eqb, leb}
use lib.ListN.{length}
use Rattle.flat.specs.Tree.{DataType, size, depth}
use Rattle.flat.specs.Reader.{node_at}
use Rattle.flat.specs.Reading.{type, unless, length_fits, kinds_fit, arguments_fit, shaped, reading, checked_of}
use Rattle.flat.specs.Refusals.{FlatForm}
use Rattle.flat.specs.Walk.{type_at}
use Rattle.flat.specs.Scan.{start, scan_type}
use Rattle.flat.specs.Span.{span_within}
use Rattle.flat.specs.declared.error.Error.TheVariants.{Length, Kind, Argument, Shape, Depth}
use Rattle.flat.proofs.Truths.{never}
use Rattle.flat.proofs.Scans.{arguments_kinds}
use Rattle.flat.proofs.Meaning.{form_length, form_read, form_stands, form_fits, read_form}
use Rattle.flat.proofs.Spans.{type_ended, type_deeper}
use Rattle.flat.proofs.Scanned.{scanned}
use Rattle.flat.proofs.Complete.{complete}

-- 5, where the walk goes too deep for the limit
module _ (deep : ℕ) {ks xs : List ℕ} {t : DataType} (f : FlatForm ks xs t) where
  whole_form : shaped deep (length ks) (node_at ks xs) ≡ unless (leb (depth t) deep) Depth (type t)
  whole_form = rw (form_read f, eq-eqb (size t) (length ks) (sym (form_length f)))

  pub too_deep :
      None ≡ span_within deep (type_at ks xs) → Err Depth ≡ checked_of (shaped deep (length ks) (node_at ks xs))
  too_deep e = rw (whole_form, lt-leb (depth t) deep (type_deeper deep t (e ∙ ap (span_within deep) (form_stands f).1)))

  pub one_type :
      (n : ℕ) → Some n ≡ span_within deep (type_at ks xs) → Ok tt ≡ checked_of (shaped deep (length ks) (node_at ks xs))
  one_type n e =
      rw (whole_form, le-leb (depth t) deep (type_ended deep t n (e ∙ ap (span_within deep) (form_stands f).1)).1)

-- ---- 1 to 3, and then the rest
pub uneven :
    (nodes deep : ℕ) (ks xs : List ℕ) → (length ks ≡ length xs → ⊥)
    → Err Length ≡ checked_of (reading nodes deep ks xs)
unfolding reading length_fits
uneven nodes deep ks xs e = rw (ne_eqb (length ks) (length xs) e)

pub no_node :
    (nodes deep : ℕ) (ks xs : List ℕ) → length ks ≡ length xs → length ks ≡ 0
    → Err Length ≡ checked_of (reading nodes deep ks xs)
unfolding reading length_fits
no_node nodes deep ks xs e z = rw (eq-eqb (length ks) (length xs) e, le-ltb 0 (length ks) (omega arith))

-- Two arrays of one length that have a node.
pub record Lengths (ks xs : List ℕ) : Type 0 where
  pub even : length ks ≡ length xs
  pub some : 0 < length ks

module _ (nodes deep : ℕ) {ks xs : List ℕ} (l : Lengths ks xs) where
  pub too_many : nodes < length ks → Err Length ≡ checked_of (reading nodes deep ks xs)
  unfolding reading length_fits
  too_many h = rw (eq-eqb (length ks) (length xs) l.even, lt-ltb 0 (length ks) l.some, lt-leb (length ks) nodes h)

  module _ (h : length ks ≤ nodes) where
    fits : length_fits nodes ks xs ≡ true
    unfolding length_fits
    fits = rw (eq-eqb (length ks) (length xs) l.even, lt-ltb 0 (length ks) l.some, le-leb (length ks) nodes h)

    -- 2 comes before 3
    pub bad_kind : kinds_fit ks ≡ false → Err Kind ≡ checked_of (reading nodes deep ks xs)
    unfolding reading
    bad_kind k = rw (fits, k)

    pub bad_argument :
        kinds_fit ks ≡ true → arguments_fit ks xs ≡ false → Err Argument ≡ checked_of (reading nodes deep ks xs)
    unfolding reading
    bad_argument k a = rw (fits, k, a)

    -- where all arguments fit, so do the kinds
    fit_nodes :
        arguments_fit ks xs ≡ true
        → checked_of (shaped deep (length ks) (node_at ks xs)) ≡ checked_of (reading nodes deep ks xs)
    unfolding reading
    fit_nodes a = rw (fits, arguments_kinds ks xs l.even a, a)

    -- the scan passes a type, whose arguments all fit
    pub scan_passed :
        scan_type (2 * nodes) start ks xs ≡ true
        → checked_of (shaped deep (length ks) (node_at ks xs)) ≡ checked_of (reading nodes deep ks xs)
    scan_passed s = let f = (scanned (2 * nodes) ks xs s).1 in fit_nodes (form_fits f {nodes = nodes} (omega (arith, form_length f))).args

    -- 4, where the scan passes none
    pub no_shape :
        arguments_fit ks xs ≡ true → scan_type (2 * nodes) start ks xs ≡ false
        → Err Shape ≡ checked_of (reading nodes deep ks xs)
    no_shape a f = go (node_at ks xs) refl ∙ fit_nodes a
      where
        whole :
            (t : DataType) → node_at ks xs ≡ Some t → (b : Bool) → eqb (size t) (length ks) ≡ b
            → Err Shape ≡ checked_of (unless b Shape (unless (leb (depth t) deep) Depth (type t)))
        whole t q true n =
            let form = read_form t q (eqb-true (size t) (length ks) n) l.even a in
            never (sym f ∙ complete nodes form (omega (arith, form_length form)))
        whole t q false n = refl

        go : (p : Option DataType) → node_at ks xs ≡ p → Err Shape ≡ checked_of (shaped deep (length ks) p)
        go None q = refl
        go (Some t) q = whole t q (eqb (size t) (length ks)) refl
