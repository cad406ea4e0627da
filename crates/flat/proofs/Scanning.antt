-- The scan at a position of the two arrays: what each of its ways on says of the whole. Assumes nothing.
use mathlib.Core.Path.{◌≡◌, refl, sym, ap, ap₂, ◌∙◌}
use mathlib.Core.Bool.{Bool, true, false, not, ◌&&◌}
use mathlib.Core.List.{List}
use Prim.Native.Nat.{ℕ, ◌+◌, ◌*◌, ◌≤◌, ◌<◌}
use native.Mathlib.Omega.{arith}
use native.Mathlib.Numerals.{add-one}
use borrow.Author.Tests.{lt-ltb, le-ltb, le-leb, lt-leb, ne_eqb, eqb-true, eqb-false, leb-true, ltb-true, not-true}
use lib.Dec.{leb, ltb, eqb}
use lib.ListN.{length, get_or, drop, drop_of_length-le}
use lib.Seq.{drop-cons}
use Rattle.flat.specs.Kind
use Rattle.flat.specs.Argument.{argument_fits, argument_rule, follows}
use Rattle.flat.specs.Reader.{children}
use Rattle.flat.specs.Scan.{NoDeeper, start, wrapped, opened, paid, type_fits, field_fits, after, scan_type}
use Rattle.flat.specs.Scan.{scan_fields}
use Rattle.flat.specs.declared.scan.Scan.{Scan}
use Rattle.flat.proofs.Truths.{both_true}
use Rattle.flat.proofs.Positions.{children_leaf, children_list, children_array, children_struct}
use Rattle.flat.proofs.States.{UnderStruct, outermost, inside, opens, wrapped_owed, paid_owed, start_within}
use Rattle.flat.proofs.States.{wrapped_within, opened_within, paid_within, within_more}
use Rattle.flat.proofs.Plain.{kind_told, plain_fits}

-- a node that is no field
pub no_field : (k a : ℕ) {b : Bool} → (k ≡ Kind.Field → ⊥) → b ≡ argument_fits k a → b ≡ type_fits k a
unfolding type_fits
no_field k a h e = rw (ne_eqb k Kind.Field h) e

-- Decimal's argument is never 0
zero_decimal : (k a : ℕ) → a ≡ 0 → k ≡ Kind.Decimal → false ≡ argument_fits k a
unfolding argument_fits argument_rule
zero_decimal k a z e = rw (e, z)

-- a leaf with the argument 0
pub zero_leaf : (k a : ℕ) → k < Kind.List → a ≡ 0 → not (eqb k Kind.Decimal) ≡ type_fits k a
zero_leaf k a h z = no_field k a (omega arith) (go (eqb k Kind.Decimal) refl)
  where
    go : (b : Bool) → eqb k Kind.Decimal ≡ b → not b ≡ argument_fits k a
    go true e = zero_decimal k a z (eqb-true k Kind.Decimal e)
    go false e = sym (plain_fits k a (sym (kind_told k a z (eqb-false k Kind.Decimal e)) ∙ lt-ltb k Kind.List h)).2

-- a kind whose node fits, from its place among the kinds
fitting : (k a : ℕ) → type_fits k a ≡ true → (k ≤ Kind.Struct) × (argument_fits k a ≡ true)
unfolding type_fits argument_fits
fitting k a e =
    let both = both_true (not (eqb k Kind.Field)) (argument_fits k a) e in
    let low = leb-true k Kind.Field (both_true (leb k Kind.Field) (follows (argument_rule k) a) both.1).0 in
    (omega (arith, eqb-false k Kind.Field (not-true (eqb k Kind.Field) both.0)), both.1)

list_zero : (k a : ℕ) → k ≡ Kind.List → argument_fits k a ≡ true → a ≡ 0
unfolding argument_fits argument_rule
list_zero k a e f = eqb-true a 0 (rw e at f)

-- which answer counts after a node that fits
module _ (k a : ℕ) (f : type_fits k a ≡ true) (x y z : Bool) where
  after_leaf : k < Kind.List → (type_fits k a && after (children k a) x y z) ≡ x
  after_leaf h = rw (f, children_leaf k a (omega arith))

  after_one : Kind.List ≤ k → k < Kind.Struct → (type_fits k a && after (children k a) x y z) ≡ y
  after_one l h = rw f (go (eqb k Kind.List) refl)
    where
      go : (b : Bool) → eqb k Kind.List ≡ b → after (children k a) x y z ≡ y
      go true e = let i = eqb-true k Kind.List e in rw (children_list k a i (list_zero k a i (fitting k a f).1))
      go false e = rw (children_array k a (omega (arith, eqb-false k Kind.List e)))

  after_struct : Kind.Struct ≤ k → (type_fits k a && after (children k a) x y z) ≡ z
  after_struct l = rw (f, children_struct k a (omega (arith, fitting k a f)))

struct_few : (k a : ℕ) → k ≡ Kind.Struct → argument_fits k a ≡ true → a ≤ 255
unfolding argument_fits argument_rule
struct_few k a e f = let h = ltb-true a 256 (rw e at f) in omega arith

opened_owed : {m : ℕ} {s r : Scan} → UnderStruct m s r → r.owed ≤ s.owed + m
opened_owed (outermost e) = omega arith
opened_owed inside = omega arith

-- ---- the scan at a position
-- Where it stands, in the state s. A Struct owes 255 fields at most.
module _ (deep : ℕ) (ks xs : List ℕ) (at : ℕ) (s : Scan) where
  pub record Standing : Type 0 where
    pub even : length ks ≡ length xs
    pub few : length ks ≤ 65536
    pub bound : deep ≤ 65536
    pub here : at ≤ length ks
    pub owed : s.owed ≤ 255 * at
    pub within : NoDeeper deep s

  -- What is left has to be a type.
  pub record AtType : Type 0 where
    pub stands : Standing
    pub says : scan_type deep start ks xs ≡ scan_type deep s (drop at ks) (drop at xs)

  -- What is left has to be the fields still owed.
  pub record AtFields : Type 0 where
    pub stands : Standing
    pub says : scan_type deep start ks xs ≡ scan_fields deep s (drop at ks) (drop at xs)

-- nothing is owed where the scan starts
pub nothing_owed :
    (s : Scan) → (s.owed ≡ 0) × ((s.outer ≡ 0) × ((s.base ≡ 0) × (s.depth ≡ 0))) → s ≡ start
nothing_owed s e = all e.0 e.1.0 e.1.1.0 e.1.1.1
  where
    all :
        {a b c d : ℕ} → a ≡ 0 → b ≡ 0 → c ≡ 0 → d ≡ 0
        → (let t : Scan = record { owed = a; outer = b; base = c; depth = d } in t) ≡ start
    all p q r t = rw (p, q, r, t) refl

pub at_start :
    {deep : ℕ} {ks xs : List ℕ} {r : Scan}
    → (length ks ≡ length xs) × (length ks ≤ 65536) × (deep ≤ 65536)
    → r ≡ start
    → AtType deep ks xs 0 r
at_start {deep} p e =
    rw e (record {
      stands =
          record
          { even = p.0; few = p.1; bound = p.2; here = omega arith; owed = omega arith; within = start_within deep };
      says = refl;
    })

-- one node on, in the state r
on :
    {deep : ℕ} {ks xs : List ℕ} {at : ℕ} {s r : Scan}
    → Standing deep ks xs at s
    → at < length ks
    → r.owed ≤ s.owed + 255
    → NoDeeper deep r
    → Standing deep ks xs (at + 1) r
on p h o w =
    record { even = p.even; few = p.few; bound = p.bound; here = omega arith; owed = omega arith; within = w }

module _ {deep : ℕ} {ks xs : List ℕ} {at : ℕ} {s : Scan} (p : AtType deep ks xs at s) where
  pub type_end : length ks ≤ at → false ≡ scan_type deep start ks xs
  unfolding scan_type
  type_end h = sym (p.says ∙ ap (λ (l : List ℕ). scan_type deep s l (drop at xs)) (drop_of_length-le ks h))

  -- what the next node says, of its fitness and of what stands after it
  type_step :
      at < length ks
      → scan_type deep start ks xs
      ≡ (type_fits (get_or ks at 0) (get_or xs at 0)
      && after (children (get_or ks at 0) (get_or xs at 0)) (scan_fields deep s (drop (at + 1) ks) (drop (at + 1) xs))
      (leb (wrapped s).depth deep && scan_type deep (wrapped s) (drop (at + 1) ks) (drop (at + 1) xs))
      (leb (opened (get_or xs at 0) s).depth deep && scan_fields deep (opened (get_or xs at 0) s) (drop (at + 1) ks) (drop (at + 1) xs)))
  unfolding scan_type
  type_step h = let g : at < length xs = omega (arith, p.stands.even) in p.says ∙ rw (add-one, drop-cons ks at 0, drop-cons xs at 0)

  pub bad_type : at < length ks → type_fits (get_or ks at 0) (get_or xs at 0) ≡ false → false ≡ scan_type deep start ks xs
  bad_type h f = sym (type_step h ∙ rw f)

-- The node that stands there fits.
pub record NodeFits {deep at : ℕ} {ks xs : List ℕ} {s : Scan} (p : AtType deep ks xs at s) : Type 0 where
  pub inside : at < length ks
  pub fits : type_fits (get_or ks at 0) (get_or xs at 0) ≡ true

-- past it, where the fields still owed stand
abbrev pub Past : {deep at : ℕ} {ks xs : List ℕ} {s : Scan} → AtType deep ks xs at s → Scan → Type 0
Past {deep} {at} {ks} {xs} p r = AtFields deep ks xs (at + 1) r

module _ {deep at : ℕ} {ks xs : List ℕ} {s : Scan} {p : AtType deep ks xs at s} (f : NodeFits p) where
  pub past_leaf : get_or ks at 0 < Kind.List → Past p s
  past_leaf l =
      record {
        stands = on p.stands f.inside (omega arith) p.stands.within;
        says = type_step p f.inside ∙ after_leaf (get_or ks at 0) (get_or xs at 0) f.fits _ _ _ l;
      }

  -- what the code asks where it goes on under a List or an Array, and under a Struct
  pub wrapped_asks : NoDeeper 65536 s
  wrapped_asks = within_more p.stands.within p.stands.bound

  module _ (l : Kind.Struct ≤ get_or ks at 0) where
    few_fields : get_or xs at 0 ≤ 255
    few_fields = let fits = fitting (get_or ks at 0) (get_or xs at 0) f.fits in struct_few (get_or ks at 0) (get_or xs at 0) (omega arith) fits.1

    pub opened_asks : NoDeeper 65536 s × (s.owed + get_or xs at 0 ≤ 16777216)
    opened_asks = (wrapped_asks, omega (arith, few_fields, p.stands))

    module _ {r : Scan} (e : r ≡ opened (get_or xs at 0) s) where
      struct_step :
          scan_type deep start ks xs ≡ (leb r.depth deep && scan_fields deep r (drop (at + 1) ks) (drop (at + 1) xs))
      struct_step = rw e (type_step p f.inside ∙ after_struct (get_or ks at 0) (get_or xs at 0) f.fits _ _ _ l)

      pub past_struct : r.depth ≤ deep → Past p r
      past_struct d =
          let o : UnderStruct (get_or xs at 0) s r = rw e (opens (get_or xs at 0) s) in
          record {
            stands =
                on p.stands f.inside (omega (arith, few_fields, opened_owed o))
                (opened_within p.stands.within o d);
            says = struct_step ∙ rw (le-leb r.depth deep d);
          }

      pub deep_struct : deep < r.depth → false ≡ scan_type deep start ks xs
      deep_struct d = sym (struct_step ∙ rw (lt-leb r.depth deep d))

-- A List or an Array fits there, under which the state is r.
pub record UnderOne {deep at : ℕ} {ks xs : List ℕ} {s : Scan} {p : AtType deep ks xs at s} (f : NodeFits p) (r : Scan) : Type 0 where
  pub low : Kind.List ≤ get_or ks at 0
  pub high : get_or ks at 0 < Kind.Struct
  pub state : r ≡ wrapped s

module _ {deep at : ℕ} {ks xs : List ℕ} {s : Scan} {p : AtType deep ks xs at s} {f : NodeFits p} {r : Scan} (o : UnderOne f r) where
  one_step : scan_type deep start ks xs ≡ (leb r.depth deep && scan_type deep r (drop (at + 1) ks) (drop (at + 1) xs))
  one_step =
      rw o.state
      (type_step p f.inside ∙ after_one (get_or ks at 0) (get_or xs at 0) f.fits _ _ _ o.low o.high)

  pub past_one : r.depth ≤ deep → AtType deep ks xs (at + 1) r
  past_one d =
      record {
        stands =
            on p.stands f.inside (omega (arith, wrapped_owed s, ap (λ (q : Scan). q.owed) o.state))
            (rw o.state (wrapped_within p.stands.within (rw o.state at d)));
        says = one_step ∙ rw (le-leb r.depth deep d);
      }

  pub deep_one : deep < r.depth → false ≡ scan_type deep start ks xs
  deep_one d = sym (one_step ∙ rw (lt-leb r.depth deep d))

module _ {deep at : ℕ} {ks xs : List ℕ} {s : Scan} (p : AtFields deep ks xs at s) where
  fields_over : at ≡ length ks → scan_type deep start ks xs ≡ eqb s.owed 0
  unfolding scan_type
  fields_over h =
      p.says ∙ ap₂ (scan_fields deep s) (drop_of_length-le ks {i = at} (omega arith))
      (drop_of_length-le xs {i = at} (omega (arith, p.stands.even)))

  fields_step : at < length ks → scan_type deep start ks xs ≡ (ltb 0 s.owed && field_fits (get_or ks at 0) (get_or xs at 0) && scan_type deep (paid s) (drop (at + 1) ks) (drop (at + 1) xs))
  unfolding scan_type
  fields_step h = let g : at < length xs = omega (arith, p.stands.even) in p.says ∙ rw (add-one, drop-cons ks at 0, drop-cons xs at 0)

  pub none_owed : s.owed ≡ 0 → eqb at (length ks) ≡ scan_type deep start ks xs
  none_owed z = go (eqb at (length ks)) refl
    where
      go : (b : Bool) → eqb at (length ks) ≡ b → b ≡ scan_type deep start ks xs
      go true q = sym (fields_over (eqb-true at (length ks) q) ∙ rw z)
      go false q = sym (fields_step (omega (arith, p.stands.here, eqb-false at (length ks) q)) ∙ rw (le-ltb 0 s.owed (omega arith)))

  pub field_missing : (s.owed ≡ 0 → ⊥) → at ≡ length ks → false ≡ scan_type deep start ks xs
  field_missing o h = sym (fields_over h ∙ ne_eqb s.owed 0 o)

-- A field is due there.
pub record FieldDue {deep at : ℕ} {ks xs : List ℕ} {s : Scan} (p : AtFields deep ks xs at s) : Type 0 where
  pub more : 0 < s.owed
  pub inside : at < length ks

module _ {deep at : ℕ} {ks xs : List ℕ} {s : Scan} {p : AtFields deep ks xs at s} (d : FieldDue p) where
  pub bad_field : field_fits (get_or ks at 0) (get_or xs at 0) ≡ false → false ≡ scan_type deep start ks xs
  bad_field f = sym (fields_step p d.inside ∙ rw (lt-ltb 0 s.owed d.more, f))

  pub past_field :
      field_fits (get_or ks at 0) (get_or xs at 0) ≡ true → {r : Scan} → r ≡ paid s → AtType deep ks xs (at + 1) r
  past_field f e =
      rw e (record {
        stands = on p.stands d.inside (omega (arith, paid_owed s)) (paid_within p.stands.within);
        says = fields_step p d.inside ∙ rw (lt-ltb 0 s.owed d.more, f);
      })
