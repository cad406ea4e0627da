-- The scan accepts types only: what stands where it passes, from any state. Assumes nothing.
use mathlib.Core.Path.{◌≡◌, refl, sym, ap, ap₂, ◌∙◌}
use mathlib.Core.Bool.{Bool, true, false, not, ◌&&◌}
use mathlib.Core.List.{List, [], ◌∷◌, ◌++◌, append_assoc, append-nil}
use Prim.Native.Nat.{ℕ, zero, suc, ◌+◌, ◌-◌, ◌≤◌, ◌<◌}
use native.Mathlib.Omega.{arith}
use borrow.Author.Tests.{leb-true, leb-false, eqb-true, ltb-true, le-leb, lt-leb, lt-ltb, eq-eqb, ne_eqb}
use lib.Dec.{leb, ltb, eqb}
use lib.ListN.{length, get_or}
use Rattle.flat.specs.Kind
use Rattle.flat.specs.Argument.{argument_fits}
use Rattle.flat.specs.Tree.{DataType, leaf, list, array, struct, Fields, empty, field, count, depth, depths}
use Rattle.flat.specs.Tree.{kinds_of, kinds_ofs, args_of, args_ofs}
use Rattle.flat.specs.Reader.{Children, no_child, under_list, under_array, fields, no_type, children}
use Rattle.flat.specs.Reading.{length_fits, reading, checked_of, one_plain, Ruled, RuledFields}
use Rattle.flat.specs.Refusals.{FlatForm}
use Rattle.flat.specs.Scan.{NoDeeper, start, settled, wrapped, opened, paid, type_fits, field_fits, after, scan_type}
use Rattle.flat.specs.Scan.{scan_fields, scan_accepts}
use Rattle.flat.specs.declared.scan.Scan.{Scan}
use Rattle.flat.proofs.Truths.{never, both_true}
use Rattle.flat.proofs.Positions.{children_leaf}
use Rattle.flat.proofs.Plain.{plain_type}
use Rattle.flat.proofs.ReadBack.{View, is_leaf, is_list, is_array, is_struct, is_other, view}
use Rattle.flat.proofs.States.{Settled, settles, UnderStruct, outermost, inside, opens, settled_within, wrapped_depth}
use Rattle.flat.proofs.States.{wrapped_within, opened_within, paid_within, start_within}
use Rattle.flat.proofs.Meaning.{Passed, check_passed, form_length, lengths_fit, passes}

-- ---- fields
-- fields that keep the rules, whose types, which are d levels deep, go no deeper than `deep`
unfoldable AllFit : ℕ → ℕ → Fields → Type 0
AllFit deep d empty = Unit {0}
AllFit deep d (field name t fs) =
    (argument_fits Kind.Field name ≡ true) × Ruled t × (d + depth t ≤ deep) × AllFit deep d fs

module _ (deep d : ℕ) where
  all_higher : (e : ℕ) → e ≤ d → (fs : Fields) → AllFit deep d fs → AllFit deep e fs
  unfolding AllFit
  all_higher e h empty f = tt
  all_higher e h (field name t fs) f = (f.0, f.1, omega (arith, f.2), all_higher e h fs f.3)

  all_ruled : (fs : Fields) → AllFit deep d fs → RuledFields fs
  unfolding AllFit Ruled
  all_ruled empty f = tt
  all_ruled (field name t fs) f = (f.0, f.1, all_ruled fs f.3)

  -- the depth of a Struct of them
  all_depth : d ≤ deep → (fs : Fields) → AllFit deep (suc (suc d)) fs → d + depths fs ≤ deep
  unfolding AllFit depth
  all_depth h empty f = omega arith
  all_depth h (field name t fs) f = let g = all_depth h fs f.3 in omega (arith, f.2)

no_field : (fs : Fields) → count fs ≡ 0 → fs ≡ empty
unfolding count
no_field empty e = refl
no_field (field name t fs) e = absurd (omega arith)

-- the first n of so many fields, and the others
record Split (deep d n m : ℕ) (fs : Fields) : Type 0 where
  one : Fields
  two : Fields
  kinds : kinds_ofs fs ≡ kinds_ofs one ++ kinds_ofs two
  args : args_ofs fs ≡ args_ofs one ++ args_ofs two
  first : count one ≡ n
  others : count two ≡ m
  fit_one : AllFit deep d one
  fit_two : AllFit deep d two

module _ (deep d m : ℕ) where
  split : (n : ℕ) (fs : Fields) → count fs ≡ n + m → AllFit deep d fs → Split deep d n m fs
  unfolding count kinds_of args_of AllFit
  split zero fs e f =
      record {
        one = empty;
        two = fs;
        kinds = refl;
        args = refl;
        first = refl;
        others = (let y : count fs ≡ m = omega arith in y);
        fit_one = tt;
        fit_two = f;
      }
  split (suc n) empty e f = absurd (omega arith)
  split (suc n) (field name t fs) e f =
      let s = split n fs (omega arith) f.3 in
      record {
        one = field name t s.one;
        two = s.two;
        kinds = ap (λ (l : List ℕ). Kind.Field ∷ l) (rw (s.kinds, append_assoc));
        args = ap (λ (l : List ℕ). name ∷ l) (rw (s.args, append_assoc));
        first = ap suc s.first;
        others = s.others;
        fit_one = (f.0, f.1, f.2, s.fit_one);
        fit_two = s.fit_two;
      }

-- ---- what stands where the scan passes
-- The fields still owed: first those of inner Structs, at the state's depth, then the outermost Struct's, at its base.
record FieldsThen (deep : ℕ) (s : Scan) (ks xs : List ℕ) : Type 0 where
  one : Fields
  two : Fields
  kinds : ks ≡ kinds_ofs one ++ kinds_ofs two
  args : xs ≡ args_ofs one ++ args_ofs two
  inner : count one ≡ s.owed - s.outer
  whole : count one + count two ≡ s.owed
  fit_one : AllFit deep s.depth one
  fit_two : AllFit deep s.base two

-- A type, and then the fields still owed.
record TypeThen (deep : ℕ) (s : Scan) (ks xs : List ℕ) : Type 0 where
  tree : DataType
  kinds_left : List ℕ
  args_left : List ℕ
  kinds : ks ≡ kinds_of tree ++ kinds_left
  args : xs ≡ args_of tree ++ args_left
  ruled : Ruled tree
  room : (settled s).depth + depth tree ≤ deep
  owed : FieldsThen deep s kinds_left args_left

no_owed : {deep : ℕ} {s : Scan} → s.owed ≡ 0 → FieldsThen deep s [] []
unfolding kinds_of args_of count AllFit
no_owed e = record { one = empty; two = empty; kinds = refl; args = refl; inner = omega arith; whole = sym e; fit_one = tt; fit_two = tt }

module _ (deep : ℕ) (s : Scan) where
  -- the fields of inner Structs that are owed, seen from further up
  inner_higher :
      (d : ℕ) → (settled s).depth ≤ d → (fs : Fields) → count fs ≡ s.owed - s.outer → AllFit deep d fs
      → AllFit deep s.depth fs
  unfolding AllFit count
  inner_higher d h empty e f = tt
  inner_higher d h (field name t fs) e f =
      all_higher deep d s.depth (omega (arith, (settles s).stays (omega arith))) (field name t fs) f

  -- under a List or an Array
  unwrapped : {ks xs : List ℕ} → FieldsThen deep (wrapped s) ks xs → FieldsThen deep s ks xs
  unfolding wrapped
  unwrapped r =
      let z = settles s in
      let e : count r.one ≡ s.owed - s.outer = omega (arith, r.inner) in
      record {
        one = r.one;
        two = r.two;
        kinds = r.kinds;
        args = r.args;
        inner = e;
        whole = r.whole ∙ z.owed;
        fit_one = inner_higher (suc (settled s).depth) (omega arith) r.one e r.fit_one;
        fit_two = rw z.base at r.fit_two;
      }

  module _ {ks xs : List ℕ} (a : ℕ) (f : argument_fits Kind.Struct a ≡ true) (h : (settled s).depth ≤ deep) where
    -- under a Struct: all fields are its own where it is the outermost, else the first
    one_struct : {r : Scan} → UnderStruct a s r → FieldsThen deep r ks xs → TypeThen deep s (Kind.Struct ∷ ks) (a ∷ xs)
    unfolding kinds_of args_of Ruled depth count AllFit
    one_struct (outermost e) r =
        let none : r.one ≡ empty = no_field r.one (omega (arith, r.inner)) in
        let all : count r.two ≡ a = omega (arith, ap count none, r.whole) in
        record {
          tree = struct r.two;
          kinds_left = [];
          args_left = [];
          kinds = ap (λ (l : List ℕ). Kind.Struct ∷ l) (r.kinds ∙ rw none (sym (append-nil (kinds_ofs r.two))));
          args = ap₂ ◌∷◌ (sym all) (r.args ∙ rw none (sym (append-nil (args_ofs r.two))));
          ruled = (rw all f, all_ruled deep (suc (suc (settled s).depth)) r.two r.fit_two);
          room = all_depth deep (settled s).depth h r.two r.fit_two;
          owed = no_owed e;
        }
    one_struct inside r = go (settles s) (split deep (suc (suc (settled s).depth)) (s.owed - s.outer) a r.one (omega (arith, settles s)) r.fit_one)
      where
        go :
            Settled s (settled s) → Split deep (suc (suc (settled s).depth)) a (s.owed - s.outer) r.one
            → TypeThen deep s (Kind.Struct ∷ ks) (a ∷ xs)
        go z p =
            record {
              tree = struct p.one;
              kinds_left = kinds_ofs p.two ++ kinds_ofs r.two;
              args_left = args_ofs p.two ++ args_ofs r.two;
              kinds = ap (λ (l : List ℕ). Kind.Struct ∷ l) (r.kinds ∙ rw (p.kinds, append_assoc));
              args = ap₂ ◌∷◌ (sym p.first) (r.args ∙ rw (p.args, append_assoc));
              ruled = (rw p.first f, all_ruled deep (suc (suc (settled s).depth)) p.one p.fit_one);
              room = all_depth deep (settled s).depth h p.one p.fit_one;
              owed =
                  record {
                    one = p.two;
                    two = r.two;
                    kinds = refl;
                    args = refl;
                    inner = p.others;
                    whole = omega arith;
                    fit_one =
                        inner_higher (suc (suc (settled s).depth)) (omega arith) p.two p.others p.fit_two;
                    fit_two = rw z.base at r.fit_two;
                  };
            }

  module _ {ks xs : List ℕ} (a : ℕ) (f : argument_fits Kind.Field a ≡ true) (p : 0 < s.owed) (r : TypeThen deep (paid s) ks xs) where
    -- a field of the outermost Struct, whose type and the fields after it stand there
    outer_field : s.owed ≤ s.outer → FieldsThen deep s (Kind.Field ∷ ks) (a ∷ xs)
    unfolding paid kinds_of args_of count AllFit
    outer_field h =
        let none = no_field r.owed.one (omega (arith, r.owed.inner)) in
        record {
          one = empty;
          two = field a r.tree r.owed.two;
          kinds = ap (λ (l : List ℕ). Kind.Field ∷ l) (r.kinds ∙ rw (r.owed.kinds, none));
          args = ap (λ (l : List ℕ). a ∷ l) (r.args ∙ rw (r.owed.args, none));
          inner = omega arith;
          whole = omega (arith, ap count none, r.owed.whole);
          fit_one = tt;
          fit_two = (f, r.ruled, omega (arith, r.room, (settles (paid s)).back (omega arith)), r.owed.fit_two);
        }

    -- a field of another
    inner_field : s.outer < s.owed → FieldsThen deep s (Kind.Field ∷ ks) (a ∷ xs)
    unfolding paid kinds_of args_of count AllFit
    inner_field h =
        record {
          one = field a r.tree r.owed.one;
          two = r.owed.two;
          kinds = ap (λ (l : List ℕ). Kind.Field ∷ l) (r.kinds ∙ rw (r.owed.kinds, append_assoc));
          args = ap (λ (l : List ℕ). a ∷ l) (r.args ∙ rw (r.owed.args, append_assoc));
          inner = omega (arith, r.owed.inner);
          whole = omega (arith, r.owed.whole);
          fit_one = (f, r.ruled, omega (arith, r.room, (settles (paid s)).stays (omega arith)), r.owed.fit_one);
          fit_two = r.owed.fit_two;
        }

    one_field : FieldsThen deep s (Kind.Field ∷ ks) (a ∷ xs)
    one_field = go (leb s.owed s.outer) refl
      where
        go : (b : Bool) → leb s.owed s.outer ≡ b → FieldsThen deep s (Kind.Field ∷ ks) (a ∷ xs)
        go true e = outer_field (leb-true s.owed s.outer e)
        go false e = inner_field (leb-false s.owed s.outer e)

-- ---- the scan
module _ (deep : ℕ) (s : Scan) (w : NoDeeper deep s) (ks xs : List ℕ) (x y z : Bool) where
  -- a node, from what the scan of the rest tells in each case
  one_node :
      {k a : ℕ} (c : Children)
      → View k a c
      → argument_fits k a ≡ true
      → (x ≡ true → FieldsThen deep s ks xs)
      → (y ≡ true → TypeThen deep (wrapped s) ks xs)
      → (z ≡ true → FieldsThen deep (opened a s) ks xs)
      → after c x y z ≡ true
      → TypeThen deep s (k ∷ ks) (a ∷ xs)
  unfolding kinds_of args_of Ruled depth
  one_node no_child (is_leaf {k} {a} h) f X Y Z e =
      record { tree = leaf k a; kinds_left = ks; args_left = xs; kinds = refl; args = refl; ruled = (h, f); room = omega (arith, settled_within w); owed = X e }
  one_node under_list is_list f X Y Z e =
      let r = Y e in
      record {
        tree = list r.tree;
        kinds_left = r.kinds_left;
        args_left = r.args_left;
        kinds = ap (λ (l : List ℕ). Kind.List ∷ l) r.kinds;
        args = ap (λ (l : List ℕ). 0 ∷ l) r.args;
        ruled = r.ruled;
        room = omega (arith, wrapped_depth s);
        owed = unwrapped deep s r.owed;
      }
  one_node under_array (is_array {a}) f X Y Z e =
      let r = Y e in
      record {
        tree = array a r.tree;
        kinds_left = r.kinds_left;
        args_left = r.args_left;
        kinds = ap (λ (l : List ℕ). Kind.Array ∷ l) r.kinds;
        args = ap (λ (l : List ℕ). a ∷ l) r.args;
        ruled = r.ruled;
        room = omega (arith, wrapped_depth s);
        owed = unwrapped deep s r.owed;
      }
  one_node fields (is_struct {a}) f X Y Z e = one_struct deep s a f (settled_within w) (opens a s) (Z e)
  one_node no_type is_other f X Y Z e = never e

mutual
  unfolding scan_type type_fits field_fits

  type_then :
      (deep : ℕ) (ks xs : List ℕ) (s : Scan) → NoDeeper deep s → scan_type deep s ks xs ≡ true → TypeThen deep s ks xs
  type_then deep [] xs s w e = never e
  type_then deep (k ∷ ks) [] s w e = never e
  type_then deep (k ∷ ks) (a ∷ xs) s w e =
      let y = leb (wrapped s).depth deep && scan_type deep (wrapped s) ks xs in
      let z = leb (opened a s).depth deep && scan_fields deep (opened a s) ks xs in
      let both = both_true (type_fits k a) (after (children k a) (scan_fields deep s ks xs) y z) e in
      one_node deep s w ks xs (scan_fields deep s ks xs) y z (children k a) (view k a)
      (both_true (not (eqb k Kind.Field)) (argument_fits k a) both.0).1
      (λ q. fields_then deep ks xs s w q)
      (λ q. let on = both_true (leb (wrapped s).depth deep) (scan_type deep (wrapped s) ks xs) q in
      type_then deep ks xs (wrapped s) (wrapped_within w (leb-true (wrapped s).depth deep on.0)) on.1)
      (λ q. let on = both_true (leb (opened a s).depth deep) (scan_fields deep (opened a s) ks xs) q in
      fields_then deep ks xs (opened a s) (opened_within w (opens a s) (leb-true (opened a s).depth deep on.0))
      on.1)
      both.1

  fields_then :
      (deep : ℕ) (ks xs : List ℕ) (s : Scan) → NoDeeper deep s → scan_fields deep s ks xs ≡ true
      → FieldsThen deep s ks xs
  fields_then deep [] [] s w e = no_owed (eqb-true s.owed 0 e)
  fields_then deep [] (a ∷ xs) s w e = never e
  fields_then deep (k ∷ ks) [] s w e = never e
  fields_then deep (k ∷ ks) (a ∷ xs) s w e =
      let on = both_true (ltb 0 s.owed && field_fits k a) (scan_type deep (paid s) ks xs) e in
      let fit = both_true (ltb 0 s.owed) (field_fits k a) on.0 in
      let is = both_true (eqb k Kind.Field) (argument_fits k a) fit.1 in
      let same = eqb-true k Kind.Field is.0 in
      rw same (one_field deep s a (rw same at is.1) (ltb-true 0 s.owed fit.0) (type_then deep ks xs (paid s) (paid_within w) on.1))

-- Whatever the scan accepts is the flat form of a tree that keeps the rules and is not too deep.
pub scanned :
    (deep : ℕ) (ks xs : List ℕ) → scan_type deep start ks xs ≡ true
    → (t : DataType) × FlatForm ks xs t × (depth t ≤ deep)
unfolding kinds_of args_of
scanned deep ks xs e = go (type_then deep ks xs start (start_within deep) e)
  where
    go : TypeThen deep start ks xs → (t : DataType) × FlatForm ks xs t × (depth t ≤ deep)
    go r =
        let f = r.owed in
        let one = no_field f.one (omega arith) in
        let two = no_field f.two (omega arith) in (
          r.tree,
          record {
            kinds =
                r.kinds ∙ ap (λ (l : List ℕ). kinds_of r.tree ++ l) (f.kinds ∙ rw (one, two)) ∙ append-nil
                (kinds_of r.tree);
            args =
                r.args ∙ ap (λ (l : List ℕ). args_of r.tree ++ l) (f.args ∙ rw (one, two)) ∙ append-nil
                (args_of r.tree);
            ruled = r.ruled;
          },
          omega (arith, settles start),
        )

-- Two arrays that the scan accepts are a type.
pub accepted_passed : (nodes deep : ℕ) (ks xs : List ℕ) → scan_accepts nodes deep ks xs ≡ true → Passed nodes deep ks xs
unfolding scan_accepts
accepted_passed nodes deep ks xs e =
    let both = both_true (length_fits nodes ks xs) (scan_type deep start ks xs) e in
    let s = scanned deep ks xs both.1 in
    let f = s.1 in
    let t = s.0 in
    let v = passes nodes deep t (record { ruled = f.ruled; within = omega (arith, form_length f, lengths_fit nodes ks xs both.0); shallow = s.2 }) in
    check_passed (ap checked_of (sym (ap₂ (reading nodes deep) f.kinds f.args ∙ v)))

-- which arrays it accepts
module _ (nodes deep : ℕ) (ks xs : List ℕ) where
  pub uneven_told : (length ks ≡ length xs → ⊥) → false ≡ scan_accepts nodes deep ks xs
  unfolding scan_accepts length_fits
  uneven_told e = rw (ne_eqb (length ks) (length xs) e)

  pub many_told : length ks ≡ length xs → nodes < length ks → false ≡ scan_accepts nodes deep ks xs
  unfolding scan_accepts length_fits
  many_told e h = rw (eq-eqb (length ks) (length xs) e, lt-ltb 0 (length ks) (omega arith), lt-leb (length ks) nodes h)

  module _ (h : 1 ≤ nodes) where
    leaf_accepted : (k : ℕ) → k < Kind.List → argument_fits k 0 ≡ true → scan_accepts nodes deep (k ∷ []) (0 ∷ []) ≡ true
    unfolding scan_accepts length_fits scan_type type_fits
    leaf_accepted k l f = rw (le-leb 1 nodes h, ne_eqb k Kind.Field (omega arith), f, children_leaf k 0 (omega arith))

    pub plain_told : one_plain ks xs ≡ true → true ≡ scan_accepts nodes deep ks xs
    plain_told e =
        let p = plain_type nodes deep ks xs h e in
        sym (ap₂ (scan_accepts nodes deep) p.kinds p.args ∙ leaf_accepted (get_or ks 0 0) p.low p.fits)

pub scan_told :
    (nodes deep : ℕ) (ks xs : List ℕ) → length ks ≡ length xs → length ks ≤ nodes
    → scan_type deep start ks xs ≡ scan_accepts nodes deep ks xs
unfolding scan_accepts length_fits scan_type
scan_told nodes deep [] [] e h = refl
scan_told nodes deep [] (a ∷ xs) e h = absurd (omega arith)
scan_told nodes deep (k ∷ ks) xs e h =
    rw
    (eq-eqb (length (k ∷ ks)) (length xs) e, lt-ltb 0 (length (k ∷ ks)) (omega arith), le-leb (length (k ∷ ks)) nodes h)
