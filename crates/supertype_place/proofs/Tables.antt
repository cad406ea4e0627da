-- A table of the names of fields: how it is filled, and what it tells. Assumes nothing.
use mathlib.Core.Path.{◌≡◌, refl, sym, ap, ap₂, ◌∙◌, subst}
use mathlib.Core.Bool.{Bool, true, false, not, ◌||◌}
use mathlib.Core.List.{List, []}
use mathlib.Core.Logic.{◌⊎◌, inl, inr}
use Rattle.std.specs.Prelude.{Option, None, Some, is_some}
use Rattle.std.proofs.Math.Bool.{Bool-set}
use Rattle.std.proofs.Math.Logic.{∥∥₁_elim}
use Prim.Native.Nat.{ℕ, zero, suc, ◌+◌, ◌-◌, ◌%◌, ◌<◌}
use native.Mathlib.Omega.{arith}
use lib.Dec.{eqb}
use lib.ListN.{length, get_or, set, replicate, length-replicate, length-set}
use lib.Seq.{get_or-set_same, get_or-set_other}
use borrow.Author.Tests.{eqb-true, eqb-false}
use Rattle.flat.specs.Tree.{DataType, Fields, empty, field, append, count, size}
use Rattle.flat.specs.Walk.{type_at}
use Rattle.flat.proofs.Onward.{onward, from_first, from_zero}
use Rattle.flat.proofs.Truths.{impossible, never}
use Rattle.flat.proofs.Walks.{length_from}
use Rattle.supertype_nested.specs.Step.{repeats}
use Rattle.supertype_nested.specs.Union.{named, seen, with_names}
use Rattle.supertype_place.specs.declared.view.FlatField.{FlatField}
use Rattle.supertype_place.specs.declared.view.FlatFields.{FlatFields}
use Rattle.supertype_place.specs.Names.{slots, Table, TableOf, KeptField}
use Rattle.supertype_place.specs.View.{from, type_stands}
use Rattle.supertype_place.specs.Viewed.{viewed, viewed_run, front_of, Gives}
use Rattle.supertype_place.proofs.Finds.{named_yes, named_no, has_no}
use Rattle.supertype_place.proofs.Repeats.{append_named, append_repeats, not_seen}
use Rattle.supertype_place.proofs.Repeats.{once_new, append_append, append_none, count_append}
use Rattle.supertype_place.proofs.Repeats.{front_done, last_none, once_last}
use Rattle.supertype_place.proofs.Squash.{squash_fields}
use Rattle.supertype_place.proofs.Views.{type_front, run_front, run_many}

-- ---- how it is filled

-- an empty table
abbrev no_place : Option ℕ
no_place = None

empties : (n s : ℕ) → get_or (replicate n no_place) s None ≡ None
empties zero s = refl
empties (suc n) zero = refl
empties (suc n) (suc s) = empties n s

some_none : {A : Type 0} {p : ℕ} {o : Option ℕ} → o ≡ Some p → o ≡ None → A
some_none e h = let k = sym e ∙ h in impossible cc

-- no fields yet
pub table_start : {ks xs : List ℕ} {table : List (Option ℕ)} → table ≡ replicate slots None → Table empty ks xs table
unfolding repeats named
table_start {ks} {xs} {table} q =
    let z : (s : ℕ) → get_or table s None ≡ None = λ s. ap (λ (l : List (Option ℕ)). get_or l s None) q ∙ empties
    slots s in
    record {
      size = ap length q ∙ length-replicate {A = Option ℕ} slots None;
      distinct = refl;
      absent = λ name h. refl;
      type = λ s p h. some_none h (z s);
      alone = λ s p h. some_none h (z s);
    }

-- a field more, of a name that none before it has, where one stands
module _ {fs : Fields} {ks xs : List ℕ} {table : List (Option ℕ)} (T : Table fs ks xs table) (here : ℕ)
    (v : type_stands (from (here + 1) ks) (from (here + 1) xs) ≡ true) (new : named (get_or xs here 0) fs ≡ empty) where
  abbrev name : ℕ
  name = get_or xs here 0

  abbrev last : Fields
  last = field name (type_at (from (here + 1) ks) (from (here + 1) xs)) empty

  -- no name is repeated, those that are absent or alone stay so, and the new one is alone
  still_distinct : repeats [] (append fs last) ≡ false
  unfolding repeats seen
  still_distinct =
      append_repeats [] fs last
      ∙ ap₂ (λ (a b : Bool). a || (b || false)) T.distinct (has_no name fs [] new)

  still_absent : (n : ℕ) → (name ≡ n → ⊥) → named n fs ≡ empty → named n (append fs last) ≡ empty
  unfolding named append
  still_absent n d e = append_named n fs last ∙ ap₂ append e (named_no n name _ empty d)

  still_alone : (n : ℕ) (u : DataType) → named n fs ≡ field n u empty → named n (append fs last) ≡ field n u empty
  unfolding named append
  still_alone n u e =
      append_named n fs last
      ∙ ap₂ append e
      (named_no n name _ empty (λ d. let q = sym (ap (λ (i : ℕ). named i fs) d) ∙ new in impossible cc))

  new_alone : named name (append fs last) ≡ last
  unfolding named append
  new_alone = append_named name fs last ∙ ap₂ append new (named_yes name name _ empty refl)

  -- a slot has what it had, or the place of the new field
  abbrev Entry : List (Option ℕ) → ℕ → Type 0
  Entry l s = (get_or l s None ≡ get_or table s None) ⊎ (get_or l s None ≡ Some here)

  -- so it is a table of all, where the name's slot has a place
  grown : (l : List (Option ℕ)) → length l ≡ slots → ((s : ℕ) → Entry l s) → (get_or l (name % slots) None ≡ None → ⊥)
      → Table (append fs last) ks xs l
  grown l n entry full =
      record {
        size = n;
        distinct = still_distinct;
        absent = λ m z. absent_at m z (entry (m % slots));
        type = λ s p h. type_at_slot s p h (entry s);
        alone = λ s p h. alone_at s p h (entry s);
      }
    where
      absent_at : (m : ℕ) → get_or l (m % slots) None ≡ None → Entry l (m % slots) → named m (append fs last) ≡ empty
      absent_at m z (inl e) =
          still_absent m (λ d. full (subst (λ (i : ℕ). get_or l (i % slots) None ≡ None) (sym d) z))
          (T.absent m (sym e ∙ z))
      absent_at m z (inr e) = some_none e z

      place_is : {p : ℕ} {o : Option ℕ} → o ≡ Some p → o ≡ Some here → here ≡ p
      place_is e h = let k = sym h ∙ e in cc

      type_at_slot : (s p : ℕ) → get_or l s None ≡ Some p → Entry l s → type_stands (from (p + 1) ks) (from (p + 1)
          xs) ≡ true
      type_at_slot s p h (inl e) = T.type s p (sym e ∙ h)
      type_at_slot s p h (inr e) =
          subst (λ (p : ℕ). type_stands (from (p + 1) ks) (from (p + 1) xs) ≡ true) (place_is h e) v

      Alone : ℕ → Type 0
      Alone p = named (get_or xs p 0) (append fs last)
          ≡ field (get_or xs p 0) (type_at (from (p + 1) ks) (from (p + 1) xs)) empty

      alone_at : (s p : ℕ) → get_or l s None ≡ Some p → Entry l s → Alone p
      alone_at s p h (inl e) = still_alone _ _ (T.alone s p (sym e ∙ h))
      alone_at s p h (inr e) = subst Alone (place_is h e) new_alone

  -- its slot is taken
  pub table_kept : (get_or table (name % slots) None ≡ None → ⊥) → Table (append fs last) ks xs table
  table_kept = grown table T.size (λ s. inl refl)

  -- its slot is free
  pub table_set : Table (append fs last) ks xs (set table (name % slots) (Some here))
  table_set =
      grown l (length-set table slot (Some here) ∙ T.size) (λ s. at s (eqb s slot) refl)
      (λ z. some_none stored z)
    where
      slot : ℕ
      slot = name % slots

      l : List (Option ℕ)
      l = set table slot (Some here)

      stored : get_or l slot None ≡ Some here
      stored = get_or-set_same table slot (Some here) None (omega (arith, T.size))

      at : (s : ℕ) (b : Bool) → eqb s slot ≡ b → Entry l s
      at s true e = inr (ap (λ (i : ℕ). get_or l i None) (eqb-true s slot e) ∙ stored)
      at s false e = inl (get_or-set_other table slot s (Some here) None (eqb-false s slot e))

-- ---- what is there, and what is not

pub is_nothing : {A : Type 0} (o : Option A) → is_some o ≡ false → o ≡ None
is_nothing None e = refl
is_nothing (Some x) e = never (sym e)

pub is_something : {A : Type 0} (o : Option A) → is_some o ≡ true → o ≡ None → ⊥
is_something o e h = let k = sym (ap is_some h) ∙ e in impossible cc

pub there_is : {A : Type 0} (o : Option A) → true ≡ is_some o → (x : A) × (o ≡ Some x)
there_is None e = never (sym e)
there_is (Some x) e = (x, refl)

-- ---- the loop that fills it

-- The loop over the fields `whole` has come to `rest`: the table is one of the fields before.
pub record Entering (whole rest : FlatFields) (table : List (Option ℕ)) : Type 0 where
  pub done : Fields
  pub parts : viewed_run whole ≡ append done (viewed_run rest)
  pub entered : Table done whole.kinds.now whole.args.now table
  -- where the rest stands
  pub at : ℕ
  pub kinds : rest.kinds.now ≡ from at whole.kinds.now
  pub args : rest.args.now ≡ from at whole.args.now

-- no field is entered yet
pub enter_start : (fs : FlatFields) {table : List (Option ℕ)} → table ≡ replicate slots None → Entering fs fs table
unfolding append
enter_start fs e = record {
  done = empty;
  parts = refl;
  entered = table_start e;
  at = 0;
  kinds = sym (from_zero fs.kinds.now);
  args = sym (from_zero fs.args.now);
}

-- the fields before one, by their number
pub before_is : (whole : FlatFields) (f : FlatField) (rest : FlatFields) {done before : Fields}
    → viewed_run whole ≡ append done (field f.name (viewed f.dtype) (viewed_run rest))
    → before ≡ front_of (whole.left - rest.left - 1) (viewed_run whole) → before ≡ done
unfolding count
before_is whole f rest {done} {before} e h =
    let a = run_many (run_front whole.stand) in
    let b = run_many (run_front rest.stand) in
    let n = ap count e ∙ count_append done (field f.name (viewed f.dtype) (viewed_run rest)) in
    let k : whole.left - rest.left - 1 ≡ count done = omega (arith, a, b, n) in
    h ∙ ap₂ front_of k e ∙ front_done done _

-- whether a name is among them
pub seen_before : (whole : FlatFields) (f : FlatField) (rest : FlatFields) (done : Fields) {before : Fields}
    → viewed_run whole ≡ append done (field f.name (viewed f.dtype) (viewed_run rest))
    → before ≡ front_of (whole.left - rest.left - 1) (viewed_run whole) → {r : Bool}
    → r ≡ seen (with_names before []) f.name → r ≡ seen (with_names done []) f.name
seen_before whole f rest done e b h =
    h ∙ ap (λ (fs : Fields). seen (with_names fs []) f.name) (before_is whole f rest e b)

module _ {whole rest : FlatFields} {table : List (Option ℕ)} (s : Entering whole rest table) where
  -- no name was repeated
  pub enter_end : viewed_run rest ≡ empty
      → (true ≡ not (repeats [] (viewed_run whole))) × Table (viewed_run whole) whole.kinds.now whole.args.now table
  enter_end z =
      let e : viewed_run whole ≡ s.done = s.parts ∙ ap (append s.done) z ∙ append_none s.done in (
        ap not (sym (ap (repeats []) e ∙ s.entered.distinct)),
        subst (λ (fs : Fields). Table fs whole.kinds.now whole.args.now table) (sym e) s.entered,
      )

  module _ {f : FlatField} {new : FlatFields} (g : Gives rest f new) where
    parts_on : viewed_run whole ≡ append s.done (field f.name (viewed f.dtype) (viewed_run new))
    parts_on = s.parts ∙ ap (append s.done) g.fields

    kinds_on : f.dtype.kinds.now ≡ from (s.at + 1) whole.kinds.now
    kinds_on = g.kinds ∙ ap (from 1) s.kinds ∙ onward s.at 1 (s.at + 1) whole.kinds.now refl

    args_on : f.dtype.args.now ≡ from (s.at + 1) whole.args.now
    args_on = g.args ∙ ap (from 1) s.args ∙ onward s.at 1 (s.at + 1) whole.args.now refl

    name_on : f.name ≡ get_or whole.args.now s.at 0
    name_on = g.name ∙ ap (λ (l : List ℕ). get_or l 0 0) s.args ∙ from_first s.at whole.args.now

    -- its nodes are fewer than all
    pub field_shorter : length f.dtype.kinds.now < length whole.kinds.now
    field_shorter =
        let v = type_front f.dtype.stands in
        omega (arith, v.pos, v.kinds, ap length kinds_on, length_from (s.at + 1) whole.kinds.now)

    -- fewer fields stand behind it
    pub enter_left : new.left < whole.left
    unfolding count
    enter_left =
        let a = run_many (run_front whole.stand) in
        let b = run_many (run_front new.stand) in
        omega (arith, a, b, ap count parts_on ∙ count_append s.done (field f.name (viewed f.dtype) (viewed_run new)))

    -- where the field stands
    pub enter_place : length whole.kinds.now - length f.dtype.kinds.now - 1 ≡ s.at
    enter_place =
        let v = type_front f.dtype.stands in
        omega (arith, v.pos, v.kinds, ap length kinds_on, length_from (s.at + 1) whole.kinds.now)

    stands_on : type_stands (from (s.at + 1) whole.kinds.now) (from (s.at + 1) whole.args.now) ≡ true
    stands_on = ap₂ type_stands (sym kinds_on) (sym args_on) ∙ f.dtype.stands

    -- the field is entered
    entered_on : {l : List (Option ℕ)}
        → Table (append s.done (field (get_or whole.args.now s.at 0)
        (type_at (from (s.at + 1) whole.kinds.now) (from (s.at + 1) whole.args.now)) empty)) whole.kinds.now
        whole.args.now l
        → Entering whole new l
    unfolding append
    entered_on T = record {
      done = append s.done (field (get_or whole.args.now s.at 0)
          (type_at (from (s.at + 1) whole.kinds.now) (from (s.at + 1) whole.args.now)) empty);
      parts = parts_on
          ∙ sym (append_append s.done (field f.name (viewed f.dtype) empty) (viewed_run new))
          ∙ ap₂ (λ (n : ℕ) (t : DataType). append (append s.done (field n t empty)) (viewed_run new)) name_on
          (ap₂ type_at kinds_on args_on);
      entered = T;
      at = s.at + 1 + size (viewed f.dtype);
      kinds = g.kinds_behind ∙ ap (from (size (viewed f.dtype))) kinds_on ∙ onward (s.at + 1) _ _ whole.kinds.now refl;
      args = g.args_behind ∙ ap (from (size (viewed f.dtype))) args_on ∙ onward (s.at + 1) _ _ whole.args.now refl;
    }

    -- the name's slot is free
    pub enter_free : {p : ℕ} → get_or table (f.name % slots) None ≡ None
        → p ≡ length whole.kinds.now - length f.dtype.kinds.now - 1
        → Entering whole new (set table (f.name % slots) (Some p))
    enter_free {p} z h =
        let n : s.at ≡ p = sym (h ∙ enter_place) in
        subst (λ (p : ℕ). Entering whole new (set table (f.name % slots) (Some p))) n
        (subst (λ (n : ℕ). Entering whole new (set table (n % slots) (Some s.at))) (sym name_on)
        (entered_on (table_set s.entered s.at stands_on
        (s.entered.absent _ (subst (λ (n : ℕ). get_or table (n % slots) None ≡ None) name_on z)))))

    module _ {before : Fields} (b : before ≡ front_of (whole.left - new.left - 1) (viewed_run whole)) {r : Bool}
        (h : r ≡ seen (with_names before []) f.name) where
      seen_done : r ≡ seen (with_names s.done []) f.name
      seen_done = seen_before whole f new s.done parts_on b h

      -- it is taken, and no field before has the name
      pub enter_taken : (get_or table (f.name % slots) None ≡ None → ⊥) → r ≡ false → Entering whole new table
      enter_taken full n =
          entered_on (table_kept s.entered s.at stands_on
          (subst (λ (n : ℕ). named n s.done ≡ empty) name_on (not_seen f.name s.done [] (sym seen_done ∙ n)))
          (λ z. full (subst (λ (n : ℕ). get_or table (n % slots) None ≡ None) (sym name_on) z)))

      -- a field before has the name
      pub enter_again : r ≡ true → false ≡ not (repeats [] (viewed_run whole))
      enter_again t = go (repeats [] (viewed_run whole)) refl
        where
          go : (b : Bool) → repeats [] (viewed_run whole) ≡ b → false ≡ not b
          go true q = refl
          go false q = never (sym (sym t ∙ seen_done ∙ once_new _ _ _ _ (ap (repeats []) (sym parts_on) ∙ q)))

-- ---- what it tells

module _ (fs : FlatFields) {o : Option (List (Option ℕ))} (t : ∥ TableOf o fs ∥₁) {table : List (Option ℕ)}
    (e : o ≡ Some table) where
  told : ∥ Table (viewed_run fs) fs.kinds.now fs.args.now table ∥₁
  told = rw e at t

  pub told_distinct : repeats [] (viewed_run fs) ≡ false
  told_distinct = ∥∥₁_elim told (Bool-set _ _) (λ T. T.distinct)

  pub told_absent : (name : ℕ) → get_or table (name % slots) None ≡ None → named name (viewed_run fs) ≡ empty
  told_absent name z = squash_fields _ _ told (λ T. T.absent name z)

  pub told_type : (s p : ℕ) → get_or table s None ≡ Some p
      → type_stands (from (p + 1) fs.kinds.now) (from (p + 1) fs.args.now) ≡ true
  told_type s p h = ∥∥₁_elim told (Bool-set _ _) (λ T. T.type s p h)

  pub told_alone : (s p : ℕ) → get_or table s None ≡ Some p
      → named (get_or fs.args.now p 0) (viewed_run fs)
      ≡ field (get_or fs.args.now p 0) (type_at (from (p + 1) fs.kinds.now) (from (p + 1) fs.args.now)) empty
  told_alone s p h = squash_fields _ _ told (λ T. T.alone s p h)

  -- the field of the name, and none behind it
  pub told_field : (s p : ℕ) → get_or table s None ≡ Some p → {name : ℕ} → get_or fs.args.now p 0 ≡ name
      → {none : Fields} → none ≡ front_of 0 (viewed_run fs)
      → named name (viewed_run fs)
      ≡ field name (type_at (from (p + 1) fs.kinds.now) (from (p + 1) fs.args.now)) (named name none)
  unfolding named front_of
  told_field s p h {name} e {none} z =
      let t : DataType = type_at (from (p + 1) fs.kinds.now) (from (p + 1) fs.args.now) in
      subst (λ (n : ℕ). named n (viewed_run fs) ≡ field n t empty) e (told_alone s p h)
      ∙ ap (λ (gs : Fields). field name t (named name gs)) (sym z)

-- a field of a run that repeats no name keeps its type
pub kept_once : {fs : Fields} (f : FlatField) (rest : FlatFields) → repeats [] fs ≡ false → (done : Fields)
    → fs ≡ append done (field f.name (viewed f.dtype) (viewed_run rest)) → KeptField done f (viewed_run rest) f
kept_once {fs} f rest e done h =
    let d = ap (repeats []) (sym h) ∙ e in
    record {
      new = once_new f.name done (viewed f.dtype) (viewed_run rest) d;
      name = refl;
      last = sym (last_none f.name (viewed f.dtype) (viewed_run rest)
          (once_last f.name done (viewed f.dtype) (viewed_run rest) d));
    }
