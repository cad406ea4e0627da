-- The walk over the fields of two Structs: a record for each of its places, of what is known there, and a law for each
-- of its answers. Its loop keeps to one equation: the answer for all fields is that for those left, moved on by what
-- lies before them on either side. Assumes nothing.
use mathlib.Core.Path.{◌≡◌, refl, sym, ap, ap₂, ◌∙◌}
use mathlib.Core.Bool.{Bool, true, false}
use Rattle.std.specs.Prelude.{Option, None, Some, Ok, Err}
use mathlib.Core.List.{List}
use Prim.Native.Nat.{ℕ, suc, ◌+◌, ◌-◌, ◌^◌, ◌≤◌, ◌<◌}
use native.Mathlib.Omega.{arith}
use lib.ListN.{length}
use Rattle.flat.specs.Tree.{DataType, Fields, field, size, sizes}
use Rattle.flat.specs.Walk.{Valid, ValidRun, type_at}
use Rattle.flat.proofs.Walks.{from, length_from, shorter, run_end}
use Rattle.flat.proofs.Onward.{from_zero, next_valid, next_run, next_field}
use Rattle.dtype_cast.specs.Cast.{and_then, can_cast_to, fields_cast}
use Rattle.dtype_cast.specs.Walk.{Cast, cast_with, cast_answer, fields_answer}
use Rattle.dtype_cast.specs.declared.walk.NotYes.{NotYes}
use Rattle.dtype_cast.proofs.Pairs.{Called, cast_at, fields_cast_at, cast_after, same_yes, yes_sizes}

-- the answer for the first field's types, then for the others
abbrev after_first : Cast → Cast → Cast
after_first (Ok p) others = cast_after (1 + p.0) (1 + p.1) others
after_first (Err d) others = Err d

first_field_lem : (name other : ℕ) (t u : DataType) (fs gs : Fields)
    → fields_answer (field name t fs) (field other u gs) ≡ after_first (cast_answer t u) (fields_answer fs gs)
unfolding fields_answer cast_answer can_cast_to size
first_field_lem name other t u fs gs = go (can_cast_to t u) (fields_cast fs gs)
  where
    go : (c d : Option Bool)
        → cast_with (and_then c d) (suc (size t + sizes fs)) (suc (size u + sizes gs))
        ≡ after_first (cast_with c (size t) (size u)) (cast_with d (sizes fs) (sizes gs))
    go None d = refl
    go (Some false) d = refl
    go (Some true) None = refl
    go (Some true) (Some false) = refl
    go (Some true) (Some true) = same_yes (omega arith) (omega arith)

-- The answer on the types of the next field, and on the fields from i on and from j on.
abbrev next_cast_at : List ℕ → List ℕ → List ℕ → List ℕ → ℕ → ℕ → Cast
next_cast_at ks xs ls ys i j = cast_at (from (i + 1) ks) (from (i + 1) xs) (from (j + 1) ls) (from (j + 1) ys)

abbrev rest_cast_at : ℕ → List ℕ → List ℕ → List ℕ → List ℕ → ℕ → ℕ → Cast
rest_cast_at left ks xs ls ys i j = fields_cast_at left (from i ks) (from i xs) (from j ls) (from j ys)

-- ---- the places of the walk
-- Of m fields all but `left` are done, up to i on one side and up to j on the other. The orders follow from the rest,
-- and stand here for the arithmetic.
pub record FieldsAlong (m : ℕ) (ks xs ls ys : List ℕ) (i j left : ℕ) : Type 0 where
  pub one : ValidRun left (from i ks) (from i xs)
  pub other : ValidRun left (from j ls) (from j ys)
  pub within : i + left ≤ length ks
  pub within_other : j + left ≤ length ls
  pub goes_on : fields_cast_at m ks xs ls ys ≡ cast_after i j (rest_cast_at left ks xs ls ys i j)

-- A field is left.
pub record FieldAhead (t m : ℕ) (ks xs ls ys : List ℕ) (i j left : ℕ) : Type 0 where
  pub called : Called t ks ls
  pub along : FieldsAlong m ks xs ls ys i j left
  pub more : 0 < left

-- The types of the next field, of n and o nodes, have yes.
pub record FieldYes (t m : ℕ) (ks xs ls ys : List ℕ) (i j left n o : ℕ) : Type 0 where
  pub ahead : FieldAhead t m ks xs ls ys i j left
  pub yes : Ok (n, o) ≡ next_cast_at ks xs ls ys i j

not_moved : (c : Cast) → c ≡ cast_after 0 0 c
not_moved (Ok p) = same_yes (omega arith) (omega arith)
not_moved (Err d) = refl

moved : (i j n m : ℕ) (c : Cast) → cast_after i j (cast_after (1 + n) (1 + m) c) ≡ cast_after (i + 1 + n) (j + 1 + m) c
moved i j n m (Ok p) = same_yes (omega arith) (omega arith)
moved i j n m (Err d) = refl

-- ---- the laws: one for each answer
pub start : {m : ℕ} {ks xs ls ys : List ℕ} → ValidRun m ks xs → ValidRun m ls ys → FieldsAlong m ks xs ls ys 0 0 m
start {m} {ks} {xs} {ls} {ys} v w = record {
  one = rw (from_zero ks, from_zero xs) v;
  other = rw (from_zero ls, from_zero ys) w;
  within = omega (arith, v.pos, v.within);
  within_other = omega (arith, w.pos, w.within);
  goes_on = rw (from_zero ks, from_zero xs, from_zero ls, from_zero ys) (not_moved (fields_cast_at m ks xs ls ys));
}

pub fields_done : {m : ℕ} {ks xs ls ys : List ℕ} {i j left : ℕ} → FieldsAlong m ks xs ls ys i j left → left ≡ 0
    → Ok (i, j) ≡ fields_cast_at m ks xs ls ys
unfolding fields_answer can_cast_to size
fields_done {m} {ks} {xs} {ls} {ys} {i} {j} {left} al z =
    let one = run_end left (from i ks) (from i xs) z in
    let other = run_end left (from j ls) (from j ys) z in
    sym (al.goes_on ∙ ap (cast_after i j) (ap₂ fields_answer one other) ∙ same_yes (omega arith) (omega arith))

module _ {t m : ℕ} {ks xs ls ys : List ℕ} {i j left : ℕ} (a : FieldAhead t m ks xs ls ys i j left) where
  some_left : left ≡ 0 → ⊥
  some_left e = absurd (omega (arith, a.more))

  -- the types of the next field may be walked
  next_types : Valid (from (i + 1) ks) (from (i + 1) xs) × Valid (from (j + 1) ls) (from (j + 1) ys)
  next_types = (next_valid left i ks xs a.along.one some_left, next_valid left j ls ys a.along.other some_left)

  pub next_call : (length (from (i + 1) ks) < t)
      × (Valid (from (i + 1) ks) (from (i + 1) xs) × Valid (from (j + 1) ls) (from (j + 1) ys))
  next_call = (shorter ks i t a.called.measure (omega (arith, a.along.within, a.more)), next_types)

  -- the answer from here on, by the answer for the next field's types
  ahead : (r : Cast) → r ≡ next_cast_at ks xs ls ys i j
      → (n o : ℕ)
      → n ≡ size (type_at (from (i + 1) ks) (from (i + 1) xs))
      → o ≡ size (type_at (from (j + 1) ls) (from (j + 1) ys))
      → fields_cast_at m ks xs ls ys
      ≡ cast_after i j (after_first r (rest_cast_at (left - 1) ks xs ls ys (i + 1 + n) (j + 1 + o)))
  ahead r e n o f g =
      let al = a.along in
      let one = next_field left i ks xs al.one some_left n f in
      let other = next_field left j ls ys al.other some_left o g in
      al.goes_on
      ∙ ap (cast_after i j)
      (ap₂ fields_answer one other ∙ first_field_lem _ _ _ _ _ _
      ∙ ap (λ (z : Cast). after_first z (rest_cast_at (left - 1) ks xs ls ys (i + 1 + n) (j + 1 + o))) (sym e))

  pub field_no : {d : NotYes} → Err d ≡ next_cast_at ks xs ls ys i j → Err d ≡ fields_cast_at m ks xs ls ys
  field_no {d} e = sym (ahead (Err d) e _ _ refl refl)

module _ {t m : ℕ} {ks xs ls ys : List ℕ} {i j left n o : ℕ} (s : FieldYes t m ks xs ls ys i j left n o) where
  counts : (n ≡ size (type_at (from (i + 1) ks) (from (i + 1) xs)))
      × (o ≡ size (type_at (from (j + 1) ls) (from (j + 1) ys)))
  unfolding cast_answer
  counts =
      let t : DataType = type_at (from (i + 1) ks) (from (i + 1) xs) in
      let u : DataType = type_at (from (j + 1) ls) (from (j + 1) ys) in
      yes_sizes (can_cast_to t u) (size t) (size u) s.yes

  ends : (i + 1 + n ≤ length ks) × (j + 1 + o ≤ length ls)
  ends =
      let al = s.ahead.along in
      let v = next_types s.ahead in (
        omega (arith, al.within, counts.0, v.0.within, length_from (i + 1) ks),
        omega (arith, al.within_other, counts.1, v.1.within, length_from (j + 1) ls),
      )

  pub field_ends : (i + 1 + n ≤ 2 ^ 63) × (j + 1 + o ≤ 2 ^ 63)
  field_ends = let c = s.ahead.called in (omega (arith, ends.0, c.short), omega (arith, ends.1, c.short_right))

  pub field_done : FieldsAlong m ks xs ls ys (i + 1 + n) (j + 1 + o) (left - 1)
  field_done =
      let a = s.ahead in
      let v = next_run left i ks xs a.along.one (some_left a) n counts.0 in
      let w = next_run left j ls ys a.along.other (some_left a) o counts.1 in
      record {
        one = v;
        other = w;
        within = omega (arith, ends.0, v.pos, v.within, length_from (i + 1 + n) ks);
        within_other = omega (arith, ends.1, w.pos, w.within, length_from (j + 1 + o) ls);
        goes_on = ahead a (Ok (n, o)) s.yes n o counts.0 counts.1
            ∙ moved i j n o (rest_cast_at (left - 1) ks xs ls ys (i + 1 + n) (j + 1 + o));
      }
