-- The rule of the channels' types holds. Assumes nothing.
use Rattle.std.specs.Prelude.{Ok, Err}
use Rattle.channels.specs.Merge.{Merged}
use mathlib.Core.Path.{◌≡◌, refl, sym, ap, ◌∙◌}
use mathlib.Core.Bool.{Bool, true, false, cond, not, ◌||◌}
use mathlib.Core.Logic.{◌↔◌}
use mathlib.Core.List.{List, [], ◌∷◌, ◌++◌}
use Prim.Native.Nat.{ℕ, ◌≤◌, ◌<◌}
use native.Mathlib.Omega.{arith}
use native.Mathlib.Decide.{dec_lt}
use lib.Dec.{ltb, eqb}
use lib.ListN.{length, get_or, set, length-set, get_or-eq_default}
use lib.Seq.{get_or-set_same, get_or-set_other, set-get_or}
use borrow.Author.Tests.{ltb-true, lt-ltb, eqb-true, eqb-false}
use Rattle.flat.specs.Kind
use Rattle.flat.specs.Tree.{DataType, head_kind}
use Rattle.flat.specs.Reading.{Reading, refused, type}
use Rattle.flat.specs.declared.error.Error.{Error}
use Rattle.flat.specs.declared.error.Error.TheVariants.{Channel, NoUpcast}
use Rattle.flat.proofs.Truths.{never}
use Rattle.supertype_numbers.specs.Range.{Listed, is_listed, Covers, Room}
use Rattle.supertype_numbers.proofs.Ranges.{has_number, least_one}
use Rattle.channels.specs.declared.ChannelTypes.{ChannelTypes}
use Rattle.channels.specs.declared.Outcome.{Outcome}
use Rattle.channels.specs.Merge.{merge_unless, merged_with, merged_of, codes_after, started, outcome_of}
use Rattle.channels.specs.Model.{Merge, Model, numbered, LeastOrNone, Stands, Feeds}
use Rattle.channels.specs.Rule.{Run, code_at, Tells, accepted, AllMergeable, only, answers_to, is_into}
use Rattle.channels.specs.Rule.{is_null, is_not_null, ChannelRule}
use Rattle.channels.proofs.Arms.{bad_code, null}
use Rattle.channels.proofs.Pages.{null_has_none, covers_numbered, over_all, code_stands}
use Rattle.channels.proofs.Models.{by_model, one_model, pages, all_mergeable, refused_where}

-- ---- what a merge leaves, whatever the codes are

-- a merge into these types has this outcome
abbrev Comes : (channels : ℕ) → ChannelTypes → Merge → Outcome → Type 0
Comes channels s m o = o ≡ outcome_of channels s m.channel m.column

module _ (codes : List ℕ) (channel : ℕ) where
  -- there are as many codes as before, and those of the other channels are as they were
  after_length : (a : Merged) → length (codes_after codes channel a) ≡ length codes
  after_length (Ok c) = length-set codes channel c
  after_length (Err e) = refl

  after_other : (a : Merged) (ch : ℕ) → (ch ≡ channel → ⊥) → get_or (codes_after codes channel a) ch 0 ≡ get_or codes ch 0
  after_other (Ok c) ch n = get_or-set_other codes channel ch c 0 n
  after_other (Err e) ch n = refl

-- the channel's own code after an answer, where it held this one before
abbrev code_after : ℕ → Merged → ℕ
code_after held (Ok c) = c
code_after held (Err e) = held

module _ (channels : ℕ) where
  after_own : (codes : List ℕ) (channel : ℕ) (column : Reading) → length codes ≡ channels
      → get_or (codes_after codes channel (merged_of channels codes channel column)) channel 0
      ≡ code_after (get_or codes channel 0) (merged_of channels codes channel column)
  unfolding merged_of
  after_own codes channel (refused e) n = refl
  after_own codes channel (type t) n = go (ltb channel channels) refl (merged_with (get_or codes channel 0) (head_kind t))
    where
      go : (x : Bool) → ltb channel channels ≡ x → (a : Merged)
          → get_or (codes_after codes channel (merge_unless x Channel a)) channel 0
          ≡ code_after (get_or codes channel 0) (merge_unless x Channel a)
      go false e a = refl
      go true e (Ok c) = get_or-set_same codes channel c 0 (rw n (ltb-true channel channels e))
      go true e (Err x) = refl

  -- the answer rests on the channel's own code
  same_answer_lem : (x y : List ℕ) (channel : ℕ) (column : Reading) → get_or x channel 0 ≡ get_or y channel 0
      → merged_of channels x channel column ≡ merged_of channels y channel column
  unfolding merged_of
  same_answer_lem x y channel (refused e) h = refl
  same_answer_lem x y channel (type t) h = rw h

-- what a merge leaves, by its outcome
module _ (channels : ℕ) (s : ChannelTypes) (m : Merge) {o : Outcome} (h : Comes channels s m o) where
  keeps_length : length o.types.codes ≡ length s.codes
  unfolding outcome_of
  keeps_length = rw h (after_length s.codes m.channel (merged_of channels s.codes m.channel m.column))

  keeps_other : (ch : ℕ) → (ch ≡ m.channel → ⊥) → code_at o.types ch ≡ code_at s ch
  unfolding outcome_of
  keeps_other ch n =
      rw h (after_other s.codes m.channel (merged_of channels s.codes m.channel m.column) ch n)

  own_code : length s.codes ≡ channels
      → code_at o.types m.channel ≡ code_after (code_at s m.channel) o.answer
  unfolding outcome_of
  own_code n = rw h (after_own channels s.codes m.channel m.column n)

-- the channel's own code after one answer, of codes of one length that agree there
after_same : (x y : List ℕ) (ch : ℕ) (a : Merged) → length x ≡ length y → get_or x ch 0 ≡ get_or y ch 0
    → get_or (codes_after x ch a) ch 0 ≡ get_or (codes_after y ch a) ch 0
after_same x y ch (Err e) n h = h
after_same x y ch (Ok c) n h = go (dec_lt ch (length x))
  where
    past : (z : List ℕ) → length z ≤ ch → get_or (set z ch c) ch 0 ≡ 0
    past z l = get_or-eq_default (set z ch c) 0 {n = ch} (rw (length-set z ch c) l)

    go : Dec (ch < length x) → get_or (set x ch c) ch 0 ≡ get_or (set y ch c) ch 0
    go (yes l) = get_or-set_same x ch c 0 l ∙ sym (get_or-set_same y ch c 0 (omega arith))
    go (no l) = past x (omega arith) ∙ sym (past y (omega arith))

-- one merge into two types, which have the same code at its channel
same_merge : (channels : ℕ) (s t : ChannelTypes) (m : Merge) {o p : Outcome} → Comes channels s m o
    → Comes channels t m p → length s.codes ≡ length t.codes → code_at s m.channel ≡ code_at t m.channel
    → (code_at o.types m.channel ≡ code_at p.types m.channel) × (o.answer ≡ p.answer)
unfolding outcome_of
same_merge channels s t m h g n e =
    let a = same_answer_lem channels s.codes t.codes m.channel m.column e in
    rw (h, g, a)
    (after_same s.codes t.codes m.channel (merged_of channels t.codes m.channel m.column) n e, refl)

-- an answer is the code after it
tells : (held : ℕ) (a : Merged) {code : ℕ} → code ≡ code_after held a → Tells a code
tells held (Ok c) e = sym e
tells held (Err x) e = tt

-- ---- lists of merges, from any codes

module _ {channels : ℕ} where
  -- every list has a run
  run_of : (s₀ : ChannelTypes) (ms : List Merge) → (xs : List Merged) × (s : ChannelTypes) × Run channels s₀ ms xs s
  run_of s₀ [] = ([], s₀, Run.none)
  run_of s₀ (m ∷ ms) =
      let r = run_of s₀ ms in
      let o = outcome_of channels r.1 m.channel m.column in
      (o.answer ∷ r.0, o.types, Run.next {o = o} r.2 refl)

  run_length : {s₀ : ChannelTypes} {ms : List Merge} {xs : List Merged} {s : ChannelTypes} → Run channels s₀ ms xs s
      → length s.codes ≡ length s₀.codes
  run_length Run.none = refl
  run_length (Run.next {s = s} {m = m} r h) = keeps_length channels s m h ∙ run_length r

  -- what was merged before is a run too
  before : (later ms : List Merge) {xs : List Merged} {s₀ s : ChannelTypes} → Run channels s₀ (later ++ ms) xs s
      → (ys zs : List Merged) × (t : ChannelTypes) × Run channels s₀ ms zs t × (xs ≡ ys ++ zs)
  before [] ms {xs} {s₀} {s} r = ([], xs, s, r, refl)
  before (m ∷ later) ms (Run.next {o = o} r h) =
      let e = before later ms r in (o.answer ∷ e.0, e.1, e.2, e.3, ap (o.answer ∷◌) e.4)

  answers : {ms : List Merge} {xs : List Merged} {s₀ s : ChannelTypes} {m : Merge} {a : Merged}
      → length s₀.codes ≡ channels → Run channels s₀ (m ∷ ms) (a ∷ xs) s → Tells a (code_at s m.channel)
  answers n (Run.next {s = s} {m = m} {o = o} r h) =
      tells (code_at s m.channel) o.answer (own_code channels s m h (run_length r ∙ n))

-- A list, and the merges of it that pass a test. What two types have in common at the start, they have in common at the
-- end, where a merge that doesn't pass leaves it to the first, and one that passes leaves it and has one answer.
module _ (channels : ℕ) (test : Merge → Bool) (Same : ChannelTypes → ChannelTypes → Type 0)
    (left_out : (s t : ChannelTypes) (m : Merge) (o : Outcome) → test m ≡ false → Same s t → Comes channels s m o
    → Same o.types t)
    (in_both : (s t : ChannelTypes) (m : Merge) (o p : Outcome) → test m ≡ true → Same s t → Comes channels s m o
    → Comes channels t m p → Same o.types p.types × (o.answer ≡ p.answer)) where
  passing : {s₀ : ChannelTypes} {ms : List Merge} {xs ys : List Merged} {s t : ChannelTypes} → Same s₀ s₀
      → Run channels s₀ ms xs s → Run channels s₀ (only test ms) ys t → Same s t × (answers_to test ms xs ≡ ys)
  passing i Run.none Run.none = (i, refl)
  passing {s₀ = s₀} i (Run.next {ms = ms} {xs = xs} {s = s} {m = m} {o = o} r h) q =
      go (test m) refl (λ zs u p. passing i r p) q
    where
      go : {ys : List Merged} {t : ChannelTypes} (a : Bool) → test m ≡ a
          → ((zs : List Merged) (u : ChannelTypes) → Run channels s₀ (only test ms) zs u
          → Same s u × (answers_to test ms xs ≡ zs)) → Run channels s₀ (cond a (m ∷ only test ms) (only test ms)) ys t
          → Same o.types t × (cond a (o.answer ∷ answers_to test ms xs) (answers_to test ms xs) ≡ ys)
      go true e rest (Run.next {xs = zs} {s = u} {o = p} r' h') =
          let b = rest zs u r' in let a = in_both s u m o p e b.0 h h' in (a.0, cc)
      go {ys} {t} false e rest r' = let b = rest ys t r' in (left_out s t m o e b.0 h, b.1)

-- the codes are as many, and the channel's own is the same
abbrev SameAt : ℕ → ChannelTypes → ChannelTypes → Type 0
SameAt ch s t = (length s.codes ≡ length t.codes) × (code_at s ch ≡ code_at t ch)

-- Null leaves all codes, whatever they are: it is refused, or the code held is written again
null_leaves : (channels : ℕ) (codes : List ℕ) (channel : ℕ) (column : Reading) → not (is_null column) ≡ false
    → codes_after codes channel (merged_of channels codes channel column) ≡ codes
unfolding merged_of
null_leaves channels codes channel (refused x) e = never (sym e)
null_leaves channels codes channel (type t) e =
    go (ltb channel channels) (eqb (head_kind t) Kind.Null) (eqb held 0 || is_listed held) refl refl e
  where
    held : ℕ
    held = get_or codes channel 0

    go : (x y z : Bool) → eqb (head_kind t) Kind.Null ≡ y → eqb held 0 || is_listed held ≡ z → not y ≡ false
        → codes_after codes channel (merge_unless x Channel (merged_with held (head_kind t))) ≡ codes
    go x false z f g e = never (sym e)
    go false true z f g e = refl
    go true true false f g e = rw (← bad_code held (head_kind t) g) refl
    go true true true f g e =
        rw (← null held (head_kind t) g (eqb-true (head_kind t) Kind.Null f)) (set-get_or codes channel 0)

module _ {channels : ℕ} where
  alone : (ch : ℕ) {ms : List Merge} {xs ys : List Merged} {s₀ s t : ChannelTypes} → Run channels s₀ ms xs s
      → Run channels s₀ (only (is_into ch) ms) ys t
      → (code_at s ch ≡ code_at t ch) × (answers_to (is_into ch) ms xs ≡ ys)
  alone ch r q = let g = passing channels (is_into ch) (SameAt ch) left_out in_both (refl, refl) r q in (g.0.1, g.1)
    where
      left_out : (s t : ChannelTypes) (m : Merge) (o : Outcome) → is_into ch m ≡ false → SameAt ch s t
          → Comes channels s m o → SameAt ch o.types t
      left_out s t m o e i h =
          let other = keeps_other channels s m h ch (λ d. eqb-false m.channel ch e (sym d)) in
          (keeps_length channels s m h ∙ i.0, other ∙ i.1)

      in_both : (s t : ChannelTypes) (m : Merge) (o p : Outcome) → is_into ch m ≡ true → SameAt ch s t
          → Comes channels s m o → Comes channels t m p → SameAt ch o.types p.types × (o.answer ≡ p.answer)
      in_both s t m o p e i h g =
          let d : m.channel ≡ ch = eqb-true m.channel ch e in
          let a = same_merge channels s t m h g i.0 (rw d i.1) in
          ((keeps_length channels s m h ∙ i.0 ∙ sym (keeps_length channels t m g), rw d at a.0), a.1)

  without_nulls : {ms : List Merge} {xs ys : List Merged} {s₀ s t : ChannelTypes} → Run channels s₀ ms xs s
      → Run channels s₀ (only is_not_null ms) ys t → (s ≡ t) × (answers_to is_not_null ms xs ≡ ys)
  unfolding outcome_of
  without_nulls = passing channels is_not_null (λ s t. s ≡ t) left_out in_both refl
    where
      left_out : (s t : ChannelTypes) (m : Merge) (o : Outcome) → is_not_null m ≡ false → s ≡ t → Comes channels s m o
          → o.types ≡ t
      left_out s t m o e i h =
          let kept = null_leaves channels s.codes m.channel m.column e in
          rw h (ap (λ (codes : List ℕ). record { codes = codes }) kept ∙ i)

      in_both : (s t : ChannelTypes) (m : Merge) (o p : Outcome) → is_not_null m ≡ true → s ≡ t → Comes channels s m o
          → Comes channels t m p → (o.types ≡ p.types) × (o.answer ≡ p.answer)
      in_both s t m o p e i h g = let a : o ≡ p = cc in rw a (refl, refl)

-- ---- lists of merges, from types started empty

-- where a channel stands, it covers its page
covers_where : (ks : List ℕ) (c : ℕ) → Stands ks c → Covers c ks
covers_where ks c s = (covers_numbered c ks).0 (go (numbered ks) s)
  where
    go : (ns : List ℕ) → LeastOrNone ns c → Covers c ns
    go [] s = tt
    go (n ∷ ns) s = s.covers

module _ {channels : ℕ} where
  holds : {ms : List Merge} {xs : List Merged} {s : ChannelTypes} → Run channels (started channels) ms xs s → (ch : ℕ)
      → ch < channels → Stands (accepted ch ms xs) (code_at s ch)
  holds r ch l = let g = by_model r in rw (pages g.1 ch) at (g.2.stands ch l)

  keeps : {ms : List Merge} {xs : List Merged} {s : ChannelTypes} → Run channels (started channels) ms xs s → (ch : ℕ)
      → ch < channels → AllMergeable (accepted ch ms xs) × Covers (code_at s ch) (accepted ch ms xs)
  keeps {ms} {xs} {s} r ch l =
      let f = (by_model r).1 in
      (rw (pages f ch) at (all_mergeable f ch), covers_where (accepted ch ms xs) (code_at s ch) (holds r ch l))

  -- every code of a run is 0 or listed, so that Null meets no refusal
  silent : {ms : List Merge} {xs : List Merged} {s : ChannelTypes} {m : Merge} {o : Outcome} {t : DataType}
      → Run channels (started channels) ms xs s → Comes channels s m o → m.column ≡ type t → head_kind t ≡ Kind.Null
      → m.channel < channels
      → o ≡ record { types = s; answer = Ok (code_at s m.channel) }
  unfolding outcome_of merged_of
  silent {s = s} {m = m} {t = t} r h q z l =
      let g = (by_model r).2 in
      let held = code_at s m.channel in
      let code = code_stands held (numbered ((by_model r).0 m.channel)) (g.stands m.channel l) in
      h ∙ rw (
        q,
        lt-ltb m.channel channels l,
        ← null held (head_kind t) code z,
        set-get_or s.codes m.channel 0,
      ) refl

  refused_when : {ms : List Merge} {xs : List Merged} {m : Merge} {a : Merged} {t : DataType} {b : Model}
      → Feeds channels (m ∷ ms) (a ∷ xs) b
      → m.column ≡ type t → Listed (head_kind t) → m.channel < channels
      → ((a ≡ Err NoUpcast) ↔ ¬ Room (head_kind t ∷ accepted m.channel ms xs))
      × ((e : Error) → a ≡ Err e → e ≡ NoUpcast)
  refused_when {m = m} (Feeds.next f e) q i l = rw (← pages f m.channel) (refused_where (rw q at e) l i)

pub channel_rule : (channels : ℕ) → ChannelRule channels
channel_rule channels = record {
  runs = run_of;
  before = before;
  by_the_model = λ r. let g = by_model r in (g.0, g.1, g.2.size, g.2.stands);
  one_model = one_model;
  keeps = keeps;
  holds = holds;
  the_one = least_one;
  has_number = has_number;
  null_has_none = null_has_none;
  over_all = over_all;
  silent = silent;
  without_nulls = without_nulls;
  refused_when = λ r. refused_when (by_model r).1;
  answers = answers;
  alone = alone;
}
