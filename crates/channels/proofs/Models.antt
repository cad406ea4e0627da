-- The codes and the model: every merge has the model's answer and leaves each code where its channel stands; there is
-- one model, and its pages are the types accepted. Assumes nothing.
use Rattle.std.specs.Prelude.{Ok, Err}
use Rattle.channels.specs.Merge.{Merged}
use mathlib.Core.Path.{◌≡◌, refl, sym, ap, ◌∙◌}
use mathlib.Core.Bool.{Bool, true, false, cond}
use mathlib.Core.Logic.{◌↔◌, inl}
use mathlib.Core.List.{List, [], ◌∷◌}
use Prim.Native.Nat.{ℕ, ◌<◌}
use native.Mathlib.Omega.{arith}
use native.Mathlib.Decide.{ℕ_discrete}
use lib.Dec.{ltb, eqb}
use lib.ListN.{length, get_or, set, length-set, length-replicate, get_or-replicate}
use lib.Seq.{get_or-set_same, get_or-set_other}
use borrow.Author.Tests.{ltb-true, ltb-false, eq-eqb, ne_eqb}
use Rattle.flat.specs.Tree.{DataType, head_kind}
use Rattle.flat.specs.Reading.{Reading, refused, type}
use Rattle.flat.specs.declared.error.Error.{Error}
use Rattle.flat.specs.declared.error.Error.TheVariants.{Channel, NoUpcast}
use Rattle.flat.proofs.Truths.{impossible}
use Rattle.supertype_numbers.specs.Range.{Listed, Room}
use Rattle.supertype_numbers.proofs.Ranges.{least_one}
use Rattle.channels.specs.declared.ChannelTypes.{ChannelTypes}
use Rattle.channels.specs.Merge.{merge_unless, merged_with, merged_of, codes_after, started, outcome_of}
use Rattle.channels.specs.Model.{Merge, Model, blank, page_with, numbered, LeastOrNone, Stands, Enters}
use Rattle.channels.specs.Model.{not_a_type, no_channel, not_integer, accepted, no_room, Feeds}
use Rattle.channels.specs.Rule
use Rattle.channels.specs.Rule.{Run, with_column, AllMergeable}
use Rattle.channels.proofs.Pages.{Answered, answered}

-- the codes follow the model: one for each channel, and each where its channel stands
pub record Follow (channels : ℕ) (b : Model) (codes : List ℕ) : Type 0 where
  pub size : length codes ≡ channels
  pub stands : (ch : ℕ) → ch < channels → Stands (b ch) (get_or codes ch 0)

-- ---- a merge

-- the model is fed a column with this answer, and these codes follow it then
abbrev Step : (channels : ℕ) → Model → ℕ → Reading → Merged → List ℕ → Type 0
Step channels b channel column a codes = (b' : Model) × Enters channels b channel column a b' × Follow channels b' codes

module _ {channels : ℕ} {b : Model} {codes : List ℕ} (g : Follow channels b codes) (channel : ℕ) where
  -- an accepted type joins its channel's page, and the other channels stand where they stood
  joined : (k c : ℕ) → channel < channels → Stands (k ∷ b channel) c
      → Follow channels (page_with b channel k) (set codes channel c)
  joined k c l s =
      record { size = length-set codes channel c ∙ g.size; stands = λ i h. go i h (ℕ_discrete channel i) }
    where
      go : (i : ℕ) → i < channels → Dec (channel ≡ i) → Stands (page_with b channel k i) (get_or (set codes channel c) i 0)
      go i h (yes e) = rw (eq-eqb channel i e, ← e, get_or-set_same codes channel c 0 (rw g.size l)) s
      go i h (no n) = rw (ne_eqb channel i n, get_or-set_other codes channel i c 0 (λ e. n (sym e))) (g.stands i h)

  -- what the page calls for is what the model does
  on_page : (t : DataType) {a : Merged} → channel < channels → Answered (b channel) (head_kind t) a
      → Step channels b channel (type t) a (codes_after codes channel a)
  on_page t l (Answered.not_integer n) = (b, not_integer l n, g)
  on_page t l (Answered.accepted {c = c} i r s) =
      (page_with b channel (head_kind t), accepted l i r s, joined (head_kind t) c l s)
  on_page t l (Answered.no_room i n) = (b, no_room l i n, g)

  step : (column : Reading)
      → Step channels b channel column (merged_of channels codes channel column)
      (codes_after codes channel (merged_of channels codes channel column))
  unfolding merged_of
  step (refused e) = (b, not_a_type, g)
  step (type t) = go (ltb channel channels) refl
    where
      go : (x : Bool) → ltb channel channels ≡ x
          → (let a = merge_unless x Channel (merged_with (get_or codes channel 0) (head_kind t)) in
          Step channels b channel (type t) a (codes_after codes channel a))
      go false e = (b, no_channel (ltb-false channel channels e), g)
      go true e =
          let l = ltb-true channel channels e in
          on_page t l (answered (b channel) (head_kind t) (get_or codes channel 0) (g.stands channel l))

-- ---- the answer to a column, and what it does to the model

-- a page stands at one code
stands_one : (page : List ℕ) {c d : ℕ} → Stands page c → Stands page d → c ≡ d
stands_one page {c} {d} = go (numbered page)
  where
    go : (ks : List ℕ) → LeastOrNone ks c → LeastOrNone ks d → c ≡ d
    go [] p q = p ∙ sym q
    go (k ∷ ks) p q = least_one p q

-- there is one answer
one_answer : {channels : ℕ} {b : Model} {channel : ℕ} {column : Reading} {a₁ : Merged} {b₁ : Model}
    → Enters channels b channel column a₁ b₁ → {a₂ : Merged} {b₂ : Model} → Enters channels b channel column a₂ b₂
    → a₁ ≡ a₂
one_answer not_a_type not_a_type = refl
one_answer (no_channel h) (no_channel h') = refl
one_answer (no_channel h) (not_integer l n) = absurd (omega arith)
one_answer (no_channel h) (accepted l i r m) = absurd (omega arith)
one_answer (no_channel h) (no_room l i n) = absurd (omega arith)
one_answer (not_integer l n) (no_channel h) = absurd (omega arith)
one_answer (not_integer l n) (not_integer l' n') = refl
one_answer (not_integer l n) (accepted l' i r m) = absurd (n i)
one_answer (not_integer l n) (no_room l' i n') = absurd (n i)
one_answer (accepted l i r m) (no_channel h) = absurd (omega arith)
one_answer (accepted l i r m) (not_integer l' n) = absurd (n i)
one_answer {b = b} {channel = channel} (accepted {t = t} l i r m) (accepted l' i' r' m') =
    ap Ok (stands_one (head_kind t ∷ b channel) m m')
one_answer (accepted l i r m) (no_room l' i' n) = absurd (n r)
one_answer (no_room l i n) (no_channel h) = absurd (omega arith)
one_answer (no_room l i n) (not_integer l' n') = absurd (n' i)
one_answer (no_room l i n) (accepted l' i' r m) = absurd (n r)
one_answer (no_room l i n) (no_room l' i' n') = refl

-- the answer settles the model afterwards
abbrev model_after : Model → ℕ → Reading → Merged → Model
model_after b channel column (Ok c) = λ i. cond (eqb channel i) (with_column column (b i)) (b i)
model_after b channel column (Err e) = b

enters_after : {channels : ℕ} {b : Model} {channel : ℕ} {column : Reading} {a : Merged} {b' : Model}
    → Enters channels b channel column a b' → b' ≡ model_after b channel column a
enters_after not_a_type = refl
enters_after (no_channel h) = refl
enters_after (not_integer l n) = refl
enters_after (accepted l i r m) = refl
enters_after (no_room l i n) = refl

-- the types on a page are listed or Null
enters_mergeable : {channels : ℕ} {b : Model} {channel : ℕ} {column : Reading} {a : Merged} {b' : Model}
    → Enters channels b channel column a b' → (ch : ℕ) → AllMergeable (b ch) → AllMergeable (b' ch)
enters_mergeable not_a_type ch h = h
enters_mergeable (no_channel l) ch h = h
enters_mergeable (not_integer l n) ch h = h
enters_mergeable {b = b} {channel = channel} (accepted {t = t} l i r m) ch h = go (eqb channel ch)
  where
    go : (x : Bool) → AllMergeable (cond x (head_kind t ∷ b ch) (b ch))
    go true = (i, h)
    go false = h
enters_mergeable (no_room l i n) ch h = h

-- a listed type for one of the channels is refused exactly where there is no room, and by 12 alone
pub refused_where : {channels : ℕ} {b : Model} {channel : ℕ} {t : DataType} {a : Merged} {b' : Model}
    → Enters channels b channel (type t) a b' → channel < channels → Listed (head_kind t)
    → ((a ≡ Err NoUpcast) ↔ (Room (head_kind t ∷ b channel) → ⊥)) × ((e : Error) → a ≡ Err e → e ≡ NoUpcast)
refused_where (no_channel h) l i = absurd (omega arith)
refused_where (not_integer l' n) l i = absurd (n (inl i))
refused_where (accepted l' i' r m) l i = (((λ x. impossible cc), (λ n. absurd (n r))), λ e x. impossible cc)
refused_where (no_room l' i' n) l i = (((λ x. n), (λ n'. refl)), λ e x. cc)

-- ---- a list of merges

module _ {channels : ℕ} where
  -- the model that is fed the merges of a run gives its answers, and the codes follow it
  pub by_model : {ms : List Merge} {xs : List Merged} {s : ChannelTypes} → Run channels (started channels) ms xs s
      → (b : Model) × Feeds channels ms xs b × Follow channels b s.codes
  unfolding outcome_of
  by_model Run.none =
      (blank, Feeds.none, record { size = length-replicate channels 0; stands = λ ch l. get_or-replicate channels ch 0 0 l })
  by_model (Run.next {m = m} {o = o} r h) =
      let f = by_model r in
      let e : Step channels f.0 m.channel m.column o.answer o.types.codes = rw h
      (step f.2 m.channel m.column) in
      (e.0, Feeds.next f.1 e.1, e.2)

  -- the merges settle the answers and the model
  pub one_model : {ms : List Merge} {xs ys : List Merged} {b b' : Model} → Feeds channels ms xs b
      → Feeds channels ms ys b' → (xs ≡ ys) × (b ≡ b')
  one_model Feeds.none Feeds.none = (refl, refl)
  one_model (Feeds.next f e) (Feeds.next f' e') =
      let same = one_model f f' in
      let answer = one_answer (rw same.1 at e) e' in
      (cc, cc (enters_after e, enters_after e'))

  -- a channel's page is the types accepted there
  pub pages : {ms : List Merge} {xs : List Merged} {b : Model} → Feeds channels ms xs b → (ch : ℕ)
      → b ch ≡ Rule.accepted ch ms xs
  pages Feeds.none ch = refl
  pages (Feeds.next {a = Err x} f e) ch = rw (enters_after e) (pages f ch)
  pages (Feeds.next {a = Ok c} f e) ch = rw (enters_after e, pages f ch)

  -- all types on a page are listed or Null
  pub all_mergeable : {ms : List Merge} {xs : List Merged} {b : Model} → Feeds channels ms xs b → (ch : ℕ)
      → AllMergeable (b ch)
  all_mergeable Feeds.none ch = tt
  all_mergeable (Feeds.next f e) ch = enters_mergeable e ch (all_mergeable f ch)
