-- The rule of the channels' types, document 01's season rule (demand 3), with request One's Null in it: one claim about
-- every list of merges. Assumes nothing: these are definitions.
use Rattle.std.specs.Prelude.{Ok, Err}
use Rattle.channels.specs.Merge.{Merged}
use Rattle.std.specs.Prelude.{◌≡◌, Bool, true, false, cond, not, ◌↔◌, List, [], ◌∷◌, ◌++◌, ℕ, ◌<◌, eqb, length, get_or}
use Rattle.flat.specs.Kind
use Rattle.flat.specs.Tree.{DataType, head_kind}
use Rattle.flat.specs.Reading.{Reading, refused, type}
use Rattle.flat.specs.declared.error.Error.{Error}
use Rattle.flat.specs.declared.error.Error.TheVariants.{NoUpcast}
use Rattle.supertype_numbers.specs.Range.{Listed, is_listed, HasNumber, Covers, Least, Room}
use Rattle.channels.specs.declared.ChannelTypes.{ChannelTypes}
use Rattle.channels.specs.declared.Outcome.{Outcome}
use Rattle.channels.specs.Merge.{started, outcome_of}
use Rattle.channels.specs.Model.{Merge, Model, Mergeable, numbered, Stands, Feeds}

-- A list of merges stands with the latest first, so that what was merged before a merge is the rest of the list.

-- "each offer given the record as the last one left it and nobody else writing it": a step is what the contract of each
-- form says of a merge (proofs/Contracts.antt, and crates/capi/proofs/Contracts.antt of the C entry points)
pub data Run (channels : ℕ) (s₀ : ChannelTypes) : List Merge → List Merged → ChannelTypes → Type 0 where
  none : Run channels s₀ [] [] s₀
  next : {ms : List Merge} {xs : List Merged} {s : ChannelTypes} {m : Merge} {o : Outcome} → Run channels s₀ ms xs s
      → o ≡ outcome_of channels s m.channel m.column → Run channels s₀ (m ∷ ms) (o.answer ∷ xs) o.types

-- the code of a channel
abbrev pub code_at : ChannelTypes → ℕ → ℕ
code_at s ch = get_or s.codes ch 0

-- an answer is the code that its channel then holds, or a refusal
abbrev pub Tells : Merged → ℕ → Type 0
Tells (Ok c) code = c ≡ code
Tells (Err e) code = Unit {0}

-- a column's type, before others; what is no type adds none
abbrev pub with_column : Reading → List ℕ → List ℕ
with_column (refused e) ks = ks
with_column (type t) ks = head_kind t ∷ ks

-- whether a merge is into this channel
abbrev pub is_into : ℕ → Merge → Bool
is_into ch m = eqb m.channel ch

-- the types of the columns that were accepted on a channel, by the answers
abbrev pub accepted : (ch : ℕ) → List Merge → List Merged → List ℕ
accepted ch [] xs = []
accepted ch (m ∷ ms) [] = []
accepted ch (m ∷ ms) (Err e ∷ xs) = accepted ch ms xs
accepted ch (m ∷ ms) (Ok c ∷ xs) =
    cond (is_into ch m) (with_column m.column (accepted ch ms xs)) (accepted ch ms xs)

-- all of these types may be merged
abbrev pub AllMergeable : List ℕ → Type 0
AllMergeable [] = Unit {0}
AllMergeable (k ∷ ks) = Mergeable k × AllMergeable ks

-- the merges that pass a test, and the answers that they had
abbrev pub only : (Merge → Bool) → List Merge → List Merge
only test [] = []
only test (m ∷ ms) = cond (test m) (m ∷ only test ms) (only test ms)

abbrev pub answers_to : (Merge → Bool) → List Merge → List Merged → List Merged
answers_to test [] xs = []
answers_to test (m ∷ ms) [] = []
answers_to test (m ∷ ms) (a ∷ xs) = cond (test m) (a ∷ answers_to test ms xs) (answers_to test ms xs)

-- whether a column is of type Null, and whether a merge's is not
abbrev pub is_null : Reading → Bool
is_null (refused e) = false
is_null (type t) = eqb (head_kind t) Kind.Null

abbrev pub is_not_null : Merge → Bool
is_not_null m = not (is_null m.column)

-- The claim, of any number of channels: `ChannelTypes` has 32 (`ChannelLimit`), and `ChannelTypes::empty` gives
-- `started` of them.
pub record ChannelRule (channels : ℕ) : Type 0 where
  -- every list has a run, from any codes, so that nothing is said of nothing; what was merged before has a run too, so
  -- that what is said of the latest merge of a list is said of each
  pub runs : (s₀ : ChannelTypes) (ms : List Merge) → (xs : List Merged) × (s : ChannelTypes) × Run channels s₀ ms xs s
  pub before : (later ms : List Merge) {xs : List Merged} {s₀ s : ChannelTypes} → Run channels s₀ (later ++ ms) xs s
      → (ys zs : List Merged) × (t : ChannelTypes) × Run channels s₀ ms zs t × (xs ≡ ys ++ zs)
  -- "After every list each of the 32 codes is where its channel stands in the book, and every offer, accepted or
  -- refused, has had the book's answer."
  pub by_the_model : {ms : List Merge} {xs : List Merged} {s : ChannelTypes} → Run channels (started channels) ms xs s
      → (b : Model) × Feeds channels ms xs b × (length s.codes ≡ channels)
      × ((ch : ℕ) → ch < channels → Stands (b ch) (code_at s ch))
  -- there is no other book: the offers settle its answers and its pages
  pub one_model : {ms : List Merge} {xs ys : List Merged} {b b' : Model} → Feeds channels ms xs b
      → Feeds channels ms ys b' → (xs ≡ ys) × (b ≡ b')
  -- "no channel ends with a type that misses a number its accepted columns could hold": each of them is a listed type's
  -- or Null's
  pub keeps : {ms : List Merge} {xs : List Merged} {s : ChannelTypes} → Run channels (started channels) ms xs s
      → (ch : ℕ) → ch < channels → AllMergeable (accepted ch ms xs) × Covers (code_at s ch) (accepted ch ms xs)
  -- "After it each channel with an accepted column holds the one listed integer type whose range includes all theirs
  -- and lies inside every listed type that does so; one without is empty." By request One: "the least listed type over
  -- the accepted columns that have a number at all, and 0 where there is none".
  pub holds : {ms : List Merge} {xs : List Merged} {s : ChannelTypes} → Run channels (started channels) ms xs s
      → (ch : ℕ) → ch < channels → Stands (accepted ch ms xs) (code_at s ch)
  pub the_one : {ks : List ℕ} {t u : ℕ} → Least t ks → Least u ks → t ≡ u
  -- which columns "have a number at all": those of the listed types. "Null's range has no numbers in it", so that the
  -- least over the columns that have one is the least over all that were accepted.
  pub has_number : (k : ℕ) → HasNumber k ↔ (is_listed k ≡ true)
  pub null_has_none : ¬ HasNumber Kind.Null
  pub over_all : (t : ℕ) (ks : List ℕ) → Least t (numbered ks) ↔ Least t ks
  -- "an offer of Null is accepted and leaves the channel as it is, answering the code held, 0 if empty"
  pub silent : {ms : List Merge} {xs : List Merged} {s : ChannelTypes} {m : Merge} {o : Outcome} {t : DataType}
      → Run channels (started channels) ms xs s → o ≡ outcome_of channels s m.channel m.column
      → m.column ≡ type t → head_kind t ≡ Kind.Null → m.channel < channels
      → o ≡ record { types = s; answer = Ok (code_at s m.channel) }
  -- and so the types and the other offers' answers are the same in a list and in the one without its Nulls, even from a
  -- record not started empty
  pub without_nulls : {ms : List Merge} {xs ys : List Merged} {s₀ s t : ChannelTypes} → Run channels s₀ ms xs s
      → Run channels s₀ (only is_not_null ms) ys t → (s ≡ t) × (answers_to is_not_null ms xs ≡ ys)
  -- "In it a valid column of a listed integer type, on a valid channel, is refused exactly when no listed type includes
  -- its range and those accepted there before." It is then refused by 12, and never by another number.
  pub refused_when : {ms : List Merge} {xs : List Merged} {s : ChannelTypes} {m : Merge} {a : Merged} {t : DataType}
      → Run channels (started channels) (m ∷ ms) (a ∷ xs) s
      → m.column ≡ type t → Listed (head_kind t) → m.channel < channels
      → ((a ≡ Err NoUpcast) ↔ ¬ Room (head_kind t ∷ accepted m.channel ms xs))
      × ((e : Error) → a ≡ Err e → e ≡ NoUpcast)
  -- "Every answer is the code then held or the refusal's number."
  pub answers : {ms : List Merge} {xs : List Merged} {s₀ s : ChannelTypes} {m : Merge} {a : Merged}
      → length s₀.codes ≡ channels → Run channels s₀ (m ∷ ms) (a ∷ xs) s
      → Tells a (code_at s m.channel)
  -- "A channel's code and its offers' answers are the same in such a list and in the one that keeps only its own
  -- offers, even from a record not started empty."
  pub alone : (ch : ℕ) {ms : List Merge} {xs ys : List Merged} {s₀ s t : ChannelTypes} → Run channels s₀ ms xs s
      → Run channels s₀ (only (is_into ch) ms) ys t
      → (code_at s ch ≡ code_at t ch) × (answers_to (is_into ch) ms xs ≡ ys)
