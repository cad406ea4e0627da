-- The model that the types of the channels are held to, document 01's book: a page of types for each channel. It is fed
-- each merge's channel and type, nothing of the codes or the answers. Assumes nothing: these are definitions.
use Rattle.std.specs.Prelude.{Ok, Err}
use Rattle.channels.specs.Merge.{Merged}
use Rattle.std.specs.Prelude.{◌≡◌, cond, ◌⊎◌, List, [], ◌∷◌, ℕ, ◌≤◌, ◌<◌, eqb}
use Rattle.flat.specs.Kind
use Rattle.flat.specs.Tree.{DataType, head_kind}
use Rattle.flat.specs.Reading.{Reading, refused, type, reading}
use Rattle.flat.specs.declared.error.Error.{Error}
use Rattle.flat.specs.declared.error.Error.TheVariants.{Channel, NotInteger, NoUpcast}
use Rattle.supertype_numbers.specs.Range.{Listed, is_listed, Least, Room}

-- a merge, document 01's offer: a channel, and the column whose type is offered. "A column is the type offered, valid
-- where it passes 1 to 5": its arrays read as a type, or are refused
pub record Merge : Type 0 where
  pub channel : ℕ
  pub column : Reading

-- the merge of two arrays of any content, at the limits of a flat type
abbrev pub flat_merge : (nodes deep channel : ℕ) → (kinds args : List ℕ) → Merge
flat_merge nodes deep channel kinds args = record { channel = channel; column = reading nodes deep kinds args }

-- "a page of types for each channel": a type is its kind, since none on a page has an argument
abbrev pub Model : Type 0
Model = ℕ → List ℕ

-- "all empty at the start"
abbrev pub blank : Model
blank i = []

-- the type k joins the channel's page
abbrev pub page_with : Model → ℕ → ℕ → Model
page_with b channel k i = cond (eqb channel i) (k ∷ b i) (b i)

-- the types that may join a page: the listed ones and Null (request One: "11 is no longer given for Null")
abbrev pub Mergeable : ℕ → Type 0
Mergeable k = Listed k ⊎ (k ≡ Kind.Null)

-- the types of a page "that have a number at all": a listed type's range has one, and no other kind's has
-- (`ChannelRule.has_number`)
abbrev pub numbered : List ℕ → List ℕ
numbered [] = []
numbered (k ∷ ks) = cond (is_listed k) (k ∷ numbered ks) (numbered ks)

-- the least listed type over some, "and 0 where there is none"
abbrev pub LeastOrNone : List ℕ → ℕ → Type 0
LeastOrNone [] c = c ≡ 0
LeastOrNone (k ∷ ks) c = Least c (k ∷ ks)

-- "A channel with an empty page stands at code 0, any other at the code of the type that demand 3 names, taken over the
-- types on its page." By request One these are "the accepted columns that have a number at all".
abbrev pub Stands : List ℕ → ℕ → Type 0
Stands page c = LeastOrNone (numbered page) c

-- The model is fed a column for a channel: its answer, and the model afterwards.
pub data Enters (channels : ℕ) (b : Model) (channel : ℕ) : Reading → Merged → Model → Type 0 where
  -- "An offer that 1 to 5, 9 or 11 turn down answers the lowest such number and changes no page"
  not_a_type : {e : Error} → Enters channels b channel (refused e) (Err e) b
  no_channel : {t : DataType} → channels ≤ channel → Enters channels b channel (type t) (Err Channel) b
  not_integer : {t : DataType} → channel < channels → ¬ Mergeable (head_kind t)
      → Enters channels b channel (type t) (Err NotInteger) b
  -- "Any other is accepted exactly when some listed type's range includes its range and those on its channel's page;
  -- its type then joins that page"; "an accepted offer answers where its channel then stands"
  accepted : {t : DataType} {c : ℕ} → channel < channels → Mergeable (head_kind t) → Room (head_kind t ∷ b channel)
      → Stands (head_kind t ∷ b channel) c
      → Enters channels b channel (type t) (Ok c) (page_with b channel (head_kind t))
  -- "Otherwise it answers 12 and no page changes"
  no_room : {t : DataType} → channel < channels → Mergeable (head_kind t) → ¬ Room (head_kind t ∷ b channel)
      → Enters channels b channel (type t) (Err NoUpcast) b

-- The model is fed a list of merges, the latest first in the list: its answers, and the model after them.
pub data Feeds (channels : ℕ) : List Merge → List Merged → Model → Type 0 where
  none : Feeds channels [] [] blank
  next : {ms : List Merge} {xs : List Merged} {b b' : Model} {m : Merge} {a : Merged} → Feeds channels ms xs b
      → Enters channels b m.channel m.column a b' → Feeds channels (m ∷ ms) (a ∷ xs) b'
