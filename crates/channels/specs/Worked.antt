-- A list of merges worked by hand: document 01's corner 18 in channel 0, with other channels' merges between, and Null
-- in a channel that holds a type and in an empty one. Assumes nothing: these are definitions.
use Rattle.std.specs.Prelude.{Ok, Err}
use Rattle.channels.specs.Merge.{Merged}
use Rattle.std.specs.Prelude.{◌≡◌, List, [], ◌∷◌, ℕ}
use Rattle.flat.specs.Kind
use Rattle.flat.specs.Tree.{leaf}
use Rattle.flat.specs.Reading.{Reading, refused, type}
use Rattle.flat.specs.declared.error.Error.TheVariants.{Shape, NoUpcast}
use Rattle.channels.specs.Merge.{started}
use Rattle.channels.specs.Model.{Merge, numbered}
use Rattle.channels.specs.Rule.{Run, accepted, only, answers_to, is_into, is_not_null}

-- a column is merged into a channel; a column of the kind k
abbrev pub into : ℕ → Reading → Merge
into channel column = record { channel = channel; column = column }

abbrev pub of : ℕ → Reading
of k = type (leaf k 0)

-- UInt64 into channel 0, Int16 and a column that is no type into channel 1, Null into channel 2, then Int8, Null and
-- UInt128 into channel 0: the latest first
abbrev pub merges : List Merge
merges =
    into 0 (of Kind.UInt128)
    ∷ into 0 (of Kind.Null)
    ∷ into 0 (of Kind.Int8)
    ∷ into 2 (of Kind.Null)
    ∷ into 1 (refused Shape)
    ∷ into 1 (of Kind.Int16)
    ∷ into 0 (of Kind.UInt64)
    ∷ []

abbrev pub answers : List Merged
answers =
    Err NoUpcast
    ∷ Ok Kind.Int128
    ∷ Ok Kind.Int128
    ∷ Ok 0
    ∷ Err Shape
    ∷ Ok Kind.Int16
    ∷ Ok Kind.UInt64
    ∷ []

-- what is said of a channel: the merges into it, the answers that they had, the types accepted there, and those of them
-- that have a number
abbrev pub Row : ℕ → List Merge → List Merged → (kinds numbers : List ℕ) → Type 0
Row ch own had kinds numbers =
    (only (is_into ch) merges ≡ own) × (answers_to (is_into ch) merges answers ≡ had)
    × (accepted ch merges answers ≡ kinds) × (numbered kinds ≡ numbers)

pub record Worked : Type 0 where
  -- into three channels, empty at the start
  pub run : Run 3 (started 3) merges answers (record { codes = Kind.Int128 ∷ Kind.Int16 ∷ 0 ∷ [] })
  pub channel_0 : Row 0
      (into 0 (of Kind.UInt128) ∷ into 0 (of Kind.Null) ∷ into 0 (of Kind.Int8) ∷ into 0 (of Kind.UInt64) ∷ [])
      (Err NoUpcast ∷ Ok Kind.Int128 ∷ Ok Kind.Int128 ∷ Ok Kind.UInt64 ∷ [])
      (Kind.Null ∷ Kind.Int8 ∷ Kind.UInt64 ∷ []) (Kind.Int8 ∷ Kind.UInt64 ∷ [])
  pub channel_1 : Row 1 (into 1 (refused Shape) ∷ into 1 (of Kind.Int16) ∷ [])
      (Err Shape ∷ Ok Kind.Int16 ∷ []) (Kind.Int16 ∷ []) (Kind.Int16 ∷ [])
  pub channel_2 : Row 2 (into 2 (of Kind.Null) ∷ []) (Ok 0 ∷ []) (Kind.Null ∷ []) []
  pub without_nulls : (only is_not_null merges
      ≡ into 0 (of Kind.UInt128) ∷ into 0 (of Kind.Int8) ∷ into 1 (refused Shape) ∷ into 1 (of Kind.Int16)
      ∷ into 0 (of Kind.UInt64) ∷ [])
      × (answers_to is_not_null merges answers
      ≡ Err NoUpcast ∷ Ok Kind.Int128 ∷ Err Shape ∷ Ok Kind.Int16 ∷ Ok Kind.UInt64 ∷ [])
