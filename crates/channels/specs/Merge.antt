-- What a merge comes to: its answer, and the types as it leaves them. Assumes nothing: these are definitions.
use Rattle.std.specs.Prelude.{Option, Result, Ok, Err}
use Rattle.std.specs.Option.{ok_or}
use Rattle.std.specs.Prelude.{Bool, cond, ◌||◌, List, ℕ, ltb, eqb, replicate, get_or, set}
use Rattle.flat.specs.Kind
use Rattle.flat.specs.Tree.{head_kind}
use Rattle.flat.specs.Reading.{Reading, refused, type}
use Rattle.flat.specs.declared.error.Error.{Error}
use Rattle.flat.specs.declared.error.Error.TheVariants.{Channel, ChannelCode, NotInteger, NoUpcast}
use Rattle.supertype_numbers.specs.Range.{is_listed}
use Rattle.supertype_lossless.specs.Lossless.{upcast_of}
use Rattle.channels.specs.declared.ChannelTypes.{ChannelTypes}
use Rattle.channels.specs.declared.Outcome.{Outcome}

-- what a merge answers: the code that its channel now holds, or the refusal
abbrev pub Merged : Type 0
Merged = Result ℕ Error

-- the types of so many channels, all of them empty
abbrev pub started : ℕ → ChannelTypes
started channels = record { codes = replicate channels 0 }

-- a where the test holds, else refused by e
abbrev pub merge_unless : Bool → Error → Merged → Merged
merge_unless test e a = cond test a (Err e)

-- 12: the upcast is None
abbrev pub upcast_held : Option ℕ → Merged
upcast_held found = ok_or found NoUpcast

-- A channel that holds `held` is offered a type of the kind k. 10: it holds neither 0 nor 2 to 11. Null leaves the
-- channel as it is, and the answer is the code held, 0 if it is empty (request One). 11: the type is none of 2 to 11.
-- On an empty channel the type is kept; an equal type keeps the held one; otherwise the lossless upcast of held and
-- offered is kept.
unfoldable pub merged_with : ℕ → ℕ → Merged
merged_with held k =
    merge_unless (eqb held 0 || is_listed held) ChannelCode
    (cond (eqb k Kind.Null) (Ok held) (merge_unless (is_listed k) NotInteger
    (cond (eqb held 0) (Ok k)
    (cond (eqb held k) (Ok held)
    (upcast_held (upcast_of held k))))))

-- The offered type goes through 1 to 5 first. 9: there is no such channel.
unfoldable pub merged_of : (channels : ℕ) → List ℕ → ℕ → Reading → Merged
merged_of channels codes channel (refused e) = Err e
merged_of channels codes channel (type t) =
    merge_unless (ltb channel channels) Channel (merged_with (get_or codes channel 0) (head_kind t))

-- an accepted type's channel holds the code of the answer; a refused call leaves all codes
abbrev pub codes_after : List ℕ → ℕ → Merged → List ℕ
codes_after codes channel (Ok c) = set codes channel c
codes_after codes channel (Err e) = codes

-- an answer, beside the types as it leaves them
abbrev pub outcome_with : ChannelTypes → ℕ → Merged → Outcome
outcome_with types channel a = record { types = record { codes = codes_after types.codes channel a }; answer = a }

-- What a merge comes to: a column is merged into a channel of these types.
unfoldable pub outcome_of : (channels : ℕ) → ChannelTypes → ℕ → Reading → Outcome
outcome_of channels types channel column = outcome_with types channel (merged_of channels types.codes channel column)
