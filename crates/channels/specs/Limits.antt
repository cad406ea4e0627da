-- Document 01's limit of the channels, which is a parameter: "a channel is valid below 32". It is proved of the code's
-- own number in proofs/Limits.antt. Assumes nothing: these are definitions.
use Rattle.channels.specs.Merge.{Merged}
use Rattle.std.specs.Prelude.{◌≡◌, ℕ}
use Rattle.flat.specs.Kind
use Rattle.flat.specs.Tree.{leaf}
use Rattle.flat.specs.Reading.{type}
use Rattle.flat.specs.Refusal.{answer_number}
use Rattle.flat.specs.Reply.{value_in}
use Rattle.channels.specs.Merge.{started, merged_of}

-- the answer to Int8 where all channels are empty
abbrev pub first_merge : (channels channel : ℕ) → Merged
first_merge channels channel = merged_of channels (started channels).codes channel (type (leaf Kind.Int8 0))

-- channel 31 then holds Int8; "channel 32 or more" gets 9
pub record ChannelLimit (channels : ℕ) : Type 0 where
  pub channel_31 : (answer_number (first_merge channels 31) ≡ 0)
      × (value_in (λ c. c) (first_merge channels 31) ≡ Kind.Int8)
  pub channel_32 : (answer_number (first_merge channels 32) ≡ 9) × (value_in (λ c. c) (first_merge channels 32) ≡ 0)
