-- The number of channels is document 01's. Assumes nothing.
use mathlib.Core.Path.{refl}
use Rattle.flat.specs.Tree.{head_kind}
use Rattle.supertype_numbers.specs.Range.{is_listed}
use Rattle.channels.specs.Merge.{merged_with, merged_of}
use Rattle.channels.specs.Limits.{ChannelLimit}
use Rattle.channels.specs.declared.TheConstants.ChannelTypes.{CHANNELS}

pub channel_limit : ChannelLimit CHANNELS
unfolding head_kind is_listed merged_with merged_of
channel_limit = record { channel_31 = (refl, refl); channel_32 = (refl, refl) }
