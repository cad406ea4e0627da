-- The list of merges that was worked by hand comes out so. Assumes nothing.
use mathlib.Core.Path.{refl}
use Rattle.flat.specs.Tree.{head_kind}
use Rattle.supertype_numbers.specs.Range.{is_listed}
use Rattle.supertype_lossless.proofs.Upcasts.{right as upcasts}
use Rattle.channels.specs.Merge.{merged_with, merged_of, outcome_of}
use Rattle.channels.specs.Rule.{Run}
use Rattle.channels.specs.Worked.{Worked}

pub worked : Worked
unfolding head_kind is_listed upcasts merged_with merged_of outcome_of
worked = record {
  run =
      Run.next (Run.next (Run.next (Run.next (Run.next (Run.next (Run.next Run.none refl) refl) refl) refl) refl) refl)
      refl;
  channel_0 = (refl, refl, refl, refl);
  channel_1 = (refl, refl, refl, refl);
  channel_2 = (refl, refl, refl, refl);
  without_nulls = (refl, refl);
}
