-- `channels::merge_codes` meets its contract. Assumes nothing.
use mathlib.Core.Path.{sym, ◌∙◌}
use native.Mathlib.Omega.{arith}
use Rattle.std.proofs.lemmas.Result.{err_from_is_err_and}
use Rattle.flat.proofs.Truths.{handed_on}
use Rattle.channels.proofs.Arms.{refused_column, no_channel, on_channel}
use Rattle.channels.proofs.merge_codes.Goals as goal

pub returns-in_err-root : goal.returns-in_err-root
returns-in_err-root c =
    rw (handed_on (err_from_is_err_and c.from_residual.result c.from_residual.ensures.1))
    (refused_column _ _ _ c.in_err-root.was)

pub returns-then-channel-ge-CHANNELS : goal.returns-then-channel-ge-CHANNELS
returns-then-channel-ge-CHANNELS c = no_channel _ _ _ c.in_ok-root.was (omega arith)

pub returns-in_err-code : goal.returns-in_err-code
returns-in_err-code c =
    rw (handed_on (err_from_is_err_and c.from_residual-in_err-code.result c.from_residual-in_err-code.ensures.1))
    (on_channel _ _ _ c.in_ok-root.was (omega arith) (sym c.in_err-code.was ∙ c.merge_kind.ensures))

pub returns : goal.returns
returns c = on_channel _ _ _ c.in_ok-root.was (omega arith) (sym c.in_ok-code.was ∙ c.merge_kind.ensures)
