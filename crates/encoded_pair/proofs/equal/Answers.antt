-- `encoded_pair::equal` meets its contract: one check of equal bytes. Assumes nothing.
use mathlib.Core.Path.{sym, ◌∙◌}
use Rattle.std.specs.Cmp.Lexicographic.{same_text}
use Rattle.encoded_pair.proofs.Asking.{same_refused, same_equal}
use Rattle.encoded_pair.proofs.equal.Goals as goal

pub returns-in-Ok : goal.returns-in-Ok
returns-in-Ok c =
    same_equal _ _ _ _ _ (same_text _ _ c.if-eq.ensures) (sym c.in-Ok.is ∙ c.check.ensures)

pub returns-in-Err : goal.returns-in-Err
returns-in-Err c =
    same_refused _ _ _ _ _ (same_text _ _ c.if-eq.ensures) (sym c.in-Err.is ∙ c.check.ensures)
