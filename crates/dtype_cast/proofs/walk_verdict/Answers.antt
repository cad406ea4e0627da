-- `dtype_cast::walk_verdict` meets its contract. Assumes nothing.
use mathlib.Core.Path.{sym, ap, ◌∙◌}
use Rattle.std.specs.Prelude.{Err}
use Rattle.dtype_cast.proofs.Entry.{walked_yes, walked_no, walked_unsure}
use Rattle.dtype_cast.proofs.walk_verdict.Goals as goal

pub returns-in-Ok : goal.returns-in-Ok
returns-in-Ok c = walked_yes _ _ (sym c.in-Ok.is ∙ c.node_cast.ensures)

pub returns-in-Err-No : goal.returns-in-Err-No
returns-in-Err-No c = walked_no _ _ (sym (c.in-Err-No.is ∙ ap Err c.in-Err-No.field-0-is) ∙ c.node_cast.ensures)

pub returns-in-Err-NoVerdict : goal.returns-in-Err-NoVerdict
returns-in-Err-NoVerdict c =
    walked_unsure _ _ (sym (c.in-Err-NoVerdict.is ∙ ap Err c.in-Err-NoVerdict.field-0-is) ∙ c.node_cast.ensures)
