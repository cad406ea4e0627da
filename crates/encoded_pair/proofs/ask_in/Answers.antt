-- `encoded_pair::ask_in` meets its contract: the left type's refusal comes first, then the right one's. Assumes nothing.
use mathlib.Core.Path.{ap, ◌∙◌}
use Rattle.std.specs.Prelude.{Ok}
use Rattle.flat.proofs.Truths.{handed_on}
use Rattle.std.proofs.lemmas.Result.{err_from_is_err_and}
use Rattle.encoded.proofs.Opening.{opened}
use Rattle.encoded_pair.proofs.Asking.{left_unopened, right_unopened, both_opened}
use Rattle.encoded_pair.proofs.ask_in.Goals as goal

pub returns-in_err-first : goal.returns-in_err-first
returns-in_err-first g c =
    handed_on (err_from_is_err_and c.from_residual.result c.from_residual.ensures.1)
    ∙ left_unopened g.Q.Question.says _ _ c.in_err-first.ensures

pub returns-in_err-second : goal.returns-in_err-second
returns-in_err-second g c =
    handed_on (err_from_is_err_and c.from_residual-in_err-second.result c.from_residual-in_err-second.ensures.1)
    ∙ right_unopened g.Q.Question.says (opened c.in_ok-first.ensures) _ c.in_err-second.ensures

pub returns : goal.returns
returns g c =
    ap Ok c.answer.ensures
    ∙ both_opened g.Q.Question.says (opened c.in_ok-first.ensures) (opened c.in_ok-second.ensures)
