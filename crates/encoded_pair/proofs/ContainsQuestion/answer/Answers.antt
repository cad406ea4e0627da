-- `encoded_pair::ContainsQuestion::answer` meets its contract: the right type's nodes somewhere. Assumes
-- nothing.
use mathlib.Core.Path.{◌∙◌}
use Rattle.flat.proofs.Meaning.{check_passed}
use Rattle.encoded_pair.proofs.Asking.{says_contains}
use Rattle.encoded_pair.proofs.ContainsQuestion.answer.Goals as goal

pub occurs-requires : goal.occurs-requires
occurs-requires c = ((check_passed c.args.left.checked).even, (check_passed c.args.right.checked).even)

pub returns : goal.returns
returns c = c.occurs.ensures ∙ says_contains (check_passed c.args.left.checked) (check_passed c.args.right.checked)
