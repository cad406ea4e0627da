-- `encoded_pair::EqualsQuestion::answer` meets its contract: one type's nodes at the front of the other's. Assumes
-- nothing.
use mathlib.Core.Path.{◌∙◌}
use Rattle.flat.proofs.Meaning.{check_passed}
use Rattle.encoded_pair.proofs.Asking.{says_equal}
use Rattle.encoded_pair.proofs.EqualsQuestion.answer.Goals as goal

pub starts_with-requires : goal.starts_with-requires
starts_with-requires c = ((check_passed c.args.left.checked).even, (check_passed c.args.right.checked).even)

pub returns : goal.returns
returns c = c.starts_with.ensures ∙ says_equal (check_passed c.args.left.checked) (check_passed c.args.right.checked)
