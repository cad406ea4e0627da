-- `encoded_pair::CastsToQuestion::answer` meets its contract. Assumes nothing.
use Rattle.flat.proofs.Meaning.{check_passed}
use Rattle.encoded_pair.proofs.CastsToQuestion.answer.Goals as goal

pub checked_cast-requires : goal.checked_cast-requires
checked_cast-requires c =
    record { from_valid = (check_passed c.args.left.checked).valid; to_valid = (check_passed c.args.right.checked).valid }
