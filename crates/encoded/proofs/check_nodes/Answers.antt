-- `encoded::check_nodes` meets its contract: no node, and never more than many. Assumes nothing.
use mathlib.Core.Path.{refl, ◌∙◌}
use lib.Dec.{lit≤}
use Rattle.std.proofs.lemmas.Result.{err_from_is_err_and}
use Rattle.flat.proofs.Truths.{handed_on}
use Rattle.encoded.proofs.Answers.{ok_or_none, nodes_few, decoding_none}
use Rattle.encoded.proofs.check_nodes.Goals as goal

pub returns-in_err-n : goal.returns-in_err-n
returns-in_err-n c =
    let q = ok_or_none _ _ c.ok_or.ensures.value c.in_err-n.was in
    rw (handed_on (err_from_is_err_and c.from_residual.result c.from_residual.ensures.1), q.1, decoding_none _ _ _ _ (q.0 ∙ c.node_count.ensures)) refl

pub check_in-requires-2 : goal.check_in-requires-2
check_in-requires-2 c = (nodes_few _ _ _, lit≤ tt)
