-- `encoded_join::put` meets its contract: what was found is one node. Assumes nothing.
use mathlib.Core.Path.{refl, ap}
use Rattle.std.proofs.lemmas.Result.{err_from_is_err_and}
use Rattle.flat.specs.Tree.{kinds_of, args_of}
use Rattle.encoded.proofs.Answers.{puts_type}
use Rattle.encoded.proofs.Finding.{refusal_found, encodes_found, encodes_refusal}
use Rattle.supertype_answer.specs.Join.{type_of, result_of}
use Rattle.encoded_join.proofs.put.Goals as goal

pub returns-in_err-node : goal.returns-in_err-node
returns-in_err-node c =
    let p = err_from_is_err_and c.from_residual.result c.from_residual.ensures.1 in
    rw (p.1, p.2) (refusal_found _ _ (ap result_of c.in_err-node.was))

pub returns-in_err-put : goal.returns-in_err-put
unfolding kinds_of args_of
returns-in_err-put c =
    let p = err_from_is_err_and c.from_residual-in_err-put.result c.from_residual-in_err-put.ensures.1 in
    rw (p.1, p.2, c.in_ok-node.was, c.in-Some.is)
    (encodes_refusal (puts_type (type_of c.in-Some.node) refl refl c.put.ensures) c.in_err-put.was)

pub returns : goal.returns
unfolding kinds_of args_of
returns c =
    rw (c.in_ok-node.was, c.in-Some.is)
    (encodes_found (puts_type (type_of c.in-Some.node) refl refl c.put.ensures) c.in_ok-put.was)
