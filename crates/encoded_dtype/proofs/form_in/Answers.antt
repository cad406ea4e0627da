-- `encoded_dtype::form_in` meets its contract. Assumes nothing.
use Rattle.std.proofs.lemmas.Result.{err_from_is_err_and}
use Rattle.encoded.proofs.Opening.{opened, unopened}
use Rattle.encoded_dtype.proofs.Forms.{opened_reads, form_none, refused_bytes, unopened_form, form_room, form_encoded}
use Rattle.encoded_dtype.proofs.form_in.Goals as goal

pub returns-in_err-whole : goal.returns-in_err-whole
returns-in_err-whole g c =
    let p = err_from_is_err_and c.from_residual.result c.from_residual.ensures.1 in
    rw (p.1, p.2) (refused_bytes _ _ (unopened_form _ _ (unopened _ c.in_err-whole.ensures)))

pub returns-then-any_refused : goal.returns-then-any_refused
returns-then-any_refused g c =
    refused_bytes _ _ (form_none _ _ (opened_reads (opened c.in_ok-whole.ensures)) c.if-any_refused.ensures)

pub node_form-m-requires-clause-valid : goal.node_form-m-requires-clause-valid
node_form-m-requires-clause-valid g c = (opened c.in_ok-whole.ensures).arrays.valid

pub node_form-m-requires-clause-has_room : goal.node_form-m-requires-clause-has_room
node_form-m-requires-clause-has_room g c = form_room (opened c.in_ok-whole.ensures) _ c.requires.0

pub returns : goal.returns
returns g c =
    form_encoded (opened c.in_ok-whole.ensures) _ _ c.if-any_refused.ensures c.node_form-m.ensures c.put.ensures
