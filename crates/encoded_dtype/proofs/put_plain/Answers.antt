-- `encoded_dtype::put_plain` meets its contract. Assumes nothing.
use Rattle.encoded_dtype.proofs.Forms.{plain_form}
use Rattle.encoded_dtype.proofs.put_plain.Goals as goal

pub returns : goal.returns
returns g c = plain_form g.F.Form.kind_in _ c.kind-new.ensures c.put.ensures
