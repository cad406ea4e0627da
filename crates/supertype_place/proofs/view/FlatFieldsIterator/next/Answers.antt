-- `supertype_place::view::FlatFields::next` meets its contract. Assumes nothing.
use mathlib.Core.Path.{refl}
use Rattle.supertype_place.proofs.view.FlatFieldsIterator.next.Goals as goal

pub returns-in_err-field-clause-steps : goal.returns-in_err-field-clause-steps
returns-in_err-field-clause-steps c =
    let e = c.in_err-field.ensures in
    rw c.from_residual.ensures record { none = e.0; left = e.1; still = refl }
