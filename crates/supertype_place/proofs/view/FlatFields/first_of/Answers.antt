-- `supertype_place::view::FlatFields::first_of` meets its contract. Assumes nothing.
use mathlib.Core.Path.{subst}
use Rattle.supertype_place.specs.Viewed.{Leads}
use Rattle.supertype_place.proofs.Finds.{from_first}
use Rattle.supertype_place.proofs.view.FlatFields.first_of.Goals as goal

pub returns-in_err-rest : goal.returns-in_err-rest
returns-in_err-rest c = rw c.from_residual.ensures c.in_err-rest.ensures

pub returns-in_err-dtype : goal.returns-in_err-dtype
returns-in_err-dtype c =
    absurd (subst (Leads c.args.name) c.in_err-dtype.ensures.steps.none c.in_ok-rest.ensures.1)

pub returns : goal.returns
returns c =
    from_first _ _ _ _ _ _ c.in_ok-rest.ensures.0 c.in_ok-rest.ensures.1 c.in_ok-dtype.ensures.steps.fields
