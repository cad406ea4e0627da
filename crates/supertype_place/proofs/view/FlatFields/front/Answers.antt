-- `supertype_place::view::FlatFields::front` meets its contract. Assumes nothing.
use Rattle.supertype_place.proofs.Views.{run_front, run_stood, front_is, front_stands}
use Rattle.supertype_place.proofs.view.FlatFields.front.Goals as goal

pub invariant_of-result : goal.invariant_of-result
invariant_of-result c = record { stand = run_stood (front_stands (run_front c.args.self.stand) c.requires) }

pub returns : goal.returns
returns c = front_is (run_front c.args.self.stand) c.requires
