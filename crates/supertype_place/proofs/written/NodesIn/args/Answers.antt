-- `supertype_place::written::NodesIn::args` meets its contract. Assumes nothing.
use mathlib.Core.Path.{sym, ap, ◌∙◌}
use Rattle.std.specs.Prelude.{map}
use Rattle.supertype_place.proofs.Writes.{args_back}
use Rattle.supertype_place.proofs.written.NodesIn.args.Goals as goal

pub returns : goal.returns
returns g c = c.as_slice.ensures.value ∙ sym (args_back _ _ c.self.invariant) ∙ ap (map (λ n. n.arg)) c.self.view_is
