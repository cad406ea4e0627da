-- `supertype_place::written::NodesIn::kinds` meets its contract. Assumes nothing.
use mathlib.Core.Path.{sym, ap, ◌∙◌}
use Rattle.std.specs.Prelude.{map}
use Rattle.supertype_place.proofs.Writes.{kinds_back}
use Rattle.supertype_place.proofs.written.NodesIn.kinds.Goals as goal

pub returns : goal.returns
returns g c = c.as_slice.ensures.value ∙ sym (kinds_back _ _ c.self.invariant) ∙ ap (map (λ n. n.kind)) c.self.view_is
