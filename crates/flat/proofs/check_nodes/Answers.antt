-- `flat::check_nodes` meets its contract: what the scan accepts is a type. Assumes nothing.
use mathlib.Core.Path.{sym, ap, ◌∙◌}
use Rattle.flat.specs.Reading.{checked_of}
use Rattle.flat.proofs.Scanned.{accepted_passed}
use Rattle.flat.proofs.check_nodes.Goals as goal

pub returns-then-accepts : goal.returns-then-accepts
returns-then-accepts c = ap checked_of (sym (accepted_passed _ _ _ _ (sym c.accepts.ensures ∙ c.if-accepts.true)).reads)
