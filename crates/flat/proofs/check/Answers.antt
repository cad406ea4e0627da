-- `flat::check` meets its contract: one plain leaf is a type. Assumes nothing.
use mathlib.Core.Path.{sym, ap, ◌∙◌}
use lib.Dec.{lit≤}
use Rattle.flat.specs.Reading.{checked_of}
use Rattle.flat.proofs.Plain.{plain_type}
use Rattle.flat.proofs.check.Goals as goal

pub returns-then-is_plain : goal.returns-then-is_plain
returns-then-is_plain c =
    ap checked_of (sym (plain_type _ _ _ _ (lit≤ tt) (sym c.is_plain.ensures ∙ c.if-is_plain.true)).reads)
