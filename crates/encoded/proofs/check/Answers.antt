-- `encoded::check` meets its contract: one plain leaf is a type. Assumes nothing.
use mathlib.Core.Path.{sym, ap}
use Rattle.flat.specs.Reading.{checked_of}
use Rattle.encoded.proofs.Plain.{plain_bytes}
use Rattle.encoded.proofs.check.Goals as goal

pub returns-then-is_plain : goal.returns-then-is_plain
returns-then-is_plain c = ap checked_of (sym ((plain_bytes (sym c.if-is_plain.ensures)).reads _))
