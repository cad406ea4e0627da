-- `supertype_arms::plan::planned` meets its contract. Assumes nothing.
use Rattle.supertype_arms.proofs.Areas.{apart_at}
use Rattle.supertype_arms.proofs.plan.planned.Goals as goal

pub null_row-requires : goal.null_row-requires
null_row-requires c = apart_at c.in-0.is c.requires

pub decimal_row-requires : goal.decimal_row-requires
decimal_row-requires c = apart_at c.in-15.is c.requires

pub string_row-requires : goal.string_row-requires
string_row-requires c = apart_at c.in-16.is c.requires

pub returns-in-0 : goal.returns-in-0
returns-in-0 c = rw c.in-0.is (c.null_row.ensures _)

pub returns-in-15 : goal.returns-in-15
returns-in-15 c = rw c.in-15.is c.decimal_row.ensures

pub returns-in-16 : goal.returns-in-16
returns-in-16 c = rw c.in-16.is c.string_row.ensures

pub returns-in-1-to-14 : goal.returns-in-1-to-14
returns-in-1-to-14 c = c.number_row.ensures

pub returns-in-17-to-22 : goal.returns-in-17-to-22
returns-in-17-to-22 c = c.other_row.ensures

pub returns-in_default : goal.returns-in_default
returns-in_default c = c.unknown_row.ensures
