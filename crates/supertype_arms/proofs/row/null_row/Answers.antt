-- `supertype_arms::row::null_row` meets its contract. Assumes nothing.
use Rattle.std.specs.Prelude.{Some}
use native.Mathlib.Omega.{arith}
use lib.Dec.{eqb}
use mathlib.Core.Bool.{cond}
use borrow.Author.Tests.{ne_eqb}
use Rattle.flat.specs.Kind.{Null, String}
use Rattle.supertype_arms.specs.declared.plan.Plan.TheVariants.{Right, Kind}
use Rattle.supertype_arms.proofs.Areas.{right, right_apart, rule, rule_apart}
use Rattle.supertype_arms.proofs.row.null_row.Goals as goal

pub returns-then-b-eq-STRING : goal.returns-then-b-eq-STRING
returns-then-b-eq-STRING c s = rule (λ s a b. Some (Kind String)) Null 1 String 1 (unfold right in tt) s _ _ (omega arith)

pub returns-else-b-eq-STRING : goal.returns-else-b-eq-STRING
returns-else-b-eq-STRING c s =
    rw (ne_eqb c.args.b String c.if-b-eq-STRING.false)
    at (rule_apart (λ s a b. cond (eqb b String) (Some (Kind String)) (Some Right)) Null 1 Null 28 (unfold right_apart in tt) s Null
    c.args.b (omega arith) (cc))
