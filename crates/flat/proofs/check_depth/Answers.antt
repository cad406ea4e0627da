-- `flat::check_depth` meets its contract: the walk goes as deep as the limit. Assumes nothing.
use mathlib.Core.Path.{sym, ◌∙◌}
use Rattle.flat.proofs.Truths.{Fact, fact}
use Rattle.flat.proofs.Meaning.{form_stands}
use Rattle.flat.proofs.Scanned.{scanned}
use Rattle.flat.proofs.Checks.{too_deep, one_type}
use Rattle.flat.proofs.check_depth.Goals as goal
use Rattle.flat.proofs.check_depth.Goals.{Start}

-- the nodes are the flat form of a tree
abbrev form : Start → Fact
form c = fact (scanned _ _ _ c.requires).1

pub node_span-requires : goal.node_span-requires
node_span-requires c = (form_stands (form (goal.at.node_span-requires c).Start).proof).0

pub returns-in-Some : goal.returns-in-Some
returns-in-Some c =
    one_type _ (form (goal.at.returns-in-Some c).Start).proof _
    (sym c.in-Some.is ∙ c.node_span.ensures)

pub returns-in-None : goal.returns-in-None
returns-in-None c =
    too_deep _ (form (goal.at.returns-in-None c).Start).proof
    (sym c.in-None.is ∙ c.node_span.ensures)
