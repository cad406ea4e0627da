-- `supertype::node::node_supertype` meets its contract. Assumes nothing.
use mathlib.Core.Path.{sym, ap, ◌∙◌}
use native.Mathlib.Omega.{arith}
use Rattle.std.specs.Prelude.{Some}
use Rattle.supertype_arms.proofs.Answers.{level, level_other}
use Rattle.supertype.proofs.Orders.{Different, ready, ready_turned, equal, in_order, out_of_order, any_string}
use Rattle.supertype.proofs.Orders.{dyn_str}
use Rattle.supertype.proofs.node.node_supertype.Goals as goal
use Rattle.supertype.proofs.node.node_supertype.Goals.{Else-equal_node, in-16+in_default-1, in_default-1}

-- where the two are not equal
differ : (c : Else-equal_node) → Different c.args.l c.args.r
differ c =
    let pre = c.requires in
    record { fits_left = pre.0; fits_right = pre.1; differ = sym c.equal_node.ensures ∙ c.if-equal_node.false }

pub returns-then-equal_node : goal.returns-then-equal_node
returns-then-equal_node c = equal _ _ _ _ (cc)

pub ordered-requires : goal.ordered-requires
ordered-requires c = ready (differ (goal.at.ordered-requires c).Else-equal_node) (omega arith)

pub returns-then-l-r : goal.returns-then-l-r
returns-then-l-r c =
    c.ordered.ensures ∙ in_order _ _ (differ (goal.at.returns-then-l-r c).Else-equal_node) (omega arith)

pub returns-in_default-eq24 : goal.returns-in_default-eq24
returns-in_default-eq24 c =
    ap Some c.plain.ensures ∙ dyn_str _ _ (differ (goal.at.returns-in_default-eq24 c).Else-equal_node) (omega arith) (omega arith)

pub returns-in-23-eq16 : goal.returns-in-23-eq16
returns-in-23-eq16 c =
    ap Some c.plain-in-23-eq16.ensures
    ∙ any_string _ _ (differ (goal.at.returns-in-23-eq16 c).Else-equal_node) (omega arith) (omega arith)

pub ordered-requires-2 : goal.ordered-requires-2
ordered-requires-2 c = ready_turned (differ (goal.at.ordered-requires-2 c).Else-equal_node) (omega arith)

pub returns : goal.returns
returns c =
    let turned = out_of_order _ _ (differ (goal.at.returns c).Else-equal_node) (omega arith) in
    c.ordered-2.ensures
    ∙ elim c.match-r.branch [
      | in-16+in_default-1 w ↦ turned (level _ _ (omega arith) (omega arith))
      | in_default-1 w ↦ turned (level_other _ _ (λ e f. omega arith) (omega arith))
    ]
