-- The check's walk: `node_span` and `field_span` call each other. How the answers are made:
-- * The measure is the number of nodes in the arrays that a member is handed. Each call hands on fewer.
-- * What is known at a place (`field_span_said`, `node_span_past`, `node_span_said`) is a record of proofs/Spans.antt.
-- * An answer is a law of proofs/Spans.antt on such a record.
-- Assumes nothing.
use native.Mathlib.Omega.{arith}
use borrow.Author.Rules.{rules}
use mathlib.Core.Path.{refl, ◌∙◌}
use Rattle.flat.proofs.Spans.{SpansAlong, start, fields_done, no_level, type_call, TypeSaid, field_deep, field_done, AtBottom}
use Rattle.flat.proofs.Spans.{at_bottom, node_deep, node_leaf, fields_call, FieldsSaid, fields_inside, node_fields}
use Rattle.flat.proofs.Spans.{node_deeper}
use Rattle.flat.proofs.Truths.{none_done, one_done}
use Rattle.flat.proofs.span.+field_span_node_span.Goals as goal

-- ---- the walk of fields
pub field_span-loop-init : goal.field_span-loop-init
field_span-loop-init t c = none_done (SpansAlong _ _ _ _ _ _) _ (start (refl, c.requires))

pub field_span-returns-in_err-below : goal.field_span-returns-in_err-below
field_span-returns-in_err-below t c =
    c.from_residual.ensures ∙ no_level c.loop.invariant (omega arith) (omega (arith, c.in_err-below.ensures))

pub field_span-node_span-requires : goal.field_span-node_span-requires
field_span-node_span-requires t c =
    let asks = type_call c.loop.invariant (omega arith) in (omega (arith, asks.0, c.decreases), asks.1)

pub field_span-returns-in_err-at : goal.field_span-returns-in_err-at
field_span-returns-in_err-at t c =
    let said : TypeSaid c.loop.invariant c.node_span.result =
    record { more = omega arith; below = c.in_ok-below.below; room = omega (arith, c.in_ok-below.ensures); says = c.node_span.ensures } in
    c.from_residual-in_err-at.ensures ∙ field_deep said (c.in_err-at.was)

pub field_span-loop-preserved : goal.field_span-loop-preserved
field_span-loop-preserved t c =
    let said : TypeSaid c.loop.invariant c.node_span.result =
    record { more = omega arith; below = c.in_ok-below.below; room = omega (arith, c.in_ok-below.ensures); says = c.node_span.ensures } in
    one_done (SpansAlong _ _ _ _ _ _) _ _ (field_done said (c.in_ok-at.was))

pub field_span-overflow_add-at : goal.field_span-overflow_add-at
field_span-overflow_add-at t c = omega (arith, (field_span-loop-preserved t c).inside)

pub field_span-returns : goal.field_span-returns
field_span-returns t c = fields_done c.loop.invariant (omega arith)

pub node_span-returns-then-at-levels : goal.node_span-returns-then-at-levels
node_span-returns-then-at-levels t c =
    let node_span_past : AtBottom t c.args.levels c.args.kinds.now c.args.args.now c.leading-at.result =
    at_bottom (c.decreases, c.requires) c.leading-at.ensures.0 in
    node_deep node_span_past c.if-at-levels.true

pub node_span-returns-then-kinds-at-lt-LIST : goal.node_span-returns-then-kinds-at-lt-LIST
node_span-returns-then-kinds-at-lt-LIST t c =
    let node_span_past : AtBottom t c.args.levels c.args.kinds.now c.args.args.now c.leading-at.result =
    at_bottom (c.decreases, c.requires) c.leading-at.ensures.0 in
    node_leaf node_span_past (omega arith) (omega arith)

pub node_span-field_span-requires : goal.node_span-field_span-requires
node_span-field_span-requires t c =
    let node_span_past : AtBottom t c.args.levels c.args.kinds.now c.args.args.now c.leading-at.result =
    at_bottom (c.decreases, c.requires) c.leading-at.ensures.0 in
    fields_call node_span_past (omega arith)

pub node_span-returns-in_err-fields : goal.node_span-returns-in_err-fields
node_span-returns-in_err-fields t c =
    let node_span_past : AtBottom t c.args.levels c.args.kinds.now c.args.args.now c.leading-at.result =
    at_bottom (c.decreases, c.requires) c.leading-at.ensures.0 in
    let node_span_said : FieldsSaid node_span_past c.field_span.result =
    record { shallow = omega arith; struct = omega arith; says = c.field_span.ensures } in
    c.from_residual.ensures ∙ node_deeper node_span_said (c.in_err-fields.was)

pub node_span-overflow_add-result : goal.node_span-overflow_add-result
node_span-overflow_add-result t c =
    let node_span_past : AtBottom t c.args.levels c.args.kinds.now c.args.args.now c.leading-at.result =
    at_bottom (c.decreases, c.requires) c.leading-at.ensures.0 in
    let node_span_said : FieldsSaid node_span_past c.field_span.result =
    record { shallow = omega arith; struct = omega arith; says = c.field_span.ensures } in
    omega (arith, fields_inside node_span_said (c.in_ok-fields.was))

pub node_span-returns : goal.node_span-returns
node_span-returns t c =
    let node_span_past : AtBottom t c.args.levels c.args.kinds.now c.args.args.now c.leading-at.result =
    at_bottom (c.decreases, c.requires) c.leading-at.ensures.0 in
    let node_span_said : FieldsSaid node_span_past c.field_span.result =
    record { shallow = omega arith; struct = omega arith; says = c.field_span.ensures } in
    node_fields node_span_said (c.in_ok-fields.was)

pub node_span-bounds-kinds-at : goal.node_span-bounds-kinds-at
node_span-bounds-kinds-at t c =
    let node_span_past : AtBottom t c.args.levels c.args.kinds.now c.args.args.now c.leading-at.result =
    at_bottom (c.decreases, c.requires) c.leading-at.ensures.0 in
    search (rules, node_span_past)
