-- The walk that builds a type: `node_form` and `field_form` call each other, and the number of nodes left falls.
--
-- How it is made. An answer makes records of what stands at its place of the code. The records and their laws are those
-- of proofs/Builds.antt:
--   Task     what node_form was given
--   Parent   its node is no leaf, and is stored: what the call for what stands under it requires
--   Back     that call is done, and the lent parts are back
--   Along    the invariant of field_form's loop; it carries what field_form was given, so that nothing beyond it is asked
-- A law takes a record, so that each answer is one law at one view. Assumes nothing.
use native.Mathlib.Omega.{arith}
use borrow.Author.Rules.{rules}
use mathlib.Core.List.{List}
use Prim.Native.Nat.{ℕ, ◌+◌}
use lib.ListN.{get_or}
use Rattle.flat.specs.Kind
use Rattle.flat.specs.Tree.{size}
use Rattle.flat.specs.Walk.{Valid, ValidRun, type_at}
use Rattle.flat.proofs.Truths.{one_done}
use Rattle.dtype_build.specs.Leaf.{HasRoom}
use Rattle.dtype_build.proofs.Builds.{Along, Task, leaf_built, struct_parent, wrapper_parent, under_requires}
use Rattle.dtype_build.proofs.Builds.{Back, back_built, back_within}
use Rattle.dtype_build.proofs.Builds.{fields_built, next_shorter, next_requires, field_done}
use Rattle.dtype_build.proofs.Writes.{back}
use Rattle.dtype_build.proofs.walk.+field_form_node_form.Goals as goal

-- ---- node_form
abbrev task : (kind_in : ℕ → ℕ → ℕ) (ks xs K A : List ℕ) → Valid ks xs → HasRoom (size (type_at ks xs)) K A → Task
task kind_in ks xs K A v o = record { kind_in = kind_in; ks = ks; xs = xs; K = K; A = A; valid = v; room = o }

-- a leaf is written
pub node_form-returns-then-node-lt-LIST : goal.node_form-returns-then-node-lt-LIST
node_form-returns-then-node-lt-LIST g t c =
    let p : Task = task g.F.Form.kind_in c.args.kinds.now c.args.args.now c.args.out_kinds.now c.args.out_args.now c.requires.valid c.requires.has_room in
    leaf_built p c.if-node-lt-LIST.true c.put_leaf.ensures

-- a Struct is stored
pub node_form-field_form-n-requires : goal.node_form-field_form-n-requires
node_form-field_form-n-requires g t c =
    let p : Task = task g.F.Form.kind_in c.args.kinds.now c.args.args.now c.args.out_kinds.now c.args.out_args.now c.requires.valid c.requires.has_room in
    λ κs o. (search rules, (o, under_requires (struct_parent p c.if-node-eq-STRUCT.true)))

pub node_form-overflow_add-result : goal.node_form-overflow_add-result
node_form-overflow_add-result g t c =
    let p : Task = task g.F.Form.kind_in c.args.kinds.now c.args.args.now c.args.out_kinds.now c.args.out_args.now c.requires.valid c.requires.has_room in
    let b : Back ValidRun = record { parent = struct_parent p c.if-node-eq-STRUCT.true; L = _; M = _; n = _; built = c.field_form-n.ensures } in
    omega (arith, back_within b)

pub node_form-returns-then-node-eq-STRUCT : goal.node_form-returns-then-node-eq-STRUCT
node_form-returns-then-node-eq-STRUCT g t c =
    let p : Task = task g.F.Form.kind_in c.args.kinds.now c.args.args.now c.args.out_kinds.now c.args.out_args.now c.requires.valid c.requires.has_room in
    let b : Back ValidRun = record { parent = struct_parent p c.if-node-eq-STRUCT.true; L = _; M = _; n = _; built = c.field_form-n.ensures } in
    back_built b

-- a List or an Array is stored
pub node_form-node_form-n-requires : goal.node_form-node_form-n-requires
node_form-node_form-n-requires g t c =
    let p : Task = task g.F.Form.kind_in c.args.kinds.now c.args.args.now c.args.out_kinds.now c.args.out_args.now c.requires.valid c.requires.has_room in
    λ κs o. (search rules, (o, under_requires (wrapper_parent p c.if-node-lt-LIST.false c.if-node-eq-STRUCT.false)))

pub node_form-overflow_add-result-2 : goal.node_form-overflow_add-result-2
node_form-overflow_add-result-2 g t c =
    let p : Task = task g.F.Form.kind_in c.args.kinds.now c.args.args.now c.args.out_kinds.now c.args.out_args.now c.requires.valid c.requires.has_room in
    let b : Back (λ width. Valid) = record { parent = wrapper_parent p c.if-node-lt-LIST.false c.if-node-eq-STRUCT.false; L = _; M = _; n = _; built = c.node_form-n.ensures } in
    omega (arith, back_within b)

pub node_form-returns : goal.node_form-returns
node_form-returns g t c =
    let p : Task = task g.F.Form.kind_in c.args.kinds.now c.args.args.now c.args.out_kinds.now c.args.out_args.now c.requires.valid c.requires.has_room in
    let b : Back (λ width. Valid) = record { parent = wrapper_parent p c.if-node-lt-LIST.false c.if-node-eq-STRUCT.false; L = _; M = _; n = _; built = c.node_form-n.ensures } in
    back_built b

-- ---- field_form
-- a field is stored
pub field_form-node_form-n-requires : goal.field_form-node_form-n-requires
field_form-node_form-n-requires g t c =
    λ κs o. (omega (arith, next_shorter c.loop.invariant (omega arith)), (o, next_requires c.loop.invariant (omega arith)))

-- its type is built
pub field_form-loop-preserved : goal.field_form-loop-preserved
field_form-loop-preserved g t c =
    one_done
    (λ left. Along g.F.Form.kind_in c.args.count c.args.kinds.now c.args.args.now c.args.out_kinds.now c.args.out_args.now (c.loop.at + 1 + c.node_form-n.result) left (back c.loop.at Kind.Field c.loop.out_kinds c.node_form-n.new.out_kinds) (back c.loop.at (get_or c.args.args.now c.loop.at 0) c.loop.out_args c.node_form-n.new.out_args))
    _ _ (field_done c.loop.invariant (omega arith) c.node_form-n.ensures)

pub field_form-overflow_add-at : goal.field_form-overflow_add-at
field_form-overflow_add-at g t c =
    let along = field_form-loop-preserved g t c in omega arith

pub field_form-returns : goal.field_form-returns
field_form-returns g t c =
    fields_built c.loop.invariant (omega arith)
