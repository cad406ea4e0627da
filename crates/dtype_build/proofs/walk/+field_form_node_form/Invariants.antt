-- The walk that builds a type: `node_form` and `field_form` call each other, and the number of nodes left falls. The
-- invariant of field_form's loop carries what field_form was given, so that nothing beyond it is asked.
-- Assumes nothing.
use Prim.Native.Nat.{◌-◌}
use lib.ListN.{length}
use Rattle.dtype_build.proofs.Builds.{Along}
use Rattle.dtype_build.proofs.walk.+field_form_node_form.Given as goal

abbrev pub decreases-field_form : goal.decreases-field_form
decreases-field_form g l = length l.kinds.now

abbrev pub decreases-node_form : goal.decreases-node_form
decreases-node_form g l = length l.kinds.now

abbrev pub invariant-field_form-loop : goal.invariant-field_form-loop
invariant-field_form-loop g l =
    Along g.F.Form.kind_in l.count l.kinds l.args l.initial.out_kinds l.initial.out_args l.at (l.count - l.counter) l.out_kinds l.out_args
