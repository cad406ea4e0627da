-- The walk of `can_cast_to`: `node_cast` and `field_cast` call each other. The measure is the number of nodes in the left
-- arrays that a member is handed. Each call hands on fewer. Assumes nothing.
use Prim.Native.Nat.{◌-◌}
use lib.ListN.{length}
use Rattle.dtype_cast.proofs.Steps.{FieldsAlong}
use Rattle.dtype_cast.proofs.walk.+field_cast_node_cast.Given as goal

abbrev pub decreases-field_cast : goal.decreases-field_cast
decreases-field_cast l = length l.from_kinds.now

abbrev pub decreases-node_cast : goal.decreases-node_cast
decreases-node_cast l = length l.from_kinds.now

-- the loop of `field_cast`
abbrev pub invariant-field_cast-loop : goal.invariant-field_cast-loop
invariant-field_cast-loop l =
    FieldsAlong l.count l.from_kinds l.from_args l.to_kinds l.to_args l.i l.j (l.count - l.counter)
