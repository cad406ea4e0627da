-- The cycle of joins: what each member's calls lessen, and what its loop keeps. The measure is the number of nodes
-- left,
-- and where a call hands on as many, the member's rank. Assumes nothing.
use Prim.Native.Nat.{ℕ, ◌+◌, ◌*◌}
use Rattle.flat.specs.Tree.{size, sizes}
use Rattle.supertype_nested.specs.Union as names
use Rattle.supertype_place.specs.Written.{held_at}
use Rattle.supertype_place.specs.Viewed.{viewed, viewed_run}
use Rattle.supertype_step.specs.Decided.{options_of}
use Rattle.supertype_walk.proofs.Fed.{Feeding}
use Rattle.supertype_walk.proofs.Loops.{Eaching, Zipping, Olding, Newing}
use Rattle.supertype_walk.proofs.walk.+joins.Given as goal

-- the nodes left, and which member comes first at as many
abbrev weight : ℕ → ℕ → ℕ
weight n rank = 4 * n + rank

abbrev pub decreases-again : goal.decreases-again
decreases-again l = weight (size (held_at l.mark l.out.now) + sizes (names.named l.name (viewed_run l.fields))) 0

abbrev pub decreases-each : goal.decreases-each
decreases-each l = weight (sizes (viewed_run l.fields) + size (viewed l.other)) 0

abbrev pub decreases-fields : goal.decreases-fields
decreases-fields l = weight (sizes (viewed_run l.l) + sizes (viewed_run l.r)) 3

abbrev pub decreases-held : goal.decreases-held
decreases-held l = weight (size (viewed l.dtype) + size (viewed l.held)) 1

abbrev pub decreases-join : goal.decreases-join
decreases-join l = weight (size (viewed l.l) + size (viewed l.r)) 0

abbrev pub decreases-merge : goal.decreases-merge
decreases-merge l = weight (sizes (viewed_run l.l) + sizes (viewed_run l.r)) 2

abbrev pub decreases-named : goal.decreases-named
decreases-named l =
    weight (size (viewed l.field.dtype) + sizes (names.named l.field.name (viewed_run l.fields.fields))) 1

abbrev pub decreases-new : goal.decreases-new
decreases-new l = weight (sizes (viewed_run l.longest.fields) + sizes (viewed_run l.shortest.fields)) 0

abbrev pub decreases-next : goal.decreases-next
decreases-next l = weight (size (viewed l.dtype) + size (held_at l.mark l.out.now)) 1

abbrev pub decreases-old : goal.decreases-old
decreases-old l = weight (sizes (viewed_run l.longest.fields) + sizes (viewed_run l.shortest.fields)) 0

abbrev pub decreases-under : goal.decreases-under
decreases-under l = weight (size (viewed l.l) + size (viewed l.r)) 1

abbrev pub decreases-union : goal.decreases-union
decreases-union l = weight (sizes (viewed_run l.longest.fields) + sizes (viewed_run l.shortest.fields)) 1

abbrev pub decreases-zip : goal.decreases-zip
decreases-zip l = weight (sizes (viewed_run l.l) + sizes (viewed_run l.r)) 0

abbrev pub invariant-again-loop-field : goal.invariant-again-loop-field
invariant-again-loop-field l =
    (goal.iterator-again-loop-field).can_next l.field-iterator × (goal.iterator-again-loop-field).is_finite
    l.field-iterator
    × Feeding (options_of l.i) l.name (viewed_run l.fn.fields) l.mark l.initial.out (viewed_run l.field-iterator) l.out

abbrev pub invariant-each-loop-field : goal.invariant-each-loop-field
invariant-each-loop-field l =
    Eaching (options_of l.i) (viewed_run l.fn.fields) (viewed l.other) l.initial.out (viewed_run l.rest) l.out

abbrev pub decreases-each-loop-field : goal.decreases-each-loop-field
decreases-each-loop-field l = l.rest.left

abbrev pub invariant-new-loop-field : goal.invariant-new-loop-field
invariant-new-loop-field l =
    (goal.iterator-new-loop-field).can_next l.rest × (goal.iterator-new-loop-field).is_finite l.rest
    × Newing (options_of l.i) (viewed_run l.longest.fields) (viewed_run l.shortest.fields) l.initial.out (viewed_run
    l.rest)
    l.names l.out

abbrev pub invariant-old-loop-field : goal.invariant-old-loop-field
invariant-old-loop-field l =
    (goal.iterator-old-loop-field).can_next l.rest × (goal.iterator-old-loop-field).is_finite l.rest
    × Olding (options_of l.i) (viewed_run l.longest.fields) (viewed_run l.shortest.fields) l.initial.out (viewed_run
    l.rest)
    l.names l.out

abbrev pub invariant-zip-loop-a : goal.invariant-zip-loop-a
invariant-zip-loop-a l =
    (goal.iterator-zip-loop-a).can_next l.a-iterator × (goal.iterator-zip-loop-a).is_finite l.a-iterator
    × Zipping (options_of l.i) (viewed_run l.fn.l) (viewed_run l.fn.r) l.initial.out (viewed_run l.a-iterator.a)
    (viewed_run l.a-iterator.b) l.out
