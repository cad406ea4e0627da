-- The cycle of joins meets its contracts, member by member: each answer is a law of proofs/ on what is known there. In
-- a call's requirements stand first how the measure falls, and then what the member asks. Assumes nothing.
use mathlib.Core.List.{[], ◌∷◌, ◌++◌}
use mathlib.Core.Path.{◌≡◌, refl, sym, ap, ◌∙◌}
use native.Mathlib.Omega.{arith}
use lib.ListN.{length, take, length-append}
use lib.Seq.{length-take-le}
use Rattle.std.specs.Prelude.{None, Some, Err, option_map}
use Rattle.flat.specs.Kind as kind
use Rattle.flat.specs.Tree.{struct, empty, sizes, size, head_kind, head_arg}
use mathlib.Core.Logic.{inl, inr}
use Rattle.dtype.specs.Equality.{equal}
use Rattle.flat.proofs.Sizes.{size_pos}
use Rattle.flat.proofs.Truths.{handed_on, never}
use Rattle.std.proofs.lemmas.Result.{err_from_is_err_and}
use Rattle.supertype_answer.specs.Join.{node}
use Rattle.supertype_nested.specs.Union.{named}
use Rattle.supertype_nested.proofs.Steps.{tree_fair}
use Rattle.supertype_place.specs.Written.{nodes_of, held_at}
use Rattle.supertype_place.specs.Viewed.{viewed, viewed_run}
use Rattle.supertype_place.proofs.Tables.{is_nothing, there_is}
use Rattle.supertype_place.proofs.Views.{type_front, run_front, run_many}
use Rattle.supertype_step.specs.Decided.{options_of}
use Rattle.supertype_walk.specs.Comes.{get_supertype}
use Rattle.supertype_walk.proofs.Fed.{feed_end, feed_less, feed_next, feed_nothing, feed_room, feed_skip}
use Rattle.supertype_walk.proofs.Fed.{found_again, found_held, found_less, found_nothing, found_on, found_room}
use Rattle.supertype_walk.proofs.Fed.{found_space, held_length, none_named}
use Rattle.supertype_walk.proofs.Going.{going_kept, zip_none, zip_some}
use Rattle.supertype_walk.proofs.Joined.{alone_is, arm_each, arm_fields, arm_first, arm_node, arm_of, arm_string}
use Rattle.supertype_walk.proofs.Joined.{arm_string_list, arm_under, arm_whole, arm_within, held_alone, held_other}
use Rattle.supertype_walk.proofs.Joined.{first_size, joined_none, joined_was, none_is, no_fields_arg, struct_size}
use Rattle.supertype_walk.proofs.Joined.{inner_size, left_less, list_kind, none_decided, root_fits, side_sizes}
use Rattle.supertype_walk.proofs.Joined.{struct_none, struct_some, wraps_kind, zipped_ok}
use Rattle.supertype_walk.proofs.Loops.{each_end, each_less, each_next, each_nothing, each_room, each_start}
use Rattle.supertype_walk.proofs.Loops.{new_end, new_less, new_next, new_nothing, new_number, new_parts, new_room}
use Rattle.supertype_walk.proofs.Loops.{new_skip, new_start, old_end, old_less, old_next, old_nothing, old_number}
use Rattle.supertype_walk.proofs.Loops.{old_parts, old_room, old_skip, old_start, rest_over, zip_apart, zip_end}
use Rattle.supertype_walk.proofs.Loops.{zip_less, zip_next, zip_nothing, zip_room, zip_start}
use Rattle.supertype_walk.proofs.Merged.{merged, merged_names, new_nothing as union_new, new_room as union_room}
use Rattle.supertype_walk.proofs.Merged.{old_nothing as union_old}
use Rattle.supertype_walk.proofs.Orders.{all_distinct, left_longer, one_order}
use Rattle.supertype_walk.proofs.Orders.{right_longer, union_decides, union_turned}
use Rattle.supertype_walk.proofs.Orders.{zip_decides, zip_ends, zip_in_place}
use Rattle.supertype_walk.proofs.Told.{joins_is, kept_all, kept_on, under_of}
use Rattle.supertype_walk.proofs.walk.+joins.Goals as goal
use Rattle.supertype_walk.proofs.walk.+joins.Goals.{merge-then-r-l-via-then-r-l}
use Rattle.supertype_walk.proofs.walk.+joins.Goals.{merge-then-r-l-via-else-r-l+then-is_some-2, merge-then-is_some}
use Rattle.supertype_walk.proofs.walk.+joins.Goals.{merge-else-is_some}

-- ---- `again`

pub again-next-requires-then-field-name : goal.again-next-requires-then-field-name
again-next-requires-then-field-name t c =
    let v = c.loop-field.invariant.2 in
    let g = c.in-Some.ensures.steps.fields in
    let d = c.if-field-name.true in
    (omega (arith, c.decreases, feed_less v g d), (v.held, feed_room v g d))

pub again-loop-field-preserved-in-Continue-1 : goal.again-loop-field-preserved-in-Continue-1
again-loop-field-preserved-in-Continue-1 t c = (
  tt,
  tt,
  feed_next c.loop-field.invariant.2 c.in-Some.ensures.steps.fields c.if-field-name.true
      (type_front c.in-Some.field.dtype.stands).fits c.in_ok-next.ensures,
)

pub again-returns-in_err-next : goal.again-returns-in_err-next
again-returns-in_err-next t c =
    rw c.from_residual.ensures (feed_nothing c.loop-field.invariant.2 c.in-Some.ensures.steps.fields
    c.if-field-name.true c.in_err-next.ensures)

pub again-loop-field-preserved : goal.again-loop-field-preserved
again-loop-field-preserved t c =
    (tt, tt, feed_skip c.loop-field.invariant.2 c.in-Some.ensures.steps.fields c.if-field-name.false)

pub again-returns : goal.again-returns
again-returns t c = feed_end c.loop-field.invariant.2 c.in-None.ensures.steps.none

-- ---- `each`

pub each-loop-field-init : goal.each-loop-field-init
each-loop-field-init t c =
    each_start _ _ _ c.args.out.now c.struct_node.result c.push.ensures c.requires.leaf c.requires.room

pub each-under-requires : goal.each-under-requires
each-under-requires t c =
    let v = c.loop-field.invariant in
    let g = c.in-Some.ensures.fields in
    (omega (arith, c.decreases, each_less v g), each_room v g)

pub each-loop-field-preserved : goal.each-loop-field-preserved
each-loop-field-preserved t c =
    each_next c.loop-field.invariant c.behind-rest.ensures.fields
    (rw c.field_node.ensures at c.in_ok-under.ensures)

pub each-loop-field-smaller : goal.each-loop-field-smaller
each-loop-field-smaller t c = omega (arith, c.behind-rest.ensures.left)

pub each-returns-in_err-under : goal.each-returns-in_err-under
each-returns-in_err-under t c =
    let v = c.loop-field.invariant in
    rw c.from_residual.ensures record {
      none = ap (option_map struct) (each_nothing v c.in-Some.ensures.fields c.in_err-under.ensures.none);
      kept = kept_on _ (c.struct_node.result ∷ []) _ c.push.ensures (going_kept v.going _ c.in_err-under.ensures.kept);
    }

pub each-returns : goal.each-returns
each-returns t c =
    each_end c.loop-field.invariant c.in_default.ensures.0 c.args.out.now c.struct_node.result c.push.ensures
    (c.struct_node.ensures ∙ ap (node kind.Struct) (sym (run_many (run_front c.args.fields.stand))))

-- ---- `fields`

pub fields-returns-then-in_place : goal.fields-returns-then-in_place
fields-returns-then-in_place t c =
    let i = options_of c.args.i in
    let many = run_many (run_front c.args.l.stand) ∙ c.if-l-r.true ∙ sym (run_many (run_front c.args.r.stand)) in
    rw c.ok.ensures.value (zipped_ok _ _ _ _ c.zip.result
    (zip_in_place (get_supertype i) (viewed_run c.args.l) (viewed_run c.args.r) many (tree_fair i i)
    (sym c.in_place.ensures ∙ c.if-in_place.true))
    c.zip.ensures)

-- ---- `join`

pub join-decide-requires : goal.join-decide-requires
join-decide-requires t c = (root_fits c.args.l c.root.ensures, root_fits c.args.r c.root-2.ensures)

pub join-returns-in_err-n : goal.join-returns-in_err-n
join-returns-in_err-n t c =
    rw c.from_residual.ensures record {
      none = none_decided _ (options_of c.args.i) c.args.l c.args.r c.root.ensures c.root-2.ensures _ c.decide.ensures
          c.in_err-n.was;
      kept = kept_all _;
    }

pub join-push-requires : goal.join-push-requires
join-push-requires t c = omega (arith, c.requires, size_pos (viewed c.args.l))

pub join-inner-requires : goal.join-inner-requires
join-inner-requires t c =
    let a = arm_of _ (options_of c.args.i) c.args.l c.args.r c.root.ensures c.root-2.ensures _ c.decide.ensures
    c.in_ok-n.was c.in-Under.is in
    wraps_kind a.parts.1

pub join-inner-requires-in-Under : goal.join-inner-requires-in-Under
join-inner-requires-in-Under t c =
    let a = arm_of _ (options_of c.args.i) c.args.l c.args.r c.root.ensures c.root-2.ensures _ c.decide.ensures
    c.in_ok-n.was c.in-Under.is in
    wraps_kind a.parts.2

pub join-under-requires : goal.join-under-requires
join-under-requires t c =
    let l = inner_size _ c.inner.ensures in
    let r = inner_size _ c.inner-in-Under.ensures in
    (omega (arith, c.decreases, l, r), omega (arith, c.requires, l, r))

pub join-inner-requires-in-Within : goal.join-inner-requires-in-Within
join-inner-requires-in-Within t c =
    let a = arm_of _ (options_of c.args.i) c.args.l c.args.r c.root.ensures c.root-2.ensures _ c.decide.ensures
    c.in_ok-n.was c.in-Within.is in
    list_kind c.sided-in-Within.ensures.one a.parts

pub join-under-requires-in-Within : goal.join-under-requires-in-Within
join-under-requires-in-Within t c =
    let s = side_sizes c.in-Within.side _ _ c.sided-in-Within.ensures.one c.sided-in-Within.ensures.other in
    let n = inner_size _ c.inner-in-Within.ensures in
    (omega (arith, c.decreases, s, n), omega (arith, c.requires, s, n))

pub join-inner-requires-in-StringWithin : goal.join-inner-requires-in-StringWithin
join-inner-requires-in-StringWithin t c =
    let a = arm_of _ (options_of c.args.i) c.args.l c.args.r c.root.ensures c.root-2.ensures _ c.decide.ensures
    c.in_ok-n.was c.in-StringWithin.is in
    list_kind refl a.parts

pub join-under-requires-in-StringWithin : goal.join-under-requires-in-StringWithin
join-under-requires-in-StringWithin t c =
    let n = inner_size _ c.inner-in-StringWithin.ensures in
    (omega (arith, c.decreases, n), omega (arith, c.requires, n))

pub join-push-requires-then-is_none : goal.join-push-requires-then-is_none
join-push-requires-then-is_none t c =
    let w = rw (is_nothing _ c.if-is_none.ensures) at c.under-in-StringWithin.ensures in
    let k = ap length (c.truncate.ensures ∙ ap (λ n. take n c.under-in-StringWithin.new.out) c.len-mark.ensures ∙
    w.kept) in
    omega (arith, c.requires, size_pos (viewed c.args.l), k)

pub join-fields-requires : goal.join-fields-requires
join-fields-requires t c =
    let a = arm_of _ (options_of c.args.i) c.args.l c.args.r c.root.ensures c.root-2.ensures _ c.decide.ensures
    c.in_ok-n.was c.in-First.is in
    ap head_kind c.sided-in-First.ensures.one ∙ a.parts.0

pub join-returns-in_err-first-in-First : goal.join-returns-in_err-first-in-First
join-returns-in_err-first-in-First t c =
    let a = arm_of _ (options_of c.args.i) c.args.l c.args.r c.root.ensures c.root-2.ensures _ c.decide.ensures
    c.in_ok-n.was c.in-First.is in
    absurd (a.parts.1 (ap head_arg (sym c.sided-in-First.ensures.one) ∙ no_fields_arg _ c.fields.ensures
    c.in_err-first-in-First.ensures.0))

pub join-join-requires : goal.join-join-requires
join-join-requires t c =
    let s = side_sizes c.in-First.side _ _ c.sided-in-First.ensures.one c.sided-in-First.ensures.other in
    let n = first_size c.fields.ensures c.in_ok-first-in-First.ensures.fields in
    (omega (arith, c.decreases, s, n), omega (arith, c.requires, s, n))

pub join-fields-requires-in-Each : goal.join-fields-requires-in-Each
join-fields-requires-in-Each t c =
    let a = arm_of _ (options_of c.args.i) c.args.l c.args.r c.root.ensures c.root-2.ensures _ c.decide.ensures
    c.in_ok-n.was c.in-Each.is in
    ap head_kind c.sided-in-Each.ensures.one ∙ a.parts.0

pub join-each-requires : goal.join-each-requires
join-each-requires t c =
    let a = arm_of _ (options_of c.args.i) c.args.l c.args.r c.root.ensures c.root-2.ensures _ c.decide.ensures
    c.in_ok-n.was c.in-Each.is in
    let s = side_sizes c.in-Each.side _ _ c.sided-in-Each.ensures.one c.sided-in-Each.ensures.other in
    let n = struct_size c.fields-in-Each.ensures in (
      omega (arith, c.decreases, s, n),
      (ap size c.sided-in-Each.ensures.other ∙ a.parts.1, omega (arith, c.requires, s, n)),
    )

pub join-fields-requires-in-Fields : goal.join-fields-requires-in-Fields
join-fields-requires-in-Fields t c =
    let a = arm_of _ (options_of c.args.i) c.args.l c.args.r c.root.ensures c.root-2.ensures _ c.decide.ensures
    c.in_ok-n.was c.in-Fields.is in
    a.parts.0

pub join-fields-requires-in-Fields-2 : goal.join-fields-requires-in-Fields-2
join-fields-requires-in-Fields-2 t c =
    let a = arm_of _ (options_of c.args.i) c.args.l c.args.r c.root.ensures c.root-2.ensures _ c.decide.ensures
    c.in_ok-n.was c.in-Fields.is in
    a.parts.1

pub join-fields-requires-in-Fields-3 : goal.join-fields-requires-in-Fields-3
join-fields-requires-in-Fields-3 t c =
    let l = struct_size c.fields-in-Fields.ensures in
    let r = struct_size c.fields-in-Fields-2.ensures in
    (omega (arith, c.decreases, l, r), omega (arith, c.requires, l, r))

pub join-returns-in-Node : goal.join-returns-in-Node
join-returns-in-Node t c =
    arm_node (arm_of _ (options_of c.args.i) c.args.l c.args.r c.root.ensures c.root-2.ensures _ c.decide.ensures
    c.in_ok-n.was c.in-Node.is) _ _ c.push.ensures

pub join-returns-in-Whole : goal.join-returns-in-Whole
join-returns-in-Whole t c =
    arm_whole (arm_of _ (options_of c.args.i) c.args.l c.args.r c.root.ensures c.root-2.ensures _ c.decide.ensures
    c.in_ok-n.was c.in-Whole.is) c.sided.ensures.one _ _ c.extend.ensures

pub join-returns-in-Under : goal.join-returns-in-Under
join-returns-in-Under t c =
    arm_under _ _ _ (arm_of _ (options_of c.args.i) c.args.l c.args.r c.root.ensures c.root-2.ensures _
    c.decide.ensures c.in_ok-n.was c.in-Under.is) c.inner.ensures c.inner-in-Under.ensures c.under.ensures

pub join-returns-in-Within : goal.join-returns-in-Within
join-returns-in-Within t c =
    arm_within _ _ _ (arm_of _ (options_of c.args.i) c.args.l c.args.r c.root.ensures c.root-2.ensures _
    c.decide.ensures c.in_ok-n.was c.in-Within.is) c.sided-in-Within.ensures.one c.sided-in-Within.ensures.other
    c.inner-in-Within.ensures c.plain.ensures c.under-in-Within.ensures

pub join-returns-then-is_none : goal.join-returns-then-is_none
join-returns-then-is_none t c =
    let w = rw (is_nothing _ c.if-is_none.ensures) at c.under-in-StringWithin.ensures in
    arm_string (arm_of _ (options_of c.args.i) c.args.l c.args.r c.root.ensures c.root-2.ensures _ c.decide.ensures
    c.in_ok-n.was c.in-StringWithin.is) c.inner-in-StringWithin.ensures c.plain-in-StringWithin.ensures _ _ w
    c.len-mark.ensures c.truncate.ensures c.plain-then-is_none.ensures c.push-then-is_none.ensures

pub join-returns-else-is_none : goal.join-returns-else-is_none
join-returns-else-is_none t c =
    let x = there_is _ (sym c.if-is_none.ensures) in
    arm_string_list (arm_of _ (options_of c.args.i) c.args.l c.args.r c.root.ensures c.root-2.ensures _
    c.decide.ensures c.in_ok-n.was c.in-StringWithin.is) c.inner-in-StringWithin.ensures
    c.plain-in-StringWithin.ensures _ _
    (rw x.1 at c.under-in-StringWithin.ensures)

pub join-returns-in_ok-first-in-First : goal.join-returns-in_ok-first-in-First
join-returns-in_ok-first-in-First t c =
    arm_first _ _ _ (arm_of _ (options_of c.args.i) c.args.l c.args.r c.root.ensures c.root-2.ensures _
    c.decide.ensures c.in_ok-n.was c.in-First.is) c.sided-in-First.ensures.one c.sided-in-First.ensures.other
    (c.fields.ensures ∙ ap struct c.in_ok-first-in-First.ensures.fields) c.join.ensures

pub join-returns-in-Each : goal.join-returns-in-Each
join-returns-in-Each t c =
    arm_each _ _ _ (arm_of _ (options_of c.args.i) c.args.l c.args.r c.root.ensures c.root-2.ensures _
    c.decide.ensures c.in_ok-n.was c.in-Each.is) c.sided-in-Each.ensures.one c.sided-in-Each.ensures.other
    c.fields-in-Each.ensures
    c.each.ensures

pub join-returns-in-Fields : goal.join-returns-in-Fields
join-returns-in-Fields t c =
    arm_fields _ _ _ (arm_of _ (options_of c.args.i) c.args.l c.args.r c.root.ensures c.root-2.ensures _
    c.decide.ensures c.in_ok-n.was c.in-Fields.is) c.fields-in-Fields.ensures c.fields-in-Fields-2.ensures
    c.fields-in-Fields-3.ensures

-- ---- `merge`

pub merge-returns-then-l-r : goal.merge-returns-then-l-r
merge-returns-then-l-r t c =
    let i = options_of c.args.i in
    let c' = get_supertype i in
    let fs = viewed_run c.args.l in
    let gs = viewed_run c.args.r in
    let l = run_many (run_front c.args.l.stand) in
    let r = run_many (run_front c.args.r.stand) in
    joins_is nodes_of _ _ c.union.result (ap (option_map struct) (right_longer c' fs gs (omega (
      arith,
      l,
      r,
      c.if-l-r.true,
    ))))
    (rw (c.new-p.ensures.same, c.new-q.ensures.same) at c.union.ensures)

pub merge-returns-then-r-l : goal.merge-returns-then-r-l
merge-returns-then-r-l t c =
    let i = options_of c.args.i in
    let c' = get_supertype i in
    let fs = viewed_run c.args.l in
    let gs = viewed_run c.args.r in
    let l = run_many (run_front c.args.l.stand) in
    let r = run_many (run_front c.args.r.stand) in
    let w = rw (c.new-p.ensures.same, c.new-q.ensures.same) at c.union-then-r-l.ensures in
    elim c.then-r-l.branch [
      | merge-then-r-l-via-then-r-l w' ↦
          joins_is nodes_of _ _ c.union-then-r-l.result
          (ap (option_map struct) (left_longer c' fs gs (omega (arith, l, r, w'.if-r-l.true)))) w
      | merge-then-r-l-via-else-r-l+then-is_some-2 w' ↦
          elim w'.if-is_some.branch [
            | merge-then-is_some v ↦
                let e : c.args.l.left ≡ c.args.r.left = omega (arith, c.if-l-r.false, w'.if-r-l.false) in
                let p = sym w'.is_some.ensures ∙ v.if-is_some.true in
                let q = sym v.is_some-then-is_some.ensures ∙ sym v.value-is ∙ w'.if-is_some-2.true in
                joins_is nodes_of _ _ c.union-then-r-l.result
                (ap (option_map struct) (one_order c' fs gs (l ∙ e ∙ sym r) (tree_fair i i)
                (all_distinct fs c.new-p.ensures.distinct p) (all_distinct gs c.new-q.ensures.distinct q)
                (c.requires.unlike e)))
                w
            | merge-else-is_some v ↦ never (sym v.if-is_some.false ∙ sym v.value-is ∙ w'.if-is_some-2.true)
          ]
    ]

pub merge-returns-in-Ok : goal.merge-returns-in-Ok
merge-returns-in-Ok t c =
    let i = options_of c.args.i in
    let c' = get_supertype i in
    let fs = viewed_run c.args.l in
    let gs = viewed_run c.args.r in
    let l = run_many (run_front c.args.l.stand) in
    let r = run_many (run_front c.args.r.stand) in
    let e : c.args.l.left ≡ c.args.r.left = omega (arith, c.if-l-r.false, c.if-r-l.false) in
    let many = l ∙ e ∙ sym r in
    let z = c.in-Ok.ensures in
    record {
      type = struct z.fields;
      is = ap (option_map struct) (zip_some _ z.fields (sym (zip_decides c' fs gs many z.is) ∙ z.is));
      wrote = z.wrote;
    }

pub merge-returns-in-Err-Nothing : goal.merge-returns-in-Err-Nothing
merge-returns-in-Err-Nothing t c =
    let i = options_of c.args.i in
    let c' = get_supertype i in
    let fs = viewed_run c.args.l in
    let gs = viewed_run c.args.r in
    let l = run_many (run_front c.args.l.stand) in
    let r = run_many (run_front c.args.r.stand) in
    let e : c.args.l.left ≡ c.args.r.left = omega (arith, c.if-l-r.false, c.if-r-l.false) in
    let many = l ∙ e ∙ sym r in
    let z = rw c.in-Err-Nothing.field-0-is at c.in-Err-Nothing.ensures in
    record { none = ap (option_map struct) (zip_none _ (sym (zip_ends c' fs gs many z.is) ∙ z.is)); kept = z.kept }

pub merge-returns-then-is_some-3 : goal.merge-returns-then-is_some-3
merge-returns-then-is_some-3 t c =
    let i = options_of c.args.i in
    let c' = get_supertype i in
    let fs = viewed_run c.args.l in
    let gs = viewed_run c.args.r in
    let l = run_many (run_front c.args.l.stand) in
    let r = run_many (run_front c.args.r.stand) in
    let e : c.args.l.left ≡ c.args.r.left = omega (arith, c.if-l-r.false, c.if-r-l.false) in
    let many = l ∙ e ∙ sym r in
    let z = rw c.in-Err-Apart.field-0-is at c.in-Err-Apart.ensures in
    let b = c.truncate.ensures ∙ ap (λ m. take m c.zip.new.out) c.len-mark.ensures ∙ z.kept in
    let x = there_is _ c.if-is_some-3.ensures in
    let w = rw (c.new-p.ensures.same, c.new-q.ensures.same, b, x.1) at c.union-2.ensures in
    let h = struct_some _ w.is in
    record {
      type = w.type;
      is = ap (option_map struct) (sym (union_decides c' fs gs many z.is h.1)) ∙ w.is;
      wrote = w.wrote;
    }

pub merge-returns : goal.merge-returns
merge-returns t c =
    let i = options_of c.args.i in
    let c' = get_supertype i in
    let fs = viewed_run c.args.l in
    let gs = viewed_run c.args.r in
    let l = run_many (run_front c.args.l.stand) in
    let r = run_many (run_front c.args.r.stand) in
    let e : c.args.l.left ≡ c.args.r.left = omega (arith, c.if-l-r.false, c.if-r-l.false) in
    let many = l ∙ e ∙ sym r in
    let z = rw c.in-Err-Apart.field-0-is at c.in-Err-Apart.ensures in
    let b = c.truncate.ensures ∙ ap (λ m. take m c.zip.new.out) c.len-mark.ensures ∙ z.kept in
    let w = rw (c.new-p.ensures.same, c.new-q.ensures.same, b, is_nothing _ (sym c.if-is_some-3.ensures)) at
    c.union-2.ensures in
    let d = c.truncate-2.ensures ∙ ap (λ m. take m c.union-2.new.out) c.len-mark.ensures ∙ w.kept in
    joins_is nodes_of _ _ c.union-3.result
    (ap (option_map struct) (union_turned c' fs gs many z.is (struct_none _ w.none)))
    (rw (c.new-p.ensures.same, c.new-q.ensures.same, d) at c.union-3.ensures)

-- ---- `named`

pub named-returns-in_default : goal.named-returns-in_default
named-returns-in_default t c =
    under_of _ _ c.args.out.now _ (Some tt) (c.push.ensures ∙ ap (λ n. c.args.out.now ++ n ∷ []) c.field_node.ensures)
    record {
      type = viewed c.args.field.dtype;
      is = sym (none_named (get_supertype (options_of c.args.i)) c.args.field.name (viewed c.args.field.dtype)
          (viewed_run c.args.fields.fields) c.in_default.ensures);
      wrote = c.extend.ensures;
    }

pub named-held-requires : goal.named-held-requires
named-held-requires t c =
    let i = options_of c.args.i in
    let u = viewed c.args.field.dtype in
    let gu = (type_front c.args.field.dtype.stands).fits in
    let fs = viewed_run c.args.fields.fields in
    let gs = viewed_run c.in-Some.found.rest in
    let n = c.args.field.name in
    let t' = viewed c.in-Some.found.dtype in
    let gt = (type_front c.in-Some.found.dtype.stands).fits in
    let e = c.in-Some.ensures in
    let m = ap length c.push.ensures ∙ length-append c.args.out.now (c.field_node.result ∷ []) in (
      omega (arith, c.decreases, found_less i u gu n fs gs t' gt e),
      found_room i u gu n fs gs t' gt e c.push.new.self (omega (arith, c.requires, m)),
    )

pub named-returns-in_err-held : goal.named-returns-in_err-held
named-returns-in_err-held t c =
    let i = options_of c.args.i in
    let u = viewed c.args.field.dtype in
    let gu = (type_front c.args.field.dtype.stands).fits in
    let fs = viewed_run c.args.fields.fields in
    let gs = viewed_run c.in-Some.found.rest in
    let n = c.args.field.name in
    let t' = viewed c.in-Some.found.dtype in
    let gt = (type_front c.in-Some.found.dtype.stands).fits in
    let e = c.in-Some.ensures in
    let m = ap length c.push.ensures ∙ length-append c.args.out.now (c.field_node.result ∷ []) in
    rw c.from_residual.ensures (under_of _ _ c.args.out.now _ None
    (c.push.ensures ∙ ap (λ n. c.args.out.now ++ n ∷ []) c.field_node.ensures) record {
      none = found_nothing i u gu n fs gs t' gt e c.in_err-held.ensures.none;
      kept = c.in_err-held.ensures.kept;
    })

pub named-again-requires : goal.named-again-requires
named-again-requires t c =
    let i = options_of c.args.i in
    let u = viewed c.args.field.dtype in
    let gu = (type_front c.args.field.dtype.stands).fits in
    let fs = viewed_run c.args.fields.fields in
    let gs = viewed_run c.in-Some.found.rest in
    let n = c.args.field.name in
    let t' = viewed c.in-Some.found.dtype in
    let gt = (type_front c.in-Some.found.dtype.stands).fits in
    let e = c.in-Some.ensures in
    let m = ap length c.push.ensures ∙ length-append c.args.out.now (c.field_node.result ∷ []) in
    let w = c.in_ok-held.ensures in (
      omega (arith, c.decreases, found_again i u gu n fs gs t' gt e w c.len-mark.ensures),
      (
        found_held i u gu n fs gs t' gt e w c.len-mark.ensures,
        found_space i u gu n fs gs t' gt e w c.len-mark.ensures (omega (arith, c.requires, m)),
      ),
    )

pub named-returns : goal.named-returns
named-returns t c =
    let i = options_of c.args.i in
    let u = viewed c.args.field.dtype in
    let gu = (type_front c.args.field.dtype.stands).fits in
    let fs = viewed_run c.args.fields.fields in
    let gs = viewed_run c.in-Some.found.rest in
    let n = c.args.field.name in
    let t' = viewed c.in-Some.found.dtype in
    let gt = (type_front c.in-Some.found.dtype.stands).fits in
    let e = c.in-Some.ensures in
    let m = ap length c.push.ensures ∙ length-append c.args.out.now (c.field_node.result ∷ []) in
    under_of _ _ c.args.out.now _ c.again.result
    (c.push.ensures ∙ ap (λ n. c.args.out.now ++ n ∷ []) c.field_node.ensures)
    (found_on i u gu n fs gs t' gt e c.in_ok-held.ensures c.len-mark.ensures _ c.again.result c.again.ensures)

-- ---- `new`

pub new-loop-field-init : goal.new-loop-field-init
new-loop-field-init t c = (tt, tt, new_start _ _ _ _ c.requires)

pub new-knows-requires : goal.new-knows-requires
new-knows-requires t c =
    left_less c.args.shortest.fields c.loop-field.rest c.next.new.self _ c.loop-field.invariant.2.parts
    c.in-Some.ensures.steps.left

pub new-named-requires : goal.new-named-requires
new-named-requires t c =
    let v = c.loop-field.invariant.2 in
    let e = c.in-Some.ensures.steps.fields in
    let k = sym (c.knows.ensures v.done (new_parts v e)) ∙ c.if-not-knows.true in
    let p = ap (λ fs. sizes (named c.in-Some.field.name (viewed_run fs))) c.plain.ensures in
    (omega (arith, c.decreases, new_less v e k, p), omega (arith, new_room v e k, p))

pub new-returns-in_err-named : goal.new-returns-in_err-named
new-returns-in_err-named t c =
    let v = c.loop-field.invariant.2 in
    let e = c.in-Some.ensures.steps.fields in
    let k = sym (c.knows.ensures v.done (new_parts v e)) ∙ c.if-not-knows.true in
    rw c.from_residual.ensures record {
      none = new_nothing v e k (rw c.plain.ensures at c.in_err-named.ensures).none;
      kept = going_kept v.going _ c.in_err-named.ensures.kept;
    }

pub new-overflow_add-names : goal.new-overflow_add-names
new-overflow_add-names t c = omega (arith, new_number c.loop-field.invariant.2)

pub new-loop-field-preserved-then-not-knows : goal.new-loop-field-preserved-then-not-knows
new-loop-field-preserved-then-not-knows t c =
    let v = c.loop-field.invariant.2 in
    let e = c.in-Some.ensures.steps.fields in
    let k = sym (c.knows.ensures v.done (new_parts v e)) ∙ c.if-not-knows.true in
    (tt, tt, new_next v e k (rw c.plain.ensures at c.in_ok-named.ensures))

pub new-loop-field-preserved : goal.new-loop-field-preserved
new-loop-field-preserved t c =
    let v = c.loop-field.invariant.2 in
    let e = c.in-Some.ensures.steps.fields in
    (tt, tt, new_skip v e (sym (c.knows.ensures v.done (new_parts v e)) ∙ c.if-not-knows.false))

pub new-returns : goal.new-returns
new-returns t c = new_end c.loop-field.invariant.2 c.in_default.ensures.steps.none

-- ---- `next`

pub next-held-requires-2 : goal.next-held-requires-2
next-held-requires-2 t c = held_alone c.requires.stands c.split_off-held.ensures.rest

pub next-join-requires : goal.next-join-requires
next-join-requires t c =
    let h = ap size (c.held-2.ensures ∙ alone_is c.args.mark c.args.out.now c.split_off-held.ensures.rest) in
    let n = held_length c.requires.stands in
    let k = ap length c.split_off-held.ensures.kept
    ∙ length-take-le c.args.mark c.args.out.now c.requires.stands.within in
    (omega (arith, c.decreases, h), omega (arith, c.requires.room, h, n, k))

pub next-returns : goal.next-returns
next-returns t c =
    let h = c.held-2.ensures ∙ alone_is c.args.mark c.args.out.now c.split_off-held.ensures.rest in
    joins_is nodes_of _ _ c.join.result
    (held_other (get_supertype (options_of c.args.i)) (viewed c.args.dtype) (held_at c.args.mark c.args.out.now)
    (sym c.if-same.false ∙ c.same.ensures ∙ ap (equal (viewed c.args.dtype)) c.held.ensures))
    (rw (h, c.split_off-held.ensures.kept) at c.join.ensures)

-- ---- `old`

pub old-loop-field-init : goal.old-loop-field-init
old-loop-field-init t c = (tt, tt, old_start _ _ _ _ c.requires)

pub old-kept-requires : goal.old-kept-requires
old-kept-requires t c =
    left_less c.args.longest.fields c.loop-field.rest c.next.new.self _ c.loop-field.invariant.2.parts
    c.in-Some.ensures.steps.left

pub old-named-requires : goal.old-named-requires
old-named-requires t c =
    let v = c.loop-field.invariant.2 in
    let e = c.in-Some.ensures.steps.fields in
    let k = c.in-Some-kept.ensures v.done (old_parts v e) in
    let p = ap (λ n. sizes (named n (viewed_run c.args.shortest.fields))) k.name in
    (omega (arith, c.decreases, old_less v e k.new k.last, p), omega (arith, old_room v e k.new k.last, p))

pub old-returns-in_err-named : goal.old-returns-in_err-named
old-returns-in_err-named t c =
    let v = c.loop-field.invariant.2 in
    let e = c.in-Some.ensures.steps.fields in
    let k = c.in-Some-kept.ensures v.done (old_parts v e) in
    rw c.from_residual.ensures record {
      none = old_nothing v e k.new k.last (rw k.name at c.in_err-named.ensures).none;
      kept = going_kept v.going _ c.in_err-named.ensures.kept;
    }

pub old-overflow_add-names : goal.old-overflow_add-names
old-overflow_add-names t c = omega (arith, old_number c.loop-field.invariant.2)

pub old-loop-field-preserved-in-Some-kept : goal.old-loop-field-preserved-in-Some-kept
old-loop-field-preserved-in-Some-kept t c =
    let v = c.loop-field.invariant.2 in
    let e = c.in-Some.ensures.steps.fields in
    let k = c.in-Some-kept.ensures v.done (old_parts v e) in
    (tt, tt, old_next v e k.new k.last (rw k.name at c.in_ok-named.ensures))

pub old-loop-field-preserved : goal.old-loop-field-preserved
old-loop-field-preserved t c =
    let v = c.loop-field.invariant.2 in
    let e = c.in-Some.ensures.steps.fields in
    (tt, tt, old_skip v e (c.in_default-kept.ensures v.done (old_parts v e)))

pub old-returns : goal.old-returns
old-returns t c = old_end c.loop-field.invariant.2 c.in_default.ensures.steps.none

-- ---- `under`

pub under-returns : goal.under-returns
under-returns t c = under_of c.args.n _ c.args.out.now _ c.join.result c.push.ensures c.join.ensures

-- ---- `union`

pub union-returns-in_err-first : goal.union-returns-in_err-first
union-returns-in_err-first t c =
    let i = options_of c.args.i in
    let fs = viewed_run c.args.longest.fields in
    let gs = viewed_run c.args.shortest.fields in
    let n = ap length c.push.ensures ∙ length-append c.args.out.now (c.struct_node.result ∷ []) in
    rw c.from_residual.ensures (union_old i fs gs c.args.out.now c.struct_node.result c.push.ensures _
    c.in_err-first.ensures)

pub union-new-requires : goal.union-new-requires
union-new-requires t c =
    let i = options_of c.args.i in
    let fs = viewed_run c.args.longest.fields in
    let gs = viewed_run c.args.shortest.fields in
    let n = ap length c.push.ensures ∙ length-append c.args.out.now (c.struct_node.result ∷ []) in (
      omega (arith, c.decreases),
      union_room i fs gs c.args.out.now c.struct_node.result c.push.ensures c.in_ok-first.ensures (omega (
        arith,
        c.requires,
        n,
      )),
    )

pub union-returns-in_err-more : goal.union-returns-in_err-more
union-returns-in_err-more t c =
    let i = options_of c.args.i in
    let fs = viewed_run c.args.longest.fields in
    let gs = viewed_run c.args.shortest.fields in
    let n = ap length c.push.ensures ∙ length-append c.args.out.now (c.struct_node.result ∷ []) in
    rw c.from_residual-in_err-more.ensures (union_new i fs gs c.args.out.now c.struct_node.result c.push.ensures
    c.in_ok-first.ensures (omega (arith, c.requires, n)) _ c.in_err-more.ensures)

pub union-overflow_add-first : goal.union-overflow_add-first
union-overflow_add-first t c =
    let i = options_of c.args.i in
    let fs = viewed_run c.args.longest.fields in
    let gs = viewed_run c.args.shortest.fields in
    let n = ap length c.push.ensures ∙ length-append c.args.out.now (c.struct_node.result ∷ []) in
    omega (
      arith,
      merged_names i fs gs c.args.out.now c.struct_node.result c.push.ensures c.in_ok-first.ensures
          (omega (arith, c.requires, n)) c.in_ok-more.ensures,
    )

pub union-returns : goal.union-returns
union-returns t c =
    let i = options_of c.args.i in
    let fs = viewed_run c.args.longest.fields in
    let gs = viewed_run c.args.shortest.fields in
    let n = ap length c.push.ensures ∙ length-append c.args.out.now (c.struct_node.result ∷ []) in
    rw c.close.ensures (merged i fs gs c.args.out.now c.struct_node.result c.push.ensures c.in_ok-first.ensures
    (omega (arith, c.requires, n)) c.in_ok-more.ensures c.len-mark.ensures refl)

-- ---- `zip`

pub zip-loop-a-init : goal.zip-loop-a-init
zip-loop-a-init t c =
    let z = c.zip-a-items.ensures in
    let many = run_many (run_front c.args.l.stand) ∙ c.requires.many ∙ sym (run_many (run_front c.args.r.stand)) in
    rw (c.into_iter-a-iterator.ensures.into_iter_gives, z.first, z.second) (
      (tt, tt),
      tt,
      zip_start _ _ _ c.args.out.now c.struct_node.result c.push.ensures many c.requires.room,
    )

pub zip-returns-then-a-b : goal.zip-returns-then-a-b
zip-returns-then-a-b t c =
    let s = c.in-Some.ensures.steps in
    let v = c.loop-a.invariant.2 in
    record {
      is = zip_apart v s.0.fields s.1.fields c.if-a-b.true;
      kept = kept_on _ (c.struct_node.result ∷ []) _ c.push.ensures (going_kept v.going _ (kept_all _));
    }

pub zip-under-joined-requires : goal.zip-under-joined-requires
zip-under-joined-requires t c =
    let s = c.in-Some.ensures.steps in
    let v = c.loop-a.invariant.2 in
    (omega (arith, c.decreases, zip_less v s.0.fields s.1.fields), zip_room v s.0.fields s.1.fields)

pub zip-loop-a-preserved : goal.zip-loop-a-preserved
zip-loop-a-preserved t c =
    let s = c.in-Some.ensures.steps in (
      (tt, tt),
      tt,
      zip_next c.loop-a.invariant.2 s.0.fields s.1.fields c.if-a-b.false
          (rw c.field_node.ensures at (joined_was c.in_ok-ok_or.ensures.ok_part c.under-joined.ensures)),
    )

pub zip-returns-in_err-ok_or : goal.zip-returns-in_err-ok_or
zip-returns-in_err-ok_or t c =
    let s = c.in-Some.ensures.steps in
    let v = c.loop-a.invariant.2 in
    let none = c.in_err-ok_or.ensures.ok_part in
    let w = joined_none _ none c.under-joined.ensures in
    rw (handed_on (err_from_is_err_and c.from_residual.result c.from_residual.ensures.1)
    ∙ ap Err (none_is c.in_err-ok_or.ensures.value none)) record {
      is = zip_nothing v s.0.fields s.1.fields c.if-a-b.false w.none;
      kept = kept_on _ (c.struct_node.result ∷ []) _ c.push.ensures (going_kept v.going _ w.kept);
    }

pub zip-returns : goal.zip-returns
zip-returns t c =
    let v = c.loop-a.invariant.2 in
    let z = elim c.in-None.ensures.steps as (λ _. viewed_run c.loop-a.a-iterator.a ≡ empty) [
      | inl e ↦ e.1.none
      | inr e ↦ rest_over v e.1.none
    ] in
    zip_end v z c.args.out.now c.struct_node.result c.push.ensures
    (c.struct_node.ensures ∙ ap (node kind.Struct) (sym (run_many (run_front c.args.l.stand))))
