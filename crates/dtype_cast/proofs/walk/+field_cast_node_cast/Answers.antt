-- The walk of `can_cast_to`: `node_cast` and `field_cast` call each other, and the number of nodes left falls. Assumes
-- nothing.
--
-- How this proof is made. What is known at a place of the code is one record over lists (proofs/Pairs.antt for two
-- nodes, proofs/Steps.antt for two runs of fields). An answer builds the record of its place, from the record of an
-- earlier place where there is one, and is then one law, of that record and of what was tested or called since.
--
--   node_cast     roots       the roots have told                              Roots
--                 same_kind   they leave it open, and are of one kind          SameKind
--                 structs     two Structs                                      TwoStructs
--                 as_many     two Structs with as many fields, one at least    AsMany
--                 inners      two Lists or two Arrays                          TwoInner
--                 joined      what stands under the roots has yes              UnderYes
--   field_cast    ahead       in the loop, a field is left                     FieldAhead
--                 yes         the types of that field have yes                 FieldYes
use mathlib.Core.Path.{◌≡◌, sym, ap, ◌∙◌}
use mathlib.Core.Bool.{Bool}
use mathlib.Core.List.{List}
use native.Mathlib.Omega.{arith}
use Prim.Native.Nat.{ℕ, ◌^◌, ◌≤◌, ◌<◌}
use lib.ListN.{length, get_or}
use Rattle.std.specs.Prelude.{Option, Some, Ok}
use Rattle.std.proofs.lemmas.Result.{err_from_is_err_and}
use Rattle.flat.specs.Walk.{Valid}
use Rattle.flat.proofs.Truths.{Fact, fact, handed_on, none_done, one_done}
use Rattle.dtype_cast.specs.Walk.{early_of}
use Rattle.dtype_cast.proofs.Pairs.{Roots, SameKind, TwoStructs, AsMany, TwoInner, UnderYes, under_yes, under_no}
use Rattle.dtype_cast.proofs.Pairs.{roots_yes, roots_no, other_kinds, two_leaves}
use Rattle.dtype_cast.proofs.Pairs.{no_field, other_count, fields_call, fields_under}
use Rattle.dtype_cast.proofs.Pairs.{other_width, inner_call, inner_under}
use Rattle.dtype_cast.proofs.Steps.{FieldsAlong, FieldAhead, FieldYes, start, next_call}
use Rattle.dtype_cast.proofs.Steps.{field_no, field_ends, field_done, fields_done}
use Rattle.dtype_cast.proofs.walk.+field_cast_node_cast.Goals as goal
use Rattle.dtype_cast.proofs.walk.+field_cast_node_cast.Goals.{node_cast-Joined-from}
use Rattle.dtype_cast.proofs.walk.+field_cast_node_cast.Goals.{node_cast-in-30+else-from-eq0+else-from-to-2+in_ok-field_cast-in-30}
use Rattle.dtype_cast.proofs.walk.+field_cast_node_cast.Goals.{node_cast-in_default+else-to-from+in_ok-n-in_default}

-- a call of `node_cast` whose roots have told
entered : {t : ℕ} {told : Option Bool} {ks xs ls ys : List ℕ} → Valid ks xs → Valid ls ys → length ks ≡ t
    → length ks ≤ 2 ^ 63 → length ls ≤ 2 ^ 63
    → told ≡ early_of (get_or ks 0 0) (get_or xs 0 0) (get_or ls 0 0) (get_or ys 0 0) → Roots t told ks xs ls ys
entered v w m s r e =
    record { called = record { measure = m; short = s; short_right = r }; left = v; right = w; says = e }

-- in the loop of `field_cast`, a field is left
looping : {t m : ℕ} {ks xs ls ys : List ℕ} {i j left : ℕ} → FieldsAlong m ks xs ls ys i j left → length ks ≡ t
    → length ks ≤ 2 ^ 63 → length ls ≤ 2 ^ 63 → 0 < left → FieldAhead t m ks xs ls ys i j left
looping a m s r h =
    record { called = record { measure = m; short = s; short_right = r }; along = a; more = h }

-- ---- field_cast
pub field_cast-loop-init : goal.field_cast-loop-init
field_cast-loop-init t c =
    none_done (FieldsAlong _ _ _ _ _ _ _) _ (start c.requires.valid_run c.requires.valid_run_2)

pub field_cast-node_cast-answer-requires : goal.field_cast-node_cast-answer-requires
field_cast-node_cast-answer-requires t c =
    let ahead = looping c.loop.invariant c.decreases (omega arith) (omega arith) (omega arith) in
    next_call ahead

pub field_cast-returns-in-Err : goal.field_cast-returns-in-Err
field_cast-returns-in-Err t c =
    let ahead = looping c.loop.invariant c.decreases (omega arith) (omega arith) (omega arith) in
    field_no ahead (sym c.in-Err.is ∙ c.node_cast-answer.ensures)

pub field_cast-overflow_add-i : goal.field_cast-overflow_add-i
field_cast-overflow_add-i t c =
    let ahead = looping c.loop.invariant c.decreases (omega arith) (omega arith) (omega arith) in
    let yes : FieldYes t _ _ _ _ _ _ _ _ _ _ = record { ahead = ahead; yes = sym c.in-Ok.is ∙ c.node_cast-answer.ensures } in
    omega (arith, (field_ends yes).0)

pub field_cast-overflow_add-j : goal.field_cast-overflow_add-j
field_cast-overflow_add-j t c =
    let ahead = looping c.loop.invariant c.decreases (omega arith) (omega arith) (omega arith) in
    let yes : FieldYes t _ _ _ _ _ _ _ _ _ _ = record { ahead = ahead; yes = sym c.in-Ok.is ∙ c.node_cast-answer.ensures } in
    omega (arith, (field_ends yes).1)

pub field_cast-loop-preserved : goal.field_cast-loop-preserved
field_cast-loop-preserved t c =
    let ahead = looping c.loop.invariant c.decreases (omega arith) (omega arith) (omega arith) in
    let yes : FieldYes t _ _ _ _ _ _ _ _ _ _ = record { ahead = ahead; yes = sym c.in-Ok.is ∙ c.node_cast-answer.ensures } in
    one_done (FieldsAlong _ _ _ _ _ _ _) _ _ (field_done yes)

pub field_cast-returns : goal.field_cast-returns
field_cast-returns t c =
    fields_done c.loop.invariant (omega arith)

-- ---- node_cast
pub node_cast-returns-in-Some-true : goal.node_cast-returns-in-Some-true
node_cast-returns-in-Some-true t c =
    let roots : Roots t _ _ _ _ _ = entered c.requires.from_valid c.requires.to_valid c.decreases (omega arith) (omega arith) (sym (c.in-Some-true.is ∙ ap Some c.in-Some-true.field-0-test) ∙ c.before_nested.ensures) in
    roots_yes roots c.nodes.ensures

pub node_cast-returns-in-Some-false : goal.node_cast-returns-in-Some-false
node_cast-returns-in-Some-false t c =
    let roots : Roots t _ _ _ _ _ = entered c.requires.from_valid c.requires.to_valid c.decreases (omega arith) (omega arith) (sym (c.in-Some-false.is ∙ ap Some c.in-Some-false.field-0-test) ∙ c.before_nested.ensures) in
    roots_no roots

pub node_cast-returns-then-from-to : goal.node_cast-returns-then-from-to
node_cast-returns-then-from-to t c =
    let roots : Roots t _ _ _ _ _ = entered c.requires.from_valid c.requires.to_valid c.decreases (omega arith) (omega arith) (sym c.in-None.is ∙ c.before_nested.ensures) in
    other_kinds roots c.if-from-to.true

pub node_cast-returns-in-0-to-27 : goal.node_cast-returns-in-0-to-27
node_cast-returns-in-0-to-27 t c =
    let roots : Roots t _ _ _ _ _ = entered c.requires.from_valid c.requires.to_valid c.decreases (omega arith) (omega arith) (sym c.in-None.is ∙ c.before_nested.ensures) in
    let same_kind : SameKind t _ _ _ _ = record { roots = roots; same_kind = c.if-from-to.false } in
    two_leaves same_kind (omega arith)

pub node_cast-returns-then-from-eq0 : goal.node_cast-returns-then-from-eq0
node_cast-returns-then-from-eq0 t c =
    let roots : Roots t _ _ _ _ _ = entered c.requires.from_valid c.requires.to_valid c.decreases (omega arith) (omega arith) (sym c.in-None.is ∙ c.before_nested.ensures) in
    let same_kind : SameKind t _ _ _ _ = record { roots = roots; same_kind = c.if-from-to.false } in
    let structs : TwoStructs t _ _ _ _ = record { kinds = same_kind; is_struct = c.in-30.is } in
    no_field structs c.if-from-eq0.true c.nodes-then-from-eq0.ensures

pub node_cast-returns-then-from-to-2 : goal.node_cast-returns-then-from-to-2
node_cast-returns-then-from-to-2 t c =
    let roots : Roots t _ _ _ _ _ = entered c.requires.from_valid c.requires.to_valid c.decreases (omega arith) (omega arith) (sym c.in-None.is ∙ c.before_nested.ensures) in
    let same_kind : SameKind t _ _ _ _ = record { roots = roots; same_kind = c.if-from-to.false } in
    let structs : TwoStructs t _ _ _ _ = record { kinds = same_kind; is_struct = c.in-30.is } in
    other_count structs c.if-from-eq0.false c.if-from-to-2.true

pub node_cast-field_cast-requires : goal.node_cast-field_cast-requires
node_cast-field_cast-requires t c =
    let roots : Roots t _ _ _ _ _ = entered c.requires.from_valid c.requires.to_valid c.decreases (omega arith) (omega arith) (sym c.in-None.is ∙ c.before_nested.ensures) in
    let same_kind : SameKind t _ _ _ _ = record { roots = roots; same_kind = c.if-from-to.false } in
    let structs : TwoStructs t _ _ _ _ = record { kinds = same_kind; is_struct = c.in-30.is } in
    let as_many : AsMany t _ _ _ _ =
    record { structs = structs; some_field = c.if-from-eq0.false; same_count = c.if-from-to-2.false } in
    fields_call as_many

pub node_cast-returns-in_err-field_cast-in-30 : goal.node_cast-returns-in_err-field_cast-in-30
node_cast-returns-in_err-field_cast-in-30 t c =
    let roots : Roots t _ _ _ _ _ = entered c.requires.from_valid c.requires.to_valid c.decreases (omega arith) (omega arith) (sym c.in-None.is ∙ c.before_nested.ensures) in
    let same_kind : SameKind t _ _ _ _ = record { roots = roots; same_kind = c.if-from-to.false } in
    let structs : TwoStructs t _ _ _ _ = record { kinds = same_kind; is_struct = c.in-30.is } in
    let as_many : AsMany t _ _ _ _ =
    record { structs = structs; some_field = c.if-from-eq0.false; same_count = c.if-from-to-2.false } in
    handed_on (err_from_is_err_and c.from_residual.result c.from_residual.ensures.1) ∙ under_no (fields_under as_many c.field_cast.ensures) c.in_err-field_cast-in-30.was

pub node_cast-returns-then-to-from : goal.node_cast-returns-then-to-from
node_cast-returns-then-to-from t c =
    let roots : Roots t _ _ _ _ _ = entered c.requires.from_valid c.requires.to_valid c.decreases (omega arith) (omega arith) (sym c.in-None.is ∙ c.before_nested.ensures) in
    let same_kind : SameKind t _ _ _ _ = record { roots = roots; same_kind = c.if-from-to.false } in
    let inners : TwoInner t _ _ _ _ = record { kinds = same_kind; nested = omega arith; no_struct = λ e. omega arith } in
    other_width inners c.if-to-from.true

pub node_cast-node_cast-requires : goal.node_cast-node_cast-requires
node_cast-node_cast-requires t c =
    let roots : Roots t _ _ _ _ _ = entered c.requires.from_valid c.requires.to_valid c.decreases (omega arith) (omega arith) (sym c.in-None.is ∙ c.before_nested.ensures) in
    let same_kind : SameKind t _ _ _ _ = record { roots = roots; same_kind = c.if-from-to.false } in
    let inners : TwoInner t _ _ _ _ = record { kinds = same_kind; nested = omega arith; no_struct = λ e. omega arith } in
    inner_call inners

pub node_cast-returns-in_err-n-in_default : goal.node_cast-returns-in_err-n-in_default
node_cast-returns-in_err-n-in_default t c =
    let roots : Roots t _ _ _ _ _ = entered c.requires.from_valid c.requires.to_valid c.decreases (omega arith) (omega arith) (sym c.in-None.is ∙ c.before_nested.ensures) in
    let same_kind : SameKind t _ _ _ _ = record { roots = roots; same_kind = c.if-from-to.false } in
    let inners : TwoInner t _ _ _ _ = record { kinds = same_kind; nested = omega arith; no_struct = λ e. omega arith } in
    handed_on (err_from_is_err_and c.from_residual-in_err-n-in_default.result c.from_residual-in_err-n-in_default.ensures.1) ∙ under_no (inner_under inners c.node_cast.ensures c.if-to-from.false) c.in_err-n-in_default.was

-- what stands under the roots has yes
abbrev joined : (t : ℕ) (c : node_cast-Joined-from t) → Fact
joined t c =
    let roots : Roots t _ _ _ _ _ = entered c.requires.from_valid c.requires.to_valid c.decreases (omega arith) (omega arith) (sym c.in-None.is ∙ c.before_nested.ensures) in
    let same_kind : SameKind t _ _ _ _ = record { roots = roots; same_kind = c.if-from-to.false } in
    fact {A = UnderYes c.args.from_kinds.now c.args.from_args.now c.args.to_kinds.now c.args.to_args.now c.match-from.n} (
    elim c.match-from.branch [
      | node_cast-in-30+else-from-eq0+else-from-to-2+in_ok-field_cast-in-30 w ↦
          let structs : TwoStructs t _ _ _ _ = record { kinds = same_kind; is_struct = w.in-30.is } in
          let as_many : AsMany t _ _ _ _ =
          record { structs = structs; some_field = w.if-from-eq0.false; same_count = w.if-from-to-2.false } in
          under_yes (fields_under as_many w.field_cast.ensures) (w.in_ok-field_cast-in-30.was ∙ ap Ok (sym w.n-is))
      | node_cast-in_default+else-to-from+in_ok-n-in_default w ↦
          let inners : TwoInner t _ _ _ _ =
          record { kinds = same_kind; nested = omega arith; no_struct = λ e. omega arith } in
          under_yes (inner_under inners w.node_cast.ensures w.if-to-from.false) (w.in_ok-n-in_default.was ∙ ap Ok (sym w.n-is))
    ])

pub node_cast-overflow_add-result : goal.node_cast-overflow_add-result
node_cast-overflow_add-result t c =
    omega (arith, (joined t c).proof.room.0)

pub node_cast-overflow_add-result-2 : goal.node_cast-overflow_add-result-2
node_cast-overflow_add-result-2 t c =
    omega (arith, (joined t c).proof.room.1)

pub node_cast-returns : goal.node_cast-returns
node_cast-returns t c =
    (joined t c).proof.says
