-- `supertype_place::names::Named::find` meets its contract. Assumes nothing.
use mathlib.Core.Path.{ap}
use Prim.Native.Nat.{◌+◌}
use native.Mathlib.Omega.{arith}
use Rattle.std.specs.Prelude.{option_map}
use Rattle.flat.proofs.Walks.{length_from}
use Rattle.supertype_place.proofs.Tables.{told_absent, told_type, told_field}
use Rattle.supertype_place.proofs.Views.{type_front}
use Rattle.supertype_place.proofs.names.Named.find.Goals as goal

pub returns-in_err-at : goal.returns-in_err-at
returns-in_err-at c =
    rw c.from_residual.ensures (told_absent c.args.self.fields c.args.self.tells (ap (option_map (λ t. t.now))
    c.in-Some.is)
    c.args.name c.in_err-at.was)

pub bounds-self-at : goal.bounds-self-at
bounds-self-at c =
    let t = told_type c.args.self.fields c.args.self.tells (ap (option_map (λ t. t.now)) c.in-Some.is) _ _
    c.in_ok-at.was in
    let v = type_front t in
    omega (arith, v.pos, v.args, length_from (c.in_ok-at.field-0 + 1) c.args.self.fields.args.now)

pub slice_bounds-result-count : goal.slice_bounds-result-count
slice_bounds-result-count c =
    let t = told_type c.args.self.fields c.args.self.tells (ap (option_map (λ t. t.now)) c.in-Some.is) _ _
    c.in_ok-at.was in
    let v = type_front t in
    omega (arith, v.pos, v.kinds, length_from (c.in_ok-at.field-0 + 1) c.args.self.fields.kinds.now)

pub slice_bounds-result-start : goal.slice_bounds-result-start
slice_bounds-result-start c =
    let t = told_type c.args.self.fields c.args.self.tells (ap (option_map (λ t. t.now)) c.in-Some.is) _ _
    c.in_ok-at.was in
    let v = type_front t in
    omega (arith, v.pos, v.kinds, length_from (c.in_ok-at.field-0 + 1) c.args.self.fields.kinds.now)

pub slice_bounds-result-count-then-self-at : goal.slice_bounds-result-count-then-self-at
slice_bounds-result-count-then-self-at c =
    let t = told_type c.args.self.fields c.args.self.tells (ap (option_map (λ t. t.now)) c.in-Some.is) _ _
    c.in_ok-at.was in
    let v = type_front t in
    omega (arith, v.pos, v.args, length_from (c.in_ok-at.field-0 + 1) c.args.self.fields.args.now)

pub slice_bounds-result-start-then-self-at : goal.slice_bounds-result-start-then-self-at
slice_bounds-result-start-then-self-at c =
    let t = told_type c.args.self.fields c.args.self.tells (ap (option_map (λ t. t.now)) c.in-Some.is) _ _
    c.in_ok-at.was in
    let v = type_front t in
    omega (arith, v.pos, v.args, length_from (c.in_ok-at.field-0 + 1) c.args.self.fields.args.now)

pub invariant_of-result : goal.invariant_of-result
invariant_of-result c =
    record {
      stands = told_type c.args.self.fields c.args.self.tells (ap (option_map (λ t. t.now)) c.in-Some.is) _ _
          c.in_ok-at.was;
    }

pub returns-then-self-at : goal.returns-then-self-at
returns-then-self-at c =
    told_field c.args.self.fields c.args.self.tells (ap (option_map (λ t. t.now)) c.in-Some.is) _ _ c.in_ok-at.was
    c.if-self-at.true c.front.ensures
