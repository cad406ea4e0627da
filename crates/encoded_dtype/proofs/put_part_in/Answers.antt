-- `encoded_dtype::put_part_in` meets its contract. Assumes nothing.
use native.Mathlib.Omega.{arith}
use mathlib.Core.Path.{refl, ap}
use Rattle.std.proofs.lemmas.Result.{err_from_is_err_and}
use Rattle.dtype_inner.specs.Part.{part_reading}
use Rattle.encoded.proofs.Opening.{opened, unopened}
use Rattle.encoded.proofs.Finding.{refusal_found}
use Rattle.encoded_dtype.proofs.Parts.{part_none, part_within, part_puts, part_some, part_refused}
use Rattle.encoded_dtype.proofs.put_part_in.Goals as goal

pub returns-in_err-whole : goal.returns-in_err-whole
returns-in_err-whole g c =
    let p = err_from_is_err_and c.from_residual.result c.from_residual.ensures.1 in
    rw (p.1, p.2) (refusal_found _ _ (ap (part_reading g.P.Part.part) (unopened _ c.in_err-whole.ensures)))

pub returns-in_default : goal.returns-in_default
returns-in_default g c = part_none (opened c.in_ok-whole.ensures) _ c.nodes.ensures c.in_default.is

pub overflow_sub-at : goal.overflow_sub-at
overflow_sub-at g c = part_within (opened c.in_ok-whole.ensures) _ c.nodes.ensures c.in-Some.is

pub offset_bounds-whole-at : goal.offset_bounds-whole-at
offset_bounds-whole-at g c = let o = opened c.in_ok-whole.ensures in omega (arith, o.arrays.even, o.few)

pub slice_bounds-put-count-2 : goal.slice_bounds-put-count-2
slice_bounds-put-count-2 g c = let o = opened c.in_ok-whole.ensures in omega (arith, o.arrays.even)

pub slice_bounds-put-start-2 : goal.slice_bounds-put-start-2
slice_bounds-put-start-2 g c = let o = opened c.in_ok-whole.ensures in omega (arith, o.arrays.even)

pub put-requires : goal.put-requires
put-requires g c = part_puts (opened c.in_ok-whole.ensures) _ c.nodes.ensures c.in-Some.is _

pub returns-in_err-put : goal.returns-in_err-put
returns-in_err-put g c =
    let p = err_from_is_err_and c.from_residual-in_err-put.result c.from_residual-in_err-put.ensures.1 in
    rw (p.1, p.2)
    (part_refused (opened c.in_ok-whole.ensures) _ c.nodes.ensures c.in-Some.is refl c.put.ensures c.in_err-put.was)

pub returns : goal.returns
returns g c =
    part_some (opened c.in_ok-whole.ensures) _ c.nodes.ensures c.in-Some.is refl c.put.ensures c.in_ok-put.was
