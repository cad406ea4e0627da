-- `supertype_lossless::upcast_roots` meets its contract. Assumes nothing.
use mathlib.Core.Path.{◌≡◌, ap, ◌∙◌}
use Rattle.std.proofs.lemmas.Result.{err_from_is_err_and}
use Rattle.flat.specs.Tree.{head_kind}
use native.Mathlib.Omega.{arith}
use Rattle.std.proofs.lemmas.Grind.{common_steps}
use Rattle.std.specs.Option.{option_map}
use Rattle.supertype_answer.specs.Join.{node, found_of, result_of}
use Rattle.supertype_answer.proofs.Joins.{left_refused, right_refused, both_roots}
use Rattle.supertype_lossless.specs.Lossless.{found_upcast, root_upcast}
use Rattle.supertype_lossless.proofs.upcast_roots.Goals as goal

pub returns-in_err-l : goal.returns-in_err-l
returns-in_err-l c =
    let given = err_from_is_err_and c.from_residual.result c.from_residual.ensures.1 in
    left_refused result_of _ _ given c.in_err-l.was

pub returns-in_err-r : goal.returns-in_err-r
returns-in_err-r c =
    let given = err_from_is_err_and c.from_residual-in_err-r.result c.from_residual-in_err-r.ensures.1 in
    right_refused result_of _ _ given c.in_ok-l.was c.in_err-r.was

pub returns : goal.returns
unfolding head_kind root_upcast
returns c =
    let m : c.map.result ≡ option_map (λ k. node k 0) c.upcast_kinds.result = grind (arith, common_steps) in
    ap found_of m ∙ ap found_upcast c.upcast_kinds.ensures ∙ both_roots result_of _ c.in_ok-l.was c.in_ok-r.was
