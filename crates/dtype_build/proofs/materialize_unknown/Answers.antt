-- `dtype_build::materialize_unknown` meets its contract. Assumes nothing.
use mathlib.Core.Path.{sym, ◌∙◌}
use Rattle.std.proofs.lemmas.Result.{err_from_is_err_and}
use Rattle.flat.proofs.Meaning.{check_passed, checked_refused}
use Rattle.dtype_build.proofs.Answers.{refusal, handed_refusal, materialized_refused, writes_as}
use Rattle.dtype_build.proofs.Answers.{Whole, whole_requires, known_none, known_type}
use Rattle.dtype_build.proofs.materialize_unknown.Goals as goal
use Rattle.dtype_build.proofs.materialize_unknown.Goals.{In_ok-check}

-- the check passed
abbrev whole : In_ok-check → Whole
whole c =
    let passed = check_passed (sym c.in_ok-check.was ∙ c.check.ensures) in
    record { nodes = _; deep = _; ks = _; xs = _; passed = passed }

-- any stands in the type and isn't allowed
pub returns-then-any_refused : goal.returns-then-any_refused
returns-then-any_refused c = refusal _ _ (known_none (whole (goal.at.returns-then-any_refused c).In_ok-check) _ c.any_refused.ensures c.if-any_refused.true)

pub build-requires : goal.build-requires
build-requires c = whole_requires (whole (goal.at.build-requires c).In_ok-check)

-- the check refused
pub returns-in_err-check : goal.returns-in_err-check
returns-in_err-check c =
    handed_refusal _ _ (err_from_is_err_and c.from_residual.result c.from_residual.ensures.1)
    (materialized_refused _ (checked_refused _ _ (sym c.in_err-check.was ∙ c.check.ensures)))

pub returns : goal.returns
returns c =
    let known = known_type (whole (goal.at.returns c).In_ok-check) _ c.any_refused.ensures c.if-any_refused.false in
    writes_as _ _ known c.build.ensures
