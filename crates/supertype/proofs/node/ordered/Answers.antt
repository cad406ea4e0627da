-- `supertype::node::ordered` meets its contract. Assumes nothing.
use mathlib.Core.Path.{◌≡◌, sym, ap, ◌∙◌}
use Rattle.std.specs.Prelude.{Option, Some}
use borrow.Author.Tests.{eqb-true, eqb-false}
use Rattle.supertype_arms.specs.declared.plan.Plan.{Plan}
use Rattle.supertype_arms.specs.Supertype.{answered, known_supertype}
use Rattle.supertype.proofs.ByPlan.{Planned, left, right, kind, decimals, decimal_kinds, decimal_integer}
use Rattle.supertype.proofs.ByPlan.{dyn_decimal, datetime_duration, one_zone, two_zones, durations}
use Rattle.supertype.proofs.ByPlan.{number_kinds, number, boolean}
use Rattle.supertype.proofs.node.ordered.Goals as goal
use Rattle.supertype.proofs.node.ordered.Goals.{After-planned}

-- where the plan was told
told : (c : After-planned) {p : Option Plan} → c.planned.result ≡ p
    → let a = c.args in Planned a.to_string a.l a.r p
told c e =
    let pre = c.requires in
    record { fits_left = pre.0; fits_right = pre.1; apart = pre.2; is = sym e ∙ c.planned.ensures }

pub beside_integer-requires : goal.beside_integer-requires
beside_integer-requires c = decimal_kinds (told (goal.at.beside_integer-requires c).After-planned (cc))

pub dyn_number-requires : goal.dyn_number-requires
dyn_number-requires c = number_kinds (told (goal.at.dyn_number-requires c).After-planned (cc))

pub returns-in_err-planned : goal.returns-in_err-planned
returns-in_err-planned c =
    c.from_residual.ensures
    ∙ ap (λ (p : Option Plan). answered known_supertype p c.args.l c.args.r) c.in_err-planned.ensures

pub returns-in-Left : goal.returns-in-Left
returns-in-Left c = left (told (goal.at.returns-in-Left c).After-planned (cc))

pub returns-in-Right : goal.returns-in-Right
returns-in-Right c = right (told (goal.at.returns-in-Right c).After-planned (cc))

pub returns-in-Kind : goal.returns-in-Kind
returns-in-Kind c = kind {k = c.in-Kind.k} (told (goal.at.returns-in-Kind c).After-planned (cc)) (cc)

pub returns-in-Decimals : goal.returns-in-Decimals
returns-in-Decimals c = decimals (told (goal.at.returns-in-Decimals c).After-planned (cc)) c.decimals.ensures

pub returns-in-DecimalInteger : goal.returns-in-DecimalInteger
returns-in-DecimalInteger c = decimal_integer (told (goal.at.returns-in-DecimalInteger c).After-planned (cc)) c.beside_integer.ensures

pub returns-in-DatetimeDuration : goal.returns-in-DatetimeDuration
returns-in-DatetimeDuration c = datetime_duration (told (goal.at.returns-in-DatetimeDuration c).After-planned (cc)) c.datetime.ensures

pub returns-in-Datetimes : goal.returns-in-Datetimes
returns-in-Datetimes c =
    one_zone (told (goal.at.returns-in-Datetimes c).After-planned (c.in_ok-planned.was ∙ ap Some c.in-Datetimes.is))
    (eqb-true _ _ (sym c.same_zone.ensures ∙ c.if-same_zone.true)) c.datetime-in-Datetimes.ensures

pub returns-in-Datetimes-2 : goal.returns-in-Datetimes-2
returns-in-Datetimes-2 c =
    two_zones (told (goal.at.returns-in-Datetimes-2 c).After-planned (c.in_ok-planned.was ∙ ap Some c.in-Datetimes.is))
    (eqb-false _ _ (sym c.same_zone.ensures ∙ c.if-same_zone.false))

pub returns-in-Durations : goal.returns-in-Durations
returns-in-Durations c = durations (told (goal.at.returns-in-Durations c).After-planned (cc)) c.max.ensures

pub returns-in-DynNumber : goal.returns-in-DynNumber
returns-in-DynNumber c = ap Some c.plain-in-DynNumber.ensures ∙ number (told (goal.at.returns-in-DynNumber c).After-planned (cc)) c.dyn_number.ensures

pub returns-in-DynBoolean : goal.returns-in-DynBoolean
returns-in-DynBoolean c = ap Some c.plain-in-DynBoolean.ensures ∙ boolean (told (goal.at.returns-in-DynBoolean c).After-planned (cc)) c.materialize_dyn_int.ensures

pub returns-in-DynDecimal : goal.returns-in-DynDecimal
returns-in-DynDecimal c = dyn_decimal (told (goal.at.returns-in-DynDecimal c).After-planned (cc)) c.widened.ensures
