-- `channels::merge_kind` meets its contract. Assumes nothing.
use mathlib.Core.Path.{◌≡◌, sym, ap, ◌∙◌}
use mathlib.Core.Bool.{true, ◌||◌}
use native.Mathlib.Omega.{arith}
use lib.Dec.{eqb}
use Rattle.supertype_numbers.specs.Range.{is_listed}
use Rattle.channels.specs.Merge.{upcast_held}
use Rattle.channels.proofs.Arms.{bad_code, null, not_integer, Taken, first, equal, upcast}
use Rattle.channels.proofs.merge_kind.Goals as goal
use Rattle.channels.proofs.merge_kind.Goals.{Else-not-is_channel_code, Else-not-is_listed}

pub returns-then-not-is_channel_code : goal.returns-then-not-is_channel_code
returns-then-not-is_channel_code c = bad_code _ _ (sym c.is_channel_code.ensures ∙ c.if-not-is_channel_code.true)

-- past 10
code : (c : Else-not-is_channel_code) → let h = c.args.held in eqb h 0 || is_listed h ≡ true
code c = sym c.is_channel_code.ensures ∙ c.if-not-is_channel_code.false

pub returns-in-0 : goal.returns-in-0
returns-in-0 c = null _ _ (code (goal.at.returns-in-0 c).Else-not-is_channel_code) c.in-0.is

pub returns-in_default : goal.returns-in_default
returns-in_default c =
    not_integer _ _ (code (goal.at.returns-in_default c).Else-not-is_channel_code) (omega arith)
    (sym c.is_listed.ensures ∙ c.if-not-is_listed.true)

-- past 10 and 11
taken : (c : Else-not-is_listed) → let a = c.args in Taken a.held a.kind
taken c =
    record {
      code = code (goal.at.Else-not-is_listed c).Else-not-is_channel_code;
      integer = sym c.is_listed.ensures ∙ c.if-not-is_listed.false;
    }

pub returns-then-held-eq0 : goal.returns-then-held-eq0
returns-then-held-eq0 c = first (taken (goal.at.returns-then-held-eq0 c).Else-not-is_listed) c.if-held-eq0.true

pub returns-then-held-kind : goal.returns-then-held-kind
returns-then-held-kind c =
    equal (taken (goal.at.returns-then-held-kind c).Else-not-is_listed) (omega arith) c.if-held-kind.true

pub returns-in-Some : goal.returns-in-Some
returns-in-Some c =
    ap upcast_held (sym c.in-Some.is ∙ c.upcast_kinds.ensures)
    ∙ upcast (taken (goal.at.returns-in-Some c).Else-not-is_listed) (omega arith) (omega arith)

pub returns-in-None : goal.returns-in-None
returns-in-None c =
    ap upcast_held (sym c.in-None.is ∙ c.upcast_kinds.ensures)
    ∙ upcast (taken (goal.at.returns-in-None c).Else-not-is_listed) (omega arith) (omega arith)
