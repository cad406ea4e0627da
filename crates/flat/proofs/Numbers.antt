-- Which numbers the causes have. Assumes nothing.
use mathlib.Core.Path.{◌≡◌}
use mathlib.Core.List.{List, [], ◌∷◌}
use Prim.Native.Nat.{ℕ, ◌-◌, ◌≤◌}
use native.Mathlib.Omega.{arith}
use lib.Dec.{eqb, eqb→eq}
use lib.ListN.{get_or}
use Rattle.flat.specs.Refusal.{number_of, Numbers}
use Rattle.flat.specs.declared.error.Error.{Error}
use Rattle.flat.specs.declared.error.Error.TheVariants.{Length, Kind, Argument, Shape, Depth, Nested, Unknown}
use Rattle.flat.specs.declared.error.Error.TheVariants.{OutputTooShort, Channel, ChannelCode, NotInteger}
use Rattle.flat.specs.declared.error.Error.TheVariants.{NoUpcast}
use Rattle.flat.proofs.Rules.{in_run}

-- from 1 on
abbrev causes : List Error
causes =
    Length ∷ Kind ∷ Argument ∷ Shape ∷ Depth ∷ Nested ∷ Unknown ∷ OutputTooShort ∷ Channel ∷ ChannelCode ∷ NotInteger
    ∷ NoUpcast ∷ []

abbrev cause_of : ℕ → Error
cause_of n = get_or causes (n - 1) Length

given_back : (n : ℕ) → 1 ≤ n → n ≤ 12 → number_of (cause_of n) ≡ n
given_back n h g = eqb→eq _ n (in_run (λ n. eqb (number_of (cause_of n)) n) 1 12 tt n h (omega arith))

only : (e : Error) → (1 ≤ number_of e) × (number_of e ≤ 12)
only Length = omega arith
only Kind = omega arith
only Argument = omega arith
only Shape = omega arith
only Depth = omega arith
only Nested = omega arith
only Unknown = omega arith
only OutputTooShort = omega arith
only Channel = omega arith
only ChannelCode = omega arith
only NotInteger = omega arith
only NoUpcast = omega arith

pub numbers : Numbers
numbers =
    record {
      given = λ n. (
        (λ w. let o = only w.0 in (omega (arith, w.1), omega (arith, w.1), omega (arith, w.1))),
        (λ h. (cause_of n, given_back n h.0 (omega (arith, h.1, h.2)))),
      );
    }
