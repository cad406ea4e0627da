-- The number of each cause for which a call is refused: document 01's table. Assumes nothing: these are definitions,
-- and a statement that is proved in proofs/Numbers.antt.
use Rattle.std.specs.Prelude.{◌≡◌, ◌↔◌, ℕ, ◌≤◌, Result, Ok, Err}
use Rattle.flat.specs.declared.error.Error.{Error}
use Rattle.flat.specs.declared.error.Error.TheVariants.{Length, Kind, Argument, Shape, Depth, Nested, Unknown}
use Rattle.flat.specs.declared.error.Error.TheVariants.{OutputTooShort, Channel, ChannelCode, NotInteger}
use Rattle.flat.specs.declared.error.Error.TheVariants.{NoUpcast}

-- the number of a cause
abbrev pub number_of : Error → ℕ
number_of Length = 1
number_of Kind = 2
number_of Argument = 3
number_of Shape = 4
number_of Depth = 5
number_of Nested = 6
number_of Unknown = 7
number_of OutputTooShort = 8
number_of Channel = 9
number_of ChannelCode = 10
number_of NotInteger = 11
number_of NoUpcast = 12

-- document 01's number of an answer: 0, or the refusal's
abbrev pub answer_number : {A : Type 0} → Result A Error → ℕ
answer_number (Ok x) = 0
answer_number (Err e) = number_of e

-- the numbers that are given: document 01's, from 1 to 13, but for 13, which is retired (document 02, Two)
pub record Numbers : Type 0 where
  pub given : (n : ℕ) → ((e : Error) × (number_of e ≡ n)) ↔ ((1 ≤ n) × (n ≤ 13) × (n ≡ 13 → ⊥))
