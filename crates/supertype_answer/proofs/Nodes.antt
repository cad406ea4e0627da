-- A node whose kind has no argument. Assumes nothing.
use mathlib.Core.Path.{◌≡◌, ◌∙◌}
use mathlib.Core.Bool.{true}
use Prim.Native.Nat.{ℕ}
use lib.Dec.{T, leb}
use borrow.Author.Tests.{eqb-true}
use Rattle.flat.specs.Kind
use Rattle.flat.specs.Argument.{argument_rule, argument_fits}
use Rattle.flat.proofs.Rules.{is_zero, zero_follows}
use Rattle.flat.proofs.Truths.{both_true}

pub no_argument : (k a : ℕ) → T (is_zero (argument_rule k)) → argument_fits k a ≡ true → a ≡ 0
unfolding argument_fits
no_argument k a z e = eqb-true a 0 (zero_follows (argument_rule k) a z ∙ (both_true (leb k Kind.Field) _ e).1)
