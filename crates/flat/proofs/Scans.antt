-- A scan of the nodes: what the tests of the first i say of all of them. Assumes nothing.
use mathlib.Core.Path.{◌≡◌, refl, sym, ap, ◌∙◌}
use mathlib.Core.Bool.{Bool, true, false, ◌&&◌}
use mathlib.Core.List.{List, [], ◌∷◌}
use Prim.Native.Nat.{ℕ, ◌+◌, ◌≤◌, ◌<◌}
use native.Mathlib.Omega.{arith}
use native.Mathlib.Numerals.{add-one}
use lib.Dec.{leb}
use lib.ListN.{length, get_or, drop, drop_of_length-le}
use lib.Seq.{drop-cons}
use borrow.Author.Tests.{le-leb, lt-leb}
use Rattle.flat.specs.Kind
use Rattle.flat.specs.Argument.{argument_rule, follows, argument_fits}
use Rattle.flat.specs.Reading.{kinds_fit, arguments_fit}
use Rattle.flat.proofs.Truths.{never}

-- The first i kinds fit, so those after them decide.
pub record KindsLeft (ks : List ℕ) (i : ℕ) : Type 0 where
  pub here : i ≤ length ks
  pub says : kinds_fit ks ≡ kinds_fit (drop i ks)

pub all_kinds : {ks : List ℕ} → KindsLeft ks 0
all_kinds = record { here = omega arith; says = refl }

module _ {ks : List ℕ} {i : ℕ} (p : KindsLeft ks i) where
  kinds_step : i < length ks → kinds_fit ks ≡ (leb (get_or ks i 0) Kind.Field && kinds_fit (drop (i + 1) ks))
  unfolding kinds_fit
  kinds_step h = p.says ∙ rw (add-one, drop-cons ks i 0)

  pub kinds_on : i < length ks → get_or ks i 0 ≤ Kind.Field → KindsLeft ks (i + 1)
  kinds_on h k = record { here = omega arith; says = kinds_step h ∙ rw (le-leb _ _ k) }

  pub kinds_stop : i < length ks → Kind.Field < get_or ks i 0 → false ≡ kinds_fit ks
  kinds_stop h k = sym (kinds_step h ∙ rw (lt-leb _ _ k))

  pub kinds_end : length ks ≤ i → true ≡ kinds_fit ks
  unfolding kinds_fit
  kinds_end h = sym (p.says ∙ ap kinds_fit (drop_of_length-le ks h))

-- The first i arguments fit, so those after them decide.
pub record ArgumentsLeft (ks xs : List ℕ) (i : ℕ) : Type 0 where
  pub even : length ks ≡ length xs
  pub here : i ≤ length ks
  pub says : arguments_fit ks xs ≡ arguments_fit (drop i ks) (drop i xs)

pub all_arguments : {ks xs : List ℕ} → length ks ≡ length xs → ArgumentsLeft ks xs 0
all_arguments e = record { even = e; here = omega arith; says = refl }

module _ {ks xs : List ℕ} {i : ℕ} (p : ArgumentsLeft ks xs i) where
  arguments_step : i < length ks → arguments_fit ks xs ≡ (argument_fits (get_or ks i 0) (get_or xs i 0) && arguments_fit (drop (i + 1) ks) (drop (i + 1) xs))
  unfolding arguments_fit
  arguments_step h = let g : i < length xs = omega arith in p.says ∙ rw (add-one, drop-cons ks i 0, drop-cons xs i 0)

  pub arguments_on : i < length ks → argument_fits (get_or ks i 0) (get_or xs i 0) ≡ true → ArgumentsLeft ks xs (i + 1)
  arguments_on h a = record { even = p.even; here = omega arith; says = arguments_step h ∙ rw a }

  pub arguments_stop : i < length ks → argument_fits (get_or ks i 0) (get_or xs i 0) ≡ false → false ≡ arguments_fit ks xs
  arguments_stop h a = sym (arguments_step h ∙ rw a)

  pub arguments_end : length ks ≤ i → true ≡ arguments_fit ks xs
  unfolding arguments_fit
  arguments_end h = sym (p.says ∙ ap (λ (l : List ℕ). arguments_fit l (drop i xs)) (drop_of_length-le ks h))

-- an argument fits no code above 31
pub arguments_kinds : (ks xs : List ℕ) → length ks ≡ length xs → arguments_fit ks xs ≡ true → kinds_fit ks ≡ true
unfolding kinds_fit arguments_fit argument_fits
arguments_kinds [] xs e f = refl
arguments_kinds (k ∷ ks) [] e f = absurd (omega arith)
arguments_kinds (k ∷ ks) (a ∷ xs) e f =
    go (leb k Kind.Field) (follows (argument_rule k) a) (arguments_kinds ks xs (omega arith)) f
  where
    go :
        (b c : Bool) → (arguments_fit ks xs ≡ true → kinds_fit ks ≡ true) → (b && c && arguments_fit ks xs) ≡ true
        → (b && kinds_fit ks) ≡ true
    go true true r q = r q
    go true false r q = never q
    go false c r q = never q
