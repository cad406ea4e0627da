-- What a call that writes a type comes to: a refusal leaves all as it was, and 8 is given where an output array is
-- shorter than the type. Assumes nothing.
use mathlib.Core.Path.{◌≡◌, refl, ap}
use mathlib.Core.List.{List}
use Rattle.std.specs.Prelude.{Option, None, Some, Result, Ok, Err}
use Prim.Native.Nat.{ℕ, ◌≤◌, ◌<◌}
use borrow.Author.Tests.{le-leb, lt-leb}
use Rattle.flat.specs.Tree.{DataType, size, kinds_of, args_of}
use Rattle.flat.specs.Reading.{Reading, refused, type}
use Rattle.flat.specs.Output.{fitting, over, kinds_over, args_over, Writes, fitting_found, WritesFound}
use Rattle.flat.specs.declared.error.Error.{Error}
use Rattle.flat.specs.declared.error.Error.TheVariants.{OutputTooShort}

pub writes_refused :
    {r : Reading} {e : Error} {ks xs : List ℕ} → r ≡ refused e → Writes r ks xs ks xs (Err e)
unfolding kinds_over args_over
writes_refused h = rw h (record { answers = refl; kinds = refl; args = refl })

pub writes_type :
    {r : Reading} {t : DataType} {ks xs ks' xs' : List ℕ} {n : ℕ} → r ≡ type t → n ≡ size t → ks' ≡ over (kinds_of t) ks
    → xs' ≡ over (args_of t) xs → Writes r ks xs ks' xs' (Ok n)
unfolding kinds_over args_over
writes_type h n k a = rw h (record { answers = ap {A = ℕ} {B = Result ℕ Error} Ok n; kinds = k; args = a })

module _ (k a : ℕ) (t : DataType) where
  pub few_kinds : k < size t → fitting k a (type t) ≡ refused OutputTooShort
  unfolding fitting
  few_kinds h = rw (lt-leb (size t) k h)

  pub few_args : size t ≤ k → a < size t → fitting k a (type t) ≡ refused OutputTooShort
  unfolding fitting
  few_args g h = rw (le-leb (size t) k g, lt-leb (size t) a h)

  pub room : size t ≤ k → size t ≤ a → fitting k a (type t) ≡ type t
  unfolding fitting
  room g h = rw (le-leb (size t) k g, le-leb (size t) a h)

-- ---- a call whose result may be None
pub found_nothing :
    {found : Option Reading} {ks xs : List ℕ} → found ≡ None → WritesFound found ks xs ks xs (Ok None)
found_nothing h = rw h (record { answers = refl; kinds = refl; args = refl })

pub found_refused :
    {found : Option Reading} {e : Error} {ks xs : List ℕ} → found ≡ Some (refused e)
    → WritesFound found ks xs ks xs (Err e)
unfolding kinds_over args_over
found_refused h = rw h (record { answers = refl; kinds = refl; args = refl })

-- a refusal is given whatever room there is
pub found_refusal :
    (k a : ℕ) {found : Option Reading} {e : Error} {ks xs : List ℕ} → found ≡ Some (refused e)
    → WritesFound (fitting_found k a found) ks xs ks xs (Err e)
unfolding fitting
found_refusal k a h = found_refused (rw h)
