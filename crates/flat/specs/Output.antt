-- What a call that writes a type leaves in the two lent arrays. Assumes nothing: these are definitions.
use Rattle.std.specs.Prelude.{◌≡◌, ◌&&◌, List, ◌++◌, ℕ, leb, length, drop}
use Rattle.std.specs.Prelude.{Option, None, Some, Result, Ok, Err}
use Rattle.std.specs.Prelude.{option_map}
use Rattle.flat.specs.Tree.{size, kinds_of, args_of}
use Rattle.flat.specs.Reading.{Reading, refused, type, unless}
use Rattle.flat.specs.declared.error.Error.TheVariants.{OutputTooShort}
use Rattle.flat.specs.declared.error.Error.{Error}

-- 8: the output arrays, of k kinds and a arguments, are shorter than the result, where there is one
unfoldable pub fitting : ℕ → ℕ → Reading → Reading
fitting k a (refused e) = refused e
fitting k a (type t) = unless (leb (size t) k && leb (size t) a) OutputTooShort (type t)

-- ys over the front of xs; what stands past them is untouched
abbrev pub over : List ℕ → List ℕ → List ℕ
over ys xs = ys ++ drop (length ys) xs

-- a lent array of kinds after the call: the type's kinds over what it held, or all as it was where the call was refused
unfoldable pub kinds_over : Reading → List ℕ → List ℕ
kinds_over (refused e) out = out
kinds_over (type t) out = over (kinds_of t) out

-- a lent array of arguments after the call: the type's arguments over what it held, or all as it was where the call was
-- refused
unfoldable pub args_over : Reading → List ℕ → List ℕ
args_over (refused e) out = out
args_over (type t) out = over (args_of t) out

-- the answer of a call that writes a type: the number of nodes
abbrev pub written_of : Reading → Result ℕ Error
written_of (refused e) = Err e
written_of (type t) = Ok (size t)

-- What a call that writes a type comes to: its answer, and the two lent arrays, ks and xs before the call, ks' and
-- xs' after.
pub record Writes (r : Reading) (ks xs ks' xs' : List ℕ) (answer : Result ℕ Error) : Type 0 where
  pub answers : answer ≡ written_of r
  pub kinds : ks' ≡ kinds_over r ks
  pub args : xs' ≡ args_over r xs

-- ---- a call whose result may be the source's None, which writes nothing

-- 8 last of all, and only where there is a type to write
abbrev pub fitting_found : ℕ → ℕ → Option Reading → Option Reading
fitting_found k a = option_map (fitting k a)

-- the answer of a call whose result may be None: the number of nodes
abbrev pub optional_of : Option Reading → Result (Option ℕ) Error
optional_of None = Ok None
optional_of (Some (refused e)) = Err e
optional_of (Some (type t)) = Ok (Some (size t))

-- a lent array of kinds after the call
abbrev pub kinds_found : Option Reading → List ℕ → List ℕ
kinds_found None out = out
kinds_found (Some r) out = kinds_over r out

-- a lent array of arguments after the call
abbrev pub args_found : Option Reading → List ℕ → List ℕ
args_found None out = out
args_found (Some r) out = args_over r out

-- What a call whose result may be None comes to: its answer, and the two lent arrays, ks and xs before the call, ks'
-- and xs' after.
pub record WritesFound (found : Option Reading) (ks xs ks' xs' : List ℕ) (answer : Result (Option ℕ) Error)
    : Type 0 where
  pub answers : answer ≡ optional_of found
  pub kinds : ks' ≡ kinds_found found ks
  pub args : xs' ≡ args_found found xs
