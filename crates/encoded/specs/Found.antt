-- What a call comes to that may find a type, and encodes it: Some type, None, or a refusal. Assumes nothing: these are
-- definitions.
use Rattle.std.specs.Prelude.{◌≡◌, List, ℕ}
use Rattle.std.specs.Prelude.{Option, None, Some, Result, Ok, Err}
use Rattle.std.specs.Prelude.{option_map}
use Rattle.flat.specs.Tree.{size}
use Rattle.flat.specs.Reading.{Reading, refused, type}
use Rattle.flat.specs.declared.error.Error.{Error}
use Rattle.encoded.specs.Encoding.{encoded_size}
use Rattle.encoded.specs.Answer.{fitting_bytes, bytes_over}

-- 8 last of all, and only where there is a type to write to m bytes
abbrev pub fitting_found_bytes : ℕ → ℕ → Option Reading → Option Reading
fitting_found_bytes w m = option_map (fitting_bytes w m)

-- the answer: the number of bytes
abbrev pub optional_bytes : ℕ → Option Reading → Result (Option ℕ) Error
optional_bytes w None = Ok None
optional_bytes w (Some (refused e)) = Err e
optional_bytes w (Some (type t)) = Ok (Some (encoded_size w (size t)))

-- the lent bytes after the call: None writes nothing
abbrev pub bytes_found : ℕ → Option Reading → List ℕ → List ℕ
bytes_found w None out = out
bytes_found w (Some r) out = bytes_over w r out

-- What such a call comes to: its answer, and the lent bytes, out before the call and out' after it.
pub record EncodesFound (w : ℕ) (found : Option Reading) (out out' : List ℕ) (answer : Result (Option ℕ) Error)
    : Type 0 where
  pub answers : answer ≡ optional_bytes w found
  pub bytes : out' ≡ bytes_found w found out
