-- The answers of the calls on encoded types, and the bytes that `encode` leaves. Assumes nothing: these are
-- definitions.
use Rattle.std.specs.Prelude.{◌≡◌, Bool, cond, ◌&&◌, List, ℕ, leb, length, Option, None, Some, Result, Ok, Err}
use Rattle.flat.specs.Tree.{size, kinds_of, args_of}
use Rattle.flat.specs.Reading.{Reading, refused, type, unless, reading, one_plain}
use Rattle.flat.specs.Output.{over, fitting, written_of, Writes}
use Rattle.flat.specs.declared.error.Error.{Error}
use Rattle.flat.specs.declared.error.Error.TheVariants.{OutputTooShort}
use Rattle.encoded.specs.Encoding.{encoding, encoded_size, count_in, kinds_in, args_in, size_fits, decoding}

-- the number of nodes that bytes of the right length hold
unfoldable pub nodes_in : ℕ → ℕ → List ℕ → Option ℕ
nodes_in w nodes s = cond (size_fits w nodes s) (Some (count_in s)) None

-- bytes that are one plain leaf
unfoldable pub plain_in : ℕ → ℕ → List ℕ → Bool
plain_in w nodes s = size_fits w nodes s && one_plain (kinds_in s) (args_in w s)

-- The lent arguments after `read`. They are read before they are checked, so bytes of the right length leave theirs
-- even where they are refused.
unfoldable pub args_left : ℕ → ℕ → List ℕ → List ℕ → List ℕ
args_left w nodes s xs = cond (size_fits w nodes s) (over (args_in w s) xs) xs

-- What `read` comes to: its answer, and the lent arguments, xs before the call and xs' after it.
pub record ReadsArgs (w nodes deep : ℕ) (s xs xs' : List ℕ) (answer : Result ℕ Error) : Type 0 where
  pub answers : answer ≡ written_of (decoding w nodes deep s)
  pub args : xs' ≡ args_left w nodes s xs

-- 8: the output, of m bytes, is shorter than the result, where there is one
unfoldable pub fitting_bytes : ℕ → ℕ → Reading → Reading
fitting_bytes w m (refused e) = refused e
fitting_bytes w m (type t) = unless (leb (encoded_size w (size t)) m) OutputTooShort (type t)

-- the answer of `encode`: the number of bytes
abbrev pub encoded_of : ℕ → Reading → Result ℕ Error
encoded_of w (refused e) = Err e
encoded_of w (type t) = Ok (encoded_size w (size t))

-- the lent bytes after `encode`: the type's bytes over what they held, or all as they were where the call was refused
unfoldable pub bytes_over : ℕ → Reading → List ℕ → List ℕ
bytes_over w (refused e) out = out
bytes_over w (type t) out = over (encoding w (kinds_of t) (args_of t)) out

-- What `encode` comes to: its answer, and the lent bytes, out before the call and out' after it.
pub record Encodes (w : ℕ) (r : Reading) (out out' : List ℕ) (answer : Result ℕ Error) : Type 0 where
  pub answers : answer ≡ encoded_of w r
  pub bytes : out' ≡ bytes_over w r out

-- What `encode` ensures of the two arrays ks and xs, and of the lent bytes.
abbrev pub EncodeEnsures : (w nodes deep : ℕ) (ks xs out out' : List ℕ) → Result ℕ Error → Type 0
EncodeEnsures w nodes deep ks xs out out' answer =
    Encodes w (fitting_bytes w (length out) (reading nodes deep ks xs)) out out' answer

-- What `decode` ensures of the bytes s, and of the two lent arrays, ks and xs before the call and ks' and xs' after it.
abbrev pub DecodeEnsures : (w nodes deep : ℕ) (s ks xs ks' xs' : List ℕ) → Result ℕ Error → Type 0
DecodeEnsures w nodes deep s ks xs ks' xs' answer =
    Writes (fitting (length ks) (length xs) (decoding w nodes deep s)) ks xs ks' xs' answer

-- What `put` comes to, of two arrays that need not be a type: their bytes, or 8 where these don't fit.
pub record Puts (w : ℕ) (ks xs out out' : List ℕ) (answer : Result ℕ Error) : Type 0 where
  pub answers :
      answer
      ≡ cond (leb (encoded_size w (length ks)) (length out)) (Ok (encoded_size w (length ks)))
      (Err OutputTooShort)
  pub bytes : out' ≡ cond (leb (encoded_size w (length ks)) (length out)) (over (encoding w ks xs) out) out
