-- "A stored type reads back as written" (demand 2), in both orders, of the definitions and of what `encode` and
-- `decode` ensure. The width w of an argument and the two limits are parameters. Assumes nothing: these are
-- definitions.
use Rattle.std.specs.Prelude.{◌≡◌, List, ℕ, ◌^◌, ◌≤◌, ◌<◌, length, get_or, take, Result, Ok}
use Rattle.flat.specs.Tree.{DataType, kinds_of, args_of}
use Rattle.flat.specs.Reading.{type, IsType}
use Rattle.flat.specs.Output.{over}
use Rattle.flat.specs.declared.error.Error.{Error}
use Rattle.encoded.specs.Encoding.{encoding, decoding}
use Rattle.encoded.specs.Answer.{EncodeEnsures, DecodeEnsures}

-- every element of a list is below m: a byte of the code's, a u8, is below 256, and an argument, a u64, below 2^64
abbrev pub Below : ℕ → List ℕ → Type 0
Below m l = (i : ℕ) → i < length l → get_or l i 0 < m

pub record ReadsBack (w nodes deep : ℕ) : Type 0 where
  -- the bytes of a valid type are that type
  pub written :
      (t : DataType) → IsType nodes deep t → Below (2 ^ 64) (args_of t)
      → decoding w nodes deep (encoding w (kinds_of t) (args_of t)) ≡ type t
  -- bytes that are a type are the bytes of that type
  pub read :
      (s : List ℕ) (t : DataType) → Below 256 s → decoding w nodes deep s ≡ type t
      → encoding w (kinds_of t) (args_of t) ≡ s
  -- the n bytes that `encode` wrote are decoded to the two arrays that they were encoded from, where the arrays lent
  -- have room
  pub encoded :
      (ks xs out out' : List ℕ) (n : ℕ) → Below (2 ^ 64) xs
      → EncodeEnsures w nodes deep ks xs out out' (Ok n)
      → (ls ys ls' ys' : List ℕ) (answer : Result ℕ Error) → length ks ≤ length ls → length xs ≤ length ys
      → DecodeEnsures w nodes deep (take n out') ls ys ls' ys' answer
      → (answer ≡ Ok (length ks)) × (ls' ≡ over ks ls) × (ys' ≡ over xs ys)
  -- the n nodes that `decode` wrote are encoded to the bytes that they were decoded from, where the bytes lent have
  -- room
  pub decoded :
      (s ks xs ks' xs' : List ℕ) (n : ℕ) → Below 256 s
      → DecodeEnsures w nodes deep s ks xs ks' xs' (Ok n)
      → (out out' : List ℕ) (answer : Result ℕ Error) → length s ≤ length out
      → EncodeEnsures w nodes deep (take n ks') (take n xs') out out' answer
      → (answer ≡ Ok (length s)) × (out' ≡ over s out)
