-- Encoded types, document 01's stored sheets: the node count in 2 bytes, low byte first, then a kind byte for each
-- node, then an argument for each node, of w bytes, low byte first. The width w and the two limits are parameters.
-- Assumes nothing: these are definitions.
use Rattle.std.specs.Prelude.{Bool, ◌&&◌, List, [], ◌∷◌, ◌++◌, ℕ, zero, suc, ◌+◌, ◌*◌, ◌/◌, ◌%◌, leb, ltb, eqb, length}
use Rattle.std.specs.Prelude.{take, drop}
use Rattle.flat.specs.Reading.{Reading, unless, reading}
use Rattle.flat.specs.declared.error.Error.TheVariants.{Length}

-- v in w bytes, low byte first
unfoldable pub little_endian : ℕ → ℕ → List ℕ
little_endian zero v = []
little_endian (suc w) v = v % 256 ∷ little_endian w (v / 256)

-- the number that bytes are, low byte first
unfoldable pub number : List ℕ → ℕ
number [] = 0
number (b ∷ bs) = b + 256 * number bs

-- each argument in w bytes, one after the other
unfoldable pub arg_bytes : ℕ → List ℕ → List ℕ
arg_bytes w [] = []
arg_bytes w (a ∷ xs) = little_endian w a ++ arg_bytes w xs

-- n arguments of w bytes each, from the front of bs
unfoldable pub args_from : ℕ → ℕ → List ℕ → List ℕ
args_from w zero bs = []
args_from w (suc n) bs = number (take w bs) ∷ args_from w n (drop w bs)

-- the bytes of a flat type
unfoldable pub encoding : ℕ → List ℕ → List ℕ → List ℕ
encoding w ks xs = little_endian 2 (length ks) ++ (ks ++ arg_bytes w xs)

-- how many bytes n nodes take: 2 + 9 × n where w is 8
abbrev pub encoded_size : ℕ → ℕ → ℕ
encoded_size w n = 2 + (w + 1) * n

-- the count that an encoded type begins with
unfoldable pub count_in : List ℕ → ℕ
count_in s = number (take 2 s)

-- the kinds of an encoded type
unfoldable pub kinds_in : List ℕ → List ℕ
kinds_in s = take (count_in s) (drop 2 s)

-- the arguments of an encoded type
unfoldable pub args_in : ℕ → List ℕ → List ℕ
args_in w s = args_from w (count_in s) (drop (2 + count_in s) s)

-- 1: stored length under 2, no node, over the limit, or not 2 + (w + 1) × n
unfoldable pub size_fits : ℕ → ℕ → List ℕ → Bool
size_fits w nodes s =
    leb 2 (length s) && ltb 0 (count_in s) && leb (count_in s) nodes && eqb (length s) (encoded_size w (count_in s))

-- what bytes are: exactly one type, or refused by a number from 1 to 5
unfoldable pub decoding : ℕ → ℕ → ℕ → List ℕ → Reading
decoding w nodes deep s = unless (size_fits w nodes s) Length (reading nodes deep (kinds_in s) (args_in w s))
