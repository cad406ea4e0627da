-- A stored type reads back as written, and what is read is written back, at any width w of an argument: by the
-- definitions, and by what `encode` and `decode` ensure. Assumes nothing.
use mathlib.Core.Path.{◌≡◌, refl, sym, ap, ap₂, ◌∙◌}
use mathlib.Core.Bool.{Bool, true, false, ◌&&◌}
use mathlib.Core.List.{List, ◌++◌}
use Prim.Native.Nat.{ℕ, ◌+◌, ◌^◌, ◌≤◌, ◌<◌}
use Rattle.std.specs.Prelude.{Result, Ok}
use native.Mathlib.Omega.{arith}
use borrow.Author.Tests.{le-leb}
use lib.Dec.{leb, lit<, lit≤}
use lib.ListN.{length, take, drop, length-drop, take-append-drop}
use lib.Seq.{take_at, drop_at, drop-drop, length-take-le}
use Rattle.flat.specs.Tree.{DataType, size, kinds_of, args_of}
use Rattle.flat.specs.Reading.{Reading, refused, type, unless, reading, IsType}
use Rattle.flat.specs.Output.{over, fitting, kinds_over, args_over, written_of, Writes}
use Rattle.flat.specs.declared.error.Error.{Error}
use Rattle.flat.specs.declared.error.Error.TheVariants.{OutputTooShort}
use Rattle.flat.proofs.Truths.{impossible}
use Rattle.flat.proofs.Sizes.{length_kinds, length_args, size_pos}
use Rattle.flat.proofs.Meaning.{form_length, form_even, passes, holds, holds_form}
use Rattle.flat.proofs.Outputs.{room}
use Rattle.encoded.specs.Encoding.{little_endian, arg_bytes, encoding, encoded_size, count_in, kinds_in, args_in}
use Rattle.encoded.specs.Encoding.{size_fits, decoding}
use Rattle.encoded.specs.Answer.{fitting_bytes, encoded_of, bytes_over, Encodes}
use Rattle.encoded.specs.RoundTrip.{Below, ReadsBack}
use Rattle.encoded.specs.Limits.{StoredReadsBack}
use Rattle.encoded.proofs.Laws.{below_drop, below_take, little_endian_length, number_little_endian}
use Rattle.encoded.proofs.Laws.{little_endian_number, args_from_arg_bytes, arg_bytes_args_from, args_below}
use Rattle.encoded.proofs.Laws.{size_parts, encoding_length}
use Rattle.encoded.proofs.Answers.{Sized, sized, size_fits_lem, kinds_length, decoding_sized, decoded_fits}
use Rattle.encoded.proofs.Answers.{decoded_holds, type_form}

-- What was written is read back: the bytes of a type's kinds and arguments have the size that its nodes take, the
-- count, the kinds and the arguments are read from them, and they are refused or are a type just as the kinds and
-- arguments are.
pub record ReadBack (w nodes : ℕ) (ks xs : List ℕ) : Type 0 where
  pub size : length (encoding w ks xs) ≡ encoded_size w (length ks)
  pub fits : size_fits w nodes (encoding w ks xs) ≡ true
  pub count : count_in (encoding w ks xs) ≡ length ks
  pub kinds : kinds_in (encoding w ks xs) ≡ ks
  pub args : args_in w (encoding w ks xs) ≡ xs
  pub reads : (deep : ℕ) → decoding w nodes deep (encoding w ks xs) ≡ reading nodes deep ks xs

module _ (w nodes : ℕ) (ks xs : List ℕ) (same : length xs ≡ length ks) (some : 0 < length ks) (few : length ks ≤ nodes) (small : nodes < 256 ^ 2) (below : Below (256 ^ w) xs) where
  count_back : count_in (encoding w ks xs) ≡ length ks
  unfolding count_in encoding
  count_back = rw (take_at _ _ 2 (little_endian_length 2 (length ks)), number_little_endian 2 (length ks) (omega arith))

  rest_back : drop 2 (encoding w ks xs) ≡ ks ++ arg_bytes w xs
  unfolding encoding
  rest_back = rw (drop_at _ _ 2 (little_endian_length 2 (length ks)))

  kinds_back : kinds_in (encoding w ks xs) ≡ ks
  unfolding kinds_in
  kinds_back = rw (count_back, rest_back, take_at)

  args_back : args_in w (encoding w ks xs) ≡ xs
  unfolding args_in
  args_back = rw (count_back, ← drop-drop, rest_back, drop_at, ← same, args_from_arg_bytes)

  back_sized : Sized w nodes (length ks) (encoding w ks xs)
  back_sized = record { count = sym count_back; some = some; few = few; size = encoding_length w ks xs same }

  pub read_back : ReadBack w nodes ks xs
  read_back = record {
    size = encoding_length w ks xs same;
    fits = size_fits_lem back_sized;
    count = count_back;
    kinds = kinds_back;
    args = args_back;
    reads = λ deep. decoding_sized back_sized deep ∙ ap₂ (reading nodes deep) kinds_back args_back;
  }

-- A valid type whose arguments fit w bytes each is the type that its bytes are.
pub type_back :
    (w nodes deep : ℕ) (t : DataType) → nodes < 256 ^ 2 → IsType nodes deep t → Below (256 ^ w) (args_of t)
    → decoding w nodes deep (encoding w (kinds_of t) (args_of t)) ≡ type t
type_back w nodes deep t small v below =
    let k = length_kinds t in
    let a = length_args t in
    let p = size_pos t in
    let few : size t ≤ nodes = v.within in
    (read_back w nodes (kinds_of t) (args_of t) (omega arith) (omega arith) (omega arith) small below).reads deep ∙ passes
    nodes deep t v

-- What was read is written back: bytes of the right length are those of the kinds and the arguments that are read
-- from them, and each of these arguments fits w bytes.
pub record WrittenBack (w : ℕ) (s : List ℕ) : Type 0 where
  pub bytes : encoding w (kinds_in s) (args_in w s) ≡ s
  pub args : Below (256 ^ w) (args_in w s)

module _ (w nodes : ℕ) (s : List ℕ) (fits : size_fits w nodes s ≡ true) (bytes : Below 256 s) where
  head_back : little_endian 2 (count_in s) ≡ take 2 s
  unfolding count_in
  head_back =
      rw (length-take-le 2 s (omega (arith, (sized w nodes s fits).size))) at
      (little_endian_number (take 2 s) (below_take 256 2 s bytes))

  tail_back : arg_bytes w (args_in w s) ≡ drop (count_in s) (drop 2 s)
  unfolding args_in
  tail_back =
      let n = count_in s in
      rw drop-drop (arg_bytes_args_from w n (drop (2 + n) s) (rw length-drop (omega (arith, (sized w nodes s fits).size, size_parts w n))) (below_drop 256 (2 + n) s bytes))

  bytes_back : encoding w (kinds_in s) (args_in w s) ≡ s
  unfolding encoding kinds_in
  bytes_back = rw (kinds_length (sized w nodes s fits), head_back, tail_back, take-append-drop, take-append-drop)

  pub written_back : WrittenBack w s
  unfolding args_in
  written_back = record { bytes = bytes_back; args = args_below w (count_in s) (drop (2 + count_in s) s) (below_drop 256 (2 + count_in s) s bytes) }

-- Bytes that are a type are the bytes of that type, and no others.
pub type_bytes :
    (w nodes deep : ℕ) (s : List ℕ) (t : DataType) → Below 256 s → decoding w nodes deep s ≡ type t
    → encoding w (kinds_of t) (args_of t) ≡ s
type_bytes w nodes deep s t bytes e =
    let h = decoded_holds w nodes deep s t e in
    ap₂ (encoding w) (sym h.kinds) (sym h.args) ∙ (written_back w nodes s (decoded_fits w nodes deep s t e)
    bytes).bytes

-- ---- the calls

below_more : {m n : ℕ} (l : List ℕ) → m ≤ n → Below m l → Below n l
below_more l h f i k = omega (arith, f i k)

tree_bytes : (w : ℕ) (t : DataType) → length (encoding w (kinds_of t) (args_of t)) ≡ encoded_size w (size t)
tree_bytes w t =
    encoding_length w (kinds_of t) (args_of t) (length_args t ∙ sym (length_kinds t)) ∙ ap (encoded_size w)
    (length_kinds t)

-- `encode` answers the bytes of a type that it was given, where they have room; and where it answers in bytes, it was
-- given a type, whose bytes stand at the front
encode_gives :
    (w : ℕ) (t : DataType) {out out' : List ℕ} {answer : Result ℕ Error} → encoded_size w (size t) ≤ length out
    → Encodes w (fitting_bytes w (length out) (type t)) out out' answer
    → (answer ≡ Ok (encoded_size w (size t))) × (out' ≡ over (encoding w (kinds_of t) (args_of t)) out)
unfolding fitting_bytes bytes_over
encode_gives w t {out} h e = let fits = le-leb (encoded_size w (size t)) (length out) h in (rw fits at e.answers, rw fits at e.bytes)

encode_tells :
    (w : ℕ) (r : Reading) {out out' : List ℕ} {n : ℕ}
    → Encodes w (fitting_bytes w (length out) r) out out' (Ok n)
    → (t : DataType) × (r ≡ type t) × (take n out' ≡ encoding w (kinds_of t) (args_of t))
unfolding fitting_bytes bytes_over
encode_tells w (refused d) e = let a = e.answers in impossible cc
encode_tells w (type t) {out} {out'} {n} e =
    (t, refl, go (leb (encoded_size w (size t)) (length out)) e.answers e.bytes)
  where
    go :
        (b : Bool) → Ok n ≡ encoded_of w (unless b OutputTooShort (type t))
        → out' ≡ bytes_over w (unless b OutputTooShort (type t)) out → take n out' ≡ encoding w (kinds_of t) (args_of t)
    go true a o = let m : encoded_size w (size t) ≡ n = cc in rw o (take_at _ _ n (tree_bytes w t ∙ m))
    go false a o = impossible cc

-- `decode` answers the nodes of the type that its bytes are, where the arrays lent have room; and where it answers in
-- nodes, the bytes are a type, which stands at the front
decode_gives :
    (t : DataType) {ks xs ks' xs' : List ℕ} {answer : Result ℕ Error} → size t ≤ length ks → size t ≤ length xs
    → Writes (fitting (length ks) (length xs) (type t)) ks xs ks' xs' answer
    → (answer ≡ Ok (size t)) × (ks' ≡ over (kinds_of t) ks) × (xs' ≡ over (args_of t) xs)
unfolding kinds_over args_over
decode_gives t {ks} {xs} k x d = let fits = room (length ks) (length xs) t k x in (rw fits at d.answers, rw fits at d.kinds, rw fits at d.args)

decode_tells :
    (r : Reading) {ks xs ks' xs' : List ℕ} {n : ℕ}
    → Writes (fitting (length ks) (length xs) r) ks xs ks' xs' (Ok n)
    → (t : DataType) × (r ≡ type t) × (take n ks' ≡ kinds_of t) × (take n xs' ≡ args_of t)
unfolding fitting kinds_over args_over
decode_tells (refused e) d = let a = d.answers in impossible cc
decode_tells (type t) {ks} {xs} {ks'} {xs'} {n} d = let f = go (leb (size t) (length ks) && leb (size t) (length xs)) d.answers d.kinds d.args in (t, refl, f.0, f.1)
  where
    go :
        (b : Bool) → Ok n ≡ written_of (unless b OutputTooShort (type t))
        → ks' ≡ kinds_over (unless b OutputTooShort (type t)) ks → xs' ≡ args_over (unless b OutputTooShort (type t)) xs
        → (take n ks' ≡ kinds_of t) × (take n xs' ≡ args_of t)
    go true a k x = let m : size t ≡ n = cc in (rw k (take_at _ _ n (length_kinds t ∙ m)), rw x (take_at _ _ n (length_args t ∙ m)))
    go false a k x = impossible cc

pub reads_back_at : {w nodes deep : ℕ} → nodes < 256 ^ 2 → 2 ^ 64 ≤ 256 ^ w → ReadsBack w nodes deep
reads_back_at {w} {nodes} {deep} small wide = record {
  written = λ t v fit. type_back w nodes deep t small v (below_more (args_of t) wide fit);
  read = type_bytes w nodes deep;
  encoded = λ ks xs out out' n fit e ls ys ls' ys' answer k x d.
      let (t, r, front) = encode_tells w (reading nodes deep ks xs) e in
      let h = holds nodes deep ks xs t r in
      let f = holds_form h in
      let back : decoding w nodes deep (take n out') ≡ type t = rw front (type_back w nodes deep t small h.is_type (below_more (args_of t) wide (rw h.args at fit))) in
      let g = decode_gives t (omega (arith, form_length f)) (omega (arith, form_length f, form_even f)) (rw back at d) in
      (g.0 ∙ ap Ok (sym (form_length f)), rw h.kinds g.1, rw h.args g.2);
  decoded = λ s ks xs ks' xs' n bytes d out out' answer o e.
      let (t, r, k, x) = decode_tells (decoding w nodes deep s) d in
      let l : length s ≡ encoded_size w (size t) = (type_form t r).sized.size in
      let g = encode_gives w t (omega arith) (rw (k, x, passes nodes deep t (decoded_holds w nodes deep s t r).is_type) at e) in
      (g.0 ∙ ap Ok (sym l), rw (type_bytes w nodes deep s t bytes r) at g.1);
}

-- at the code's own limits: a count of its nodes fits 2 bytes, and an argument its own
pub reads_back : StoredReadsBack
reads_back = reads_back_at (lit< tt) (lit≤ tt)
