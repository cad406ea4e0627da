-- Laws of encoded types, at any width w of an argument: a list that is written from the front, numbers as bytes, runs
-- of arguments, and the whole. Assumes nothing.
use mathlib.Core.Path.{◌≡◌, refl, sym, ap, ◌∙◌, subst}
use mathlib.Core.List.{List, [], ◌∷◌, ◌++◌, append_assoc, append-nil}
use Prim.Native.Nat.{ℕ, zero, suc, ◌+◌, ◌-◌, ◌*◌, ◌/◌, ◌%◌, ◌^◌, ◌≤◌, ◌<◌}
use native.Mathlib.Nat.{zero-mul, suc-mul, add_comm, add-suc, pow-suc, mul_comm, add-mul, one-mul}
use native.Mathlib.Nat.{div-lt_iff_lt-mul, div-one, div-div-eq-div-mul}
use native.Mathlib.Numerals.{add-one}
use native.Mathlib.Omega.{arith}
use lib.Dec.{lit<}
use lib.ListN.{length, get_or, take, drop, set, length-append, length-take, length-drop, take-append-drop}
use lib.ListN.{drop_of_length-le}
use lib.Seq.{drop-cons, drop-drop, length-take-le, take_at, drop_at}
use lib.Seq.{ext_get_or, get_or-take, get_or-drop}
use borrow.Rule.Slice.PartMut.{put_mid}
use Rattle.std.proofs.lemmas.List.{take_all, get_or-set_same, get_or-set_other}
use native.Mathlib.Decide.{dec_lt}
use Rattle.encoded.specs.Encoding.{little_endian, number, arg_bytes, args_from, encoding, encoded_size, count_in}
use Rattle.encoded.specs.RoundTrip.{Below}
use Rattle.flat.specs.Output.{over}
use Rattle.std.specs.Simd.{first_chunks}
use Rattle.std.specs.Int.{from_le_bytes, bytes_low_first}
use mir.Syntax.{w16, w64}

-- ---- a list that is written from the front

-- one element more of s stands in d
pub copied_next :
    (d s : List ℕ) (i : ℕ) → i < length d → i < length s → ((k : ℕ) → k < i → get_or d k 0 ≡ get_or s k 0)
    → (k : ℕ) → k < i + 1 → get_or (set d i (get_or s i 0)) k 0 ≡ get_or s k 0
copied_next d s i h n f k m = go (dec_lt k i)
  where
    go : Dec (k < i) → get_or (set d i (get_or s i 0)) k 0 ≡ get_or s k 0
    go (yes l) = get_or-set_other d i k (get_or s i 0) 0 (omega arith) ∙ f k l
    go (no l) =
        let e : i ≡ k = omega arith in
        subst (λ (j : ℕ). get_or (set d i (get_or s i 0)) j 0 ≡ get_or s j 0) e
        (get_or-set_same d i (get_or s i 0) 0 h)

-- all of them
pub copied_all : (d s : List ℕ) → length d ≡ length s → ((k : ℕ) → k < length s → get_or d k 0 ≡ get_or s k 0) → d ≡ s
copied_all d s e f = ext_get_or 0 d s e (λ k h. f k (omega (arith, e)))

-- ---- numbers as bytes

pub below_drop : (m k : ℕ) (l : List ℕ) → Below m l → Below m (drop k l)
below_drop m k l f i h = rw get_or-drop (f (k + i) (omega (arith, length-drop k l)))

pub below_take : (m k : ℕ) (l : List ℕ) → Below m l → Below m (take k l)
below_take m k l f i h = let e = length-take k l in rw (get_or-take k l i 0 (omega arith)) (f i (omega arith))

-- what the w bytes from the place at + k on come to, byte by byte
abbrev pub bytes_at : ℕ → List ℕ → ℕ → ℕ → ℕ
bytes_at zero s at k = 0
bytes_at (suc w) s at k = get_or s (at + k) 0 + 256 * bytes_at w s at (suc k)

pub number_bytes :
    (w : ℕ) (s : List ℕ) (at k : ℕ) → at + k + w ≤ length s → number (take w (drop (at + k) s)) ≡ bytes_at w s at k
unfolding number
number_bytes zero s at k h = refl
number_bytes (suc w) s at k h =
    rw (drop-cons s (at + k) 0 (omega arith), ← add-suc, number_bytes w s at (suc k) (omega arith))

-- the library's number of 2 bytes, and of 8
le_number_2 : (bs : List ℕ) → length bs ≡ 2 → from_le_bytes w16 bs ≡ number bs
le_number_2 bs h = omega (arith, rw (take_all 2 bs (omega arith)) at (number_bytes 2 bs 0 0 (omega arith)))

pub count_number : (s : List ℕ) {bs : List ℕ} → 2 ≤ length s → bs ≡ take 2 s → from_le_bytes w16 bs ≡ count_in s
unfolding count_in
count_number s h e = rw e (le_number_2 (take 2 s) (length-take-le 2 s h))

le_number : (bs : List ℕ) → length bs ≡ 8 → from_le_bytes w64 bs ≡ number bs
le_number bs h = omega (arith, rw (take_all 8 bs (omega arith)) at (number_bytes 8 bs 0 0 (omega arith)))

pub word_number :
    (s : List ℕ) (at : ℕ) {bs : List ℕ} → at + 8 ≤ length s → bs ≡ take 8 (drop at s)
    → from_le_bytes w64 bs ≡ number (take 8 (drop at s))
word_number s at h e = rw e (le_number (take 8 (drop at s)) (length-take-le 8 (drop at s) (rw length-drop (omega arith))))

-- the library's bytes, from byte i upward, are those of what is left of v
low_first : (i w v : ℕ) → bytes_low_first i w v ≡ little_endian w (v / 256 ^ i)
unfolding little_endian
low_first i zero v = refl
low_first zero (suc w) v = rw (low_first 1 w v, div-one) refl
low_first (suc i) (suc w) v = rw (low_first (suc (suc i)) w v, pow-suc 256 (suc i), ← div-div-eq-div-mul) refl

-- those that `to_le_bytes` gives
pub le_bytes : (w v : ℕ) → bytes_low_first 0 w v ≡ little_endian w v
le_bytes w v = rw low_first (ap (little_endian w) (div-one v))

pub little_endian_length : (w v : ℕ) → length (little_endian w v) ≡ w
unfolding little_endian
little_endian_length zero v = refl
little_endian_length (suc w) v = ap suc (little_endian_length w (v / 256))

-- a number that fits w bytes is read back from them
pub number_little_endian : (w v : ℕ) → v < 256 ^ w → number (little_endian w v) ≡ v
unfolding number little_endian
number_little_endian zero v h = omega arith
number_little_endian (suc w) v h =
    rw (number_little_endian w (v / 256) ((div-lt_iff_lt-mul (lit< tt)).1 (rw pow-suc at h))) (omega arith)

-- bytes that are read as a number are written back
pub little_endian_number : (bs : List ℕ) → Below 256 bs → little_endian (length bs) (number bs) ≡ bs
unfolding number little_endian
little_endian_number [] f = refl
little_endian_number (b ∷ bs) f =
    let h : b < 256 = f 0 (omega arith) in
    let q : (b + 256 * number bs) / 256 ≡ number bs = omega arith in
    let r : (b + 256 * number bs) % 256 ≡ b = omega arith in
    rw (q, r, little_endian_number bs (λ i k. f (suc i) (omega arith)))

number_below : (w : ℕ) (bs : List ℕ) → length bs ≤ w → Below 256 bs → number bs < 256 ^ w
unfolding number
number_below zero [] h f = omega arith
number_below zero (b ∷ bs) h f = absurd (omega arith)
number_below (suc w) [] h f = rw pow-suc (omega (arith, number_below w [] (omega arith) f))
number_below (suc w) (b ∷ bs) h f =
    rw pow-suc (omega (arith, f 0 (omega arith), number_below w bs (omega arith) (λ i k. f (suc i) (omega arith))))

-- ---- a list that is written from the front

-- d is p and then what is left of q; ys was written to it behind p
write_next :
    (p q : List ℕ) {d : List ℕ} (ys : List ℕ) (at k end : ℕ) → at + k ≡ end → d ≡ p ++ drop at q → length p ≡ at
    → put_mid at k d ys ≡ (p ++ ys) ++ drop end q
write_next p q ys at k end h e n = rw (e, take_at p _ at n, drop_at p _ at n, drop-drop, h, append_assoc)

-- ---- runs of arguments

pub args_from_length : (w n : ℕ) (bs : List ℕ) → length (args_from w n bs) ≡ n
unfolding args_from
args_from_length w zero bs = refl
args_from_length w (suc n) bs = ap suc (args_from_length w n (drop w bs))

-- an argument is the number in its own w bytes
pub args_from_at :
    (w n : ℕ) (bs : List ℕ) (i : ℕ) → i < n → get_or (args_from w n bs) i 0 ≡ number (take w (drop (i * w) bs))
unfolding args_from
args_from_at w zero bs i h = absurd (omega arith)
args_from_at w (suc n) bs zero h = rw zero-mul
args_from_at w (suc n) bs (suc i) h = rw (args_from_at w n (drop w bs) i (omega arith), drop-drop, suc-mul, add_comm w)

-- the chunks of 8 bytes, each in its place
chunk_at :
    {X : Type 0} (n k : ℕ) (l d : List X) (i : ℕ) → i < k → get_or (first_chunks n k l) i d ≡ take n (drop (i * n) l)
chunk_at n zero l d i h = absurd (omega arith)
chunk_at n (suc k) l d zero h = rw zero-mul refl
chunk_at n (suc k) l d (suc i) h =
    rw (suc-mul, add_comm (i * n) n, ← drop-drop) (chunk_at n k (drop n l) d i (omega arith))

-- n arguments that were read each from its own w bytes
pub args_read_all :
    (n : ℕ) (bs xs : List ℕ) → length xs ≡ n
    → ((k : ℕ) → k < length xs → get_or xs k 0 ≡ number (take 8 (drop (8 * k) bs))) → xs ≡ args_from 8 n bs
args_read_all n bs xs e f =
    ext_get_or 0 _ _ (e ∙ sym (args_from_length 8 n bs))
    (λ i h. let k : i < n = omega arith in
    f i h ∙ ap (λ (j : ℕ). number (take 8 (drop j bs))) (mul_comm 8 i) ∙ sym (args_from_at 8 n bs i k))

-- the next argument was read, from its chunk
pub args_read_next :
    (xs bs d : List ℕ) (n i : ℕ) {v : ℕ} → i < length xs → i < n → 8 * n ≤ length bs
    → ((k : ℕ) → k < i → get_or xs k 0 ≡ number (take 8 (drop (8 * k) bs)))
    → v ≡ from_le_bytes w64 (get_or (first_chunks 8 n bs) i d)
    → (k : ℕ) → k < i + 1 → get_or (set xs i v) k 0 ≡ number (take 8 (drop (8 * k) bs))
args_read_next xs bs d n i {v} h m room f e k l = go (dec_lt k i)
  where
    chunk : v ≡ number (take 8 (drop (8 * i) bs))
    chunk =
        e ∙ word_number bs (8 * i) (omega arith)
        (chunk_at 8 n bs d i m ∙ ap (λ (j : ℕ). take 8 (drop j bs)) (mul_comm i 8))

    go : Dec (k < i) → get_or (set xs i v) k 0 ≡ number (take 8 (drop (8 * k) bs))
    go (yes b) = get_or-set_other xs i k v 0 (λ p. omega arith) ∙ f k b
    go (no b) =
        let p : k ≡ i = omega arith in
        rw p (get_or-set_same xs i v 0 h ∙ chunk)

pub arg_bytes_length : (w : ℕ) (xs : List ℕ) → length (arg_bytes w xs) ≡ length xs * w
unfolding arg_bytes
arg_bytes_length w [] = sym (zero-mul w)
arg_bytes_length w (a ∷ xs) = rw (length-append, little_endian_length, arg_bytes_length w xs, suc-mul, add_comm w)

-- an argument's own w bytes are those of its number
pub arg_bytes_at :
    (w : ℕ) (xs : List ℕ) (i : ℕ) → i < length xs → take w (drop (i * w) (arg_bytes w xs)) ≡ little_endian w (get_or xs i 0)
unfolding arg_bytes
arg_bytes_at w [] i h = absurd (omega arith)
arg_bytes_at w (a ∷ xs) zero h = simp (zero-mul, take_at, little_endian_length)
arg_bytes_at w (a ∷ xs) (suc i) h =
    rw (suc-mul, add_comm (i * w) w, ← drop-drop (i * w) w)
    (simp (drop_at, little_endian_length) (arg_bytes_at w xs i (omega arith)))

-- the bytes of one argument more
arg_bytes_more :
    (w : ℕ) (xs : List ℕ) (i : ℕ) → i < length xs
    → arg_bytes w (take (suc i) xs) ≡ arg_bytes w (take i xs) ++ little_endian w (get_or xs i 0)
unfolding arg_bytes
arg_bytes_more w [] i h = absurd (omega arith)
arg_bytes_more w (a ∷ xs) zero h = append-nil (little_endian w a)
arg_bytes_more w (a ∷ xs) (suc i) h =
    ap (λ (l : List ℕ). little_endian w a ++ l) (arg_bytes_more w xs i (omega arith)) ∙ sym (append_assoc (little_endian w a) _ _)

-- the first i arguments were written to the front of o, and then the next one was
pub args_next :
    (xs : List ℕ) (i : ℕ) (o : List ℕ) {out ys : List ℕ} → i < length xs
    → out ≡ arg_bytes 8 (take i xs) ++ drop (8 * i) o → ys ≡ little_endian 8 (get_or xs i 0)
    → put_mid (8 * i) (8 * i + 8 - 8 * i) out ys ≡ arg_bytes 8 (take (i + 1) xs) ++ drop (8 * (i + 1)) o
args_next xs i o {out} {ys} h e f =
    let long : length (arg_bytes 8 (take i xs)) ≡ 8 * i = arg_bytes_length 8 (take i xs) ∙ (rw (length-take-le i xs (omega arith)) (mul_comm i 8)) in
    let next = write_next (arg_bytes 8 (take i xs)) o ys (8 * i) (8 * i + 8 - 8 * i) (8 * (i + 1)) (omega arith) e long in
    next ∙ rw (f, add-one, arg_bytes_more 8 xs i h) refl

-- all were written
pub args_written :
    (xs o : List ℕ) {i : ℕ} {out : List ℕ} → length xs ≡ i → out ≡ arg_bytes 8 (take i xs) ++ drop (8 * i) o
    → out ≡ over (arg_bytes 8 xs) o
args_written xs o {i} {out} h e =
    let long : length (arg_bytes 8 xs) ≡ 8 * i = arg_bytes_length 8 xs ∙ (rw h (mul_comm i 8)) in
    rw long (rw (take_all i xs (omega arith)) at e)

-- and filled out
pub args_filled : (xs o : List ℕ) {out : List ℕ} → length o ≡ 8 * length xs → out ≡ over (arg_bytes 8 xs) o → out ≡ arg_bytes 8 xs
args_filled xs o h e =
    let long : length (arg_bytes 8 xs) ≡ 8 * length xs = arg_bytes_length 8 xs ∙ mul_comm (length xs) 8 in
    rw (drop_of_length-le o {i = length (arg_bytes 8 xs)} (omega arith), append-nil) at e

-- arguments that fit w bytes each are read back from them
pub args_from_arg_bytes : (w : ℕ) (xs : List ℕ) → Below (256 ^ w) xs → args_from w (length xs) (arg_bytes w xs) ≡ xs
args_from_arg_bytes w xs f =
    ext_get_or 0 _ _ (args_from_length w (length xs) (arg_bytes w xs))
    (λ i h. let k : i < length xs = rw args_from_length at h in
    rw (args_from_at, arg_bytes_at, number_little_endian w (get_or xs i 0) (f i k)))

-- bytes that are read as arguments are written back
pub arg_bytes_args_from : (w n : ℕ) (bs : List ℕ) → length bs ≡ n * w → Below 256 bs → arg_bytes w (args_from w n bs) ≡ bs
unfolding args_from arg_bytes
arg_bytes_args_from w zero [] e f = refl
arg_bytes_args_from w zero (b ∷ bs) e f = absurd (omega (arith, zero-mul w))
arg_bytes_args_from w (suc n) bs e f =
    let l : length (take w bs) ≡ w = length-take-le w bs (omega (arith, suc-mul n w)) in
    rw (
      arg_bytes_args_from w n (drop w bs) (rw length-drop (omega (arith, suc-mul n w))) (below_drop 256 w bs f),
      rw l at (little_endian_number (take w bs) (below_take 256 w bs f)),
      take-append-drop,
    )

pub args_below : (w n : ℕ) (bs : List ℕ) → Below 256 bs → Below (256 ^ w) (args_from w n bs)
args_below w n bs f i h =
    let k : i < n = rw args_from_length at h in
    let e = length-take w (drop (i * w) bs) in
    rw args_from_at (number_below w (take w (drop (i * w) bs)) (omega arith) (below_take 256 w (drop (i * w) bs) (below_drop 256 (i * w) bs f)))

-- ---- the whole

-- the count, the kinds and the arguments come to the size of n nodes
pub size_parts : (w n : ℕ) → encoded_size w n ≡ 2 + n + n * w
size_parts w n = rw (add-mul, one-mul, mul_comm w n) (omega arith)

pub encoding_length :
    (w : ℕ) (ks xs : List ℕ) → length xs ≡ length ks → length (encoding w ks xs) ≡ encoded_size w (length ks)
unfolding encoding
encoding_length w ks xs e =
    rw (length-append, length-append, little_endian_length, arg_bytes_length, e, size_parts) (omega arith)

-- the count, the kinds and the arguments, one after the other over the front of out
pub encoding_over : (w : ℕ) (ks xs out : List ℕ) → length xs ≡ length ks
    → ((little_endian 2 (length ks) ++ ks) ++ arg_bytes w xs) ++ drop (2 + length ks + length xs * w) out ≡ encoding w ks xs ++ drop (length (encoding w ks xs)) out
unfolding encoding
encoding_over w ks xs out e =
    rw (encoding_length w ks xs e, size_parts, e, append_assoc (little_endian 2 (length ks)) ks)

-- the three parts, written to out one after the other
pub put_parts :
    (ks xs out : List ℕ) {h k x : List ℕ} → length ks ≡ length xs → h ≡ little_endian 2 (length ks) → k ≡ ks
    → x ≡ arg_bytes 8 xs
    → put_mid (2 + length ks) (2 + 9 * length ks - (2 + length ks)) (put_mid 2 (2 + length ks - 2) (h ++ drop 2 out) k) x
    ≡ encoding 8 ks xs ++ drop (length (encoding 8 ks xs)) out
put_parts ks xs out {h} {k} {x} e f g l =
    let n = length ks in
    let head : length h ≡ 2 = ap length f ∙ little_endian_length 2 n in
    let two : put_mid 2 (2 + n - 2) (h ++ drop 2 out) k ≡ (h ++ k) ++ drop (2 + n) out = write_next h out k 2 (2 + n - 2) (2 + n) (omega arith) refl head in
    let long : length (h ++ k) ≡ 2 + n = rw (length-append, head, g) in
    let three : put_mid (2 + n) (2 + 9 * n - (2 + n)) (put_mid 2 (2 + n - 2) (h ++ drop 2 out) k) x ≡ ((h ++ k) ++ x) ++ drop (2 + n + length xs * 8) out = write_next (h ++ k) out x (2 + n) (2 + 9 * n - (2 + n)) (2 + n + length xs * 8) (omega arith) two long in
    three ∙ rw (f, g, l) (encoding_over 8 ks xs out (sym e))
