-- What the answers tell, and what answers come to: bytes of the right length hold as many kinds and arguments as
-- their count says, any others are refused by 1; where a check passes, there is a tree, and its root; and
-- `decode` and `encode` leave its arrays or bytes, or all as it was. Assumes nothing.
use mathlib.Core.Path.{◌≡◌, refl, sym, ap, ◌∙◌}
use mathlib.Core.Bool.{Bool, true, false, cond, and-eq-true_iff}
use mathlib.Core.List.{List, ◌++◌}
use Prim.Native.Nat.{ℕ, ◌+◌, ◌-◌, ◌≤◌, ◌<◌}
use Rattle.std.specs.Prelude.{Option, None, Some, IfSome, ok_or, Result, Ok, Err}
use native.Mathlib.Nat.{add-sub_cancel_left, zero-mul, le_of_mul-le-mul_left}
use native.Mathlib.Omega.{arith}
use borrow.Author.Tests.{lt-ltb, le-leb, eq-eqb, ltb-true, leb-true, eqb-true}
use borrow.Author.Rules.{part_to_end}
use lib.Dec.{leb}
use lib.ListN.{length, get_or, take, drop, length-drop}
use lib.Seq.{drop-drop, length-take-le, get_or-take, get_or-drop}
use Rattle.flat.specs.Tree.{DataType, size, kinds_of, args_of}
use Rattle.flat.specs.Reading.{Reading, refused, type, unless, reading, checked_of, root_of, RootFits}
use Rattle.flat.specs.Output.{over, fitting}
use Rattle.flat.specs.declared.Node.{Node}
use Rattle.flat.specs.declared.error.Error.{Error}
use Rattle.flat.specs.declared.error.Error.TheVariants.{Length, OutputTooShort}
use Rattle.flat.proofs.Truths.{impossible}
use Rattle.flat.proofs.Sizes.{length_kinds}
use Rattle.flat.proofs.Meaning.{Holds, holds, checked_type, checked_refused, check_passed}
use Rattle.flat.proofs.Roots.{root_read}
use Rattle.flat.proofs.Outputs.{writes_refused, writes_type, few_kinds, few_args, room}
use Rattle.encoded.specs.Encoding.{number, args_from, encoding, encoded_size, count_in, kinds_in, args_in, size_fits}
use Rattle.encoded.specs.Encoding.{decoding}
use Rattle.encoded.specs.Answer.{nodes_in, fitting_bytes, bytes_over, Encodes, DecodeEnsures, Puts}
use Rattle.encoded.proofs.Laws.{args_from_length, args_from_at, size_parts}

-- ---- the number of nodes

-- bytes that say that they have n nodes, and are as long as n nodes take
pub record Sized (w nodes n : ℕ) (s : List ℕ) : Type 0 where
  pub count : n ≡ count_in s
  pub some : 0 < n
  pub few : n ≤ nodes
  pub size : length s ≡ encoded_size w n

pub sized : (w nodes : ℕ) (s : List ℕ) → size_fits w nodes s ≡ true → Sized w nodes (count_in s) s
unfolding size_fits
sized w nodes s e = let h = simp and-eq-true_iff at e in record { count = refl; some = ltb-true _ _ h.0.0.1; few = leb-true _ _ h.0.1; size = eqb-true _ _ h.1 }

module _ {w nodes n : ℕ} {s : List ℕ} (z : Sized w nodes n s) where
  pub size_fits_lem : size_fits w nodes s ≡ true
  unfolding size_fits
  size_fits_lem = simp (sym z.count, le-leb 2 (length s) (omega (arith, z.size)), lt-ltb 0 n z.some, le-leb n nodes z.few, eq-eqb (length s) (encoded_size w n) z.size)

  -- the parts of s that hold the kinds and the arguments
  pub kinds_front : take n (drop 2 s) ≡ kinds_in s
  unfolding kinds_in
  kinds_front = rw (← z.count)

  pub args_rest : args_from w n (drop n (drop 2 s)) ≡ args_in w s
  unfolding args_in
  args_rest = rw (drop-drop, ← z.count)

  -- the part of s that holds the kinds
  pub kinds_part : take (2 + n - 2) (drop 2 s) ≡ kinds_in s
  unfolding kinds_in
  kinds_part = rw (← z.count, add-sub_cancel_left)

  -- the arguments in the part of s after the kinds
  pub args_part : args_from w n (take (length s - (2 + n)) (drop (2 + n) s)) ≡ args_in w s
  unfolding args_in
  args_part = rw (part_to_end, ← z.count)

  pub kinds_length : length (kinds_in s) ≡ n
  kinds_length =
      rw (← kinds_part, add-sub_cancel_left)
      (length-take-le n (drop 2 s) (rw length-drop (omega (arith, z.size, size_parts w n))))

  pub args_length : length (args_in w s) ≡ n
  args_length = rw (← args_part, args_from_length)

  pub decoding_sized : (deep : ℕ) → decoding w nodes deep s ≡ reading nodes deep (kinds_in s) (args_in w s)
  unfolding decoding
  decoding_sized deep = rw size_fits_lem

-- what an `ok_or` that a `?` follows tells of the option
pub ok_or_some : {T E : Type 0} (o : Option T) (e : E) {x : T} {r : Result T E} → r ≡ ok_or o e → r ≡ Ok x → Some x ≡ o
ok_or_some None e a b = impossible cc
ok_or_some (Some y) e a b = cc

pub ok_or_none :
    {T E : Type 0} (o : Option T) (e : E) {d : E} {r : Result T E} → r ≡ ok_or o e → r ≡ Err d → (None ≡ o) × (d ≡ e)
ok_or_none None e a b = (refl, cc)
ok_or_none (Some y) e a b = impossible cc

-- where bytes have a number of nodes
pub nodes_some : {w nodes n : ℕ} {s : List ℕ} → Some n ≡ nodes_in w nodes s → Sized w nodes n s
unfolding nodes_in
nodes_some {w} {nodes} {n} {s} e = go (size_fits w nodes s) refl e
  where
    go : (b : Bool) → size_fits w nodes s ≡ b → Some n ≡ cond b (Some (count_in s)) None → Sized w nodes n s
    go true f e = let m : n ≡ count_in s = cc in rw m (sized w nodes s f)
    go false f e = impossible cc

pub nodes_sized : {w nodes n : ℕ} {s : List ℕ} → Sized w nodes n s → nodes_in w nodes s ≡ Some n
unfolding nodes_in
nodes_sized z = rw (size_fits_lem z) (ap Some (sym z.count))

-- their number is at most m, where each number of nodes that bytes of their length have is
nodes_most :
    (w nodes m : ℕ) (s : List ℕ) → (Sized w nodes (count_in s) s → count_in s ≤ m)
    → IfSome (nodes_in w nodes s) (λ n. n ≤ m)
unfolding nodes_in
nodes_most w nodes m s h = go (size_fits w nodes s) refl
  where
    go : (b : Bool) → size_fits w nodes s ≡ b → IfSome (cond b (Some (count_in s)) None) (λ n. n ≤ m)
    go true f = h (sized w nodes s f)
    go false f = tt

-- the number of nodes is never over the limit
pub nodes_few : (w nodes : ℕ) (s : List ℕ) → IfSome (nodes_in w nodes s) (λ n. n ≤ nodes)
nodes_few w nodes s = nodes_most w nodes nodes s (λ z. z.few)

-- short bytes have few nodes
pub short_few :
    (w nodes few : ℕ) (s : List ℕ) → length s ≤ encoded_size w few → IfSome (nodes_in w nodes s) (λ n. n ≤ few)
short_few w nodes few s h =
    nodes_most w nodes few s (λ z. le_of_mul-le-mul_left {k = w + 1} (omega (arith, z.size)) (omega arith))

-- where bytes have none
pub nodes_none : (w nodes : ℕ) (s : List ℕ) → None ≡ nodes_in w nodes s → size_fits w nodes s ≡ false
unfolding nodes_in
nodes_none w nodes s = go (size_fits w nodes s)
  where
    go : (b : Bool) → None ≡ cond b (Some (count_in s)) None → b ≡ false
    go true e = impossible cc
    go false e = refl

pub decoding_none :
    (w nodes deep : ℕ) (s : List ℕ) → None ≡ nodes_in w nodes s → decoding w nodes deep s ≡ refused Length
unfolding decoding
decoding_none w nodes deep s e = rw (nodes_none w nodes s e)

-- ---- what `check` tells where it passes

-- the bytes are those of a tree of n nodes
pub record EncodedForm (w nodes deep n : ℕ) (s : List ℕ) : Type 0 where
  pub sized : Sized w nodes n s
  pub tree : DataType
  pub reads : decoding w nodes deep s ≡ type tree
  pub kinds : kinds_in s ≡ kinds_of tree
  pub args : args_in w s ≡ args_of tree
  pub tree_size : size tree ≡ n

-- bytes that are a type have the right length
pub decoded_fits :
    (w nodes deep : ℕ) (s : List ℕ) (t : DataType) → decoding w nodes deep s ≡ type t → size_fits w nodes s ≡ true
unfolding decoding
decoded_fits w nodes deep s t e = go (size_fits w nodes s) e
  where
    go : (b : Bool) → unless b Length (reading nodes deep (kinds_in s) (args_in w s)) ≡ type t → b ≡ true
    go true e = refl
    go false e = impossible cc

-- bytes that are a type hold its flat form
pub decoded_holds :
    (w nodes deep : ℕ) (s : List ℕ) (t : DataType) → decoding w nodes deep s ≡ type t
    → Holds nodes deep (kinds_in s) (args_in w s) t
decoded_holds w nodes deep s t e =
    holds nodes deep (kinds_in s) (args_in w s) t
    (sym (decoding_sized (sized w nodes s (decoded_fits w nodes deep s t e)) deep) ∙ e)

pub type_form :
    {w nodes deep : ℕ} {s : List ℕ} (t : DataType) → decoding w nodes deep s ≡ type t
    → EncodedForm w nodes deep (size t) s
type_form {w} {nodes} {deep} {s} t e =
    let z = sized w nodes s (decoded_fits w nodes deep s t e) in
    let h = decoded_holds w nodes deep s t e in
    let n : count_in s ≡ size t = sym (kinds_length z) ∙ ap length h.kinds ∙ length_kinds t in
    record { sized = rw n at z; tree = t; reads = e; kinds = h.kinds; args = h.args; tree_size = refl }

pub encoded_form :
    {w nodes deep n : ℕ} {s : List ℕ} → Ok tt ≡ checked_of (decoding w nodes deep s) → n ≡ count_in s
    → EncodedForm w nodes deep n s
encoded_form {w} {nodes} {deep} {n} {s} e c =
    let r = checked_type (decoding w nodes deep s) e in
    let f : EncodedForm w nodes deep (size r.0) s = type_form r.0 r.1 in
    rw (f.sized.count ∙ sym c) at f

-- ---- the root, where a check passes

-- where the root's kind and argument stand in the bytes
abbrev pub first : ℕ → ℕ → List ℕ → Node
first w n s = record { kind = get_or s 2 0; arg = number (take w (drop (2 + n) s)) }

pub form_root :
    {w nodes deep n : ℕ} {s : List ℕ} → EncodedForm w nodes deep n s
    → (Ok (first w n s) ≡ root_of (decoding w nodes deep s)) × RootFits (Ok (first w n s))
form_root {w} {nodes} {deep} {n} {s} f =
    let z = f.sized in
    let e = decoding_sized z deep in
    let k : get_or (kinds_in s) 0 0 ≡ get_or s 2 0 = rw (← kinds_part z) (get_or-take (2 + n - 2) (drop 2 s) 0 0 (omega (arith, z.some)) ∙ get_or-drop 2 s 0 0) in
    let a : get_or (args_in w s) 0 0 ≡ number (take w (drop (2 + n) s)) = rw (← args_part z, part_to_end) (args_from_at w n (drop (2 + n) s) 0 z.some ∙ rw zero-mul) in
    rw (← k, ← a, e) (root_read (check_passed (ap checked_of (sym f.reads ∙ e))))

-- ---- what `decode` and `encode` come to

pub decodes_refused :
    (w nodes deep : ℕ) (s : List ℕ) {ks xs : List ℕ} {e : Error} → Err e ≡ checked_of (decoding w nodes deep s)
    → DecodeEnsures w nodes deep s ks xs ks xs (Err e)
unfolding fitting
decodes_refused w nodes deep s {e = e} h = writes_refused (rw (checked_refused (decoding w nodes deep s) e h))

module _ {w nodes deep n : ℕ} {s ks xs : List ℕ} (f : EncodedForm w nodes deep n s) where
  pub decodes_few_kinds : length ks < n → DecodeEnsures w nodes deep s ks xs ks xs (Err OutputTooShort)
  decodes_few_kinds h =
      writes_refused (ap (fitting (length ks) (length xs)) f.reads ∙ few_kinds _ _ f.tree (rw f.tree_size h))

  pub decodes_few_args :
      n ≤ length ks → length xs < n → DecodeEnsures w nodes deep s ks xs ks xs (Err OutputTooShort)
  decodes_few_args g h = writes_refused (ap (fitting (length ks) (length xs)) f.reads ∙ few_args _ _ f.tree (rw f.tree_size g) (rw f.tree_size h))

  -- the two parts of s, over the front of the two arrays
  pub decodes_type :
      {ks' xs' : List ℕ}
      → n ≤ length ks
      → n ≤ length xs
      → ks' ≡ take (2 + n - 2) (drop 2 s) ++ drop n ks
      → xs' ≡ args_from w n (take (length s - (2 + n)) (drop (2 + n) s)) ++ drop n xs
      → DecodeEnsures w nodes deep s ks xs ks' xs' (Ok n)
  decodes_type g h k a =
      let z = f.sized in
      let fits = ap (fitting (length ks) (length xs)) f.reads ∙ room _ _ f.tree (rw f.tree_size g) (rw f.tree_size h) in
      writes_type fits (sym f.tree_size) (rw (← f.kinds, kinds_length z, ← kinds_part z) k)
      (rw (← f.args, args_length z, ← args_part z) a)

pub encodes_refused :
    {w : ℕ} {r : Reading} {e : Error} {out : List ℕ} → r ≡ refused e → Encodes w r out out (Err e)
unfolding bytes_over
encodes_refused h = rw h (record { answers = refl; bytes = refl })

-- what `put` leaves of a tree's two arrays is what `encode` leaves of the tree
pub puts_type :
    (t : DataType) {w : ℕ} {ks xs out out' : List ℕ} {a : Result ℕ Error} → ks ≡ kinds_of t → xs ≡ args_of t
    → Puts w ks xs out out' a → Encodes w (fitting_bytes w (length out) (type t)) out out' a
unfolding fitting_bytes bytes_over
puts_type t {w} {ks} {xs} {out} {out'} {a} k x p =
    let n : length ks ≡ size t = ap length k ∙ length_kinds t in
    go (leb (encoded_size w (size t)) (length out)) (rw n at p.answers) (rw (n, k, x) at p.bytes)
  where
    go :
        (b : Bool) → a ≡ cond b (Ok (encoded_size w (size t))) (Err OutputTooShort)
        → out' ≡ cond b (over (encoding w (kinds_of t) (args_of t)) out) out
        → Encodes w (unless b OutputTooShort (type t)) out out' a
    go true e f = record { answers = e; bytes = f }
    go false e f = record { answers = e; bytes = f }
