-- What `read` and `open` come to, and what their answers tell: the kinds that stand in the bytes and the arguments that were read
-- are the flat form of the tree, so that a walk may start. Assumes nothing.
use mathlib.Core.Path.{◌≡◌, refl, sym, ap, ap₂, ◌∙◌}
use mathlib.Core.List.{List, ◌++◌}
use Prim.Native.Nat.{ℕ, ◌+◌, ◌-◌, ◌≤◌}
use Rattle.std.specs.Prelude.{None, Some, Ok, Err}
use lib.ListN.{length, take, drop}
use lib.Seq.{take_at}
use Rattle.flat.specs.Tree.{DataType, size, kinds_of, args_of}
use Rattle.flat.specs.Reading.{Reading, refused, type, reading, checked_of}
use Rattle.flat.specs.Output.{written_of}
use Rattle.flat.specs.declared.error.Error.{Error}
use Rattle.flat.specs.declared.error.Error.TheVariants.{Length}
use Rattle.flat.proofs.Truths.{impossible}
use Rattle.flat.proofs.Meaning.{passes, Passed, check_passed, checked_refused}
use Rattle.encoded.specs.Encoding.{kinds_in, args_in, decoding}
use Rattle.encoded.specs.Answer.{nodes_in, args_left, ReadsArgs}
use Rattle.encoded.specs.Opening.{flat_of}
use Rattle.encoded.proofs.Answers.{Sized, sized, size_fits_lem, kinds_part, kinds_length, args_length, decoding_sized}
use Rattle.encoded.proofs.Answers.{nodes_sized, nodes_none, decoding_none, decoded_fits, decoded_holds}
use Rattle.encoded.proofs.Answers.{EncodedForm, type_form, encoded_form}

-- ---- what `read` comes to
pub reads_none : {w nodes deep : ℕ} {s xs : List ℕ} → None ≡ nodes_in w nodes s → ReadsArgs w nodes deep s xs xs (Err Length)
unfolding args_left
reads_none {w} {nodes} {deep} {s} e =
    record { answers = ap written_of (sym (decoding_none w nodes deep s e)); args = rw (nodes_none w nodes s e) }

-- the kinds ks and the arguments ys of bytes of the right length, ys at the front of what xs held, and a check of them
module _ {w nodes n : ℕ} {s ks ys : List ℕ} (z : Sized w nodes n s) (k : ks ≡ kinds_in s) (y : ys ≡ args_in w s) (xs : List ℕ) where
  left_is : ys ++ drop n xs ≡ args_left w nodes s xs
  unfolding args_left
  left_is = rw (size_fits_lem z, args_length z, y) refl

  read_is : (deep : ℕ) → reading nodes deep ks (take n (ys ++ drop n xs)) ≡ decoding w nodes deep s
  read_is deep = rw (k, y, take_at (args_in w s) _ n (args_length z)) (sym (decoding_sized z deep))

  pub reads_type :
      (deep : ℕ) → Ok tt ≡ checked_of (reading nodes deep ks (take n (ys ++ drop n xs)))
      → ReadsArgs w nodes deep s xs (ys ++ drop n xs) (Ok n)
  reads_type deep h =
      let f : EncodedForm w nodes deep n s = encoded_form (h ∙ ap checked_of (read_is deep)) z.count in
      record { answers = ap Ok (sym f.tree_size) ∙ ap written_of (sym f.reads); args = left_is }

  pub reads_refused :
      (deep : ℕ) {e : Error} → Err e ≡ checked_of (reading nodes deep ks (take n (ys ++ drop n xs)))
      → ReadsArgs w nodes deep s xs (ys ++ drop n xs) (Err e)
  reads_refused deep {e} h =
      let r = checked_refused (decoding w nodes deep s) e (h ∙ ap checked_of (read_is deep)) in
      record { answers = ap written_of (sym r); args = left_is }

-- ---- what its answer tells

-- the answer of a call that writes a type, or reads one
pub written_type : (r : Reading) {n : ℕ} → Ok n ≡ written_of r → (t : DataType) × (r ≡ type t) × (size t ≡ n)
written_type (refused e) q = impossible cc
written_type (type t) q = (t, refl, cc)

pub written_refused : (r : Reading) {e : Error} → Err e ≡ written_of r → r ≡ refused e
written_refused (refused d) {e} q = let y : d ≡ e = cc in ap refused y
written_refused (type t) q = impossible cc

-- the bytes are a type of n nodes, whose arguments stand at the front of xs'
module _ {w nodes deep n : ℕ} {s xs xs' : List ℕ} (o : ReadsArgs w nodes deep s xs xs' (Ok n)) where
  pub read_form : EncodedForm w nodes deep n s
  read_form =
      let r = written_type (decoding w nodes deep s) o.answers in
      let f : EncodedForm w nodes deep (size r.0) s = type_form r.0 r.1 in
      rw r.2 at f

  pub read_front : take n xs' ≡ args_in w s
  unfolding args_left
  read_front =
      let z = read_form.sized in
      rw (rw (size_fits_lem z) at o.args) (take_at (args_in w s) _ n (args_length z))

  pub read_length : length (take n xs') ≡ n
  read_length = rw read_front (args_length read_form.sized)

  -- so `open` gives the two arrays of a type
  pub read_flat : Ok (take (2 + n - 2) (drop 2 s), take n xs') ≡ flat_of (decoding w nodes deep s)
  read_flat =
      let f = read_form in
      rw (kinds_part f.sized, read_front, f.reads, f.kinds, f.args) refl

  pub read_checked : Ok tt ≡ checked_of (reading nodes deep (take (2 + n - 2) (drop 2 s)) (take n xs'))
  read_checked =
      let f = read_form in
      rw (kinds_part f.sized, read_front, ← decoding_sized f.sized deep, f.reads) refl

-- ---- what the answer of `open` tells

-- All that a caller learns where `open` answers the two arrays ks and xs of the bytes s: what the bytes are is what
-- the two arrays are, and these are as good as checked.
pub record OpenedAs (w nodes deep : ℕ) (s ks xs : List ℕ) : Type 0 where
  pub counted : nodes_in w nodes s ≡ Some (length ks)
  pub few : length ks ≤ nodes
  pub arrays : Passed nodes deep ks xs
  pub reads : decoding w nodes deep s ≡ type arrays.tree

flat_type :
    (r : Reading) {ks xs : List ℕ} → Ok (ks, xs) ≡ flat_of r
    → (t : DataType) × (r ≡ type t) × (ks ≡ kinds_of t) × (xs ≡ args_of t)
flat_type (refused e) q = impossible cc
flat_type (type t) {ks} {xs} q =
    let p : (ks, xs) ≡ (kinds_of t, args_of t) = cc in
    (t, refl, ap (λ (p : List ℕ × List ℕ). p.0) p, ap (λ (p : List ℕ × List ℕ). p.1) p)

pub opened :
    {w nodes deep : ℕ} {s ks xs : List ℕ} → Ok (ks, xs) ≡ flat_of (decoding w nodes deep s)
    → OpenedAs w nodes deep s ks xs
opened {w} {nodes} {deep} {s} {ks} {xs} q =
    let (t, r, k, x) = flat_type (decoding w nodes deep s) q in
    let h = decoded_holds w nodes deep s t r in
    let z = sized w nodes s (decoded_fits w nodes deep s t r) in
    let is : reading nodes deep ks xs ≡ type t = ap₂ (reading nodes deep) k x ∙ passes nodes deep t h.is_type in
    let p : Passed nodes deep ks xs = check_passed (sym (ap checked_of is)) in
    record {
      counted = nodes_sized z ∙ ap Some (sym (kinds_length z) ∙ ap length h.kinds ∙ sym (ap length k));
      few = rw p.whole at p.form.is_type.within;
      arrays = p;
      reads = r ∙ sym is ∙ p.reads;
    }

pub unopened : (r : Reading) {e : Error} → Err e ≡ flat_of r → r ≡ refused e
unopened (refused d) {e} q = let y : d ≡ e = cc in ap refused y
unopened (type t) q = impossible cc
