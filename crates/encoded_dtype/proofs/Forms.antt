-- What the calls come to that build an encoded type anew. Assumes nothing.
use mathlib.Core.Path.{◌≡◌, refl, sym, ap, ◌∙◌}
use mathlib.Core.Bool.{Bool, true, false, cond, not, ◌&&◌}
use mathlib.Core.List.{List, [], ◌∷◌}
use Rattle.std.specs.Prelude.{IfSome, Result, Err}
use Prim.Native.Nat.{ℕ, ◌≤◌}
use native.Mathlib.Omega.{arith}
use lib.ListN.{length, get_or, take, drop, replicate, length-replicate}
use Rattle.flat.specs.Tree.{DataType, leaf, size, kinds_of, args_of}
use Rattle.flat.specs.Reading.{Reading, refused, type}
use Rattle.flat.specs.Walk.{type_at}
use Rattle.flat.specs.declared.error.Error.{Error}
use Rattle.flat.specs.declared.error.Error.TheVariants.{Unknown}
use Rattle.encoded.specs.Encoding.{decoding}
use Rattle.encoded.specs.Answer.{nodes_in, fitting_bytes, Encodes, Puts}
use Rattle.encoded.proofs.Answers.{kinds_part, encodes_refused, puts_type}
use Rattle.encoded.proofs.Plain.{PlainBytes}
use Rattle.encoded.proofs.Opening.{OpenedAs}
use Rattle.dtype.specs.Physical.{to_physical, physical_kind}
use Rattle.dtype_build.specs.Build.{or_unknown, materialized, physical}
use Rattle.dtype_build.specs.Leaf.{physical_in, materialized_in, leaf_with, map_leaves, has_any, HasRoom, BuiltType}
use Rattle.dtype_build.proofs.Leaves.{physical_rule, zero_is}
use Rattle.dtype_build.proofs.Forms.{none_if, physical_is, known_is}
use Rattle.dtype_build.proofs.Answers.{front}
use Rattle.encoded_dtype.specs.Forms.{form_of}

-- ---- the calls of dtype.rs, by the form
or_unknown_lem : (b : Bool) (t : DataType) → cond b (refused Unknown) (type t) ≡ or_unknown (none_if b t)
or_unknown_lem true t = refl
or_unknown_lem false t = refl

pub form_materialized : (allow : Bool) (r : Reading)
    → form_of materialized_in allow r ≡ materialized allow r
unfolding form_of materialized
form_materialized allow (refused e) = refl
form_materialized allow (type t) =
    let b = has_any (kinds_of t) && not allow in
    or_unknown_lem b _ ∙ ap or_unknown (sym (known_is allow t))

-- any is allowed, so none is refused
pub form_physical : (r : Reading) → form_of physical_in true r ≡ physical r
unfolding form_of physical
form_physical (refused e) = refl
form_physical (type t) =
    go (has_any (kinds_of t)) _ ∙ ap type (physical_is t)
  where
    go : (b : Bool) (u : DataType) → cond (b && false) (refused Unknown) (type u) ≡ type u
    go true u = refl
    go false u = refl

-- ---- the bytes s are the type t, of the kinds ks
pub record ReadsAs (w nodes deep : ℕ) (s ks : List ℕ) (t : DataType) : Type 0 where
  pub reads : decoding w nodes deep s ≡ type t
  pub kinds : ks ≡ kinds_of t

-- one plain leaf
pub plain_reads : {w nodes : ℕ} (deep : ℕ) {s : List ℕ} → PlainBytes w nodes s
    → ReadsAs w nodes deep s (take 1 (drop 2 s)) (leaf (get_or s 2 0) 0)
unfolding kinds_of
plain_reads deep p = record { reads = p.reads deep; kinds = kinds_part p.sized ∙ p.kinds }

-- an opened type
pub opened_reads : {w nodes deep : ℕ} {s ks xs : List ℕ} → OpenedAs w nodes deep s ks xs
    → ReadsAs w nodes deep s ks (type_at ks xs)
opened_reads o =
    let t = sym o.arrays.front in
    record { reads = o.reads ∙ ap type t; kinds = o.arrays.form.kinds ∙ ap kinds_of t }

-- the test for refusal 7
module _ (f : ℕ → ℕ → ℕ) (allow : Bool) {w nodes deep : ℕ} {s ks : List ℕ} {t : DataType} (v : ReadsAs w nodes deep s ks t) where
  pub form_none : true ≡ (has_any ks && not allow) → form_of f allow (decoding w nodes deep s) ≡ refused Unknown
  unfolding form_of
  form_none e = rw (v.reads, ← v.kinds, ← e)

  pub form_type :
      false ≡ (has_any ks && not allow)
      → form_of f allow (decoding w nodes deep s) ≡ type (map_leaves (leaf_with f) t)
  unfolding form_of
  form_type e = rw (v.reads, ← v.kinds, ← e)

-- of one plain leaf
pub plain_type :
    (f : ℕ → ℕ → ℕ) (allow : Bool) {w nodes deep : ℕ} {s ks : List ℕ} {k a : ℕ}
    → ReadsAs w nodes deep s ks (leaf k a) → false ≡ (has_any ks && not allow)
    → form_of f allow (decoding w nodes deep s) ≡ type (leaf_with f k a)
unfolding map_leaves
plain_type f allow v e = form_type f allow v e

pub plain_physical :
    {w nodes deep : ℕ} {s ks : List ℕ} {k a : ℕ} → ReadsAs w nodes deep s ks (leaf k a)
    → physical (decoding w nodes deep s) ≡ type (leaf_with (λ k a. physical_kind k) k a)
unfolding physical to_physical
plain_physical {k = k} {a = a} v = ap physical v.reads ∙ ap (λ rule. type (rule k a)) physical_rule

-- a refused call
pub refused_bytes : (w m : ℕ) {r : Reading} {e : Error} {out : List ℕ} → r ≡ refused e
    → Encodes w (fitting_bytes w m r) out out (Err e)
unfolding fitting_bytes
refused_bytes w m q = encodes_refused (rw q)

pub unopened_form : (f : ℕ → ℕ → ℕ) (allow : Bool) {r : Reading} {e : Error} → r ≡ refused e → form_of f allow r ≡ refused e
unfolding form_of
unopened_form f allow q = rw q

-- ---- one plain leaf, of the kind y in the given form
pub plain_form :
    (f : ℕ → ℕ → ℕ) (k : ℕ) {y w : ℕ} {out out' : List ℕ} {a : Result ℕ Error} → y ≡ f k 0
    → Puts w (y ∷ []) (0 ∷ []) out out' a → Encodes w (fitting_bytes w (length out) (type (leaf_with f k 0))) out out' a
unfolding kinds_of args_of
plain_form f k {y} e p =
    let l : leaf_with f k 0 ≡ leaf y 0 = zero_is f k ∙ ap (λ (j : ℕ). leaf j 0) (sym e) in
    puts_type (leaf_with f k 0) (sym (ap kinds_of l)) (sym (ap args_of l)) p

-- ---- an opened type
module _ {w nodes deep : ℕ} {s ks xs : List ℕ} (o : OpenedAs w nodes deep s ks xs) where
  -- there is room to build it where there is room for its arguments
  pub form_room :
      (room : ℕ) → IfSome (nodes_in w nodes s) (λ n. n ≤ room)
      → HasRoom (size (type_at ks xs)) (replicate room 0) (replicate room 0)
  form_room room h =
      let within : length ks ≤ room = rw o.counted at h in
      let fits : size (type_at ks xs) ≤ room = omega (arith, ap size o.arrays.front, o.arrays.whole) in
      record { kinds = rw length-replicate fits; args = rw length-replicate fits }

  -- the type was built in two arrays, and encoded from there
  pub form_encoded :
      (f : ℕ → ℕ → ℕ) (allow : Bool) → false ≡ (has_any ks && not allow)
      → {m : ℕ} {K A K' A' : List ℕ} → BuiltType (map_leaves (leaf_with f) (type_at ks xs)) K A K' A' m
      → {out out' : List ℕ} {a : Result ℕ Error} → Puts w (take m K') (take m A') out out' a
      → Encodes w (fitting_bytes w (length out) (form_of f allow (decoding w nodes deep s))) out out' a
  form_encoded f allow e b p =
      let t = map_leaves (leaf_with f) (type_at ks xs) in
      let at = front t b in rw (form_type f allow (opened_reads o) e) (puts_type t at.1 at.2 p)
