-- What two types and a question come to: of arrays that were checked, and of bytes that were opened. Assumes nothing.
use mathlib.Core.Path.{◌≡◌, sym, ap, ◌∙◌}
use mathlib.Core.Bool.{true, ◌&&◌}
use mathlib.Core.List.{List}
use Rattle.std.specs.Prelude.{Some, Ok, Err}
use Prim.Native.Nat.{ℕ}
use borrow.Author.Tests.{leb-true}
use lib.Dec.{leb}
use lib.ListN.{length, get_or}
use Rattle.flat.specs.Tree.{DataType}
use Rattle.flat.specs.Walk.{type_at}
use Rattle.flat.specs.Reading.{Reading, checked_of}
use Rattle.flat.specs.Both.{both_of}
use Rattle.flat.specs.declared.error.Error.{Error}
use Rattle.flat.proofs.Truths.{both_true}
use Rattle.flat.proofs.Meaning.{Passed, checked_type, checked_refused}
use Rattle.flat.proofs.Pairs.{left_refused, right_refused, both_types}
use Rattle.encoded.specs.Encoding.{encoded_size, kinds_in, args_in, decoding}
use Rattle.encoded.specs.Opening.{flat_of}
use Rattle.encoded.proofs.Answers.{short_few, decoded_holds}
use Rattle.encoded.proofs.Plain.{PlainBytes}
use Rattle.encoded.proofs.Opening.{OpenedAs, unopened}
use Rattle.dtype.specs.Equality.{equal}
use Rattle.dtype.specs.Answer.{answers_of}
use Rattle.dtype_cast.specs.Scan.{node_yes}
use Rattle.dtype_cast.specs.Verdict.{cast_of}
use Rattle.dtype_cast.proofs.Scans.{leaves_yes}
use Rattle.dtype_eq.specs.Contains.{contains_dtype_recursive}
use Rattle.dtype_eq.specs.Nodes.{starts_with, occurs}
use Rattle.dtype_eq.proofs.Scans.{starts_self, starts_equal, occurs_contains}
use Rattle.encoded_pair.specs.Asked.{RoomForBoth, asked_of}

-- ---- two flat types that were checked
module _ {nodes deep : ℕ} {ks xs ls ys : List ℕ} (p : Passed nodes deep ks xs) (q : Passed nodes deep ls ys) where
  -- the two scans
  pub says_equal : starts_with ks xs ls ys ≡ equal (type_at ks xs) (type_at ls ys)
  says_equal = rw (p.front, q.front) (starts_equal p.form q.form)

  pub says_contains : occurs ks xs ls ys ≡ contains_dtype_recursive (type_at ks xs) (type_at ls ys)
  says_contains = rw (p.front, q.front) (occurs_contains p.form q.form)

-- ---- two encoded types
module _ {A : Type 0} (says : DataType → DataType → A) where
  pub left_unopened : (r u : Reading) {e : Error} → Err e ≡ flat_of r → Err e ≡ asked_of says r u
  left_unopened r u p = sym (left_refused Err (λ t u. Ok (says t u)) r u (unopened r p))

  -- the left one was opened
  module _ {w nodes deep : ℕ} {s ks xs : List ℕ} (l : OpenedAs w nodes deep s ks xs) where
    pub right_unopened : (u : Reading) {e : Error} → Err e ≡ flat_of u → Err e ≡ asked_of says (decoding w nodes deep s) u
    right_unopened u q = sym (right_refused Err (λ t u. Ok (says t u)) _ u l.reads (unopened u q))

    -- and the right one
    pub both_opened :
        {t ls ys : List ℕ} → OpenedAs w nodes deep t ls ys
        → Ok (says (type_at ks xs) (type_at ls ys)) ≡ asked_of says (decoding w nodes deep s) (decoding w nodes deep t)
    both_opened r =
        rw (l.arrays.front, r.arrays.front) (sym (both_types Err (λ t u. Ok (says t u)) _ _ l.reads r.reads))

-- ---- short bytes have few nodes, so small arrays have room for the arguments
pub short_room :
    (few : ℕ) {s t : List ℕ} → true ≡ (leb (length s) (encoded_size 8 few) && leb (length t) (encoded_size 8 few))
    → RoomForBoth few s t
short_room few {s} {t} e =
    let both = both_true _ _ (sym e) in
    record {
      left = short_few _ _ few s (leb-true _ _ both.0);
      right = short_few _ _ few t (leb-true _ _ both.1);
    }

-- ---- one check tells of two equal runs of bytes
module _ (w nodes deep : ℕ) (s t : List ℕ) (same : s ≡ t) where
  pub same_refused :
      {e : Error} → Err e ≡ checked_of (decoding w nodes deep s)
      → Err e ≡ answers_of equal (decoding w nodes deep s) (decoding w nodes deep t)
  same_refused h = sym (left_refused Err (λ t u. Ok (equal t u)) _ _ (checked_refused _ _ h))

  pub same_equal :
      Ok tt ≡ checked_of (decoding w nodes deep s)
      → Ok true ≡ answers_of equal (decoding w nodes deep s) (decoding w nodes deep t)
  same_equal h =
      let (u, r) = checked_type _ h in
      let v = decoded_holds w nodes deep s u r in
      let self : true ≡ equal u u = sym (starts_self (kinds_in s) (args_in w s)) ∙ starts_equal v v in
      rw (← same) (ap Ok self ∙ sym (both_types Err (λ t u. Ok (equal t u)) _ _ r r))

-- ---- two plain leaves that say yes
pub plain_cast : {w nodes : ℕ} (deep : ℕ) {s t : List ℕ} → PlainBytes w nodes s → PlainBytes w nodes t
    → node_yes (get_or s 2 0) 0 (get_or t 2 0) 0 ≡ true
    → Ok (Some true) ≡ cast_of (decoding w nodes deep s) (decoding w nodes deep t)
unfolding both_of
plain_cast deep p q e = rw (p.reads deep, q.reads deep, leaves_yes _ 0 _ 0 p.low e)
