-- What two checks and a scan tell together. Assumes nothing.
use mathlib.Core.Path.{◌≡◌, sym, ap, ◌∙◌}
use mathlib.Core.Bool.{Bool, true, false, and-eq-true_iff}
use mathlib.Core.List.{List}
use Prim.Native.Nat.{ℕ, ◌≤◌}
use native.Mathlib.Omega.{arith}
use lib.ListN.{length, get_or}
use borrow.Author.Tests.{eqb-true}
use Rattle.flat.specs.Tree.{DataType}
use Rattle.flat.specs.Reading.{Reading, type, reading, one_plain, checked_of}
use Rattle.flat.specs.declared.error.Error.{Error}
use Rattle.std.specs.Prelude.{Result, Ok, Err}
use Rattle.flat.proofs.Meaning.{Passed, checked_refused}
use Rattle.flat.proofs.Pairs.{left_refused, right_refused, both_types}
use Rattle.flat.proofs.Plain.{plain_type}
use Rattle.dtype.specs.Equality.{equal_node, equal}
use Rattle.dtype.specs.Answer.{answers_of}
use Rattle.dtype.proofs.Answers.{valid_passed}
use Rattle.dtype_eq.specs.Contains.{contains_dtype_recursive}
use Rattle.dtype_eq.specs.Nodes.{alike, occurs}
use Rattle.dtype_eq.proofs.Alike.{valid_alike}
use Rattle.dtype_eq.proofs.Scans.{occurs_contains, alike_equal}

-- two types, as two checks tell of them
module _ (p : DataType → DataType → Bool) (nodes deep : ℕ) (ks xs ls ys : List ℕ)
    {a : Result (Unit {0}) Error} (c : a ≡ checked_of (reading nodes deep ks xs)) where
  pub left_answer : {e : Error} → a ≡ Err e
      → Err e ≡ answers_of p (reading nodes deep ks xs) (reading nodes deep ls ys)
  left_answer {e} h = sym (left_refused Err _ _ _ (checked_refused (reading nodes deep ks xs) e (sym h ∙ c)))

  pub right_answer : a ≡ Ok tt → {b : Result (Unit {0}) Error} → b ≡ checked_of (reading nodes deep ls ys)
      → {e : Error} → b ≡ Err e
      → Err e ≡ answers_of p (reading nodes deep ks xs) (reading nodes deep ls ys)
  right_answer v d {e} h =
      let right = checked_refused (reading nodes deep ls ys) e (sym h ∙ d) in
      sym (right_refused Err _ _ _ (valid_passed nodes deep ks xs c v).reads right)

-- what the rule says of two types
said : (p : DataType → DataType → Bool) (l r : Reading) {t u : DataType} → l ≡ type t → r ≡ type u
    → {b : Bool} → b ≡ p t u → Ok b ≡ answers_of p l r
said p l r h g e = ap Ok e ∙ sym (both_types Err _ l r h g)

-- two plain leaves
pub plain_equal : (nodes deep : ℕ) (ks xs ls ys : List ℕ) → 1 ≤ nodes
    → {p q b : Bool} → p ≡ one_plain ks xs → p ≡ true → q ≡ one_plain ls ys → q ≡ true
    → b ≡ equal_node (get_or ks 0 0) 0 (get_or ls 0 0) 0
    → Ok b ≡ answers_of equal (reading nodes deep ks xs) (reading nodes deep ls ys)
unfolding equal
plain_equal nodes deep ks xs ls ys h p y q z e =
    let left = plain_type nodes deep ks xs h (sym p ∙ y) in
    let right = plain_type nodes deep ls ys h (sym q ∙ z) in
    said equal _ _ left.reads right.reads e

-- two types of which the left one is valid, and what a scan of the two said, r
module _ (nodes deep : ℕ) (ks xs ls ys : List ℕ)
    {a : Result (Unit {0}) Error} (c : a ≡ checked_of (reading nodes deep ks xs)) (v : a ≡ Ok tt) where
  left : Passed nodes deep ks xs
  left = valid_passed nodes deep ks xs c v

  -- the right type need not be checked where it is alike
  pub alike_valid : {r : Bool} → r ≡ alike ks xs ls ys → r ≡ true
      → Ok true ≡ answers_of equal (reading nodes deep ks xs) (reading nodes deep ls ys)
  unfolding alike
  alike_valid e f =
      let s = simp and-eq-true_iff at (sym e ∙ f) in
      let n = eqb-true (length ks) (length ls) s.0.0 in
      let m = eqb-true (length ls) (length ys) s.0.1 in
      let h = left.form in
      let size_is = left.whole in
      by (valid_alike nodes deep left.tree h.is_type ls ys (omega arith) m (rw (← h.kinds, ← h.args) s.1))
    where
      by : (u : DataType) × (reading nodes deep ls ys ≡ type u) × (equal left.tree u ≡ true)
          → Ok true ≡ answers_of equal (reading nodes deep ks xs) (reading nodes deep ls ys)
      by u = said equal _ _ left.reads u.1 (sym u.2)

  -- the right one is valid too
  module _ {b : Result (Unit {0}) Error} (d : b ≡ checked_of (reading nodes deep ls ys)) (w : b ≡ Ok tt) where
    right : Passed nodes deep ls ys
    right = valid_passed nodes deep ls ys d w

    pub unlike : {r : Bool} → r ≡ alike ks xs ls ys → r ≡ false
        → Ok false ≡ answers_of equal (reading nodes deep ks xs) (reading nodes deep ls ys)
    unlike e f = said equal _ _ left.reads right.reads (sym f ∙ e ∙ alike_equal left.form right.form)

    module _ {r : Bool} (e : r ≡ occurs ks xs ls ys) where
      pub contains : Ok r ≡ answers_of contains_dtype_recursive (reading nodes deep ks xs) (reading nodes deep ls ys)
      contains =
          said contains_dtype_recursive _ _ left.reads right.reads (e ∙ occurs_contains left.form right.form)
