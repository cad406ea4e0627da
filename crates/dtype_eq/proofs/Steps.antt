-- The steps of the scans: what is left to compare after i nodes decides, or the positions that are left to try.
-- Assumes nothing.
use mathlib.Core.Path.{◌≡◌, refl, sym, ◌∙◌}
use mathlib.Core.Bool.{Bool, true, false, not, ◌&&◌, and-false}
use mathlib.Core.List.{List, [], ◌∷◌}
use Prim.Native.Nat.{ℕ, ◌+◌, ◌≤◌, ◌<◌}
use native.Mathlib.Omega.{arith}
use native.Mathlib.Numerals.{add-one}
use lib.Dec.{eqb}
use lib.ListN.{length, get_or, drop, length-drop, drop_of_length-le}
use lib.Seq.{drop-cons}
use borrow.Author.Tests.{eq-eqb, ne_eqb, not-true, not-false}
use lib.Pointwise.{pointwise}
use Rattle.std.specs.Cmp.Lexicographic.{same_text}
use Rattle.flat.proofs.Truths.{impossible}
use Rattle.flat.proofs.Positions.{rest}
use Rattle.flat.proofs.Walks.{from}
use Rattle.dtype.specs.Equality.{equal_node}
use Rattle.dtype_eq.specs.Nodes.{starts_with, alike, occurs}
use Rattle.dtype_eq.proofs.Scans.{starts_self}

-- a pattern with more nodes than there are
pub starts_short : (ks xs ls ys : List ℕ) → length ks < length ls → length ls ≡ length ys
    → starts_with ks xs ls ys ≡ false
unfolding starts_with
starts_short ks xs [] ys h f = absurd (omega arith)
starts_short ks xs (l ∷ ls) [] h f = absurd (omega arith)
starts_short [] xs (l ∷ ls) (b ∷ ys) h f = refl
starts_short (k ∷ ks) [] (l ∷ ls) (b ∷ ys) h f = refl
starts_short (k ∷ ks) (a ∷ xs) (l ∷ ls) (b ∷ ys) h f =
    rw (starts_short ks xs ls ys (omega arith) (omega arith), and-false)

pub occurs_short : (ks xs ls ys : List ℕ) → length ks < length ls → length ls ≡ length ys → occurs ks xs ls ys ≡ false
unfolding occurs
occurs_short [] xs ls ys h f = starts_short [] xs ls ys h f
occurs_short (k ∷ ks) [] ls ys h f = starts_short (k ∷ ks) [] ls ys h f
occurs_short (k ∷ ks) (a ∷ xs) ls ys h f =
    rw (starts_short (k ∷ ks) (a ∷ xs) ls ys h f) (occurs_short ks xs ls ys (omega arith) f)

-- only a pattern that has a node may not stand at the front
pattern_some : (ks xs ls ys : List ℕ) → starts_with ks xs ls ys ≡ false → 0 < length ls
unfolding starts_with
pattern_some ks xs [] ys e = impossible cc
pattern_some ks xs (l ∷ ls) ys e = omega arith

-- Before node i of a pattern: the first i nodes are equal, so what is left decides.
pub record Starting (ks xs ls ys : List ℕ) (i : ℕ) : Type 0 where
  pub even : length ks ≡ length xs
  pub pattern : length ls ≡ length ys
  pub room : length ls ≤ length ks
  pub within : i ≤ length ls
  pub leaves : starts_with ks xs ls ys ≡ starts_with (drop i ks) (drop i xs) (drop i ls) (drop i ys)

module _ {ks xs ls ys : List ℕ} {i : ℕ} (s : Starting ks xs ls ys i) where
  module _ (h : i < length ls)
      {r : Bool} (e : r ≡ equal_node (get_or ks i 0) (get_or xs i 0) (get_or ls i 0) (get_or ys i 0)) where
    starts_step : starts_with ks xs ls ys
        ≡ (r && starts_with (drop (i + 1) ks) (drop (i + 1) xs) (drop (i + 1) ls) (drop (i + 1) ys))
    unfolding starts_with
    starts_step =
        s.leaves ∙ rw (
          e,
          add-one,
          drop-cons ks i 0 (omega (arith, s.room)),
          drop-cons xs i 0 (omega (arith, s.room, s.even)),
          drop-cons ls i 0,
          drop-cons ys i 0 (omega (arith, s.pattern)),
        )

    pub starts_on : not r ≡ false → Starting ks xs ls ys (i + 1)
    starts_on f = record {
      even = s.even;
      pattern = s.pattern;
      room = s.room;
      within = omega arith;
      leaves = starts_step ∙ rw (not-false r f);
    }

    pub starts_stop : not r ≡ true → false ≡ starts_with ks xs ls ys
    starts_stop f = sym (starts_step ∙ rw (not-true r f))

  pub starts_end : length ls ≤ i → true ≡ starts_with ks xs ls ys
  unfolding starts_with
  starts_end h = sym (s.leaves ∙ rw (drop_of_length-le ls h))

-- two numbers of nodes, and then the scan
module _ (ks xs ls ys : List ℕ) where
  pub other_length : (length ks ≡ length ls → ⊥) → false ≡ alike ks xs ls ys
  unfolding alike
  other_length h = rw (ne_eqb (length ks) (length ls) h)

  pub uneven : (length ls ≡ length ys → ⊥) → false ≡ alike ks xs ls ys
  unfolding alike
  uneven h = rw (ne_eqb (length ls) (length ys) h, and-false)

  module _ (h : length ks ≡ length ls) (f : length ls ≡ length ys) where
    pub same_length : {r : Bool} → r ≡ starts_with ks xs ls ys → r ≡ alike ks xs ls ys
    unfolding alike
    same_length e = e ∙ rw (eq-eqb (length ks) (length ls) h, eq-eqb (length ls) (length ys) f)

    pub same_alike :
        {v p q : Bool} → v ≡ q → v ≡ true → p ≡ pointwise eqb ks ls → p ≡ true → q ≡ pointwise eqb xs ys
        → v ≡ alike ks xs ls ys
    same_alike s y k z a =
        let kinds = same_text ks ls (sym z ∙ k) in
        let args = same_text xs ys (sym y ∙ s ∙ a) in
        y ∙ same_length (rw (← kinds, ← args) (sym (starts_self ks xs)))

-- Before position at: no position before it is a start, so those that are left decide.
pub record Trying (ks xs ls ys : List ℕ) (at : ℕ) : Type 0 where
  pub even : length ks ≡ length xs
  pub pattern : length ls ≡ length ys
  pub within : at ≤ length ks
  pub leaves : occurs ks xs ls ys ≡ occurs (drop at ks) (drop at xs) ls ys

module _ {ks xs ls ys : List ℕ} {at : ℕ} (t : Trying ks xs ls ys at) where
  -- the scan of the part from there on
  module _ {r : Bool} (s : r ≡ starts_with (from at ks) (from at xs) ls ys) where
    here : {b : Bool} → r ≡ b → starts_with (drop at ks) (drop at xs) ls ys ≡ b
    here f = rw (rest ks at, rest xs at, f) at (sym s)

    pub occurs_here : r ≡ true → true ≡ occurs ks xs ls ys
    unfolding occurs
    occurs_here f = sym (t.leaves ∙ go (drop at ks) (drop at xs) (here f))
      where
        go : (js ws : List ℕ) → starts_with js ws ls ys ≡ true → occurs js ws ls ys ≡ true
        go [] ws s = s
        go (k ∷ js) [] s = s
        go (k ∷ js) (a ∷ ws) s = rw s

    pub occurs_on : at + length ls ≤ length ks → r ≡ false → Trying ks xs ls ys (at + 1)
    unfolding occurs
    occurs_on h f =
        let some = pattern_some (drop at ks) (drop at xs) ls ys (here f) in
        let less : at < length ks = omega arith in
        let less' : at < length xs = omega (arith, t.even) in
        let first = rw (drop-cons ks at 0 less, drop-cons xs at 0 less') at (here f) in
        record {
          even = t.even;
          pattern = t.pattern;
          within = omega arith;
          leaves = t.leaves ∙ rw (add-one, drop-cons ks at 0 less, drop-cons xs at 0 less') (rw first);
        }

  pub occurs_end : length ks < at + length ls → false ≡ occurs ks xs ls ys
  occurs_end h =
      let short : length (drop at ks) < length ls = rw length-drop (omega (arith, t.within)) in
      sym (t.leaves ∙ occurs_short (drop at ks) (drop at xs) ls ys short t.pattern)
