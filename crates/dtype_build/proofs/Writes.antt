-- What stands in a lent array after a walk stored a node and handed the part after it on. Of lists alone: any walk that
-- writes goes by these. Assumes nothing.
use mathlib.Core.Path.{◌≡◌, refl, sym, ap, ap₂, ◌∙◌}
use mathlib.Core.List.{List, [], ◌∷◌, ◌++◌, append-nil, append_assoc}
use Prim.Native.Nat.{ℕ, suc, ◌+◌, ◌-◌, ◌≤◌, ◌<◌}
use native.Mathlib.Omega.{arith}
use native.Mathlib.Numerals.{add-one}
use lib.ListN.{length, take, drop, set, length-append, length-drop, length-set, take-append-drop, drop_of_length-le}
use lib.Seq.{length-take-le, take_at, drop_at, drop-drop, drop-set-lt, take-suc-set}
use borrow.Rule.Slice.PartMut.{put_mid}
use Rattle.flat.specs.Output.{over}
use Rattle.flat.proofs.Positions.{rest}
use Rattle.flat.proofs.Walks.{from, length_from}

-- the part that is handed on, after y was stored at the place `at`
abbrev pub after : (at y : ℕ) → List ℕ → List ℕ
after at y out = from (at + 1) (set out at y)

-- the whole array, once that part is back with L in it
abbrev pub back : (at y : ℕ) → List ℕ → List ℕ → List ℕ
back at y out L = put_mid (at + 1) (length (set out at y) - (at + 1)) (set out at y) L

-- out, once P is written from the place `at` on
abbrev pub to_be : ℕ → List ℕ → List ℕ → List ℕ
to_be at P out = take at out ++ over P (drop at out)

pub after_length : (at y : ℕ) (out : List ℕ) → length (after at y out) ≡ length out - (at + 1)
after_length at y out = length_from (at + 1) (set out at y) ∙ simp length-set

-- y stored at a place, and P written into the part after it
module _ (at y : ℕ) (P out : List ℕ) (h : at < length out) {L : List ℕ} (e : L ≡ over P (after at y out)) where
  front : take (at + 1) (set out at y) ≡ take at out ++ (y ∷ [])
  front = ap (λ (i : ℕ). take i (set out at y)) (add-one at) ∙ take-suc-set out at y h

  part : L ≡ P ++ drop (at + 1 + length P) out
  part = e ∙ ap (over P) (rest (set out at y) (at + 1) ∙ drop-set-lt (at + 1) out at y (omega arith)) ∙ ap (λ (l : List ℕ). P ++ l) (drop-drop (length P) (at + 1) out)

  written : back at y out L ≡ ((take at out ++ (y ∷ [])) ++ P) ++ drop (at + 1 + length P) out
  written =
      ap (λ (l : List ℕ). take (at + 1) (set out at y) ++ (L ++ l)) (drop_of_length-le (drop (at + 1) (set out at y)) {i = length (set out at y) - (at + 1)} (simp length-drop (omega arith)))
      ∙ rw (append-nil, front) (ap (λ (l : List ℕ). (take at out ++ (y ∷ [])) ++ l) part ∙ sym (append_assoc (take at out ++ (y ∷ [])) P (drop (at + 1 + length P) out)))

  -- the array is as long as it was
  pub back_length : at + 1 + length P ≤ length out → length (back at y out L) ≡ length out
  back_length r = ap length written ∙ simp (length-append, length-drop) (omega (arith, length-take-le at out (omega arith)))

  -- then Q comes next
  pub next : (Q : List ℕ) (n : ℕ) → n ≡ length P → to_be (at + 1 + n) Q (back at y out L) ≡ to_be at (y ∷ (P ++ Q)) out
  next Q n i =
      let F : List ℕ = (take at out ++ (y ∷ [])) ++ P in
      let D : List ℕ = drop (at + 1 + length P) out in
      let l : length F ≡ at + 1 + n = rw (length-append, length-append) (omega (arith, length-take-le at out (omega arith))) in
      let r : drop (length Q) D ≡ drop (suc (length (P ++ Q))) (drop at out) =
      drop-drop (length Q) (at + 1 + length P) out ∙ ap (λ (i : ℕ). drop i out) (let z : at + 1 + length P + length Q ≡ at + suc (length (P ++ Q)) = omega (arith, length-append P Q) in z) ∙ sym (drop-drop (suc (length (P ++ Q))) at out) in
      ap (to_be (at + 1 + n) Q) written
      ∙ ap₂ ◌++◌ (take_at F D (at + 1 + n) l) (ap (over Q) (drop_at F D (at + 1 + n) l))
      ∙ rw (r, append_assoc (take at out ++ (y ∷ [])) P, append_assoc (take at out) (y ∷ []), append_assoc P Q)

-- y at the front, and P written after it
pub over_front : (y : ℕ) (P out : List ℕ) → 0 < length out → {L : List ℕ} → L ≡ over P (after 0 y out) → back 0 y out L ≡ over (y ∷ P) out
over_front y P out h {L} e = sym (take-append-drop (1 + length P) (back 0 y out L)) ∙ next 0 y P out h e [] (length P) refl ∙ ap (λ (l : List ℕ). over (y ∷ l) out) (append-nil P)
