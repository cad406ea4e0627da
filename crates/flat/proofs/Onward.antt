-- The fields from a place on: what a walk over fields, which moves its place along the arrays, meets at the next
-- field. Assumes nothing.
use mathlib.Core.Path.{◌≡◌, refl, sym, ap, ◌∙◌}
use mathlib.Core.List.{List}
use Prim.Native.Nat.{ℕ, suc, ◌+◌, ◌-◌}
use native.Mathlib.Omega.{arith}
use native.Mathlib.Nat.{add-zero}
use lib.ListN.{get_or, drop}
use lib.Seq.{drop-drop, get_or-drop}
use Rattle.flat.specs.Tree.{field, size, sizes}
use Rattle.flat.specs.Walk.{Valid, ValidRun, type_at, run_at}
use Rattle.flat.proofs.Positions.{rest}
use Rattle.flat.proofs.Walks.{from, field_valid, others_valid, run_field, field_nodes_lem}

-- parts of parts
pub onward : (i j k : ℕ) (l : List ℕ) → i + j ≡ k → from j (from i l) ≡ from k l
onward i j k l e =
    rest (from i l) j ∙ ap (drop j) (rest l i) ∙ drop-drop j i l ∙ ap (λ (n : ℕ). drop n l) e ∙ sym (rest l k)

pub from_zero : (l : List ℕ) → from 0 l ≡ l
from_zero l = rest l 0

pub from_first : (j : ℕ) (l : List ℕ) → get_or (from j l) 0 0 ≡ get_or l j 0
from_first j l =
    ap (λ (d : List ℕ). get_or d 0 0) (rest l j) ∙ get_or-drop j l 0 0 ∙ ap (λ (i : ℕ). get_or l i 0) (add-zero j)

module _ (left at : ℕ) (ks xs : List ℕ) (v : ValidRun left (from at ks) (from at xs)) (p : left ≡ 0 → ⊥) where
  -- the type of the next field
  pub next_valid : Valid (from (at + 1) ks) (from (at + 1) xs)
  next_valid =
      rw (onward at 1 (at + 1) ks refl, onward at 1 (at + 1) xs refl) at
      (field_valid left (from at ks) (from at xs) v p)

  -- the fields after it, where it has n nodes
  module _ (n : ℕ) (e : n ≡ size (type_at (from (at + 1) ks) (from (at + 1) xs))) where
    past : (l : List ℕ) → from (n + 1) (from at l) ≡ from (at + 1 + n) l
    past l = onward at (n + 1) (at + 1 + n) l (omega arith)

    here : n ≡ size (type_at (from 1 (from at ks)) (from 1 (from at xs)))
    here = rw (onward at 1 (at + 1) ks refl, onward at 1 (at + 1) xs refl) e

    pub next_run : ValidRun (left - 1) (from (at + 1 + n) ks) (from (at + 1 + n) xs)
    next_run = rw (past ks, past xs) at (others_valid left (from at ks) (from at xs) v p n here)

    pub next_field : run_at left (from at ks) (from at xs) ≡ field (get_or xs at 0) (type_at (from (at + 1) ks) (from (at + 1) xs)) (run_at (left - 1) (from (at + 1 + n) ks) (from (at + 1 + n) xs))
    next_field =
        run_field left (from at ks) (from at xs) v p n here ∙ rw
        (from_first at xs, onward at 1 (at + 1) ks refl, onward at 1 (at + 1) xs refl, past ks, past xs)

    pub next_nodes : sizes (run_at left (from at ks) (from at xs)) ≡ suc (n + sizes (run_at (left - 1) (from (at + 1 + n) ks) (from (at + 1 + n) xs)))
    next_nodes = field_nodes_lem left (from at ks) (from at xs) v p n here ∙ rw (past ks, past xs)
