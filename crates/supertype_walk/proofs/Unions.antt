-- Room in a union: a field of either Struct counts for one name. Assumes nothing.
use mathlib.Core.Path.{◌≡◌, refl, sym, ap, ◌∙◌}
use mathlib.Core.Bool.{Bool, true, false, cond, ◌||◌}
use mathlib.Core.List.{List, ◌∷◌}
use Rattle.std.specs.Prelude.{Option, None, Some}
use Rattle.std.specs.Prelude.{option_map, option_and_then}
use Prim.Native.Nat.{ℕ, suc, ◌+◌, ◌≤◌}
use native.Mathlib.Omega.{arith}
use lib.Dec.{eqb}
use Rattle.flat.specs.Tree.{DataType, Fields, empty, field, size, sizes}
use Rattle.flat.proofs.Truths.{never}
use Rattle.supertype_nested.specs.Nested.{SuperTypeOptions, TreeCall}
use Rattle.supertype_nested.specs.Union.{named, last_or, join_named, seen, with_names, old_names, new_names, outside}
use Rattle.supertype_nested.proofs.Found.{If, if_weaken}
use Rattle.supertype_nested.proofs.Names.{one_seen, out_same}
use Rattle.supertype_walk.specs.Comes.{get_supertype}
use Rattle.supertype_walk.proofs.Told.{named_sizes}

-- the fields of names not seen are those of one such name, and the others
pub parted : (name : ℕ) (ns : List ℕ) (fs : Fields) → seen ns name ≡ false
    → sizes (outside ns fs) ≡ sizes (named name fs) + sizes (outside (name ∷ ns) fs)
unfolding outside named seen size
parted name ns empty e = omega arith
parted name ns (field other t fs) e = go (eqb name other) (seen ns other) refl refl (parted name ns fs e)
  where
    go : (a b : Bool) → eqb name other ≡ a → seen ns other ≡ b
        → sizes (outside ns fs) ≡ sizes (named name fs) + sizes (outside (name ∷ ns) fs)
        → sizes (cond b (outside ns fs) (field other t (outside ns fs)))
        ≡ sizes (cond a (field other t (named name fs)) (named name fs))
        + sizes (cond (a || b) (outside (name ∷ ns) fs) (field other t (outside (name ∷ ns) fs)))
    go true true p q h = never (sym e ∙ one_seen ns name other p ∙ q)
    go true false p q h = omega arith
    go false true p q h = omega arith
    go false false p q h = omega arith

-- the last type of a name has no more nodes than the first and the later fields of the name
pub last_sizes : (name : ℕ) (t : DataType) (fs : Fields)
    → size (last_or name t fs) ≤ size t + sizes (named name fs)
unfolding last_or named size
last_sizes name t empty = omega arith
last_sizes name t (field other u fs) = go (eqb name other) (last_sizes name t fs) (last_sizes name u fs)
  where
    go : (b : Bool) → size (last_or name t fs) ≤ size t + sizes (named name fs)
        → size (last_or name u fs) ≤ size u + sizes (named name fs)
        → size (cond b (last_or name u fs) (last_or name t fs))
        ≤ size t + sizes (cond b (field other u (named name fs)) (named name fs))
    go true h g = omega arith
    go false h g = h

-- the fields of a name are some of all
pub some_sizes : (name : ℕ) (fs : Fields) → sizes (named name fs) ≤ sizes fs
unfolding named size
some_sizes name empty = omega arith
some_sizes name (field other t fs) = go (eqb name other) (some_sizes name fs)
  where
    go : (b : Bool) → sizes (named name fs) ≤ sizes fs
        → sizes (cond b (field other t (named name fs)) (named name fs)) ≤ suc (size t + sizes fs)
    go true h = omega arith
    go false h = omega arith

-- a field before fields, with w nodes beside
before_sizes : (name w n m k : ℕ) (p : Option DataType) (q : Option Fields) → If (λ st. size st ≤ n) p
    → If (λ hs. sizes hs + w ≤ m) q → suc n + m ≤ k
    → If (λ hs. sizes hs + w ≤ k) (option_and_then (λ st. option_map (field name st) q) p)
unfolding size
before_sizes name w n m k None q h g e = tt
before_sizes name w n m k (Some st) None h g e = tt
before_sizes name w n m k (Some st) (Some hs) h g e = omega arith

module _ (i : SuperTypeOptions) where
  abbrev c : TreeCall
  c = get_supertype i

  -- the names of the longest leave room for the new ones of the shortest
  pub old_sizes : (gs : Fields) (ns : List ℕ) (fs : Fields)
      → If (λ hs. sizes hs + sizes (outside (with_names fs ns) gs) ≤ sizes (outside ns fs) + sizes (outside ns gs))
      (old_names (get_supertype i) gs ns fs)
  unfolding old_names with_names outside size
  old_sizes gs ns empty = omega arith
  old_sizes gs ns (field name t fs) = go (seen ns name) refl (old_sizes gs (name ∷ ns) fs)
    where
      W : ℕ
      W = sizes (outside (with_names fs (name ∷ ns)) gs)

      later : Option Fields
      later = old_names c gs (name ∷ ns) fs

      room : ℕ
      room = sizes (outside (name ∷ ns) fs) + sizes (outside (name ∷ ns) gs)

      go : (b : Bool) → seen ns name ≡ b → If (λ hs. sizes hs + W ≤ room) later
          → If
          (λ hs. sizes hs + W ≤ sizes (cond b (outside ns fs) (field name t (outside ns fs))) + sizes (outside ns gs))
          (cond b later
          (option_and_then (λ st. option_map (field name st) later) (join_named c name (last_or name t fs) gs)))
      go true e h =
          if_weaken (λ hs. sizes hs + W ≤ room) (λ hs. sizes hs + W ≤ sizes (outside ns fs) + sizes (outside ns gs))
          (λ hs g. omega (arith, g, ap sizes (out_same name ns fs e), ap sizes (out_same name ns gs e))) later h
      go false e h =
          before_sizes name W (size (last_or name t fs) + sizes (named name gs)) room
          (suc (size t + sizes (outside ns fs)) + sizes (outside ns gs)) (join_named c name (last_or name t fs) gs)
          later
          (named_sizes i name (last_or name t fs) gs) h
          (omega (arith, last_sizes name t fs, parted name ns fs e, parted name ns gs e))

  -- the new names of the shortest
  pub new_sizes : (ns : List ℕ) (gs : Fields)
      → If (λ hs. sizes hs ≤ sizes (outside ns gs)) (new_names (get_supertype i) ns gs)
  unfolding new_names outside size
  new_sizes ns empty = omega arith
  new_sizes ns (field name t gs) = go (seen ns name) refl (new_sizes (name ∷ ns) gs)
    where
      later : Option Fields
      later = new_names c (name ∷ ns) gs

      room : ℕ
      room = sizes (outside (name ∷ ns) gs)

      none_beside : (n : ℕ) (q : Option Fields) → If (λ hs. sizes hs + 0 ≤ n) q → If (λ hs. sizes hs ≤ n) q
      none_beside n q h = if_weaken (λ hs. sizes hs + 0 ≤ n) (λ hs. sizes hs ≤ n) (λ hs g. omega arith) q h

      go : (b : Bool) → seen ns name ≡ b → If (λ hs. sizes hs ≤ room) later
          → If (λ hs. sizes hs ≤ sizes (cond b (outside ns gs) (field name t (outside ns gs))))
          (cond b later (option_and_then (λ st. option_map (field name st) later) (join_named c name t gs)))
      go true e h =
          if_weaken (λ hs. sizes hs ≤ room) (λ hs. sizes hs ≤ sizes (outside ns gs))
          (λ hs g. omega (arith, g, ap sizes (out_same name ns gs e))) later h
      go false e h =
          none_beside (suc (size t + sizes (outside ns gs)))
          (option_and_then (λ st. option_map (field name st) later) (join_named c name t gs))
          (before_sizes name 0 (size t + sizes (named name gs)) room (suc (size t + sizes (outside ns gs)))
          (join_named c name t gs) later (named_sizes i name t gs)
          (if_weaken (λ hs. sizes hs ≤ room) (λ hs. sizes hs + 0 ≤ room) (λ hs g. omega arith) later h)
          (omega (arith, parted name ns gs e)))
