-- What a member answered, and what it wrote. Assumes nothing.
use mathlib.Core.Path.{◌≡◌, sym, ap, ◌∙◌, subst}
use mathlib.Core.Bool.{Bool, true, false, cond}
use mathlib.Core.List.{List, [], ◌∷◌, ◌++◌, append_assoc, append-nil}
use Rattle.std.specs.Prelude.{Option, None, Some, option_and_then}
use Prim.Native.Nat.{ℕ, suc, ◌+◌, ◌≤◌, ◌<◌}
use native.Mathlib.Omega.{arith}
use lib.Dec.{eqb}
use lib.ListN.{length, take, set, length-append}
use lib.Seq.{take-take}
use Rattle.std.proofs.Math.Seq.{take-append_seam, set-append_seam}
use Rattle.flat.specs.Kind as kind
use Rattle.flat.specs.Tree.{DataType, struct, Fields, empty, field, count, size, sizes}
use Rattle.flat.specs.declared.Node.{Node}
use Rattle.supertype_answer.specs.Join.{node}
use Rattle.dtype.specs.Equality.{equal}
use Rattle.supertype_nested.specs.Nested.{SuperTypeOptions, TreeCall, join_held}
use Rattle.supertype_nested.specs.Union.{named, join_named}
use Rattle.supertype_nested.proofs.Found.{If, if_weaken}
use Rattle.supertype_nested.proofs.Smaller.{held_sizes, tree_smaller}
use Rattle.supertype_place.specs.Written.{nodes_of, nodes_ofs}
use Rattle.supertype_walk.specs.Comes.{get_supertype, Joins}

-- ---- what stood before

pub kept_of : (old xs : List Node) {new : List Node} → new ≡ old ++ xs → take (length old) new ≡ old
kept_of old xs {new} e = ap (take (length old)) e ∙ take-append_seam old xs

-- and after what was written, what stands there still
pub kept_on : (old xs last : List Node) {new : List Node} → new ≡ old ++ xs → take (length new) last ≡ new
    → take (length old) last ≡ old
kept_on old xs last {new} e h =
    sym (take-take (length old) (length new) last (omega (arith, ap length e, length-append old xs)))
    ∙ ap (take (length old)) h ∙ kept_of old xs e

pub kept_all : (old : List Node) → take (length old) old ≡ old
kept_all old = kept_of old [] (sym (append-nil old))

-- ---- a join by what it equals

pub joins_is : (f : DataType → List Node) {p q : Option DataType} (old new : List Node) (r : Option (Unit {0})) → p ≡ q
    → Joins f p old new r → Joins f q old new r
joins_is f {p} {q} old new r e w = subst (λ (z : Option DataType). Joins f z old new r) e w

-- a node, and a join below it
pub under_of : (n : Node) (q : Option DataType) (old new : List Node) {mid : List Node} (r : Option (Unit {0}))
    → mid ≡ old ++ n ∷ [] → Joins nodes_of q mid new r → Joins (λ t. n ∷ nodes_of t) q old new r
under_of n q old new (Some u) e w =
    record {
      type = w.type;
      is = w.is;
      wrote = w.wrote ∙ ap (λ (l : List Node). l ++ nodes_of w.type) e ∙ append_assoc old (n ∷ []) (nodes_of w.type);
    }
under_of n q old new None e w = record { none = w.none; kept = kept_on old (n ∷ []) new e w.kept }

-- a Struct's node, and its fields behind it
pub struct_wrote : (old : List Node) {begun out : List Node} (n : Node) (fs : Fields) → begun ≡ old ++ n ∷ []
    → n ≡ node kind.Struct (count fs) → out ≡ begun ++ nodes_ofs fs → out ≡ old ++ nodes_of (struct fs)
unfolding nodes_of
struct_wrote old n fs e h w =
    w ∙ ap (λ (l : List Node). l ++ nodes_ofs fs) e ∙ append_assoc old (n ∷ []) (nodes_ofs fs)
    ∙ ap (λ (n : Node). old ++ (n ∷ nodes_ofs fs)) h

-- the same, where the node is set at the end
pub struct_closed : (old : List Node) {begun out : List Node} (n : Node) (fs : Fields) → begun ≡ old ++ n ∷ []
    → out ≡ begun ++ nodes_ofs fs → {mark names : ℕ} → mark ≡ length old → names ≡ count fs
    → set out mark (node kind.Struct names) ≡ old ++ nodes_of (struct fs)
unfolding nodes_of
struct_closed old n fs e w {mark} {names} m c =
    ap (λ (l : List Node). set l mark (node kind.Struct names))
    (w ∙ ap (λ (l : List Node). l ++ nodes_ofs fs) e ∙ append_assoc old (n ∷ []) (nodes_ofs fs))
    ∙ ap (λ (m : ℕ). set (old ++ (n ∷ nodes_ofs fs)) m (node kind.Struct names)) m
    ∙ set-append_seam old n (nodes_ofs fs) (node kind.Struct names)
    ∙ ap (λ (c : ℕ). old ++ (node kind.Struct c ∷ nodes_ofs fs)) c

-- ---- a name's fields: a result of no more nodes than the held type and the name's fields
module _ (i : SuperTypeOptions) (name : ℕ) where
  -- of the join of a name
  pub named_sizes : (u : DataType) (fs : Fields)
      → If (λ t. size t ≤ size u + sizes (named name fs)) (join_named (get_supertype i) name u fs)
  unfolding join_named named size
  named_sizes u empty = omega arith
  named_sizes u (field other t fs) = go (eqb name other) (named_sizes u fs) (λ st. named_sizes st fs)
    where
      held : If (λ st. size st < size t + size u) (join_held (get_supertype i) t u)
      held = held_sizes (get_supertype i) (tree_smaller i i) t u

      on : (q : Option DataType) → If (λ st. size st < size t + size u) q
          → ((st : DataType) → If (λ v. size v ≤ size st + sizes (named name fs))
          (join_named (get_supertype i) name st fs))
          → If (λ v. size v ≤ size u + suc (size t + sizes (named name fs)))
          (option_and_then (λ st. join_named (get_supertype i) name st fs) q)
      on None h r = tt
      on (Some st) h r =
          if_weaken (λ v. size v ≤ size st + sizes (named name fs))
          (λ v. size v ≤ size u + suc (size t + sizes (named name fs))) (λ v g. omega arith)
          (join_named (get_supertype i) name st fs) (r st)

      go : (b : Bool) → If (λ v. size v ≤ size u + sizes (named name fs)) (join_named (get_supertype i) name u fs)
          → ((st : DataType) → If (λ v. size v ≤ size st + sizes (named name fs))
          (join_named (get_supertype i) name st fs))
          → If (λ v. size v ≤ size u + sizes (cond b (field other t (named name fs)) (named name fs)))
          (cond b (option_and_then (λ st. join_named (get_supertype i) name st fs) (join_held (get_supertype i) t u))
          (join_named (get_supertype i) name u fs))
      go true h r = on (join_held (get_supertype i) t u) held r
      go false h r = h

-- the held type stays where they are equal
pub held_same : (c : TreeCall) (t u : DataType) → true ≡ equal t u → Some u ≡ join_held c t u
held_same c t u e = ap (λ (b : Bool). cond b (Some u) (c t u)) e
