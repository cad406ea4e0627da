-- The nodes that a join writes. Assumes nothing: these are definitions.
use Rattle.std.specs.Prelude.{◌≡◌, List, [], ◌∷◌, ◌++◌, ℕ, ◌+◌, ◌≤◌, length, map, drop}
use Rattle.flat.specs.Kind as kind
use Rattle.flat.specs.Tree.{DataType, leaf, list, array, struct, Fields, empty, field, count}
use Rattle.flat.specs.Walk.{type_at}
use Rattle.flat.specs.declared.Node.{Node}
use Rattle.supertype_answer.specs.Join.{node}
use Rattle.supertype_nested.specs.Laws.{LeavesFit}
use Rattle.supertype_place.specs.View.{most_nodes}

-- kinds and arguments as nodes
unfoldable pub nodes_at : (ks xs : List ℕ) → List Node
nodes_at [] xs = []
nodes_at (k ∷ ks) [] = []
nodes_at (k ∷ ks) (x ∷ xs) = node k x ∷ nodes_at ks xs

-- the nodes of a type, in preorder
unfoldable mutual
  pub nodes_of : DataType → List Node
  nodes_of (leaf k a) = node k a ∷ []
  nodes_of (list t) = node kind.List 0 ∷ nodes_of t
  nodes_of (array w t) = node kind.Array w ∷ nodes_of t
  nodes_of (struct fs) = node kind.Struct (count fs) ∷ nodes_ofs fs

  pub nodes_ofs : Fields → List Node
  nodes_ofs empty = []
  nodes_ofs (field name t fs) = node kind.Field name ∷ (nodes_of t ++ nodes_ofs fs)

-- n nodes more fit, where there is room for `most`
abbrev pub FitsIn : (most n : ℕ) → List Node → Type 0
FitsIn most n out = length out + n ≤ most

-- n nodes more fit into what a step on the way has
abbrev pub Fits : ℕ → List Node → Type 0
Fits = FitsIn most_nodes

-- the type whose nodes stand from the mark on
unfoldable pub held_at : ℕ → List Node → DataType
held_at mark out = type_at (map (λ n. n.kind) (drop mark out)) (map (λ n. n.arg) (drop mark out))

-- A type's nodes stand there.
pub record HeldAt (mark : ℕ) (out : List Node) : Type 0 where
  pub fits : LeavesFit (held_at mark out)
  pub nodes : drop mark out ≡ nodes_of (held_at mark out)
  pub within : mark ≤ length out
