-- Which tree stands at the front of two lists, if one does. Assumes nothing: these are definitions.
use Rattle.std.specs.Prelude.{Bool, true, false, cond, List, [], ◌∷◌, ℕ, zero, suc, leb, eqb, length, drop}
use Rattle.std.specs.Prelude.{Option, None, Some}
use Rattle.std.specs.Prelude.{option_map, option_and_then}
use Rattle.flat.specs.Kind
use Rattle.flat.specs.Tree.{DataType, leaf, list, array, struct, Fields, empty, field, size}

-- what a node has under it
pub data Children : Type 0 where
  no_child under_list under_array fields : Children
  no_type : Children

-- List and Array have one child, a Struct has fields; a List's argument is 0, so that it can be left out of the tree.
-- A field is no type.
unfoldable pub children : ℕ → ℕ → Children
children k a =
    cond (leb k Kind.UnknownIntNeg) no_child
    (cond (eqb k Kind.List) (cond (eqb a 0) under_list no_type)
    (cond (eqb k Kind.Array) under_array
    (cond (eqb k Kind.Struct) fields no_type)))

-- a reader of what stands at the front of the kinds and the arguments
abbrev pub Reads : Type 0 → Type 0
Reads A = List ℕ → List ℕ → Option A

-- a node of the kind k and the argument a, given readers for what stands under it
abbrev pub under_node : Reads DataType → (ℕ → Reads Fields) → Children → ℕ → ℕ → Reads DataType
under_node node fs no_child k a ks xs = Some (leaf k a)
under_node node fs under_list k a ks xs = option_map list (node ks xs)
under_node node fs under_array k a ks xs = option_map (array a) (node ks xs)
under_node node fs fields k a ks xs = option_map struct (fs a ks xs)
under_node node fs no_type k a ks xs = None

-- the node at the front
abbrev pub step_node : Reads DataType → (ℕ → Reads Fields) → Reads DataType
step_node node fs [] xs = None
step_node node fs (k ∷ ks) [] = None
step_node node fs (k ∷ ks) (a ∷ xs) = under_node node fs (children k a) k a ks xs

-- a field of the name a, where a field stands, its type at the front of ks and xs, and m fields after that
abbrev pub under_field : Reads DataType → (ℕ → Reads Fields) → Bool → ℕ → ℕ → Reads Fields
under_field node fs true m a ks xs =
    option_and_then (λ t. option_map (field a t) (fs m (drop (size t) ks) (drop (size t) xs))) (node ks xs)
under_field node fs false m a ks xs = None

-- so many fields at the front
abbrev pub step_fields : Reads DataType → (ℕ → Reads Fields) → ℕ → Reads Fields
step_fields node fs zero ks xs = Some empty
step_fields node fs (suc m) [] xs = None
step_fields node fs (suc m) (k ∷ ks) [] = None
step_fields node fs (suc m) (k ∷ ks) (a ∷ xs) = under_field node fs (eqb k Kind.Field) m a ks xs

-- reads nothing
abbrev pub never : {A : Type 0} → Reads A
never ks xs = None

-- The two readers with a bound n on how deep the reading goes, which only serves to define them by recursion. The laws
-- `node_step` and `fields_step` (proofs/Positions.antt) are the readers without it.
unfoldable mutual
  pub node_in : ℕ → Reads DataType
  node_in zero = step_node never (λ m. never)
  node_in (suc n) = step_node (node_in n) (fields_in n)

  pub fields_in : ℕ → ℕ → Reads Fields
  fields_in zero = step_fields never (λ m. never)
  fields_in (suc n) = step_fields (node_in n) (fields_in n)

-- the type at the front of the two lists
unfoldable pub node_at : Reads DataType
node_at ks xs = node_in (length ks) ks xs

-- the m fields at the front of the two lists
unfoldable pub fields_at : ℕ → Reads Fields
fields_at m ks xs = fields_in (length ks) m ks xs
