-- What holds of the supertype of any two types. Assumes nothing: these are statements, proved in proofs/.
use Rattle.std.specs.Prelude.{◌≡◌, true, ℕ, ◌+◌, ◌*◌, ◌≤◌, ◌<◌}
use Rattle.std.specs.Prelude.{None, Some}
use Rattle.std.specs.Prelude.{option_map}
use Rattle.flat.specs.Kind.{UnknownIntNeg, Struct, Field}
use Rattle.flat.specs.Argument.{argument_fits, leaf_fits}
use Rattle.flat.specs.Tree.{DataType, leaf, list, array, struct, Fields, empty, field, count, size, depth}
use Rattle.flat.specs.Reading.{Ruled, IsType}
use Rattle.supertype_answer.specs.Join.{node}
use Rattle.supertype_arms.specs.Supertype.{supertype}
use Rattle.supertype_nested.specs.Nested.{SuperTypeOptions, TreeCall, union_fields, union_struct_fields}
use Rattle.supertype_nested.specs.Nested.{tree_of, supertype_tree_with, supertype_tree}
use Rattle.supertype_nested.specs.Union.{named, by_names}

-- P of each leaf's kind and argument, and Q of each field's name
unfoldable mutual
  pub Each : (ℕ → ℕ → Type 0) → (ℕ → Type 0) → DataType → Type 0
  Each P Q (leaf k a) = P k a
  Each P Q (list t) = Each P Q t
  Each P Q (array w t) = Each P Q t
  Each P Q (struct fs) = Eachs P Q fs

  pub Eachs : (ℕ → ℕ → Type 0) → (ℕ → Type 0) → Fields → Type 0
  Eachs P Q empty = Unit {0}
  Eachs P Q (field name t fs) = Q name × Each P Q t × Eachs P Q fs

-- each leaf is a type of its own and each name a name: `Ruled`, but for the number of a Struct's fields
abbrev pub LeavesFit : DataType → Type 0
LeavesFit = Each (λ k a. leaf_fits k a ≡ true) (λ name. argument_fits Field name ≡ true)

-- the same of fields
abbrev pub FieldsFit : Fields → Type 0
FieldsFit = Eachs (λ k a. leaf_fits k a ≡ true) (λ name. argument_fits Field name ≡ true)

-- an answer to valid types that is within the limits is a valid type
abbrev pub AnswersValid : (nodes deep : ℕ) → Type 0
AnswersValid nodes deep =
    (o i : SuperTypeOptions) (l r t : DataType) → Ruled l → Ruled r → supertype_tree o i l r ≡ Some t
    → size t ≤ nodes → depth t ≤ deep → IsType nodes deep t

-- the union of fields, whatever the inner calls answer
pub record UnionLaws : Type 0 where
  -- the longest is the one with more fields, and of two with as many the left
  pub left_longest : (c : TreeCall) (fs gs : Fields) → count gs ≤ count fs
      → union_struct_fields c fs gs ≡ option_map struct (union_fields c fs gs)
  pub right_longest : (c : TreeCall) (fs gs : Fields) → count fs < count gs
      → union_struct_fields c fs gs ≡ option_map struct (union_fields c gs fs)
  -- the union is the longest's names, each at its first place with its last type, then the new names of the shortest
  pub by_names_lem : (c : TreeCall) (longest shortest : Fields)
      → union_fields c longest shortest ≡ by_names c longest shortest
  -- what stands under a name rests on the fields of that name alone
  pub alone : (c : TreeCall) (longest shortest union : Fields) → union_fields c longest shortest ≡ Some union
      → (name : ℕ) → union_fields c (named name longest) (named name shortest) ≡ Some (named name union)

pub record NestedLaws : Type 0 where
  -- the source's own recursion: the calls that its arms make are calls of the function itself, with the flags of inner
  -- calls
  pub recursive : (o i : SuperTypeOptions) (l r : DataType)
      → supertype_tree o i l r ≡ supertype_tree_with (supertype_tree i i) o l r
  -- an answer has fewer nodes than both types together
  pub smaller : (o i : SuperTypeOptions) (l r t : DataType) → supertype_tree o i l r ≡ Some t
      → size t < size l + size r
  -- None does not depend on the order
  pub none_symmetric : (o i : SuperTypeOptions) (l r : DataType) → supertype_tree o i l r ≡ None
      → supertype_tree o i r l ≡ None
  -- of two types that are not nested it is the supertype of the non-nested call, whatever the flags of inner calls
  pub leaves : (o i : SuperTypeOptions) (k a m b : ℕ) → k ≤ UnknownIntNeg → m ≤ UnknownIntNeg
      → supertype_tree o i (leaf k a) (leaf m b)
      ≡ tree_of (supertype o.allow_implode_list o.allow_primitive_to_string (node k a) (node m b))
  -- the leaves and the names of an answer follow their rules where those of both types do
  pub fits : (o i : SuperTypeOptions) (l r t : DataType) → LeavesFit l → LeavesFit r → supertype_tree o i l r ≡ Some t
      → LeavesFit t
  -- so an answer within the limits is a valid type, where the limit of nodes lets no Struct have more fields than its
  -- rule does; the code's does not (proofs/Limits.antt)
  pub valid : (nodes deep : ℕ) → ((n : ℕ) → 1 + 2 * n ≤ nodes → argument_fits Struct n ≡ true)
      → AnswersValid nodes deep
  pub union : UnionLaws
