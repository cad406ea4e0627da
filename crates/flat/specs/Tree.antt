-- A type as a tree, and its flat form: the kinds and the arguments of its nodes in preorder. Assumes nothing: these
-- are definitions.
use Rattle.std.specs.Prelude.{List, [], ◌∷◌, ◌++◌, ℕ, suc, ◌+◌, max}
use Rattle.flat.specs.Kind

mutual
  -- A leaf is a kind and its argument, an Array has a width.
  pub data DataType : Type 0 where
    leaf : ℕ → ℕ → DataType
    list : DataType → DataType
    array : ℕ → DataType → DataType
    struct : Fields → DataType

  -- A field is a name and a type.
  pub data Fields : Type 0 where
    empty : Fields
    field : ℕ → DataType → Fields → Fields

-- the number of fields
unfoldable pub count : Fields → ℕ
count empty = 0
count (field name t fs) = suc (count fs)

-- the fields of one run, then those of another
unfoldable pub append : Fields → Fields → Fields
append empty gs = gs
append (field name t fs) gs = field name t (append fs gs)

-- the kind and the argument at a tree's root
unfoldable pub head_kind : DataType → ℕ
head_kind (leaf k a) = k
head_kind (list t) = Kind.List
head_kind (array w t) = Kind.Array
head_kind (struct fs) = Kind.Struct

unfoldable pub head_arg : DataType → ℕ
head_arg (leaf k a) = a
head_arg (list t) = 0
head_arg (array w t) = w
head_arg (struct fs) = count fs

-- the number of nodes
unfoldable mutual
  pub size : DataType → ℕ
  size (leaf k a) = 1
  size (list t) = suc (size t)
  size (array w t) = suc (size t)
  size (struct fs) = suc (sizes fs)

  pub sizes : Fields → ℕ
  sizes empty = 0
  sizes (field name t fs) = suc (size t + sizes fs)

-- the kinds of the nodes
unfoldable mutual
  pub kinds_of : DataType → List ℕ
  kinds_of (leaf k a) = k ∷ []
  kinds_of (list t) = Kind.List ∷ kinds_of t
  kinds_of (array w t) = Kind.Array ∷ kinds_of t
  kinds_of (struct fs) = Kind.Struct ∷ kinds_ofs fs

  pub kinds_ofs : Fields → List ℕ
  kinds_ofs empty = []
  kinds_ofs (field name t fs) = Kind.Field ∷ (kinds_of t ++ kinds_ofs fs)

-- the arguments of the nodes
unfoldable mutual
  pub args_of : DataType → List ℕ
  args_of (leaf k a) = a ∷ []
  args_of (list t) = 0 ∷ args_of t
  args_of (array w t) = w ∷ args_of t
  args_of (struct fs) = count fs ∷ args_ofs fs

  pub args_ofs : Fields → List ℕ
  args_ofs empty = []
  args_ofs (field name t fs) = name ∷ (args_of t ++ args_ofs fs)

-- The depth: the most nodes that stand above a node. A field has its Struct above it, and a field's type the Struct
-- and the field.
unfoldable mutual
  pub depth : DataType → ℕ
  depth (leaf k a) = 0
  depth (list t) = suc (depth t)
  depth (array w t) = suc (depth t)
  depth (struct fs) = depths fs

  pub depths : Fields → ℕ
  depths empty = 0
  depths (field name t fs) = max (suc (suc (depth t))) (depths fs)
