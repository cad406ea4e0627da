-- The source's patterns: `matches!(dtype, A | B)`, and one arm of a match on a type.
-- Assumes nothing: these are definitions.
use Rattle.std.specs.Prelude.{Bool, true, false, ◌||◌, List, [], ◌∷◌, ℕ, eqb}
use Rattle.flat.specs.Tree.{DataType, leaf, list, array, struct, Fields, empty, field}

-- k is one of these kinds
unfoldable pub among : List ℕ → ℕ → Bool
among [] k = false
among (j ∷ js) k = eqb k j || among js k

-- the arm of a List, else d
abbrev pub if_list : {A : Type 0} → A → (DataType → A) → DataType → A
if_list d arm (leaf k a) = d
if_list d arm (list t) = arm t
if_list d arm (array w t) = d
if_list d arm (struct fs) = d

-- the arm of an Array, else d
abbrev pub if_array : {A : Type 0} → A → (ℕ → DataType → A) → DataType → A
if_array d arm (leaf k a) = d
if_array d arm (list t) = d
if_array d arm (array w t) = arm w t
if_array d arm (struct fs) = d

-- the arm of a Struct, else d
abbrev pub if_struct : {A : Type 0} → A → (Fields → A) → DataType → A
if_struct d arm (leaf k a) = d
if_struct d arm (list t) = d
if_struct d arm (array w t) = d
if_struct d arm (struct fs) = arm fs

-- the arm of any other type, by its kind and argument, else d
abbrev pub if_leaf : {A : Type 0} → A → (ℕ → ℕ → A) → DataType → A
if_leaf d arm (leaf k a) = arm k a
if_leaf d arm (list t) = d
if_leaf d arm (array w t) = d
if_leaf d arm (struct fs) = d

-- the first field and those after it, else d where there is none
abbrev pub if_field : {A : Type 0} → A → (ℕ → DataType → Fields → A) → Fields → A
if_field d arm empty = d
if_field d arm (field name t fs) = arm name t fs

-- there is no field
abbrev pub is_empty : Fields → Bool
is_empty empty = true
is_empty (field name t fs) = false
