-- The union of fields name by name: what `union_fields` comes to. Assumes nothing: these are definitions.
use Rattle.std.specs.Prelude.{Bool, false, cond, ◌||◌, List, [], ◌∷◌, ℕ, eqb}
use Rattle.std.specs.Prelude.{Option, Some}
use Rattle.std.specs.Prelude.{option_map, option_and_then}
use Rattle.flat.specs.Tree.{DataType, Fields, empty, field, append}
use Rattle.supertype_nested.specs.Nested.{TreeCall, join_held}

-- the fields of one name
unfoldable pub named : ℕ → Fields → Fields
named name empty = empty
named name (field other t fs) = cond (eqb name other) (field other t (named name fs)) (named name fs)

-- the last type of a name, else t
unfoldable pub last_or : ℕ → DataType → Fields → DataType
last_or name t empty = t
last_or name t (field other u fs) = cond (eqb name other) (last_or name u fs) (last_or name t fs)

-- a held type with the fields of its name, one after the other: each result is held for the next
unfoldable pub join_named : TreeCall → ℕ → DataType → Fields → Option DataType
join_named get_supertype name held empty = Some held
join_named get_supertype name held (field other t fs) =
    cond (eqb name other) (option_and_then (λ st. join_named get_supertype name st fs) (join_held get_supertype t held))
    (join_named get_supertype name held fs)

-- a name is among these
unfoldable pub seen : List ℕ → ℕ → Bool
seen [] name = false
seen (other ∷ ns) name = eqb other name || seen ns name

-- the names of fields, put before others
unfoldable pub with_names : Fields → List ℕ → List ℕ
with_names empty ns = ns
with_names (field name t fs) ns = with_names fs (name ∷ ns)

-- the fields of other names than these
unfoldable pub outside : List ℕ → Fields → Fields
outside ns empty = empty
outside ns (field name t fs) = cond (seen ns name) (outside ns fs) (field name t (outside ns fs))

-- of the longest: each name at its first place with its last type, joined with the shortest's fields of that name; ns
-- are the names before
unfoldable pub old_names : TreeCall → Fields → List ℕ → Fields → Option Fields
old_names get_supertype shortest ns empty = Some empty
old_names get_supertype shortest ns (field name t fs) =
    cond (seen ns name) (old_names get_supertype shortest (name ∷ ns) fs)
    (option_and_then (λ st. option_map (field name st) (old_names get_supertype shortest (name ∷ ns) fs))
    (join_named get_supertype name (last_or name t fs) shortest))

-- of the shortest: each new name at its first place with its first type, joined with its later fields of that name; ns
-- are the names before, those of the longest among them
unfoldable pub new_names : TreeCall → List ℕ → Fields → Option Fields
new_names get_supertype ns empty = Some empty
new_names get_supertype ns (field name t gs) =
    cond (seen ns name) (new_names get_supertype (name ∷ ns) gs)
    (option_and_then (λ st. option_map (field name st) (new_names get_supertype (name ∷ ns) gs))
    (join_named get_supertype name t gs))

-- the longest's names, then the new ones of the shortest
unfoldable pub by_names : TreeCall → Fields → Fields → Option Fields
by_names get_supertype longest shortest =
    option_and_then (λ old. option_map (append old) (new_names get_supertype (with_names longest []) shortest))
    (old_names get_supertype shortest [] longest)
