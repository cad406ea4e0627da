-- What a call comes to that joins two types: Some type, None, or a refusal. The source's Option is the type that two
-- types have in common, where there is one. Assumes nothing: these are definitions.
use Rattle.std.specs.Prelude.{Option, Some, Result, Ok, Err, ℕ}
use Rattle.std.specs.Prelude.{option_map}
use Rattle.flat.specs.Tree.{DataType, leaf, head_kind, head_arg}
use Rattle.flat.specs.Reading.{Reading, refused, type}
use Rattle.flat.specs.Both.{both_of, root_reading}
use Rattle.flat.specs.declared.error.Error.{Error}
use Rattle.flat.specs.declared.Node.{Node}

-- a type that is not nested: its kind and its argument
abbrev pub node : ℕ → ℕ → Node
node k a = record { kind = k; arg = a }

-- the node at a type's root, which is the whole type where it is not nested
abbrev pub root_node : DataType → Node
root_node t = node (head_kind t) (head_arg t)

-- a node as a type
abbrev pub type_of : Node → DataType
type_of n = leaf n.kind n.arg

-- what was found: none is the source's None
abbrev pub found_of : Option Node → Option Reading
found_of = option_map (λ n. type (type_of n))

-- what was found, or the refusal of the call
abbrev pub result_of : Result (Option Node) Error → Option Reading
result_of (Ok found) = found_of found
result_of (Err e) = Some (refused e)

-- what a rule finds for two types, each through 1 to 5 first
abbrev pub joining : (DataType → DataType → Option Reading) → Reading → Reading → Option Reading
joining = both_of (λ e. Some (refused e))

-- what a rule finds that rests on the two roots alone
abbrev pub joining_roots :
    (Node → Node → Option Reading) → Result Node Error → Result Node Error → Option Reading
joining_roots rule l r = joining (λ t u. rule (root_node t) (root_node u)) (root_reading l) (root_reading r)
