-- What a join and a loop over fields come to, and the nodes that they write. Assumes nothing: these are definitions.
use Rattle.std.specs.Prelude.{◌≡◌, List, ◌++◌, ℕ, length, take, Option, None, Some, Result, Ok, Err}
use Rattle.flat.specs.Tree.{DataType, Fields, struct, count}
use Rattle.flat.specs.declared.Node.{Node}
use Rattle.supertype_nested.specs.Nested.{SuperTypeOptions, TreeCall, supertype_tree}
use Rattle.supertype_nested.specs.Nested.{Zip, names_differ, no_join, joined}
use Rattle.supertype_place.specs.Written.{nodes_of, nodes_ofs}
use Rattle.supertype_walk.specs.declared.walk.Unzipped.{Unzipped}

-- `get_supertype`: an inner call, with the flags i
abbrev pub get_supertype : SuperTypeOptions → TreeCall
get_supertype i = supertype_tree i i

-- There is a type, and f's nodes of it stand behind what stood before.
pub record Joined (f : DataType → List Node) (q : Option DataType) (old new : List Node) : Type 0 where
  pub type : DataType
  pub is : q ≡ Some type
  pub wrote : new ≡ old ++ f type

-- There is none, and what stood before still stands, whatever comes behind it.
pub record Fails {A : Type 0} (q : Option A) (old new : List Node) : Type 0 where
  pub none : q ≡ None
  pub kept : take (length old) new ≡ old

-- what a join comes to
abbrev pub Joins : (DataType → List Node) → Option DataType → (old new : List Node) → Option (Unit {0}) → Type 0
Joins f q old new (Some u) = Joined f q old new
Joins f q old new None = Fails q old new

-- There are n fields, and their nodes stand behind what stood before.
pub record Filled (q : Option Fields) (old new : List Node) (n : ℕ) : Type 0 where
  pub fields : Fields
  pub is : q ≡ Some fields
  pub number : n ≡ count fields
  pub wrote : new ≡ old ++ nodes_ofs fields

-- what a loop over fields comes to
abbrev pub Fills : Option Fields → (old new : List Node) → Option ℕ → Type 0
Fills q old new (Some n) = Filled q old new n
Fills q old new None = Fails q old new

-- The fields of both are joined, and the nodes of their Struct stand behind what stood before.
pub record Zips (z : Zip) (old new : List Node) : Type 0 where
  pub fields : Fields
  pub is : z ≡ joined fields
  pub wrote : new ≡ old ++ nodes_of (struct fields)

-- They are not, and what stood before still stands.
pub record Parts (z why : Zip) (old new : List Node) : Type 0 where
  pub is : z ≡ why
  pub kept : take (length old) new ≡ old

-- what the loop over the fields of both comes to
abbrev pub Zipped : Zip → (old new : List Node) → Result (Unit {0}) Unzipped → Type 0
Zipped z old new (Ok u) = Zips z old new
Zipped z old new (Err Unzipped.Apart) = Parts z names_differ old new
Zipped z old new (Err Unzipped.Nothing) = Parts z no_join old new
