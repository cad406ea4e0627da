-- What two arrays are: exactly one type, or refused by a number from 1 to 5. The two limits are parameters. Assumes
-- nothing: these are definitions.
use Rattle.std.specs.Prelude.{◌≡◌, Bool, true, false, ◌&&◌, List, ℕ, ◌≤◌, leb, ltb, eqb, length, get_or}
use Rattle.std.specs.Prelude.{Option, None, Some, Result, Ok, Err}
use Rattle.std.specs.List.{list_all, zip}
use Rattle.flat.specs.Kind
use Rattle.flat.specs.Argument.{argument_fits, plain_leaf}
use Rattle.flat.specs.Tree.{DataType, leaf, list, array, struct, Fields, empty, field}
use Rattle.flat.specs.Tree.{count, size, depth, head_kind, head_arg}
use Rattle.flat.specs.Reader.{node_at}
use Rattle.flat.specs.declared.error.Error.{Error}
use Rattle.flat.specs.declared.error.Error.TheVariants.{Length, Kind, Argument, Shape, Depth}
use Rattle.flat.specs.declared.Node.{Node}

-- what two arrays are
pub data Reading : Type 0 where
  refused : Error → Reading
  type : DataType → Reading

-- r where the test holds, else refused by e
abbrev pub unless : Bool → Error → Reading → Reading
unless true e r = r
unless false e r = refused e

-- 1: no node, over the limit, or the two array lengths differ
unfoldable pub length_fits : ℕ → List ℕ → List ℕ → Bool
length_fits nodes ks xs = eqb (length ks) (length xs) && ltb 0 (length ks) && leb (length ks) nodes

-- 2: kind above 31
unfoldable pub kinds_fit : List ℕ → Bool
kinds_fit ks = list_all (λ k. leb k Kind.Field) ks

-- 3: argument outside its rule
unfoldable pub arguments_fit : List ℕ → List ℕ → Bool
arguments_fit ks xs = list_all (λ n. argument_fits n.0 n.1) (zip ks xs)

-- 4: the n nodes don't form exactly one type; 5: depth over the limit
abbrev pub shaped : ℕ → ℕ → Option DataType → Reading
shaped deep n None = refused Shape
shaped deep n (Some t) = unless (eqb (size t) n) Shape (unless (leb (depth t) deep) Depth (type t))

-- each test looks at the whole type before the next, and the lowest number is given
unfoldable pub reading : ℕ → ℕ → List ℕ → List ℕ → Reading
reading nodes deep ks xs =
    unless (length_fits nodes ks xs) Length
    (unless (kinds_fit ks) Kind
    (unless (arguments_fit ks xs) Argument
    (shaped deep (length ks) (node_at ks xs))))

-- one plain leaf, the commonest type
unfoldable pub one_plain : List ℕ → List ℕ → Bool
one_plain ks xs = eqb (length ks) 1 && eqb (length xs) 1 && plain_leaf (get_or ks 0 0) (get_or xs 0 0)

-- the answer of a check
abbrev pub checked_of : Reading → Result (Unit {0}) Error
checked_of (refused e) = Err e
checked_of (type t) = Ok tt

-- the node at the root of a type
abbrev pub root_of : Reading → Result Node Error
root_of (refused e) = Err e
root_of (type t) = Ok (record { kind = head_kind t; arg = head_arg t })

-- a root of a valid type: no field, and its argument follows its kind's rule
abbrev pub RootFits : Result Node Error → Type 0
RootFits (Ok n) = (n.kind ≤ Kind.Struct) × (argument_fits n.kind n.arg ≡ true)
RootFits (Err e) = Unit {0}

-- A tree that keeps document 01's rules: a leaf's kind has no child, and every argument follows its kind's rule, a
-- Struct's number of fields and a field's name among them.
unfoldable mutual
  pub Ruled : DataType → Type 0
  Ruled (leaf k a) = (k ≤ Kind.UnknownIntNeg) × (argument_fits k a ≡ true)
  Ruled (list t) = Ruled t
  Ruled (array w t) = Ruled t
  Ruled (struct fs) = (argument_fits Kind.Struct (count fs) ≡ true) × RuledFields fs

  pub RuledFields : Fields → Type 0
  RuledFields empty = Unit {0}
  RuledFields (field name t fs) = (argument_fits Kind.Field name ≡ true) × Ruled t × RuledFields fs

-- A valid type: the trees that `reading` gives are these, and it gives them all (proofs/Meaning.antt).
pub record IsType (nodes deep : ℕ) (t : DataType) : Type 0 where
  pub ruled : Ruled t
  pub within : size t ≤ nodes
  pub shallow : depth t ≤ deep
