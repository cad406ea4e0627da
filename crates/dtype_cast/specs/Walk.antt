-- The answers of the walk over two types. Assumes nothing: these are definitions.
use Rattle.std.specs.Prelude.{Bool, true, false, cond, ◌&&◌, ℕ, leb, eqb}
use Rattle.std.specs.Prelude.{Option, None, Some, Result, Ok, Err}
use Rattle.flat.specs.Kind
use Rattle.flat.specs.Tree.{DataType, Fields, size, sizes}
use Rattle.dtype.specs.Predicate.{is_primitive_numeric}
use Rattle.dtype.specs.Equality.{equal_node}
use Rattle.dtype_cast.specs.Cast.{casts_with_boolean, can_cast_to, fields_cast}
use Rattle.dtype_cast.specs.declared.walk.NotYes.{NotYes}
use Rattle.dtype_cast.specs.declared.walk.NotYes.TheVariants.{No, NoVerdict}

-- a yes with two numbers of nodes, or why it is none
abbrev pub Cast : Type 0
Cast = Result (ℕ × ℕ) NotYes

-- the source's Option, a yes with two numbers of nodes
abbrev pub cast_with : Option Bool → ℕ → ℕ → Cast
cast_with None n m = Err NoVerdict
cast_with (Some false) n m = Err No
cast_with (Some true) n m = Ok (n, m)

-- the walk's answer on two types
unfoldable pub cast_answer : DataType → DataType → Cast
cast_answer t u = cast_with (can_cast_to t u) (size t) (size u)

-- the walk's answer on two runs of fields
unfoldable pub fields_answer : Fields → Fields → Cast
fields_answer fs gs = cast_with (fields_cast fs gs) (sizes fs) (sizes gs)

-- whether two nodes are equal types that are not nested
unfoldable pub equal_leaves : ℕ → ℕ → ℕ → ℕ → Bool
equal_leaves k a l b = leb k Kind.UnknownIntNeg && equal_node k a l b

-- What two roots decide, None where they leave it open: `before_nested`, but for the test of equal types, which is left
-- to the arms where the types are nested (proofs/Arms.antt).
unfoldable pub early_of : ℕ → ℕ → ℕ → ℕ → Option Bool
early_of k a l b =
    cond (equal_leaves k a l b) (Some true)
    (cond (is_primitive_numeric k && is_primitive_numeric l) (Some true)
    (cond (eqb k Kind.Null) (Some true)
    (cond (eqb k Kind.Boolean) (Some (casts_with_boolean l))
    (cond (eqb l Kind.Boolean) (Some (casts_with_boolean k))
    None))))
