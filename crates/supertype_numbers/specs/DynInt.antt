-- `Unknown(Int(v))`, document 01's dyn v, and the dyn integer helpers of supertype.rs: each is the first of some types
-- whose range holds v. Assumes nothing: these are definitions.
use Rattle.std.specs.Prelude.{cond, [], ◌∷◌, ℕ, eqb, ℤ, pos, negsuc}
use Rattle.flat.specs.Kind
use Rattle.supertype_numbers.specs.Integer.{first_that_holds}

-- the v of `Unknown(Int(v))`: kind 26 has v, kind 27 has −1 − v
unfoldable pub value_of : ℕ → ℕ → ℤ
value_of k a = cond (eqb k Kind.UnknownIntPos) (pos a) (negsuc a)

-- materialize_dyn_int: Int128 where none of the others holds v
unfoldable pub materialize_dyn_int : ℤ → ℕ
materialize_dyn_int = first_that_holds (Kind.Int32 ∷ Kind.Int64 ∷ Kind.UInt64 ∷ []) Kind.Int128

-- materialize_dyn_int_pos: Null where nothing holds v
unfoldable pub materialize_dyn_int_pos : ℤ → ℕ
materialize_dyn_int_pos = first_that_holds (Kind.UInt8 ∷ Kind.UInt16 ∷ Kind.UInt32 ∷ Kind.UInt64 ∷ []) Kind.Null

-- materialize_smallest_dyn_int: Null where nothing holds v
unfoldable pub materialize_smallest_dyn_int : ℤ → ℕ
materialize_smallest_dyn_int =
    first_that_holds (Kind.Int8 ∷ Kind.Int16 ∷ Kind.Int32 ∷ Kind.Int64 ∷ Kind.UInt64 ∷ []) Kind.Null
