-- The predicates of dtype.rs that look at a type's root alone, by its kind. Assumes nothing: these are definitions.
use Rattle.std.specs.Prelude.{Bool, ◌||◌, [], ◌∷◌, ℕ}
use Rattle.flat.specs.Kind
use Rattle.flat.specs.Tree.{DataType, head_kind}
use Rattle.dtype.specs.Match.{among}

-- is_temporal
unfoldable pub is_temporal : ℕ → Bool
is_temporal = among (Kind.Date ∷ Kind.Datetime ∷ Kind.Duration ∷ Kind.Time ∷ [])

-- is_float: `Unknown(Float)` is one
unfoldable pub is_float : ℕ → Bool
is_float = among (Kind.Float16 ∷ Kind.Float32 ∷ Kind.Float64 ∷ Kind.UnknownFloat ∷ [])

-- `Unknown(Int(_))`, of either sign
unfoldable pub is_unknown_int : ℕ → Bool
is_unknown_int = among (Kind.UnknownIntPos ∷ Kind.UnknownIntNeg ∷ [])

-- is_signed_integer
unfoldable pub is_signed_integer : ℕ → Bool
is_signed_integer = among (Kind.Int8 ∷ Kind.Int16 ∷ Kind.Int32 ∷ Kind.Int64 ∷ Kind.Int128 ∷ [])

-- is_unsigned_integer
unfoldable pub is_unsigned_integer : ℕ → Bool
is_unsigned_integer = among (Kind.UInt8 ∷ Kind.UInt16 ∷ Kind.UInt32 ∷ Kind.UInt64 ∷ Kind.UInt128 ∷ [])

-- is_integer: `Unknown(Int(_))` is one
unfoldable pub is_integer : ℕ → Bool
is_integer k = is_signed_integer k || is_unsigned_integer k || is_unknown_int k

-- is_primitive_numeric
unfoldable pub is_primitive_numeric : ℕ → Bool
is_primitive_numeric k = is_float k || is_integer k

-- is_primitive
unfoldable pub is_primitive : ℕ → Bool
is_primitive k = is_primitive_numeric k || among (Kind.Boolean ∷ Kind.String ∷ Kind.Binary ∷ []) k

-- is_nested
unfoldable pub is_nested : ℕ → Bool
is_nested = among (Kind.List ∷ Kind.Array ∷ Kind.Struct ∷ [])

-- is_string: `Unknown(Str)` is one
unfoldable pub is_string : ℕ → Bool
is_string = among (Kind.String ∷ Kind.UnknownStr ∷ [])

-- is_unknown: `Unknown(_)`
unfoldable pub is_unknown : ℕ → Bool
is_unknown k = among (Kind.UnknownAny ∷ Kind.UnknownStr ∷ Kind.UnknownFloat ∷ []) k || is_unknown_int k

-- a predicate of the root's kind, of a type
abbrev pub root : (ℕ → Bool) → DataType → Bool
root p t = p (head_kind t)
