-- `get_numeric_upcast_supertype_lossless` of supertype.rs, arm by arm in the source's order. Assumes nothing: these are
-- definitions.
use Rattle.std.specs.Prelude.{Bool, cond, ◌&&◌, ◌||◌, List, [], ◌∷◌, ℕ, eqb}
use Rattle.std.specs.Prelude.{Option, None, Some}
use Rattle.std.specs.Option.{option_map}
use Rattle.flat.specs.Kind.{UInt8, UInt16, UInt32, UInt64, UInt128, Int8, Int16, Int32, Int64, Int128, Float32, Float64}
use Rattle.flat.specs.Tree.{DataType, head_kind}
use Rattle.flat.specs.Reading.{Reading}
use Rattle.flat.specs.declared.Node.{Node}
use Rattle.supertype_answer.specs.Join.{node, found_of}
use Rattle.dtype.specs.Match.{among}
use Rattle.dtype.specs.Predicate.{is_float, is_signed_integer, is_unsigned_integer, is_integer, is_nested, is_unknown}
use Rattle.dtype.specs.Equality.{equal}

-- the arm `(k, _) | (_, k) | .. => answer`: one side is one of these kinds
pub record UpcastArm : Type 0 where
  pub kinds : List ℕ
  pub answer : Option ℕ

infix 68 ◌⇒◌
abbrev pub ◌⇒◌ : List ℕ → Option ℕ → UpcastArm
ks ⇒ a = record { kinds = ks; answer = a }

-- the answer of the first arm that takes a side; behind the last arm the source has None, or a panic where it is
-- debugged, and no pair comes there
unfoldable pub upcast_by : List UpcastArm → ℕ → ℕ → Option ℕ
upcast_by [] l r = None
upcast_by (x ∷ xs) l r = cond (among x.kinds l || among x.kinds r) x.answer (upcast_by xs l r)

unfoldable pub floats : List UpcastArm
floats = (Float64 ∷ []) ⇒ Some Float64 ∷ (Float32 ∷ []) ⇒ Some Float32 ∷ []

unfoldable pub signed : List UpcastArm
signed =
    (Int128 ∷ []) ⇒ Some Int128
    ∷ (Int64 ∷ []) ⇒ Some Int64
    ∷ (Int32 ∷ []) ⇒ Some Int32
    ∷ (Int16 ∷ []) ⇒ Some Int16
    ∷ (Int8 ∷ []) ⇒ Some Int8
    ∷ []

unfoldable pub unsigned : List UpcastArm
unsigned =
    (UInt128 ∷ []) ⇒ Some UInt128
    ∷ (UInt64 ∷ []) ⇒ Some UInt64
    ∷ (UInt32 ∷ []) ⇒ Some UInt32
    ∷ (UInt16 ∷ []) ⇒ Some UInt16
    ∷ (UInt8 ∷ []) ⇒ Some UInt8
    ∷ []

-- one signed, the other unsigned
unfoldable pub mixed : List UpcastArm
mixed =
    (UInt128 ∷ []) ⇒ None
    ∷ (UInt64 ∷ Int128 ∷ []) ⇒ Some Int128
    ∷ (UInt32 ∷ Int64 ∷ []) ⇒ Some Int64
    ∷ (UInt16 ∷ Int32 ∷ []) ⇒ Some Int32
    ∷ (UInt8 ∷ Int16 ∷ []) ⇒ Some Int16
    ∷ []

-- the upcast of two kinds, by whether the two types are equal
unfoldable pub upcast_where : Bool → ℕ → ℕ → Option ℕ
upcast_where same l r =
    cond (is_unknown l || is_unknown r || is_nested l || is_nested r || same) None
    (cond (is_float l && is_float r) (upcast_by floats l r)
    (cond (is_signed_integer l && is_signed_integer r) (upcast_by signed l r)
    (cond (is_unsigned_integer l && is_unsigned_integer r) (upcast_by unsigned l r)
    (cond (is_integer l && is_integer r) (upcast_by mixed l r)
    None))))

-- the upcast of two types
unfoldable pub lossless : DataType → DataType → Option ℕ
lossless l r = upcast_where (equal l r) (head_kind l) (head_kind r)

-- the upcast of two types without an argument, by their kinds
unfoldable pub upcast_of : ℕ → ℕ → Option ℕ
upcast_of l r = upcast_where (eqb l r) l r

-- an upcast as what a call found
abbrev pub found_upcast : Option ℕ → Option Reading
found_upcast k = found_of (option_map (λ k. node k 0) k)

-- what a call finds for two roots, by their kinds
unfoldable pub root_upcast : Node → Node → Option Reading
root_upcast l r = found_upcast (upcast_of l.kind r.kind)

-- what a call finds for two types
unfoldable pub lossless_of : DataType → DataType → Option Reading
lossless_of l r = found_upcast (lossless l r)
