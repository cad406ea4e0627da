-- What holds of `can_cast_to` between any two Structs. Assumes nothing: proofs/Structs.antt proves these statements.
use Rattle.std.specs.Prelude.{◌≡◌, true, false, ℕ}
use Rattle.std.specs.Prelude.{Some}
use Rattle.flat.specs.Tree.{DataType, struct, Fields, empty, field, count, append}
use Rattle.dtype_cast.specs.Cast.{can_cast_to}

-- as many fields on both sides, and each one's type casts to that of the other in its place, whatever they are named
pub data AllCast : Fields → Fields → Type 0 where
  no_fields : AllCast empty empty
  one_more : {t u : DataType} {fs gs : Fields} (name other : ℕ)
      → can_cast_to t u ≡ Some true
      → AllCast fs gs
      → AllCast (field name t fs) (field other u gs)

pub record CastLaws : Type 0 where
  -- corner 11: an empty Struct casts to any Struct
  pub no_field : (gs : Fields) → can_cast_to (struct empty) (struct gs) ≡ Some true
  -- corner 11: from a Struct with fields to one with another number of them it is a no, whatever the fields are
  pub other_count : (fs gs : Fields)
      → (count fs ≡ 0 → ⊥)
      → (count fs ≡ count gs → ⊥)
      → can_cast_to (struct fs) (struct gs) ≡ Some false
  -- corner 12: of as many fields on both sides, the first pair of types whose cast is not a yes decides, whatever comes
  -- after it
  pub first_decides : {before before' : Fields} → AllCast before before'
      → (name other : ℕ) (t u : DataType) (after after' : Fields) → count after ≡ count after'
      → (can_cast_to t u ≡ Some true → ⊥)
      → can_cast_to (struct (append before (field name t after))) (struct (append before' (field other u after')))
      ≡ can_cast_to t u
  -- corner 12: it is a yes where the cast of every pair of types is one
  pub all_cast : {fs gs : Fields} → AllCast fs gs → can_cast_to (struct fs) (struct gs) ≡ Some true
