-- Casts between Structs. Assumes nothing.
use mathlib.Core.Path.{◌≡◌, refl, ap, ◌∙◌}
use mathlib.Core.Bool.{Bool, true, false}
use Rattle.std.specs.Prelude.{Option, None, Some}
use Prim.Native.Nat.{ℕ, suc}
use native.Mathlib.Omega.{arith}
use borrow.Author.Tests.{eq-eqb, ne_eqb}
use Rattle.flat.specs.Tree.{DataType, struct, Fields, empty, field, count, append}
use Rattle.dtype_cast.specs.Cast.{and_then, can_cast_to, fields_cast}
use Rattle.dtype_cast.specs.Laws.{AllCast, no_fields, one_more, CastLaws}
use Rattle.dtype_cast.proofs.Arms.{structs_arm, struct_arms}

no_field : (gs : Fields) → can_cast_to (struct empty) (struct gs) ≡ Some true
no_field gs = structs_arm empty gs

other_count : (fs gs : Fields) → (count fs ≡ 0 → ⊥) → (count fs ≡ count gs → ⊥)
    → can_cast_to (struct fs) (struct gs) ≡ Some false
other_count fs gs z q = structs_arm fs gs ∙ struct_arms fs gs z ∙ rw (ne_eqb (count fs) (count gs) q)

-- Of Structs with as many fields, and one at least, the fields decide.
same_count : (fs gs : Fields) → (count fs ≡ 0 → ⊥) → count fs ≡ count gs
    → can_cast_to (struct fs) (struct gs) ≡ fields_cast fs gs
same_count fs gs z q = structs_arm fs gs ∙ struct_arms fs gs z ∙ rw (eq-eqb (count fs) (count gs) q)

-- A verdict that is not a yes decides.
decides : (q rest : Option Bool) → (q ≡ Some true → ⊥) → and_then q rest ≡ q
decides None rest f = refl
decides (Some false) rest f = refl
decides (Some true) rest f = absurd (f refl)

-- Fields after fields that all cast: as many on both sides, and they decide.
module _ (fs gs : Fields) (q : count fs ≡ count gs) where
  counts : {before before' : Fields} → AllCast before before' → count (append before fs) ≡ count (append before' gs)
  unfolding append count
  counts no_fields = q
  counts (one_more name other e rest) = ap suc (counts rest)

  goes_on : {before before' : Fields} → AllCast before before'
      → fields_cast (append before fs) (append before' gs) ≡ fields_cast fs gs
  unfolding append can_cast_to
  goes_on no_fields = refl
  goes_on (one_more name other e rest) = rw e (goes_on rest)

-- Where a field stands among others, there is one.
some_field : (before : Fields) (name : ℕ) (t : DataType) (after : Fields)
    → count (append before (field name t after)) ≡ 0 → ⊥
unfolding append count
some_field empty name t after e = absurd (omega arith)
some_field (field n u before) name t after e = absurd (omega arith)

first_decides : {before before' : Fields} → AllCast before before'
    → (name other : ℕ) (t u : DataType) (after after' : Fields) → count after ≡ count after'
    → (can_cast_to t u ≡ Some true → ⊥)
    → can_cast_to (struct (append before (field name t after))) (struct (append before' (field other u after')))
    ≡ can_cast_to t u
unfolding can_cast_to count
first_decides {before} {before'} a name other t u after after' q f =
    let p : count (field name t after) ≡ count (field other u after') = ap suc q in
    same_count _ _ (some_field before name t after) (counts _ _ p a) ∙ goes_on _ _ p a
    ∙ decides (can_cast_to t u) (fields_cast after after') f

fields_cast_lem : {fs gs : Fields} → AllCast fs gs → (count fs ≡ count gs) × (fields_cast fs gs ≡ Some true)
unfolding can_cast_to count
fields_cast_lem no_fields = (refl, refl)
fields_cast_lem (one_more name other e rest) = (ap suc (fields_cast_lem rest).0, rw e (fields_cast_lem rest).1)

all_cast : {fs gs : Fields} → AllCast fs gs → can_cast_to (struct fs) (struct gs) ≡ Some true
unfolding count
all_cast no_fields = no_field empty
all_cast {fs} {gs} (one_more name other e rest) =
    let a = fields_cast_lem (one_more name other e rest) in
    same_count fs gs (λ z. absurd (omega arith)) a.0 ∙ a.1

pub cast_laws : CastLaws
cast_laws = record {
  no_field = no_field;
  other_count = other_count;
  first_decides = first_decides;
  all_cast = all_cast;
}
