-- What the two tries of the source come to together: of a nested type with a leaf, and of two Structs with as many
-- fields, over inner calls of which little is known. Assumes nothing: these are definitions.
use Rattle.std.specs.Option.{option_or}
use Rattle.std.specs.Prelude.{◌≡◌, Bool, true, false, cond, ◌&&◌, ◌||◌, List, [], ◌∷◌, ℕ, ◌<◌, eqb}
use Rattle.std.specs.Prelude.{Option, None, Some}
use Rattle.flat.specs.Kind as kind
use Rattle.flat.specs.Tree.{DataType, leaf, Fields, empty, field}
use Rattle.dtype.specs.Predicate.{is_unknown_int, is_primitive_numeric, is_unknown}
use Rattle.dtype.specs.Equality.{equal}
use Rattle.flat.specs.declared.Node.{Node}
use Rattle.supertype_arms.specs.Supertype.{Arm, arm, is, every, choose, TreePlan, no_type, left_type, roots}
use Rattle.supertype_arms.specs.Supertype.{known_supertype}
use Rattle.supertype_arms.specs.Supertype.{implode_left, implode_right, first_field, each_field}
use Rattle.supertype_arms.specs.declared.plan.Plan.TheVariants.{Kind}
use Rattle.supertype_nested.specs.Nested.{TreeCall, at_roots, Zip, names_differ, no_join, joined}
use Rattle.supertype_nested.specs.Union.{seen}

-- ---- the inner calls

-- What the laws ask of them, which holds of the function itself.
pub record Fair (c : TreeCall) : Type 0 where
  -- of equal types it is the left one
  pub same : (l r : DataType) → equal l r ≡ true → c l r ≡ Some l
  -- None does not depend on the order
  pub turn : (l r : DataType) → c l r ≡ None → c r l ≡ None
  -- of a type with Null on the right it is the type
  pub null : (t : DataType) (a : ℕ) → c t (leaf kind.Null a) ≡ Some t
  -- of two types as the arms of dyn ints hand on it is the supertype of the non-nested call
  pub known : (l r : Node) → l.kind < kind.Decimal → r.kind < kind.Decimal → known_supertype l r ≡ at_roots c l r

-- ---- a nested type with a leaf

-- the arms that are left for a nested type with a leaf on its right, in the source's order
unfoldable pub beside_arms : Bool → List Arm
beside_arms implode =
    arm every (is kind.String) (roots (Kind kind.String))
    ∷ arm every (is kind.Null) left_type
    ∷ arm (λ dt. is kind.List dt && implode) every implode_left
    ∷ arm (is kind.Struct) (λ dt. is kind.UnknownFloat dt || is_unknown_int dt) first_field
    ∷ arm (is kind.Struct) is_primitive_numeric each_field
    ∷ arm every is_unknown (roots (Kind kind.UnknownAny))
    ∷ []

-- the plan of a nested type's kind n with the leaf's kind k on its right
unfoldable pub plan_beside : Bool → ℕ → ℕ → TreePlan
plan_beside implode n k = choose (beside_arms implode) n k

-- the plan of a nested type's kind n with a leaf on its left, whichever leaf that is
unfoldable pub plan_before : Bool → ℕ → TreePlan
plan_before implode n = cond (is kind.List n && implode) implode_right no_type

-- ---- two Structs with as many fields

-- what the loop over the fields of both comes to in both tries, by the unions of either order
abbrev pub zip_either : Option Fields → Option Fields → Zip → Option Fields
zip_either p q names_differ = option_or p q
zip_either p q no_join = None
zip_either p q (joined fs) = Some fs

-- the names of both are the same at each place
unfoldable pub in_place : Fields → Fields → Bool
in_place empty gs = true
in_place (field name t fs) empty = true
in_place (field name t fs) (field other u gs) = eqb name other && in_place fs gs

-- a field has a name that is among ns, or among the names of the fields before it
unfoldable pub repeats : List ℕ → Fields → Bool
repeats ns empty = false
repeats ns (field name t fs) = seen ns name || repeats (name ∷ ns) fs
