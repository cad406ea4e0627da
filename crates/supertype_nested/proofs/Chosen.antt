-- What the arms tell of the plan that is chosen: a test of every arm that takes two kinds. Assumes nothing.
use mathlib.Core.Path.{◌≡◌, refl}
use mathlib.Core.Bool.{Bool, true, false, not, ◌&&◌, ◌||◌}
use mathlib.Core.List.{List, [], ◌∷◌}
use Rattle.std.specs.Prelude.{Some}
use Prim.Native.Nat.{ℕ}
use lib.Dec.{T, eqb}
use borrow.Author.Tests.{eqb-true}
use Rattle.flat.proofs.Rules.{and_both, and_left, and_right}
use Rattle.dtype.specs.Match.{among}
use Rattle.dtype.specs.Predicate.{is_float, is_unknown_int, is_signed_integer, is_unsigned_integer, is_integer}
use Rattle.dtype.specs.Predicate.{is_primitive_numeric, is_primitive, is_string, is_unknown}
use Rattle.dtype.specs.Physical.{physical_leaf, physical_kind}
use Rattle.flat.specs.Kind.{Boolean}
use Rattle.flat.specs.Tree.{head_kind}
use Rattle.supertype_arms.specs.Supertype.{Arm, is, arms, unknown_arms, choose, TreePlan, no_type, left_type, right_type, roots}
use Rattle.supertype_arms.specs.Supertype.{lists, arrays, implode_left, implode_right, first_field, structs, each_field}
use Rattle.supertype_arms.specs.declared.plan.Plan.{Plan}
use Rattle.supertype_arms.specs.declared.plan.Plan.TheVariants.{DynNumber}
use Rattle.supertype_arms.proofs.Areas.{alike}
use Rattle.supertype_arms.proofs.Recursive.{quiet}
use Rattle.supertype_nested.specs.Nested.{SuperTypeOptions, tree_plan}

-- every arm that takes a and b has a plan of which the test holds; where the test computes to true of an arm's plan,
-- nothing is asked of a and b
abbrev pub all_arms : (TreePlan → Bool) → ℕ → ℕ → List Arm → Bool
all_arms ok a b [] = true
all_arms ok a b (x ∷ xs) = (ok x.plan || not (x.left a && x.right b)) && all_arms ok a b xs

-- what is left of such a test, where it computes to true of all other arms
abbrev pub every_of : List Bool → Bool
every_of [] = true
every_of (x ∷ xs) = x && every_of xs

abbrev pub AllTrue : List Bool → Type 0
AllTrue [] = Unit {0}
AllTrue (x ∷ xs) = T x × AllTrue xs

pub all_true : (xs : List Bool) → AllTrue xs → T (every_of xs)
all_true [] h = tt
all_true (x ∷ xs) h = and_both x (every_of xs) h.0 (all_true xs h.1)

pub or_false : (p : Bool) → T (p || false) → T p
or_false true u = tt
or_false false u = u

pub chosen : (ok : TreePlan → Bool) (a b : ℕ) (xs : List Arm) → T (ok no_type) → T (all_arms ok a b xs)
    → T (ok (choose xs a b))
chosen ok a b [] o t = o
chosen ok a b (x ∷ xs) o t =
    go (x.left a && x.right b) (and_left (ok x.plan || not (x.left a && x.right b)) (all_arms ok a b xs) t)
    (chosen ok a b xs o (and_right (ok x.plan || not (x.left a && x.right b)) (all_arms ok a b xs) t))
  where
    go : (takes : Bool) → T (ok x.plan || not takes) → T (ok (choose xs a b))
        → T (ok (elim takes as (λ z. TreePlan) [ true ↦ x.plan | false ↦ choose xs a b ]))
    go true u v = or_false (ok x.plan) u
    go false u v = v

-- one step of `choose`: an arm's plan where it takes the kinds, else that of the others
abbrev pub takes : Bool → TreePlan → TreePlan → TreePlan
takes b p others = elim b [ true ↦ p | false ↦ others ]

-- the arms' right tests before their left ones: the same plan, and it computes where the right kind alone is known
abbrev pub choose_right : List Arm → ℕ → ℕ → TreePlan
choose_right [] a b = no_type
choose_right (x ∷ xs) a b = takes (x.right b && x.left a) x.plan (choose_right xs a b)

pub right_first : (xs : List Arm) (a b : ℕ) → choose xs a b ≡ choose_right xs a b
right_first [] a b = refl
right_first (x ∷ xs) a b = go (x.left a) (x.right b) (right_first xs a b)
  where
    go : (p q : Bool) → choose xs a b ≡ choose_right xs a b
        → takes (p && q) x.plan (choose xs a b) ≡ takes (q && p) x.plan (choose_right xs a b)
    go true true h = refl
    go true false h = h
    go false true h = h
    go false false h = h

-- the plan of two kinds by it: `unfolding plan_at` computes it at a known right kind, whichever the flags
unfoldable pub plan_at : SuperTypeOptions → ℕ → ℕ → TreePlan
unfolding arms unknown_arms among is_float is_unknown_int is_signed_integer is_unsigned_integer is_integer
    is_primitive_numeric is_primitive is_string is_unknown physical_leaf physical_kind head_kind
plan_at o a b = choose_right (arms o.allow_implode_list o.allow_primitive_to_string) a b

pub at_plan : (o : SuperTypeOptions) (a b : ℕ) → tree_plan o a b ≡ plan_at o a b
unfolding tree_plan plan_at
at_plan o a b = right_first (arms o.allow_implode_list o.allow_primitive_to_string) a b

-- a test of a plan that answers by the two roots, which holds of all others
abbrev pub on_roots : (Plan → Bool) → TreePlan → Bool
on_roots ok no_type = true
on_roots ok left_type = true
on_roots ok right_type = true
on_roots ok (roots p) = ok p
on_roots ok lists = true
on_roots ok arrays = true
on_roots ok implode_left = true
on_roots ok implode_right = true
on_roots ok first_field = true
on_roots ok structs = true
on_roots ok each_field = true

off : (p q : Bool) → q ≡ false → T (not (p && q))
off true q e = rw e tt
off false q e = tt

or_true : (p : Bool) → T (p || true)
or_true true = tt
or_true false = tt

-- a plan that makes no inner call
abbrev pub calls_none : Plan → Bool
calls_none p = quiet (Some p)

-- only a dyn int on the right is joined by an inner call, with a number or Boolean
pub no_call : (o : SuperTypeOptions) (a b : ℕ) → is_unknown_int b ≡ false → T (on_roots calls_none (tree_plan o a b))
unfolding tree_plan arms unknown_arms
no_call o a b e = go o.allow_implode_list o.allow_primitive_to_string
  where
    facts : List Bool
    facts = not (is_primitive_numeric a && is_unknown_int b) ∷ not (is Boolean a && is_unknown_int b) ∷ []

    hold : T (every_of facts)
    hold =
        all_true facts (off (is_primitive_numeric a) (is_unknown_int b) e, (off (is Boolean a) (is_unknown_int b) e, tt))

    go : (i s : Bool) → T (on_roots calls_none (choose (arms i s) a b))
    go i true = chosen (on_roots calls_none) a b (arms i true) tt hold
    go i false = chosen (on_roots calls_none) a b (arms i false) tt hold

-- where the left type is a dyn int, an inner call that would be made is discarded
abbrev pub discards : ℕ → Plan → Bool
discards a p = (quiet (Some p) || alike (Some p) (Some DynNumber)) || not (is_unknown_int a)

pub dyn_discards : (o : SuperTypeOptions) (a b : ℕ) → T (on_roots (discards a) (tree_plan o a b))
unfolding tree_plan arms unknown_arms is_unknown_int among
dyn_discards o a b = go o.allow_implode_list o.allow_primitive_to_string
  where
    no_boolean : (c : Bool) → eqb a Boolean ≡ c → T (not (is_unknown_int a) || not (c && is_unknown_int b))
    no_boolean true e = rw (eqb-true a Boolean e) tt
    no_boolean false e = or_true (not (is_unknown_int a))

    facts : List Bool
    facts = (not (is_unknown_int a) || not (is Boolean a && is_unknown_int b)) ∷ []

    hold : T (every_of facts)
    hold = all_true facts (no_boolean (is Boolean a) refl, tt)

    go : (i s : Bool) → T (on_roots (discards a) (choose (arms i s) a b))
    go i true = chosen (on_roots (discards a)) a b (arms i true) tt hold
    go i false = chosen (on_roots (discards a)) a b (arms i false) tt hold
