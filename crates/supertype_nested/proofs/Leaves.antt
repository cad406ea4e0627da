-- Of two types that are not nested it is the supertype of the non-nested call. Assumes nothing.
use Rattle.std.specs.Option.{option_or}
use mathlib.Core.Path.{◌≡◌, refl, sym, ap, ap₂, ◌∙◌}
use mathlib.Core.Bool.{Bool, true, false, not, cond, ◌&&◌, ◌||◌}
use mathlib.Core.List.{List, [], ◌∷◌}
use Rattle.std.specs.Prelude.{Option, None, Some}
use Prim.Native.Nat.{ℕ, ◌≤◌, ◌<◌}
use native.Mathlib.Omega.{arith}
use lib.Dec.{T}
use borrow.Author.Tests.{ne_eqb}
use Rattle.flat.specs.Kind as kind
use Rattle.flat.specs.Tree.{leaf, size, head_kind, head_arg}
use Rattle.flat.proofs.Rules.{and_left, and_right}
use Rattle.dtype.specs.Equality.{equal_node, equal}
use Rattle.dtype_inner.specs.Inner.{inner_dtype}
use Rattle.flat.specs.declared.Node.{Node}
use Rattle.supertype_answer.specs.Join.{node}
use Rattle.supertype_arms.specs.Supertype.{Arm, is, arms, unknown_arms, choose, plan_of, run, answered, inner}
use Rattle.supertype_arms.specs.Supertype.{supertype_with, leaf_plan, known_supertype, supertype, TreePlan, no_type, left_type}
use Rattle.supertype_arms.specs.Supertype.{right_type, roots, lists, arrays, implode_left, implode_right, first_field}
use Rattle.supertype_arms.specs.Supertype.{structs, each_field}
use Rattle.supertype_arms.proofs.Recursive.{known_with, over_call}
use Rattle.supertype_nested.specs.Nested.{SuperTypeOptions, TreeCall, tree_of, root_found, at_roots, run_tree}
use Rattle.supertype_nested.specs.Nested.{tree_plan, inner_tree, supertype_tree_with, get_supertype_in}
use Rattle.supertype_nested.specs.Nested.{supertype_tree}
use Rattle.supertype_nested.proofs.Chosen.{all_arms}

-- ---- the implode flag

-- a plan of an arm that does not implode
abbrev keeps : TreePlan → Bool
keeps no_type = true
keeps left_type = true
keeps right_type = true
keeps (roots p) = true
keeps lists = true
keeps arrays = true
keeps implode_left = false
keeps implode_right = false
keeps first_field = true
keeps structs = true
keeps each_field = true

-- the arms without those that implode, which don't read the flag
abbrev kept : List Arm → List Arm
kept [] = []
kept (x ∷ xs) = cond (keeps x.plan) (x ∷ kept xs) (kept xs)

module _ (a b : ℕ) where
  kept_choice : (xs : List Arm) → T (all_arms keeps a b xs) → choose xs a b ≡ choose (kept xs) a b
  kept_choice [] t = refl
  kept_choice (x ∷ xs) t =
      go (keeps x.plan) (x.left a && x.right b)
      (and_left (keeps x.plan || not (x.left a && x.right b)) (all_arms keeps a b xs) t)
      (kept_choice xs (and_right (keeps x.plan || not (x.left a && x.right b)) (all_arms keeps a b xs) t)) refl
    where
      stays : Bool → TreePlan
      stays takes = elim takes as (λ z. TreePlan) [ true ↦ x.plan | false ↦ choose (kept xs) a b ]

      go : (k takes : Bool) → T (k || not takes) → choose xs a b ≡ choose (kept xs) a b
          → (x.left a && x.right b) ≡ takes
          → elim takes as (λ z. TreePlan) [ true ↦ x.plan | false ↦ choose xs a b ]
          ≡ choose (cond k (x ∷ kept xs) (kept xs)) a b
      go true true u h e = sym (ap stays e)
      go true false u h e = h ∙ sym (ap stays e)
      go false true u h e = absurd u
      go false false u h e = h

  module _ (h : a ≤ kind.UnknownIntNeg) (g : b ≤ kind.UnknownIntNeg) where
    -- no leaf implodes
    two_arms : (i : Bool) → T (not ((is kind.List a && i) && true) && (not (is kind.List b && i) && true))
    two_arms i = rw (ne_eqb a kind.List (λ e. omega arith), ne_eqb b kind.List (λ e. omega arith)) tt

    no_implode : (i s : Bool) → choose (arms i s) a b ≡ choose (arms false s) a b
    unfolding arms unknown_arms
    no_implode i true =
        kept_choice (arms i true) (two_arms i) ∙ sym (kept_choice (arms false true) (two_arms false))
    no_implode i false =
        kept_choice (arms i false) (two_arms i) ∙ sym (kept_choice (arms false false) (two_arms false))

-- ---- one level

leaf_run : (c : TreeCall) (p : TreePlan) (k a m b : ℕ)
    → run_tree c p (leaf k a) (leaf m b) ≡ tree_of (answered (at_roots c) (leaf_plan p) (node k a) (node m b))
unfolding run_tree run inner_dtype head_kind head_arg
leaf_run c no_type k a m b = refl
leaf_run c left_type k a m b = refl
leaf_run c right_type k a m b = refl
leaf_run c (roots p) k a m b = refl
leaf_run c lists k a m b = refl
leaf_run c arrays k a m b = refl
leaf_run c implode_left k a m b = refl
leaf_run c implode_right k a m b = refl
leaf_run c first_field k a m b = refl
leaf_run c structs k a m b = refl
leaf_run c each_field k a m b = refl

tree_cond : (b : Bool) (p q : Option Node) → cond b (tree_of p) (tree_of q) ≡ tree_of (cond b p q)
tree_cond true p q = refl
tree_cond false p q = refl

tree_or : (p q : Option Node) → option_or (tree_of p) (tree_of q) ≡ tree_of (option_or p q)
tree_or (Some n) q = refl
tree_or None q = refl

module _ (c : TreeCall) (o : SuperTypeOptions) where
  leaf_inner : (k a m b : ℕ) → k ≤ kind.UnknownIntNeg → m ≤ kind.UnknownIntNeg
      → inner_tree c o (leaf k a) (leaf m b)
      ≡ tree_of (inner (at_roots c) o.allow_primitive_to_string (node k a) (node m b))
  unfolding inner_tree inner equal head_kind tree_plan plan_of
  leaf_inner k a m b h g =
      ap (λ (p : TreePlan). cond (equal_node k a m b) (Some (leaf k a)) (run_tree c p (leaf k a) (leaf m b)))
      (no_implode k m h g o.allow_implode_list o.allow_primitive_to_string)
      ∙ ap (cond (equal_node k a m b) (Some (leaf k a)))
      (leaf_run c (choose (arms false o.allow_primitive_to_string) k m) k a m b)
      ∙ tree_cond (equal_node k a m b) (Some (node k a))
      (answered (at_roots c) (plan_of o.allow_primitive_to_string k m) (node k a) (node m b))

  pub leaf_with : (k a m b : ℕ) → k ≤ kind.UnknownIntNeg → m ≤ kind.UnknownIntNeg
      → supertype_tree_with c o (leaf k a) (leaf m b)
      ≡ tree_of (supertype_with (at_roots c) o.allow_primitive_to_string (node k a) (node m b))
  unfolding supertype_tree_with supertype_with
  leaf_with k a m b h g =
      ap₂ option_or (leaf_inner k a m b h g) (leaf_inner m b k a g h)
      ∙ tree_or (inner (at_roots c) o.allow_primitive_to_string (node k a) (node m b))
      (inner (at_roots c) o.allow_primitive_to_string (node m b) (node k a))

-- ---- the inner calls

root_back : (q : Option Node) → q ≡ root_found (tree_of q)
unfolding head_kind head_arg
root_back (Some n) = refl
root_back None = refl

-- with any flags, and over any calls of its own, one answers as those of the non-nested call do
pub known_roots : (c : TreeCall) (i : SuperTypeOptions) (l r : Node) → l.kind < kind.Decimal → r.kind < kind.Decimal
    → known_supertype l r ≡ at_roots (supertype_tree_with c i) l r
known_roots c i l r h g =
    known_with (at_roots c) i.allow_primitive_to_string l r h g
    ∙ root_back (supertype_with (at_roots c) i.allow_primitive_to_string l r)
    ∙ sym (ap root_found (leaf_with c i l.kind l.arg r.kind r.arg (omega arith) (omega arith)))

-- so over calls that do so, the answer is that of the non-nested call
pub leaf_known : (c : TreeCall) (o : SuperTypeOptions)
    → ((l r : Node) → l.kind < kind.Decimal → r.kind < kind.Decimal → known_supertype l r ≡ at_roots c l r)
    → (k a m b : ℕ) → k ≤ kind.UnknownIntNeg → m ≤ kind.UnknownIntNeg
    → supertype_tree_with c o (leaf k a) (leaf m b)
    ≡ tree_of (supertype o.allow_implode_list o.allow_primitive_to_string (node k a) (node m b))
leaf_known c o known k a m b h g =
    leaf_with c o k a m b h g
    ∙ ap tree_of
    (sym (over_call (at_roots c) known o.allow_implode_list o.allow_primitive_to_string (node k a) (node m b) h g))

pub leaf_law : (o i : SuperTypeOptions) (k a m b : ℕ) → k ≤ kind.UnknownIntNeg → m ≤ kind.UnknownIntNeg
    → supertype_tree o i (leaf k a) (leaf m b)
    ≡ tree_of (supertype o.allow_implode_list o.allow_primitive_to_string (node k a) (node m b))
unfolding supertype_tree size get_supertype_in
leaf_law o i k a m b h g = leaf_known (get_supertype_in 2 i) o (known_roots (get_supertype_in 1 i) i) k a m b h g
