-- The upcast of two types rests on the kinds at their roots: a type of a class of numbers is a leaf with the argument
-- 0. Assumes nothing.
use mathlib.Core.Path.{◌≡◌, refl, sym, ap, ap₂, subst, ◌∙◌}
use mathlib.Core.Bool.{Bool, true, false, not, ◌&&◌, ◌||◌}
use Rattle.std.specs.Prelude.{Option, Result, Ok}
use Prim.Native.Nat.{ℕ, ◌≤◌}
use native.Mathlib.Omega.{arith}
use native.Mathlib.Decide.{dec_le}
use lib.Dec.{T, eqb}
use borrow.Author.Tests.{eqb-true, eq-eqb, ne_eqb}
use Rattle.flat.specs.Kind
use Rattle.flat.specs.Argument.{argument_rule}
use Rattle.flat.specs.Tree.{DataType, leaf, list, array, struct, head_kind, head_arg}
use Rattle.flat.specs.Reading.{Reading, refused, type, root_of, RootFits}
use Rattle.flat.specs.Both.{both_of}
use Rattle.flat.specs.declared.error.Error.{Error}
use Rattle.flat.specs.declared.Node.{Node}
use Rattle.flat.proofs.Rules.{in_run, and_left, and_right, is_zero}
use Rattle.flat.proofs.Truths.{never}
use Rattle.dtype.specs.Match.{among}
use Rattle.dtype.specs.Predicate.{is_float, is_unknown_int, is_signed_integer, is_unsigned_integer, is_integer}
use Rattle.dtype.specs.Predicate.{is_unknown}
use Rattle.dtype.specs.Equality.{equal, equal_node}
use Rattle.dtype.proofs.Runs.{says, of_run}
use Rattle.supertype_answer.specs.Join.{root_node, joining, joining_roots}
use Rattle.supertype_answer.proofs.Nodes.{no_argument}
use Rattle.supertype_lossless.specs.Lossless.{upcast_where, upcast_of, lossless, found_upcast, root_upcast, lossless_of}
use Rattle.supertype_lossless.proofs.Upcasts.{other, other_none}

-- a leaf's kind is in no class of numbers, or it has the argument 0 and is no Unknown int
abbrev plain : ℕ → Bool
plain k = is_zero (argument_rule k) && not (is_unknown_int k)

other_or_plain : (k : ℕ) → k ≤ Kind.Struct → T (other k || plain k)
unfolding argument_rule among is_float is_unknown_int is_signed_integer is_unsigned_integer is_integer is_unknown
other_or_plain k h = in_run (λ k. other k || plain k) Kind.Null 31 tt k (omega arith) (omega arith)

-- equal types of such a kind are those of one kind
equal_kinds : (k : ℕ) → k ≤ Kind.UnknownIntNeg → T (plain k) → (u : DataType)
    → RootFits (Ok (root_node u))
    → equal (leaf k 0) u ≡ eqb k (head_kind u)
unfolding equal equal_node head_kind head_arg
equal_kinds k h t (leaf l b) v = go (is_unknown_int k) (and_right (is_zero (argument_rule k)) _ t) (eqb k l) refl
  where
    zero_at : k ≡ l → 0 ≡ b
    zero_at e = sym (no_argument l b (rw (← e) (and_left (is_zero (argument_rule k)) _ t)) v.1)

    go : (i : Bool) → T (not i) → (s : Bool) → eqb k l ≡ s → (i && is_unknown_int l || s && eqb 0 b) ≡ s
    go true n s e = absurd n
    go false n false e = refl
    go false n true e = eq-eqb 0 b (zero_at (eqb-true k l e))
equal_kinds k h t (list u) v = sym (ne_eqb k Kind.List (omega arith))
equal_kinds k h t (array w u) v = sym (ne_eqb k Kind.Array (omega arith))
equal_kinds k h t (struct fs) v = sym (ne_eqb k Kind.Struct (omega arith))

-- a kind of no class has one upcast, whether the types are equal or not
whichever : (b c : Bool) (k l : ℕ) → true ≡ other k → upcast_where b k l ≡ upcast_where c k l
whichever b c k l e = sym (other_none b k l e) ∙ other_none c k l e

nested : (k : ℕ) → Kind.List ≤ k → k ≤ Kind.Struct → true ≡ other k
nested k g h = of_run other true Kind.List 3 (unfold says in tt) k (omega arith)

-- a kind of a class is no nested one
low : (k : ℕ) → k ≤ Kind.Struct → other k ≡ false → k ≤ Kind.UnknownIntNeg
low k h e = go (dec_le k Kind.UnknownIntNeg)
  where
    go : Dec (k ≤ Kind.UnknownIntNeg) → k ≤ Kind.UnknownIntNeg
    go (yes l) = l
    go (no n) = never (sym (nested k (omega arith) h ∙ e))

by_kinds : (t u : DataType) → RootFits (Ok (root_node t))
    → RootFits (Ok (root_node u))
    → lossless t u ≡ upcast_of (head_kind t) (head_kind u)
unfolding lossless upcast_of head_kind head_arg
by_kinds (leaf k a) u p q = go (other k) refl (other_or_plain k p.0)
  where
    go : (x : Bool) → other k ≡ x → T (x || plain k)
        → upcast_where (equal (leaf k a) u) k (head_kind u) ≡ upcast_where (eqb k (head_kind u)) k (head_kind u)
    go true e t = whichever _ _ k (head_kind u) (sym e)
    go false e t =
        let z : a ≡ 0 = no_argument k a (and_left (is_zero (argument_rule k)) _ t) p.1 in
        ap (λ (b : Bool). upcast_where b k (head_kind u)) (rw z (equal_kinds k (low k p.0 e) t u q))
by_kinds (list t) u p q = whichever _ _ Kind.List (head_kind u) (nested Kind.List (omega arith) (omega arith))
by_kinds (array w t) u p q = whichever _ _ Kind.Array (head_kind u) (nested Kind.Array (omega arith) (omega arith))
by_kinds (struct fs) u p q = whichever _ _ Kind.Struct (head_kind u) (nested Kind.Struct (omega arith) (omega arith))

-- what is found of two readings, by their roots
by_roots : (left right : Reading) → RootFits (root_of left) → RootFits (root_of right)
    → joining_roots root_upcast (root_of left) (root_of right) ≡ joining lossless_of left right
unfolding both_of head_kind root_upcast lossless_of
by_roots (refused e) right p q = refl
by_roots (type t) (refused e) p q = refl
by_roots (type t) (type u) p q = ap found_upcast (sym (by_kinds t u p q))

pub joined : (left right : Reading) {found : Option Reading} {l r : Result Node Error} → (l ≡ root_of left) × RootFits l
    → (r ≡ root_of right) × RootFits r
    → found ≡ joining_roots root_upcast l r → found ≡ joining lossless_of left right
joined left right p q e =
    e ∙ ap₂ (joining_roots root_upcast) p.0 q.0
    ∙ by_roots left right (subst RootFits p.0 p.1) (subst RootFits q.0 q.1)
