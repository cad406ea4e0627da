-- Bytes that are one plain leaf: what the test comes to, and what it tells. Assumes nothing.
use mathlib.Core.Path.{◌≡◌, refl, sym, ap, ◌∙◌}
use mathlib.Core.Bool.{Bool, true, false, ◌&&◌}
use mathlib.Core.List.{List, [], ◌∷◌}
use Prim.Native.Nat.{ℕ, ◌≤◌, ◌<◌}
use Rattle.std.specs.Prelude.{Option, None, Some, nat_eq, Ok}
use Rattle.std.specs.Option.{option_eq}
use native.Mathlib.Omega.{arith}
use borrow.Author.Rules.{part_to_end}
use borrow.Author.Tests.{eqb-true}
use lib.ListN.{length, get_or, take, drop}
use lib.Seq.{drop-cons}
use Rattle.flat.specs.Kind
use Rattle.flat.specs.Argument.{plain_leaf}
use Rattle.flat.specs.Tree.{leaf, head_kind, head_arg}
use Rattle.flat.specs.Reading.{type, one_plain, root_of, RootFits}
use Rattle.flat.specs.declared.Node.{Node}
use Rattle.flat.proofs.Truths.{both_true, impossible}
use Rattle.flat.proofs.Plain.{kinds_told, plain_fits, PlainType, plain_type}
use Rattle.encoded.specs.Encoding.{number, args_from, kinds_in, args_in, size_fits, decoding}
use Rattle.encoded.specs.Answer.{nodes_in, plain_in}
use Rattle.encoded.proofs.Answers.{Sized, sized, size_fits_lem, kinds_part, args_part, kinds_length, decoding_sized}
use Rattle.encoded.proofs.Answers.{nodes_sized}

-- ---- bytes of one node

-- what `== Some(1)` tells
pub is_one : (o : Option ℕ) → option_eq nat_eq o (Some 1) ≡ true → Some 1 ≡ o
is_one None e = impossible cc
is_one (Some n) e = ap Some (sym (eqb-true n 1 e))

pub not_one : (o : Option ℕ) → false ≡ option_eq nat_eq o (Some 1) → o ≡ Some 1 → ⊥
not_one o e h = let f : false ≡ option_eq nat_eq (Some 1) (Some 1) = rw h at e in impossible cc

module _ {w nodes : ℕ} {s : List ℕ} (z : Sized w nodes 1 s) where
  one_kind : kinds_in s ≡ get_or s 2 0 ∷ []
  one_kind = rw (← kinds_part z, drop-cons s 2 0 (omega (arith, z.size)))

  one_arg : args_in w s ≡ number (take w (drop 3 s)) ∷ []
  unfolding args_from
  one_arg = rw (← args_part z, part_to_end)

  -- the test of the one node is the test of the bytes
  pub one_told : plain_leaf (get_or s 2 0) (number (take w (drop 3 s))) ≡ plain_in w nodes s
  unfolding plain_in one_plain
  one_told = rw (size_fits_lem z, one_kind, one_arg)

-- bytes of any other number of nodes are no plain leaf
pub others_told : (w nodes : ℕ) (s : List ℕ) → (nodes_in w nodes s ≡ Some 1 → ⊥) → false ≡ plain_in w nodes s
unfolding plain_in
others_told w nodes s h = go (size_fits w nodes s) refl
  where
    go : (b : Bool) → size_fits w nodes s ≡ b → false ≡ b && one_plain (kinds_in s) (args_in w s)
    go true f = let z = sized w nodes s f in kinds_told _ _ (λ l. h (nodes_sized z ∙ ap Some (sym (kinds_length z) ∙ l)))
    go false f = refl

-- What the test tells of the bytes s: they hold the one leaf, with the argument 0, and that is a type.
pub record PlainBytes (w nodes : ℕ) (s : List ℕ) : Type 0 where
  pub sized : Sized w nodes 1 s
  pub long : 3 ≤ length s
  pub count : nodes_in w nodes s ≡ Some 1
  pub kinds : kinds_in s ≡ get_or s 2 0 ∷ []
  pub args : args_in w s ≡ 0 ∷ []
  pub plain : plain_leaf (get_or s 2 0) 0 ≡ true
  pub low : get_or s 2 0 < Kind.List
  pub reads : (deep : ℕ) → decoding w nodes deep s ≡ type (leaf (get_or s 2 0) 0)

pub plain_bytes : {w nodes : ℕ} {s : List ℕ} → plain_in w nodes s ≡ true → PlainBytes w nodes s
unfolding plain_in one_plain
plain_bytes {w} {nodes} {s} e =
    let both = both_true (size_fits w nodes s) (one_plain (kinds_in s) (args_in w s)) e in
    let z = sized w nodes s both.0 in
    let p : (deep : ℕ) → PlainType nodes deep (kinds_in s) (args_in w s) = λ deep. plain_type nodes deep _ _ (omega (arith, z.some, z.few)) both.1 in
    let one : Sized w nodes 1 s = rw (sym (kinds_length z) ∙ ap length (p 0).kinds) at z in
    let k = one_kind one in
    record {
      sized = one;
      long = omega (arith, one.size);
      count = nodes_sized one;
      kinds = k;
      args = (p 0).args;
      plain = rw (k, (p 0).args) at both.1;
      low = rw k at (p 0).low;
      reads = λ deep. rw (decoding_sized one, k) (rw k at (p deep).reads);
    }

-- the root of a plain leaf
abbrev pub plain : List ℕ → Node
plain s = record { kind = get_or s 2 0; arg = 0 }

pub plain_root :
    {w nodes : ℕ} (deep : ℕ) {s : List ℕ} → PlainBytes w nodes s
    → (Ok (plain s) ≡ root_of (decoding w nodes deep s)) × RootFits (Ok (plain s))
unfolding head_kind head_arg
plain_root deep p = (ap root_of (sym (p.reads deep)), (omega (arith, p.low), (plain_fits _ _ p.plain).2))
