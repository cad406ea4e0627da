-- What a call comes to that joins two types: by their roots, and in the lent arrays. Assumes nothing.
use mathlib.Core.Path.{◌≡◌, refl, sym, ap, ◌∙◌}
use mathlib.Core.List.{List}
use Rattle.std.specs.Prelude.{Option, Some, Result, Ok, Err}
use Prim.Native.Nat.{ℕ}
use native.Mathlib.Omega.{arith}
use lib.ListN.{length, set}
use Rattle.flat.specs.Tree.{DataType, size, kinds_of, args_of}
use Rattle.flat.specs.Reading.{Reading, refused, root_of}
use Rattle.flat.specs.Both.{both_of, root_reading}
use Rattle.flat.specs.Output.{kinds_over, args_over, fitting_found, WritesFound}
use Rattle.flat.specs.declared.error.Error.{Error}
use Rattle.flat.specs.declared.error.Error.TheVariants.{OutputTooShort}
use Rattle.flat.specs.declared.Node.{Node}
use Rattle.flat.proofs.Outputs.{few_kinds, few_args, room, found_refused}
use Rattle.flat.proofs.Pairs as pairs
use Rattle.flat.proofs.Truths.{over_one, handed_on}
use Rattle.supertype_answer.specs.Join.{node, type_of, root_node, result_of, joining, joining_roots}

-- ---- two roots: a refusal of the left, of the right, or what the rule says

-- a refusal that is handed on
abbrev pub Handed : {T : Type 0} → Result T Error → Error → Type 0
Handed d e = (y : Error) × (d ≡ Err y) × (y ≡ e)

module _ {T A : Type 0} (read : Result T Error → A) (rule : DataType → DataType → A) where
  -- what the roots come to
  abbrev pub roots_come_to : Result Node Error → Result Node Error → A
  roots_come_to l r = both_of (λ e. read (Err e)) rule (root_reading l) (root_reading r)

  module _ {l : Result Node Error} {d : Result T Error} {e : Error} (r : Result Node Error) (given : Handed d e) where
    pub left_refused : l ≡ Err e → read d ≡ roots_come_to l r
    left_refused h = ap read (handed_on given) ∙ sym (pairs.left_refused _ _ _ _ (ap root_reading h))

    pub right_refused : {n : Node} → l ≡ Ok n → r ≡ Err e → read d ≡ roots_come_to l r
    right_refused f h =
        ap read (handed_on given) ∙ sym (pairs.right_refused _ _ _ _ (ap root_reading f) (ap root_reading h))

  pub both_roots : {l r : Result Node Error} {n m : Node} → l ≡ Ok n → r ≡ Ok m
      → rule (type_of n) (type_of m) ≡ roots_come_to l r
  both_roots f h = sym (pairs.both_types _ _ _ _ (ap root_reading f) (ap root_reading h))

-- what a rule finds that rests on the two roots alone
pub joining_roots_lem : (rule : Node → Node → Option Reading) (left right : Reading)
    → joining (λ t u. rule (root_node t) (root_node u)) left right ≡ joining_roots rule (root_of left) (root_of right)
joining_roots_lem rule = pairs.by_roots (λ e. Some (refused e)) (λ k a l b. rule (node k a) (node l b))

-- ---- what is written
module _ {found : Result (Option Node) Error} {n : Node} (is : found ≡ Ok (Some n)) (ks xs : List ℕ) where
  -- what there is room for
  abbrev fitted : Option Reading
  fitted = fitting_found (length ks) (length xs) (result_of found)

  pub kinds_too_short : length ks ≡ 0 → WritesFound fitted ks xs ks xs (Err OutputTooShort)
  unfolding size
  kinds_too_short h = rw is (found_refused (ap Some (few_kinds _ _ (type_of n) (omega arith))))

  module _ (some-kinds : length ks ≡ 0 → ⊥) where
    pub args_too_short : length xs ≡ 0 → WritesFound fitted ks xs ks xs (Err OutputTooShort)
    unfolding size
    args_too_short h = rw is (found_refused (ap Some (few_args _ _ (type_of n) (omega arith) (omega arith))))

    pub one_node : (length xs ≡ 0 → ⊥) → WritesFound fitted ks xs (set ks 0 n.kind) (set xs 0 n.arg) (Ok (Some 1))
    unfolding size kinds_of args_of kinds_over args_over
    one_node h =
        rw (is, room (length ks) (length xs) (type_of n) (omega arith) (omega arith))
        (record { answers = refl; kinds = over_one ks (omega arith) n.kind; args = over_one xs (omega arith) n.arg })
