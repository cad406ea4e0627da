-- The arms of a merge, each under the tests that lead to it. Assumes nothing.
use Rattle.std.specs.Prelude.{Result, Ok, Err}
use Rattle.channels.specs.Merge.{Merged}
use mathlib.Core.Path.{◌≡◌, refl, ap, ◌∙◌}
use mathlib.Core.Bool.{true, false, ◌||◌}
use Prim.Native.Nat.{ℕ, ◌≤◌, ◌<◌}
use native.Mathlib.Omega.{arith}
use lib.Dec.{eqb}
use lib.ListN.{get_or}
use borrow.Author.Tests.{eq-eqb, ne_eqb, lt-ltb, le-ltb}
use Rattle.flat.specs.Kind
use Rattle.flat.specs.Tree.{head_kind}
use Rattle.flat.specs.Reading.{Reading, refused, type, root_of}
use Rattle.flat.specs.declared.Node.{Node}
use Rattle.flat.specs.declared.error.Error.{Error}
use Rattle.flat.specs.declared.error.Error.TheVariants.{Channel, ChannelCode, NotInteger}
use Rattle.supertype_numbers.specs.Range.{Listed, is_listed}
use Rattle.supertype_numbers.proofs.Tests.{listed}
use Rattle.supertype_lossless.specs.Lossless.{upcast_of}
use Rattle.channels.specs.declared.ChannelTypes.{ChannelTypes}
use Rattle.channels.specs.declared.Outcome.{Outcome}
use Rattle.flat.specs.Both.{root_reading}
use Rattle.channels.specs.Merge.{upcast_held, merged_with, merged_of, outcome_with, outcome_of}

-- a channel that holds h is offered the kind k
module _ (h k : ℕ) where
  pub bad_code : eqb h 0 || is_listed h ≡ false → Err ChannelCode ≡ merged_with h k
  unfolding merged_with
  bad_code p = rw p

  -- past 10
  module _ (p : eqb h 0 || is_listed h ≡ true) where
    pub null : k ≡ Kind.Null → Ok h ≡ merged_with h k
    unfolding merged_with
    null e = rw (p, eq-eqb k Kind.Null e)

    pub not_integer : (k ≡ Kind.Null → ⊥) → is_listed k ≡ false → Err NotInteger ≡ merged_with h k
    unfolding merged_with
    not_integer n q = rw (p, ne_eqb k Kind.Null n, q)

-- a kind k offered to a channel that holds h, which neither 10 nor 11 refuses
pub record Taken (h k : ℕ) : Type 0 where
  pub code : eqb h 0 || is_listed h ≡ true
  pub integer : is_listed k ≡ true

module _ {h k : ℕ} (w : Taken h k) where
  not_null : eqb k Kind.Null ≡ false
  not_null = let l : Listed k = listed w.integer in ne_eqb k Kind.Null (omega arith)

  pub first : h ≡ 0 → Ok k ≡ merged_with h k
  unfolding merged_with
  first e = rw (w.code, not_null, w.integer, eq-eqb h 0 e)

  module _ (n : h ≡ 0 → ⊥) where
    pub equal : h ≡ k → Ok h ≡ merged_with h k
    unfolding merged_with
    equal e = rw (w.code, not_null, w.integer, ne_eqb h 0 n, eq-eqb h k e)

    pub upcast : (h ≡ k → ⊥) → upcast_held (upcast_of h k) ≡ merged_with h k
    unfolding merged_with
    upcast d = rw (w.code, not_null, w.integer, ne_eqb h 0 n, ne_eqb h k d)

-- ---- a merge

module _ (n : ℕ) (s : ChannelTypes) (ch : ℕ) where
  -- by the answer that the definition gives
  told : (r : Reading) {a : Merged} → a ≡ merged_of n s.codes ch r → outcome_with s ch a ≡ outcome_of n s ch r
  unfolding outcome_of
  told r e = ap (outcome_with s ch) e

  -- a column told by its root
  module _ {column : Result Node Error} where
    pub refused_column : {e : Error} → column ≡ Err e
        → outcome_with s ch (Err e) ≡ outcome_of n s ch (root_reading column)
    unfolding merged_of
    refused_column c = told (root_reading column) (rw c)

    module _ {root : Node} (c : column ≡ Ok root) where
      pub no_channel : n ≤ ch → outcome_with s ch (Err Channel) ≡ outcome_of n s ch (root_reading column)
      unfolding merged_of head_kind
      no_channel h = told (root_reading column) (rw (c, le-ltb ch n h))

      pub on_channel : {m : Merged} → ch < n → m ≡ merged_with (get_or s.codes ch 0) root.kind
          → outcome_with s ch m ≡ outcome_of n s ch (root_reading column)
      unfolding merged_of head_kind
      on_channel h e = told (root_reading column) (rw (c, lt-ltb ch n h) e)

  -- a merge looks at the root of a column's type alone
  of_root : (r : Reading) → outcome_of n s ch (root_reading (root_of r)) ≡ outcome_of n s ch r
  unfolding outcome_of merged_of head_kind
  of_root (refused e) = refl
  of_root (type t) = refl

  pub by_root : (r : Reading) {column : Result Node Error} {o : Outcome} → column ≡ root_of r
      → o ≡ outcome_of n s ch (root_reading column) → o ≡ outcome_of n s ch r
  by_root r e m = m ∙ ap (λ (c : Result Node Error). outcome_of n s ch (root_reading c)) e ∙ of_root r
