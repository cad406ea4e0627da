-- The fields of two Structs: by how many they are, by the places of their names, by their names. Assumes nothing.
use mathlib.Core.Path.{◌≡◌, refl, sym, ap, ◌∙◌}
use mathlib.Core.Bool.{Bool, true, false, not}
use mathlib.Core.List.{[]}
use Rattle.std.specs.Prelude.{Option, None, Some}
use Rattle.std.specs.Option.{option_or}
use Prim.Native.Nat.{◌<◌}
use native.Mathlib.Omega.{arith}
use borrow.Author.Tests.{lt-ltb, le-ltb, not-true}
use Rattle.flat.specs.Tree.{Fields, count}
use Rattle.supertype_nested.specs.Nested.{TreeCall, Zip, names_differ, no_join, joined, zip_fields, union_fields}
use Rattle.supertype_nested.specs.Step.{Fair, zip_either, in_place, repeats}
use Rattle.supertype_nested.proofs.Plain.{distinct, in_place_lem, plain_union}
use Rattle.supertype_step.specs.Decided.{either_fields}
use Rattle.supertype_walk.proofs.Going.{zip_o}

-- ---- by the counts

module _ (c : TreeCall) (fs gs : Fields) where
  by_right : count fs < count gs → either_fields c fs gs ≡ union_fields c gs fs
  unfolding either_fields
  by_right h = rw (lt-ltb (count fs) (count gs) h) refl

  by_left : count gs < count fs → either_fields c fs gs ≡ union_fields c fs gs
  unfolding either_fields
  by_left h = rw (le-ltb (count fs) (count gs) (omega arith), lt-ltb (count gs) (count fs) h) refl

  as_many : count fs ≡ count gs
      → either_fields c fs gs ≡ zip_either (union_fields c fs gs) (union_fields c gs fs) (zip_fields c fs gs)
  unfolding either_fields
  as_many e = rw (le-ltb (count fs) (count gs) (omega arith), le-ltb (count gs) (count fs) (omega arith)) refl

  -- the right one is the longest
  pub right_longer : count fs < count gs → union_fields c gs fs ≡ either_fields c fs gs
  right_longer h = sym (by_right h)

  -- the left one is
  pub left_longer : count gs < count fs → union_fields c fs gs ≡ either_fields c fs gs
  left_longer h = sym (by_left h)

  module _ (e : count fs ≡ count gs) where
    -- by what the loop over both comes to
    by_zip : (z : Zip) → zip_fields c fs gs ≡ z
        → zip_either (union_fields c fs gs) (union_fields c gs fs) z ≡ either_fields c fs gs
    by_zip z h = sym (as_many e ∙ ap (zip_either (union_fields c fs gs) (union_fields c gs fs)) h)

    -- the loop's fields
    pub zip_decides : {hs : Fields} → zip_fields c fs gs ≡ joined hs → zip_fields c fs gs ≡ zip_o (either_fields c fs
        gs)
    zip_decides {hs} h = h ∙ ap zip_o (by_zip (joined hs) h)

    -- the loop's None
    pub zip_ends : zip_fields c fs gs ≡ no_join → zip_fields c fs gs ≡ zip_o (either_fields c fs gs)
    zip_ends h = h ∙ ap zip_o (by_zip no_join h)

    module _ (a : zip_fields c fs gs ≡ names_differ) where
      -- names differ, and the first union has fields
      pub union_decides : {hs : Fields} → union_fields c fs gs ≡ Some hs → union_fields c fs gs ≡ either_fields c fs gs
      union_decides h =
          h ∙ ap (λ (q : Option Fields). option_or q (union_fields c gs fs)) (sym h) ∙ by_zip names_differ a

      -- the first union is None: the other order
      pub union_turned : union_fields c fs gs ≡ None → union_fields c gs fs ≡ either_fields c fs gs
      union_turned h =
          ap (λ (q : Option Fields). option_or q (union_fields c gs fs)) (sym h) ∙ by_zip names_differ a

    module _ (fair : Fair c) where
      -- each name in its place: the loop decides
      pub zip_in_place : in_place fs gs ≡ true → zip_fields c fs gs ≡ zip_o (either_fields c fs gs)
      zip_in_place p = go (zip_fields c fs gs) refl
        where
          go : (z : Zip) → zip_fields c fs gs ≡ z → zip_fields c fs gs ≡ zip_o (either_fields c fs gs)
          go names_differ h = absurd (in_place_lem c fair fs gs p h)
          go no_join h = zip_ends h
          go (joined hs) h = zip_decides h

      -- no name repeated and one out of place: the first union decides
      pub one_order : repeats [] fs ≡ false → repeats [] gs ≡ false → in_place fs gs ≡ false
          → union_fields c fs gs ≡ either_fields c fs gs
      one_order a b p = sym (as_many e ∙ plain_union c fair fs gs (distinct fs a) (distinct gs b) p)

-- what entering the names told
pub all_distinct : {r : Bool} (fs : Fields) → r ≡ not (repeats [] fs) → r ≡ true → repeats [] fs ≡ false
all_distinct fs e t = not-true (repeats [] fs) (sym e ∙ t)
