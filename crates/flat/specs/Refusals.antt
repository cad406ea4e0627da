-- Which of the refusals 4 and 5 two arrays get, by document 01's numbers. Assumes nothing: these are definitions.
use Rattle.std.specs.Prelude.{◌≡◌, true, List, ◌↔◌, ℕ, ◌≤◌, ◌<◌}
use Rattle.flat.specs.Tree.{DataType, size, depth, kinds_of, args_of}
use Rattle.flat.specs.Reading.{length_fits, kinds_fit, arguments_fit, reading, checked_of, Ruled}
use Rattle.flat.specs.Refusal.{answer_number}

-- Two arrays are the flat form of t, a tree that keeps document 01's rules, of whatever size and depth.
pub record FlatForm (ks xs : List ℕ) (t : DataType) : Type 0 where
  pub kinds : ks ≡ kinds_of t
  pub args : xs ≡ args_of t
  pub ruled : Ruled t

-- None of 1 to 3 is given.
pub record NodesFit (nodes : ℕ) (ks xs : List ℕ) : Type 0 where
  pub lengths : length_fits nodes ks xs ≡ true
  pub kinds : kinds_fit ks ≡ true
  pub args : arguments_fit ks xs ≡ true

-- the number that two arrays get: 0 where they are a type
abbrev pub number_given : ℕ → ℕ → List ℕ → List ℕ → ℕ
number_given nodes deep ks xs = answer_number (checked_of (reading nodes deep ks xs))

pub record RefusalLaws (nodes deep : ℕ) (ks xs : List ℕ) : Type 0 where
  -- 4 exactly where none of 1 to 3 is given, and the arrays are the flat form of no tree
  pub four : (number_given nodes deep ks xs ≡ 4) ↔ (NodesFit nodes ks xs × ((t : DataType) → FlatForm ks xs t → ⊥))
  -- 5 exactly where the arrays are the flat form of a tree within the limit of nodes and deeper than the limit of depth
  pub five :
      (number_given nodes deep ks xs ≡ 5) ↔ ((t : DataType) × FlatForm ks xs t × (size t ≤ nodes) × (deep < depth t))
