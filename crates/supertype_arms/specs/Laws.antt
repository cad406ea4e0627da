-- What holds of the supertype of any two types that are not nested. Assumes nothing: these are statements, proved in
-- proofs/Recursive.antt and proofs/Decimals.antt.
use Rattle.std.specs.Prelude.{◌≡◌, Bool, true, cond, ℕ, ◌-◌, leb, ℤ, ◌≤ℤ◌, Some}
use Rattle.flat.specs.Kind.{Decimal}
use Rattle.flat.specs.Argument.{dec128_max_prec}
use Rattle.dtype.specs.Predicate.{is_unknown_int}
use Rattle.supertype_numbers.specs.Range.{Listed}
use Rattle.supertype_numbers.specs.Decimal.{digits_of}
use Rattle.flat.specs.declared.Node.{Node}
use Rattle.supertype_answer.specs.Join.{node}
use Rattle.supertype_arms.specs.declared.plan.Plan.TheVariants.{DynNumber}
use Rattle.supertype_arms.specs.Node.{precision, scale, decimal, same, fits}
use Rattle.supertype_arms.specs.Supertype.{plan_of, max_dyn, supertype_with, supertype}

-- document 02's words: a Decimal keeps its precision p and scale s where the largest number of the integer type k has
-- at most p − s digits, else its precision becomes 38
abbrev pub by_digits : Node → ℕ → Node
by_digits n k = decimal (cond (leb (digits_of k) (precision n - scale n)) (precision n) dec128_max_prec) (scale n)

pub record SupertypeLaws : Type 0 where
  -- the implode flag changes no answer: the source reads it in its nested arms alone, which take no such type
  pub implode : (i j s : Bool) (l r : Node) → supertype i s l r ≡ supertype j s l r
  -- the source's own recursion: the calls that its arms make are calls of the function itself, and their flags don't
  -- matter
  pub recursive : (i s j t : Bool) (l r : Node) → fits l ≡ true → fits r ≡ true
      → supertype i s l r ≡ supertype_with (supertype j t) s l r
  -- corner 1: two dyn ints are equal whatever they hold, so the left one returns
  pub dyn_ints : (i s : Bool) (l r : Node) → is_unknown_int l.kind ≡ true → is_unknown_int r.kind ≡ true
      → supertype i s l r ≡ Some l
  -- the arm of two dyn ints takes the larger value of the two
  pub maximum : (v w : ℤ) → v ≤ℤ w → (max_dyn v w ≡ w) × (max_dyn w v ≡ w)
  -- the arm of two dyn ints never answers: the types that would reach it are equal, which `inner` asks first
  pub no_maximum : (s : Bool) (l r : Node) → fits l ≡ true → fits r ≡ true → plan_of s l.kind r.kind ≡ Some DynNumber
      → is_unknown_int l.kind ≡ true → same l r ≡ true
  -- a Decimal with an integer type, in either order
  pub decimal_integer : (i s : Bool) (n : Node) (k : ℕ) → n.kind ≡ Decimal → fits n ≡ true → Listed k
      → (supertype i s n (node k 0) ≡ Some (by_digits n k)) × (supertype i s (node k 0) n ≡ Some (by_digits n k))
