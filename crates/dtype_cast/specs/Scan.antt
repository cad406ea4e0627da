-- What the scan over two types at once says; proofs/Scans.antt tells what that is of the types. Assumes nothing: these
-- are definitions.
use Rattle.std.specs.Prelude.{Bool, true, false, cond, ◌&&◌, ◌||◌, List, [], ◌∷◌, ℕ, eqb}
use Rattle.flat.specs.Kind
use Rattle.dtype.specs.Predicate.{is_primitive_numeric}

-- Two nodes say yes: of one kind, with equal arguments or two fields, whose names don't count; of two kinds, both
-- primitive numeric types.
unfoldable pub node_yes : ℕ → ℕ → ℕ → ℕ → Bool
node_yes k a l b = cond (eqb k l) (eqb a b || eqb k Kind.Field) (is_primitive_numeric k && is_primitive_numeric l)

-- There are as many nodes on either side, and each two say yes.
unfoldable pub all_yes : List ℕ → List ℕ → List ℕ → List ℕ → Bool
all_yes [] xs [] ys = true
all_yes [] xs (l ∷ ls) ys = false
all_yes (k ∷ ks) xs [] ys = false
all_yes (k ∷ ks) [] (l ∷ ls) ys = false
all_yes (k ∷ ks) (a ∷ xs) (l ∷ ls) [] = false
all_yes (k ∷ ks) (a ∷ xs) (l ∷ ls) (b ∷ ys) = node_yes k a l b && all_yes ks xs ls ys
