-- What the scans over the nodes of two flat types say. proofs/Scans.antt tells what that is of the types.
-- Assumes nothing: these are definitions.
use Rattle.std.specs.Prelude.{Bool, true, false, ◌&&◌, ◌||◌, List, [], ◌∷◌, ℕ, eqb, length}
use Rattle.dtype.specs.Equality.{equal_node}

-- The nodes of the kinds ls and the arguments ys stand at the front of those of ks and xs: each is equal to the node in
-- its place.
unfoldable pub starts_with : List ℕ → List ℕ → List ℕ → List ℕ → Bool
starts_with ks xs [] ys = true
starts_with ks xs (l ∷ ls) [] = true
starts_with [] xs (l ∷ ls) (b ∷ ys) = false
starts_with (k ∷ ks) [] (l ∷ ls) (b ∷ ys) = false
starts_with (k ∷ ks) (a ∷ xs) (l ∷ ls) (b ∷ ys) = equal_node k a l b && starts_with ks xs ls ys

-- The nodes of ls and ys are as many as those of ks and xs, and each is equal to the node in its place.
unfoldable pub alike : List ℕ → List ℕ → List ℕ → List ℕ → Bool
alike ks xs ls ys = eqb (length ks) (length ls) && eqb (length ls) (length ys) && starts_with ks xs ls ys

-- The nodes of ls and ys stand among those of ks and xs somewhere: at the front, or after some of them.
unfoldable pub occurs : List ℕ → List ℕ → List ℕ → List ℕ → Bool
occurs [] xs ls ys = starts_with [] xs ls ys
occurs (k ∷ ks) [] ls ys = starts_with (k ∷ ks) [] ls ys
occurs (k ∷ ks) (a ∷ xs) ls ys = starts_with (k ∷ ks) (a ∷ xs) ls ys || occurs ks xs ls ys
