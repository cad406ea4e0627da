-- What a read up to a limit gives of bytes that are known. Assumes nothing.
use Rattle.std.proofs.Common.{◌≡◌, ℕ, List, [], ◌++◌, take, IfSome, Option, Some, None}
use Rattle.std.specs.Option.{option_map}
use Rattle.std.specs.declared.io.traits.Take.{Take}
use Rattle.std.specs.Io.Take.{take_limit, take_inner, take_remaining}

-- the bytes read are all that are left of the first n
first_bytes : (known : Option (List ℕ)) (n : ℕ) (bytes : List ℕ)
    → IfSome (option_map (take n) known) (λ xs. bytes ≡ [] ++ xs)
    → IfSome known (λ xs. bytes ≡ take n xs)
first_bytes None n bytes h = h
first_bytes (Some xs) n bytes h = h

pub read_first : {R : Type 0} (remaining : R → Option (List ℕ)) (input : R) (n : ℕ) (limited : Take R) (start bytes : List ℕ)
    → take_limit limited ≡ n → take_inner limited ≡ input → start ≡ []
    → IfSome (take_remaining remaining limited) (λ xs. bytes ≡ start ++ xs)
    → IfSome (remaining input) (λ xs. bytes ≡ take n xs)
read_first remaining input n limited start bytes limit inner empty h =
    rw (← inner, ← limit)
    (first_bytes (remaining (take_inner limited)) (take_limit limited) bytes (rw empty at h))
