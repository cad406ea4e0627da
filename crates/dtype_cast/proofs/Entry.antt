-- From two types that were checked, and the answer of the scan or of the walk, to the verdict. Assumes nothing.
use mathlib.Core.Path.{◌≡◌, refl, sym, ap, ap₂, ◌∙◌}
use mathlib.Core.Bool.{Bool, true, false}
use Rattle.std.specs.Prelude.{Option, None, Some, Ok, Err}
use mathlib.Core.List.{List}
use Prim.Native.Nat.{ℕ}
use Rattle.flat.specs.Tree.{DataType, size}
use Rattle.flat.specs.Walk.{Valid, type_at}
use Rattle.flat.specs.Reading.{Reading, type}
use Rattle.flat.proofs.Meaning.{Passed}
use Rattle.flat.proofs.Truths.{impossible}
use Rattle.flat.proofs.Pairs.{both_types}
use Rattle.dtype_cast.specs.Cast.{can_cast_to}
use Rattle.dtype_cast.specs.Walk.{cast_with, cast_answer}
use Rattle.dtype_cast.specs.Scan.{all_yes}
use Rattle.dtype_cast.specs.Verdict.{cast_of}
use Rattle.dtype_cast.specs.declared.walk.NotYes.TheVariants.{No, NoVerdict}
use Rattle.dtype_cast.proofs.Scans.{all_yes_lem}

-- the verdict of an answer of the walk
pub walked_yes : {p : ℕ × ℕ} (t u : DataType) → Ok p ≡ cast_answer t u → Some true ≡ can_cast_to t u
unfolding cast_answer
walked_yes {p} t u e = go (can_cast_to t u) e
  where
    go : (o : Option Bool) → Ok p ≡ cast_with o (size t) (size u) → Some true ≡ o
    go None e = impossible cc
    go (Some false) e = impossible cc
    go (Some true) e = refl

pub walked_no : (t u : DataType) → Err No ≡ cast_answer t u → Some false ≡ can_cast_to t u
unfolding cast_answer
walked_no t u e = go (can_cast_to t u) e
  where
    go : (o : Option Bool) → Err No ≡ cast_with o (size t) (size u) → Some false ≡ o
    go None e = impossible cc
    go (Some false) e = refl
    go (Some true) e = impossible cc

pub walked_unsure : (t u : DataType) → Err NoVerdict ≡ cast_answer t u → None ≡ can_cast_to t u
unfolding cast_answer
walked_unsure t u e = go (can_cast_to t u) e
  where
    go : (o : Option Bool) → Err NoVerdict ≡ cast_with o (size t) (size u) → None ≡ o
    go None e = refl
    go (Some false) e = impossible cc
    go (Some true) e = impossible cc

pub scanned : {ks xs ls ys : List ℕ} {r : Bool} → Valid ks xs → Valid ls ys → r ≡ all_yes ks xs ls ys → r ≡ true
    → Some true ≡ can_cast_to (type_at ks xs) (type_at ls ys)
scanned v w e f = sym (all_yes_lem v w (sym e ∙ f))

-- The verdict on the types at the front is that of a call on what the arrays were read from, flat or encoded.
pub checked_verdict : {nodes deep : ℕ} {ks xs ls ys : List ℕ}
    (from : Passed nodes deep ks xs) (to : Passed nodes deep ls ys)
    → {left right : Reading} → left ≡ type from.tree → right ≡ type to.tree
    → {v : Option Bool} → v ≡ can_cast_to (type_at ks xs) (type_at ls ys) → Ok v ≡ cast_of left right
checked_verdict from to {left} {right} p q e =
    ap Ok (e ∙ ap₂ can_cast_to from.front to.front)
    ∙ sym (both_types Err (λ t u. Ok (can_cast_to t u)) left right p q)
