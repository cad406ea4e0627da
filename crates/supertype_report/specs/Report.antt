-- What a report says of two columns that are to be joined. Assumes nothing: these are definitions.
use Rattle.std.specs.Prelude.{◌≡◌, cond, ◌&&◌, ◌||◌, [], ◌∷◌, ℕ, Option, None, Some, Result, Ok, Err}
use Rattle.flat.specs.Tree.{head_kind}
use Rattle.flat.specs.Reading.{Reading}
use Rattle.flat.specs.Both.{both_of, root_reading}
use Rattle.flat.specs.declared.error.Error.{Error}
use Rattle.flat.specs.declared.Node.{Node}
use Rattle.supertype_numbers.specs.Range.{Listed, is_listed, Room}
use Rattle.supertype_lossless.specs.Lossless.{upcast_of}
use Rattle.supertype_report.specs.Kept.{Kept}
use Rattle.supertype_report.specs.Laws.{uint128_with_signed, uint64_with_signed}
use Rattle.supertype_report.specs.declared.Report.{Report}

-- two listed integer types
abbrev pub Integers : ℕ → ℕ → Type 0
Integers a b = Listed a × Listed b

-- what each report says of the kinds of two valid types
abbrev pub Says : ℕ → ℕ → Report → Type 0
-- the supertype keeps every whole number of both
Says a b Report.Kept = Integers a b × Kept a b
-- the supertype doesn't, and an integer type does
Says a b Report.Avoidable = Integers a b × (Kept a b → ⊥) × Room (a ∷ b ∷ [])
-- the supertype doesn't, and no integer type does
Says a b Report.Unavoidable = Integers a b × (Kept a b → ⊥) × (Room (a ∷ b ∷ []) → ⊥)
-- the question doesn't arise
Says a b Report.NotIntegers = Integers a b → ⊥

abbrev pub by_upcast : Option ℕ → Report
by_upcast (Some k) = Report.Avoidable
by_upcast None = Report.Unavoidable

-- the report on two kinds: where UInt64 or UInt128 meets a signed type that is no wider the supertype loses numbers,
-- and the lossless upcast tells whether an integer type keeps them
unfoldable pub report_of : ℕ → ℕ → Report
report_of a b =
    cond (is_listed a && is_listed b)
    (cond (uint64_with_signed a b || uint128_with_signed a b) (by_upcast (upcast_of a b)) Report.Kept)
    Report.NotIntegers

-- exactly one report is so, and it is the definition's (proved in proofs/Settled.antt)
pub record ReportLaws : Type 0 where
  pub means : (a b : ℕ) → Says a b (report_of a b)
  pub only : (a b : ℕ) (r : Report) → Says a b r → r ≡ report_of a b

-- the report on two types: the left through 1 to 5, then the right, then the report on their kinds
unfoldable pub types_report : Reading → Reading → Result Report Error
types_report left right = both_of Err (λ t u. Ok (report_of (head_kind t) (head_kind u))) left right

-- the report on two types told by their roots
abbrev pub roots_report : Result Node Error → Result Node Error → Result Report Error
roots_report left right = types_report (root_reading left) (root_reading right)

-- document 01's value of a report
abbrev pub report_value : Report → ℕ
report_value Report.Kept = 0
report_value Report.Avoidable = 1
report_value Report.Unavoidable = 2
report_value Report.NotIntegers = 3
