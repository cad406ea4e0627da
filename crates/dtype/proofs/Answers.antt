-- What the answers come to: the kinds of a valid type tell what a predicate says of it. Assumes nothing.
use mathlib.Core.Path.{◌≡◌, sym, ap, ◌∙◌}
use mathlib.Core.Bool.{Bool, true, not, not-not}
use mathlib.Core.List.{List}
use Prim.Native.Nat.{ℕ, ◌≤◌, ◌<◌}
use native.Mathlib.Omega.{arith}
use lib.ListN.{length, get_or}
use Rattle.flat.specs.Tree.{head_kind}
use Rattle.flat.specs.Reading.{reading, checked_of, one_plain}
use Rattle.flat.specs.declared.error.Error.{Error}
use Rattle.std.specs.Prelude.{Result, Ok}
use Rattle.flat.proofs.Meaning.{Passed, check_passed, root_kind_lem}
use Rattle.flat.proofs.Plain.{plain_type}
use Rattle.dtype.specs.Predicate.{is_temporal, is_float, is_signed_integer, is_unsigned_integer, is_integer}
use Rattle.dtype.specs.Predicate.{is_primitive_numeric, is_primitive, is_nested, is_string, is_unknown}
use Rattle.dtype.specs.Predicates.{predicate_of, told_by}
use Rattle.dtype.specs.Answer.{answer_of}
use Rattle.dtype.specs.declared.predicate.Predicate.{Predicate}
use Rattle.dtype.proofs.Trees.{scanned, contains_unknown_lem, not_known, contains_list, is_logical_lem}

-- Two arrays that are a type.
module _ {nodes deep : ℕ} {ks xs : List ℕ} (v : Passed nodes deep ks xs) where
  pub some_node : 0 < length ks
  some_node = omega (arith, v.valid)

  at_root : (p : ℕ → Bool) → p (get_or ks 0 0) ≡ p (head_kind v.tree)
  at_root p = ap p (sym (root_kind_lem v))

  pub told : (p : Predicate) → told_by p ks ≡ predicate_of p v.tree
  told Predicate.IsNested = at_root is_nested
  told Predicate.IsKnown = ap not (scanned not_known nodes deep ks xs v.tree v.reads) ∙ not-not _
  told Predicate.IsLogical = scanned is_logical_lem nodes deep ks xs v.tree v.reads
  told Predicate.IsPrimitive = at_root is_primitive
  told Predicate.IsPrimitiveNumeric = at_root is_primitive_numeric
  told Predicate.IsTemporal = at_root is_temporal
  told Predicate.IsFloat = at_root is_float
  told Predicate.IsInteger = at_root is_integer
  told Predicate.IsSignedInteger = at_root is_signed_integer
  told Predicate.IsUnsignedInteger = at_root is_unsigned_integer
  told Predicate.IsString = at_root is_string
  told Predicate.IsUnknown = at_root is_unknown
  told Predicate.ContainsUnknown = scanned contains_unknown_lem nodes deep ks xs v.tree v.reads
  told Predicate.ContainsListRecursive = scanned contains_list nodes deep ks xs v.tree v.reads

-- what the test for a plain leaf tells, and a check
module _ (nodes deep : ℕ) (ks xs : List ℕ) where
  pub plain_passed : 1 ≤ nodes → {b : Bool} → b ≡ one_plain ks xs → b ≡ true → Passed nodes deep ks xs
  plain_passed h e t = (plain_type nodes deep ks xs h (sym e ∙ t)).passed

  pub valid_passed : {a : Result (Unit {0}) Error} → a ≡ checked_of (reading nodes deep ks xs) → a ≡ Ok tt
      → Passed nodes deep ks xs
  valid_passed e v = check_passed (sym v ∙ e)

  pub valid_even : {a : Result (Unit {0}) Error} → a ≡ checked_of (reading nodes deep ks xs) → a ≡ Ok tt → length ks ≡ length xs
  valid_even e v = (valid_passed e v).even

pub plain_some : (ks xs : List ℕ) {b : Bool} → b ≡ one_plain ks xs → b ≡ true → 0 < length ks
plain_some ks xs e t = some_node (plain_passed 1 0 ks xs (omega arith) e t)

-- the answer where they are a type
module _ (p : Predicate) (nodes deep : ℕ) (ks xs : List ℕ) where
  pub answered : Passed nodes deep ks xs → {b : Bool} → b ≡ told_by p ks
      → Ok b ≡ answer_of (predicate_of p) (reading nodes deep ks xs)
  answered v s = ap Ok (s ∙ told v p) ∙ ap (answer_of (predicate_of p)) (sym v.reads)
