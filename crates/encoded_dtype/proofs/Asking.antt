-- What a predicate says of an encoded type, told by the kinds that stand in the bytes. Assumes nothing.
use mathlib.Core.Path.{◌≡◌, sym, ap, ◌∙◌}
use mathlib.Core.Bool.{Bool}
use mathlib.Core.List.{List}
use Rattle.std.specs.Prelude.{Ok}
use Prim.Native.Nat.{ℕ, ◌<◌}
use lib.ListN.{length}
use Rattle.flat.specs.Tree.{size}
use Rattle.flat.specs.Reading.{checked_of}
use Rattle.flat.proofs.Meaning.{Passed, check_passed}
use Rattle.encoded.specs.Encoding.{kinds_in, args_in, decoding}
use Rattle.encoded.proofs.Answers.{decoding_sized, EncodedForm, type_form}
use Rattle.encoded.proofs.Plain.{PlainBytes}
use Rattle.dtype.specs.Predicates.{predicate_of, told_by}
use Rattle.dtype.specs.Answer.{answer_of}
use Rattle.dtype.specs.declared.predicate.Predicate.{Predicate}
use Rattle.dtype.proofs.Answers.{some_node, answered}

-- one plain leaf is a type of one node
pub plain_node : {w nodes : ℕ} (deep : ℕ) {s : List ℕ} → PlainBytes w nodes s → EncodedForm w nodes deep 1 s
unfolding size
plain_node deep p = type_form _ (p.reads deep)

-- where ks are the kinds of the type
module _ {w nodes deep n : ℕ} {s ks : List ℕ} (f : EncodedForm w nodes deep n s) (e : ks ≡ kinds_in s) where
  passed : Passed nodes deep (kinds_in s) (args_in w s)
  passed = check_passed (ap checked_of (sym f.reads ∙ decoding_sized f.sized deep))

  pub some_kind : 0 < length ks
  some_kind = rw e (some_node passed)

  pub asked : (p : Predicate) {b : Bool} → b ≡ told_by p ks → Ok b ≡ answer_of (predicate_of p) (decoding w nodes deep s)
  asked p h =
      answered p nodes deep (kinds_in s) (args_in w s) passed (h ∙ ap (told_by p) e)
      ∙ ap (answer_of (predicate_of p)) (sym (decoding_sized f.sized deep))
