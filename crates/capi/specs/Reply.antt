-- What the C entry points are given, and their replies: document 01's number, and a value beside it. The limits and the
-- width of an argument are the code's own. Assumes nothing: these are definitions.
use Rattle.std.specs.Prelude.{◌≡◌, ℕ, Bool, not, eqb, List, length, Option, Result, unwrap_or}
use Rattle.flat.specs.declared.TheConstants.Flat.{MAX_NODES, MAX_DEPTH}
use Rattle.flat.specs.Reading.{Reading, reading}
use Rattle.flat.specs.Output.{fitting, Writes, fitting_found, WritesFound}
use Rattle.encoded.specs.declared.TheConstants.Encoding.{ARGUMENT_BYTES}
use Rattle.encoded.specs.Encoding.{decoding}
use Rattle.encoded.specs.Answer.{fitting_bytes, Encodes}
use Rattle.encoded.specs.Found.{fitting_found_bytes, EncodesFound}
use Rattle.flat.specs.Reply.{reply_of, nothing, truth, decision}
use Rattle.flat.specs.declared.error.Error.{Error}
use Rattle.flat.specs.declared.reply.Reply.{Reply}
use Rattle.dtype.specs.TimeUnit.{unit_number}
use Rattle.dtype.specs.declared.time_unit.TimeUnit.{TimeUnit}
use Rattle.supertype_report.specs.Report.{report_value}
use Rattle.supertype_report.specs.declared.Report.{Report}
use Rattle.channels.specs.declared.Outcome.{Outcome}
use Rattle.capi.specs.declared.channel.TypesReply.{TypesReply}

-- what two arrays are, and what bytes are
abbrev pub read_flat : (kinds args : List ℕ) → Reading
read_flat = reading MAX_NODES MAX_DEPTH

abbrev pub read_encoded : List ℕ → Reading
read_encoded = decoding ARGUMENT_BYTES MAX_NODES MAX_DEPTH

-- a flag, which is off where it is 0
abbrev pub flag_on : ℕ → Bool
flag_on flag = not (eqb flag 0)

-- A reply in two numbers to an answer of which something holds: what the call leaves in the arrays lent to it, and that
-- the answer is the definition's.
pub record Replies {A : Type 0} (holds : A → Type 0) (reply_to : A → Reply) (reply : Reply) : Type 0 where
  pub answer : A
  pub so : holds answer
  pub replies : reply ≡ reply_to answer

-- a check: no more than that there is a type
abbrev pub check_reply : Result (Unit {0}) Error → Reply
check_reply a = reply_of nothing a

-- yes or no
abbrev pub answer_reply : Result Bool Error → Reply
answer_reply = reply_of truth

-- yes, no or no verdict
abbrev pub verdict_reply : Result (Option Bool) Error → Reply
verdict_reply = reply_of decision

-- the number of a unit
abbrev pub unit_reply : Result TimeUnit Error → Reply
unit_reply = reply_of unit_number

-- the number of nodes or bytes written
abbrev pub written_reply : Result ℕ Error → Reply
written_reply = reply_of (λ count. count)

-- the number of nodes or bytes of what was found, 0 for None
abbrev pub optional_reply : Result (Option ℕ) Error → Reply
optional_reply = reply_of (λ count. unwrap_or count 0)

-- what a report says
abbrev pub report_reply : Result Report Error → Reply
report_reply = reply_of report_value

-- the code now held
abbrev pub merged_reply : Result ℕ Error → Reply
merged_reply = reply_of (λ code. code)

-- the code now held, beside the types as the merge leaves them
abbrev pub outcome_reply : Outcome → TypesReply
outcome_reply o = record { reply = merged_reply o.answer; types = o.types }

-- The reply to a call that writes a type, where it fits, over the front of what is lent to it: from what the lent bytes
-- or arrays hold to what they hold then.
abbrev pub RepliesBytes : Reading → List ℕ → List ℕ → Reply → Type 0
RepliesBytes new held written =
    Replies (Encodes ARGUMENT_BYTES (fitting_bytes ARGUMENT_BYTES (length held) new) held written) written_reply

abbrev pub RepliesArrays : Reading → (ks xs ks' xs' : List ℕ) → Reply → Type 0
RepliesArrays new ks xs ks' xs' = Replies (Writes (fitting (length ks) (length xs) new) ks xs ks' xs') written_reply

-- the same where there may be none
abbrev pub RepliesFoundBytes : Option Reading → List ℕ → List ℕ → Reply → Type 0
RepliesFoundBytes found held written =
    let fits = fitting_found_bytes ARGUMENT_BYTES (length held) found in
    Replies (EncodesFound ARGUMENT_BYTES fits held written) optional_reply

abbrev pub RepliesFoundArrays : Option Reading → (ks xs ks' xs' : List ℕ) → Reply → Type 0
RepliesFoundArrays found ks xs ks' xs' =
    Replies (WritesFound (fitting_found (length ks) (length xs) found) ks xs ks' xs') optional_reply
