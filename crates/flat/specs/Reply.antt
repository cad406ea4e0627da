-- What a call gives outside: document 01's number, and the value beside it. Assumes nothing: these are definitions.
use Rattle.std.specs.Prelude.{ℕ, Bool, true, false, Option, None, Some, Result, Ok, Err}
use Rattle.flat.specs.Refusal.{answer_number}
use Rattle.flat.specs.declared.error.Error.{Error}
use Rattle.flat.specs.declared.Node.{Node}
use Rattle.flat.specs.declared.reply.Reply.{Reply}
use Rattle.flat.specs.declared.root_reply.RootReply.{RootReply}

-- the value beside the number, and 0 beside a refusal's
abbrev pub value_in : {A : Type 0} → (A → ℕ) → Result A Error → ℕ
value_in value (Ok x) = value x
value_in value (Err e) = 0

-- the reply that an answer is told by
abbrev pub reply_of : {A : Type 0} → (A → ℕ) → Result A Error → Reply
reply_of value answer = record { number = answer_number answer; value = value_in value answer }

-- a check says no more than that there is a type
abbrev pub nothing : Unit {0} → ℕ
nothing x = 0

-- no or yes
abbrev pub truth : Bool → ℕ
truth false = 0
truth true = 1

-- no, yes or no verdict
abbrev pub decision : Option Bool → ℕ
decision (Some b) = truth b
decision None = 2

-- what the answer of `check_root` is told by: its number, and the root, kind 0 and argument 0 beside a refusal's
abbrev pub root_reply : Result Node Error → RootReply
root_reply answer = record {
  number = answer_number answer;
  kind = value_in (λ root. root.kind) answer;
  argument = value_in (λ root. root.arg) answer;
}
