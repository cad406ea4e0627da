-- A step of a run is what the contracts say: the `ensures` of the calls that merge, as the checker reads them, say at
-- the limits of the code that the reply is that to the answer of a step of channels' `Run`
-- (crates/channels/specs/Rule.antt), whatever is left of the arguments that a call drops. Assumes nothing.
use mathlib.Core.Path.{◌≡◌, refl, ap}
use mathlib.Core.List.{List, ◌∷◌}
use Prim.Native.Nat.{ℕ}
use seplogic.Ra.Ura.{Ura}
use base.Logic.{SProp}
use base.Fml.{Lft}
use prog.Memory.{Memory}
use prog.Routine.{Routine}
use types.Logic.{Logic}
use contract.Monad.{Fun, fact}
use denote.Ref.{Bor}
use denote.MutBor.{MutBor}
use Rattle.flat.specs.declared.TheConstants.Flat.{MAX_NODES, MAX_DEPTH}
use Rattle.channels.specs.declared.ChannelTypes.{ChannelTypes}
use Rattle.channels.specs.declared.Outcome.{Outcome}
use Rattle.channels.specs.declared.TheConstants.ChannelTypes.{CHANNELS}
use Rattle.channels.specs.Merge.{outcome_of}
use Rattle.channels.specs.Model.{Merge, flat_merge}
use Rattle.channels.specs.Rule.{Run}
use Rattle.std.specs.Prelude.{Result}
use Rattle.flat.specs.declared.error.Error.{Error}
use Rattle.capi.specs.Reply.{read_encoded, merged_reply, outcome_reply}
use Rattle.flat.specs.declared.reply.Reply.{Reply}
use Rattle.capi.specs.declared.channel.TypesReply.{TypesReply}
use Rattle.capi.specs.contracts.channel.lz_channel_merge as merge
use Rattle.capi.specs.contracts.channel.lz_flat_channel_merge as lent
use Rattle.capi.specs.contracts.channel.lz_flat_channel_merged as merged

-- the reply r to a merge m into the types s, which leaves the types s'
abbrev pub RepliesTo : (channels : ℕ) → ChannelTypes → Merge → ChannelTypes → Reply → Type 0
RepliesTo channels s m s' r =
    record { reply = r; types = s' } ≡ outcome_reply (outcome_of channels s m.channel m.column)

-- It is a step from where a run ended, and is the reply to the step's answer.
pub steps : {channels : ℕ} {ms : List Merge} {xs : List (Result ℕ Error)} {s₀ s : ChannelTypes} → Run channels s₀ ms xs s
    → (m : Merge) (s' : ChannelTypes) (r : Reply) → RepliesTo channels s m s' r
    → (a : Result ℕ Error) × Run channels s₀ (m ∷ ms) (a ∷ xs) s' × (r ≡ merged_reply a)
steps {channels} {s = s} run m s' r e =
    let a = (outcome_of channels s m.channel m.column).answer in
    let o : Outcome = record { types = s'; answer = a } in (
      a,
      Run.next {m = m} {o = o} run (λ i. record { types = (e i).types; answer = a }),
      ap (λ (t : TypesReply). t.reply) e,
    )

module _ {M : Type 1} {𝓤 : Ura M} (𝓛 : Logic 𝓤) (mem : Memory → SProp 𝓤) (run : Routine → Fun 𝓤)
    (κ κ₁ κ₂ : Lft) (ch : ℕ) where
  -- of an encoded type and the lent codes
  pub encoded : (cs cs' : MutBor (List ℕ)) (ch' : ℕ) (column column' : Bor (List ℕ)) (r : Reply)
      → (merge.clauses 𝓛 mem run (κ, (κ₁, tt)) (cs, (ch, (column, tt)))).ensures tt r (cs', (ch', (column', tt)))
      ≡ (let m : Merge = record { channel = ch; column = read_encoded column.now } in
      fact 𝓤 (RepliesTo CHANNELS (record { codes = cs.now }) m (record { codes = cs'.now }) r))
  encoded cs cs' ch' column column' r = refl

  -- of a flat type, into types by value and lent
  module _ (ks xs : Bor (List ℕ)) where
    abbrev pub FlatStep : ChannelTypes → ChannelTypes → Reply → SProp 𝓤
    FlatStep s s' r = fact 𝓤 (RepliesTo CHANNELS s (flat_merge MAX_NODES MAX_DEPTH ch ks.now xs.now) s' r)

    pub by_value : (s s' : ChannelTypes) (ch' : ℕ) (ks' xs' : Bor (List ℕ)) (r : TypesReply)
        → (merged.clauses 𝓛 mem run (κ₁, (κ₂, tt)) (s, (ch, (ks, (xs, tt))))).ensures tt r
        (s', (ch', (ks', (xs', tt)))) ≡ FlatStep s r.types r.reply
    by_value s s' ch' ks' xs' r = refl

    pub by_lending : (s s' : MutBor ChannelTypes) (ch' : ℕ) (ks' xs' : Bor (List ℕ)) (r : Reply)
        → (lent.clauses 𝓛 mem run (κ, (κ₁, (κ₂, tt))) (s, (ch, (ks, (xs, tt))))).ensures tt r
        (s', (ch', (ks', (xs', tt)))) ≡ FlatStep s.now s'.now r
    by_lending s s' ch' ks' xs' r = refl
