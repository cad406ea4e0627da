-- A step of a run is what the contracts say: the `ensures` of `ChannelTypes::merge`, of `merge_in_place` and of
-- `merge_codes`, as the checker reads them, are the step of specs/Rule.antt's `Run` at the limits of the code, whatever
-- is left of the arguments that a call drops. Assumes nothing.
use Rattle.std.specs.Prelude.{Result}
use Rattle.channels.specs.Merge.{Merged}
use mathlib.Core.Path.{◌≡◌, refl}
use mathlib.Core.List.{List}
use Prim.Native.Nat.{ℕ}
use seplogic.Ra.Ura.{Ura}
use base.Logic.{SProp}
use base.Fml.{Lft}
use prog.Memory.{Memory}
use prog.Routine.{Routine}
use types.Logic.{Logic}
use contract.Monad.{Fun, fact}
use denote.Ref.{Bor}
use denote.MutBor.{MutBor}
use Rattle.flat.specs.declared.error.Error.{Error}
use Rattle.flat.specs.declared.Node.{Node}
use Rattle.flat.specs.declared.TheConstants.Flat.{MAX_NODES, MAX_DEPTH}
use Rattle.channels.specs.declared.ChannelTypes.{ChannelTypes}
use Rattle.channels.specs.declared.Outcome.{Outcome}
use Rattle.channels.specs.declared.TheConstants.ChannelTypes.{CHANNELS}
use Rattle.flat.specs.Both.{root_reading}
use Rattle.channels.specs.Merge.{outcome_of}
use Rattle.channels.specs.Model.{flat_merge}
use Rattle.channels.specs.contracts.ChannelTypes.merge as merge
use Rattle.channels.specs.contracts.merge_in_place as lent
use Rattle.channels.specs.contracts.merge_codes as codes

module _ {M : Type 1} {𝓤 : Ura M} (𝓛 : Logic 𝓤) (mem : Memory → SProp 𝓤) (run : Routine → Fun 𝓤)
    (κ κ₁ κ₂ : Lft) (ch : ℕ) where
  module _ (ks xs : Bor (List ℕ)) where
    -- a merge of two lent arrays into a channel of the types s has the outcome o
    abbrev pub Step : ChannelTypes → Outcome → SProp 𝓤
    Step s o =
        let m = flat_merge MAX_NODES MAX_DEPTH ch ks.now xs.now in
        fact 𝓤 (o ≡ outcome_of CHANNELS s m.channel m.column)

    pub by_value : (s s' : ChannelTypes) (ch' : ℕ) (ks' xs' : Bor (List ℕ)) (o : Outcome)
        → (merge.clauses 𝓛 mem run (κ₁, (κ₂, tt)) (s, (ch, (ks, (xs, tt))))).ensures tt o
        (s', (ch', (ks', (xs', tt)))) ≡ Step s o
    by_value s s' ch' ks' xs' o = refl

    pub by_lending : (s s' : MutBor ChannelTypes) (ch' : ℕ) (ks' xs' : Bor (List ℕ)) (a : Merged)
        → (lent.clauses 𝓛 mem run (κ, (κ₁, (κ₂, tt))) (s, (ch, (ks, (xs, tt))))).ensures tt a
        (s', (ch', (ks', (xs', tt)))) ≡ Step s.now (record { types = s'.now; answer = a })
    by_lending s s' ch' ks' xs' a = refl

  -- the contract of a merge into lent codes, of a column told by its root
  pub by_codes : (cs cs' : MutBor (List ℕ)) (ch' : ℕ) (column column' : Result Node Error) (a : Merged)
      → (codes.clauses 𝓛 mem run (κ, tt) (cs, (ch, (column, tt)))).ensures tt a (cs', (ch', (column', tt)))
      ≡ fact 𝓤 (record { types = record { codes = cs'.now }; answer = a }
      ≡ outcome_of CHANNELS (record { codes = cs.now }) ch (root_reading column))
  by_codes cs cs' ch' column column' a = refl
