-- The root of a type, as a check gives it, and what it tells of a reading. Assumes nothing.
use mathlib.Core.Path.{◌≡◌, refl, sym, ap, ap₂, subst, ◌∙◌}
use mathlib.Core.Bool.{true}
use mathlib.Core.List.{List}
use Prim.Native.Nat.{ℕ, ◌≤◌, ◌<◌}
use native.Mathlib.Omega.{arith}
use lib.ListN.{length, get_or}
use Rattle.flat.specs.Kind
use Rattle.flat.specs.Argument.{argument_rule, argument_fits}
use Rattle.flat.specs.Tree.{DataType, leaf, list, array, struct, head_kind, head_arg}
use Rattle.flat.specs.Reading.{Reading, reading, checked_of, root_of, RootFits, Ruled}
use Rattle.flat.specs.declared.error.Error.{Error}
use Rattle.flat.specs.declared.Node.{Node}
use Rattle.std.specs.Prelude.{Ok, Err}
use Rattle.flat.proofs.Sizes.{size_pos}
use Rattle.flat.proofs.Meaning.{Passed, checked_refused, root_kind_lem, root_arg_lem}
use Rattle.flat.proofs.Plain.{PlainType}

root_ruled : (t : DataType) → Ruled t → (head_kind t ≤ Kind.Struct) × (argument_fits (head_kind t) (head_arg t) ≡ true)
unfolding Ruled head_kind head_arg argument_fits argument_rule
root_ruled (leaf k a) r = (omega (arith, r.0), r.1)
root_ruled (list t) r = (omega arith, refl)
root_ruled (array w t) r = (omega arith, refl)
root_ruled (struct fs) r = (omega arith, r.0)

-- what a check that passed gives
module _ {nodes deep : ℕ} {ks xs : List ℕ} (p : Passed nodes deep ks xs) where
  -- the first node
  abbrev pub first : Node
  first = record { kind = get_or ks 0 0; arg = get_or xs 0 0 }

  pub root_read : (Ok first ≡ root_of (reading nodes deep ks xs)) × RootFits (Ok first)
  root_read =
      let same = ap₂ (λ (k a : ℕ). record { kind = k; arg = a }) (root_kind_lem p) (root_arg_lem p) in
      (ap Ok (sym same) ∙ ap root_of (sym p.reads), subst (λ n. RootFits (Ok n)) same (root_ruled p.tree p.form.is_type.ruled))

  pub some_node : (0 < length ks) × (0 < length xs)
  some_node = let h = size_pos p.tree in (omega (arith, h, p.whole), omega (arith, h, p.whole, p.even))

-- one plain leaf
module _ {nodes deep : ℕ} {ks xs : List ℕ} (p : PlainType nodes deep ks xs) where
  abbrev pub plain : Node
  plain = record { kind = get_or ks 0 0; arg = 0 }

  pub plain_root : (Ok plain ≡ root_of (reading nodes deep ks xs)) × RootFits (Ok plain)
  unfolding head_kind head_arg
  plain_root = (ap root_of (sym p.reads), (omega (arith, p.low), p.fits))

pub root_refused :
    (r : Reading) {e : Error} → Err e ≡ checked_of r → (Err e ≡ root_of r) × RootFits (Err e)
root_refused r {e} q = (ap root_of (sym (checked_refused r e q)), tt)
