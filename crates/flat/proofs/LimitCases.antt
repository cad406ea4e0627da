-- Document 01's worked cases of the limits hold wherever the limits lie between the sizes and the depths of its
-- trees. Assumes nothing.
use mathlib.Core.Path.{refl, sym, ap}
use Prim.Native.Nat.{ℕ, zero, suc, ◌≤◌, ◌<◌}
use native.Mathlib.Omega.{arith}
use Rattle.flat.specs.Argument.{argument_fits, argument_rule}
use Rattle.flat.specs.Tree.{DataType, size, depth, count, kinds_of, args_of}
use Rattle.flat.specs.Reading.{Ruled, RuledFields}
use Rattle.flat.specs.Refusal.{answer_number}
use Rattle.flat.specs.Limits.{int8, lists, fields_of, wide, Passes, Gets, DepthLimit, NodeLimit}
use Rattle.flat.proofs.Sizes.{size_pos}
use Rattle.flat.proofs.Meaning.{own_form, form_length, form_even, passes}
use Rattle.flat.proofs.Refusals.{refusals}
use Rattle.flat.proofs.Checks.{too_many}

-- a tree that keeps the rules passes, is too large or is too deep
module _ (nodes deep : ℕ) (t : DataType) (r : Ruled t) where
  within : size t ≤ nodes → depth t ≤ deep → Passes nodes deep t
  within s d = passes nodes deep t (record { ruled = r; within = s; shallow = d })

  too_large : nodes < size t → Gets 1 nodes deep t
  too_large h =
      let f = own_form t r in
      let l = form_length f in
      let p = size_pos t in
      sym (ap answer_number (too_many nodes deep (record { even = form_even f; some = omega arith }) (omega arith)))

  too_deep : size t ≤ nodes → deep < depth t → Gets 5 nodes deep t
  too_deep s d = (refusals nodes deep (kinds_of t) (args_of t)).five.1 (t, own_form t r, s, d)

-- document 01's trees keep the rules
int8_ruled : Ruled int8
unfolding Ruled argument_fits argument_rule
int8_ruled = (omega arith, refl)

lists_ruled : (n : ℕ) (t : DataType) → Ruled t → Ruled (lists n t)
unfolding lists Ruled
lists_ruled zero t r = r
lists_ruled (suc n) t r = lists_ruled n t r

fields_ruled : (n : ℕ) (t : DataType) → Ruled t → RuledFields (fields_of n t)
unfolding fields_of Ruled argument_fits argument_rule
fields_ruled zero t r = tt
fields_ruled (suc n) t r = (refl, r, fields_ruled n t r)

wide_ruled : Ruled wide
unfolding Ruled fields_of count argument_fits argument_rule
wide_ruled = (refl, fields_ruled 255 int8 int8_ruled)

pub depth_limit :
    {nodes deep : ℕ} → size (lists 33 int8) ≤ nodes → depth (lists 32 int8) ≤ deep → deep < depth (lists 33 int8)
    → DepthLimit nodes deep
unfolding size lists
depth_limit s d e = record { lists_32 = within _ _ _ (lists_ruled 32 int8 int8_ruled) (omega arith) d; lists_33 = too_deep _ _ _ (lists_ruled 33 int8 int8_ruled) s e }

pub node_limit :
    {nodes deep : ℕ} → size (lists 1 wide) ≤ nodes → nodes < size (lists 2 wide) → depth (lists 1 wide) ≤ deep
    → NodeLimit nodes deep
unfolding size depth lists fields_of
node_limit s g d = record {
  nodes_511 = (refl, within _ _ _ wide_ruled (omega arith) (omega arith));
  nodes_512 = (refl, within _ _ _ (lists_ruled 1 wide wide_ruled) s d);
  nodes_513 = (refl, too_large _ _ _ (lists_ruled 2 wide wide_ruled) g);
}
