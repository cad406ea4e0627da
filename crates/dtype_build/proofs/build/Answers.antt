-- `dtype_build::build` meets its contract: 8, or a leaf, or what the walk builds. Assumes nothing.
use mathlib.Core.Logic.{inl, inr}
use mathlib.Core.List.{List}
use Prim.Native.Nat.{ℕ, ◌≤◌}
use native.Mathlib.Omega.{arith}
use lib.ListN.{length}
use Rattle.flat.specs.Walk.{Valid}
use Rattle.flat.proofs.Outputs.{writes_refused, few_kinds, few_args}
use Rattle.dtype_build.proofs.Builds.{Task, built_writes, leaf_built}
use Rattle.dtype_build.proofs.Forms.{size_map}
use Rattle.dtype_build.proofs.build.Goals as goal

pub returns-then-out_kinds-kinds : goal.returns-then-out_kinds-kinds
returns-then-out_kinds-kinds g c =
    elim c.then-out_kinds-kinds.either [
      | inl h ↦ writes_refused (few_kinds _ _ _ (rw size_map (omega arith)))
      | inr h ↦ writes_refused (few_args _ _ _ (rw size_map (omega arith)) (rw size_map (omega arith)))
    ]

-- both arrays have room for the type
abbrev task : (kind_in : ℕ → ℕ → ℕ) (ks xs K A : List ℕ) → Valid ks xs → length ks ≤ length K → length ks ≤ length A → Task
task kind_in ks xs K A v k a = record {
  kind_in = kind_in;
  ks = ks;
  xs = xs;
  K = K;
  A = A;
  valid = v;
  room = record { kinds = omega (arith, v.within); args = omega (arith, v.within) };
}

pub returns-then-kinds-lt-LIST : goal.returns-then-kinds-lt-LIST
returns-then-kinds-lt-LIST g c =
    let p = task g.F.Form.kind_in _ _ _ _ c.requires.0 (omega arith) (omega arith) in
    built_writes p (leaf_built p c.if-kinds-lt-LIST.true c.put_leaf.ensures)

pub returns : goal.returns
returns g c = built_writes (task g.F.Form.kind_in _ _ _ _ c.requires.0 (omega arith) (omega arith)) c.node_form-n.ensures
