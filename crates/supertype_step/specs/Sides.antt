-- A nested type with a leaf: the step for the nested type on either side. Assumes nothing: these are definitions.
use Rattle.std.specs.Prelude.{◌≡◌, Bool, ℕ, Option}
use Rattle.flat.specs.Kind as kind
use Rattle.flat.specs.Tree.{DataType, leaf}
use Rattle.supertype_nested.specs.Nested.{SuperTypeOptions, TreeCall, run_tree}
use Rattle.supertype_nested.specs.Step.{plan_beside}
use Rattle.supertype_step.specs.Decided.{at_side, step_answered, RootOf, PartsOf, DecidedBy}
use Rattle.supertype_step.specs.declared.Side.{Side}
use Rattle.supertype_step.specs.declared.Step.{Step}

-- The step for a nested type of the kind a and the argument x on a side, with a leaf of the kind k on the other one.
pub record StepBeside (side : Side) (implode : Bool) (a x k : ℕ) (step : Option Step) : Type 0 where
  pub answers : (c : TreeCall) (t : DataType) → RootOf t a x → (y : ℕ)
      → run_tree c (plan_beside implode a k) t (leaf k y)
      ≡ step_answered c step (at_side side t (leaf k y)) (at_side side (leaf k y) t)
  pub parts : (t : DataType) → RootOf t a x → (y : ℕ)
      → PartsOf step (at_side side t (leaf k y)) (at_side side (leaf k y) t)

-- a Struct of x fields is no List: the flag does not count
abbrev pub StructBeside : Side → (x k : ℕ) → Option Step → Type 0
StructBeside side x k step = (implode : Bool) → StepBeside side implode kind.Struct x k step

-- a leaf of the kind k, whatever its argument, with a nested type on its right
abbrev pub DecidedBefore : SuperTypeOptions → (k b y : ℕ) → Option Step → Type 0
DecidedBefore o k b y step = (x : ℕ) → DecidedBy o k x b y step
