-- The steps of two leaves. Assumes nothing.
use mathlib.Core.Path.{◌≡◌, refl, sym, ap, ◌∙◌}
use mathlib.Core.Bool.{true, false}
use Prim.Native.Nat.{◌<◌}
use native.Mathlib.Omega.{arith}
use borrow.Author.Tests.{le-leb}
use Rattle.flat.specs.Kind as kind
use Rattle.flat.specs.Argument.{argument_fits}
use Rattle.flat.specs.Tree.{DataType}
use Rattle.flat.specs.declared.Node.{Node}
use Rattle.std.specs.Prelude.{Option, None, Some, option_map}
use Rattle.supertype_answer.specs.Join.{type_of}
use Rattle.supertype_arms.specs.Node.{fits}
use Rattle.supertype_arms.specs.Supertype.{supertype}
use Rattle.supertype_arms.proofs.Answers.{is_in_range}
use Rattle.supertype_arms.proofs.Recursive.{supertype_laws}
use Rattle.supertype_nested.specs.Nested.{SuperTypeOptions, TreeCall, tree_of}
use Rattle.supertype_nested.proofs.Leaves.{leaf_known}
use Rattle.supertype_step.specs.declared.Step.{Step}
use Rattle.supertype_step.specs.Decided.{run_step, step_answered, PartsOf, DecidedBy}
use Rattle.supertype_step.proofs.Roots.{leaf_root}

-- A root below List's kind is a type of its own.
pub root_fits : (n : Node) → n.kind < kind.List → argument_fits n.kind n.arg ≡ true → fits n ≡ true
unfolding fits
root_fits n h e = rw (le-leb n.kind kind.UnknownIntNeg (omega arith)) e

-- what the code found, as a step
abbrev pub step_of : Option Node → Option Step
step_of q = option_map Step.Node q

-- what was found of two roots, as a type
by_found : (c : TreeCall) (q : Option Node) (l r : DataType) → tree_of q ≡ step_answered c (step_of q) l r
unfolding run_step
by_found c (Some n) l r = refl
by_found c None l r = refl

no_parts : (q : Option Node) (l r : DataType) → PartsOf (step_of q) l r
no_parts (Some n) l r = tt
no_parts None l r = tt

-- The answer of the non-nested call, in which the implode flag has no part.
pub by_leaves : (o : SuperTypeOptions) {l r : Node} → fits l ≡ true → fits r ≡ true → {found : Option Node}
    → found ≡ supertype false o.allow_primitive_to_string l r → {step : Option Step} → step ≡ step_of found
    → DecidedBy o l.kind l.arg r.kind r.arg step
by_leaves o {l} {r} f g {found} e {step} u c fair left right p q =
    let h = is_in_range l f in
    let i = is_in_range r g in
    let s = o.allow_primitive_to_string in
    rw (leaf_root left p (omega arith), leaf_root right q (omega arith), u)
    (record {
      answers =
          leaf_known c o fair.known l.kind l.arg r.kind r.arg h i
          ∙ ap tree_of (supertype_laws.implode o.allow_implode_list false s l r ∙ sym e)
          ∙ by_found c found (type_of l) (type_of r);
      parts = no_parts found (type_of l) (type_of r);
    })
