-- `encoded_dtype::ask_nodes` meets its contract: a type has a number of nodes. Assumes nothing.
use native.Mathlib.Omega.{arith}
use mathlib.Core.Path.{refl, sym, ◌∙◌}
use Rattle.flat.proofs.Truths.{Fact, fact}
use Rattle.encoded.proofs.Laws.{size_parts}
use Rattle.encoded.proofs.Answers.{nodes_some, nodes_sized, encoded_form, kinds_part}
use Rattle.encoded_dtype.proofs.Asking.{some_kind, asked}
use Rattle.encoded_dtype.proofs.ask_nodes.Goals as goal
use Rattle.encoded_dtype.proofs.ask_nodes.Goals.{After-unwrap-n, In_ok-check}

abbrev form : In_ok-check → Fact
form c = fact (encoded_form c.in_ok-check.ensures refl)

pub unwrap-n-requires : goal.unwrap-n-requires
unwrap-n-requires c =
    rw (c.node_count.ensures, nodes_sized (form (goal.at.unwrap-n-requires c).In_ok-check).proof.sized) refl

-- the bytes are as long as so many nodes take
abbrev sized : After-unwrap-n → Fact
sized c = fact (nodes_some (sym c.unwrap-n.ensures ∙ c.node_count.ensures))

pub overflow_add-n : goal.overflow_add-n
overflow_add-n c = omega (arith, (sized (goal.at.overflow_add-n c).After-unwrap-n).proof.few)

pub slice_bounds-told_by-end : goal.slice_bounds-told_by-end
slice_bounds-told_by-end c =
    omega (arith, (sized (goal.at.slice_bounds-told_by-end c).After-unwrap-n).proof.size, size_parts 8 c.unwrap-n.result)

pub told_by-requires : goal.told_by-requires
told_by-requires c =
    some_kind (form (goal.at.told_by-requires c).In_ok-check).proof (kinds_part (sized (goal.at.told_by-requires c).After-unwrap-n).proof)

pub returns : goal.returns
returns c =
    asked (form (goal.at.returns c).In_ok-check).proof (kinds_part (sized (goal.at.returns c).After-unwrap-n).proof) c.args.p
    c.told_by.ensures
