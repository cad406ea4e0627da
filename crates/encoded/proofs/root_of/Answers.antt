-- `encoded::root_of` meets its contract. Assumes nothing.
use native.Mathlib.Omega.{arith}
use mathlib.Core.Path.{refl, sym, ◌∙◌}
use Rattle.std.proofs.lemmas.Result.{err_from_is_err_and}
use Rattle.flat.proofs.Truths.{Fact, fact}
use Rattle.flat.proofs.Roots.{root_refused}
use Rattle.encoded.specs.Encoding.{decoding}
use Rattle.encoded.proofs.Answers.{nodes_some, nodes_sized, encoded_form, form_root}
use Rattle.encoded.proofs.root_of.Goals as goal
use Rattle.encoded.proofs.root_of.Goals.{After-unwrap-n, In_ok-check_nodes}

pub returns-in_err-check_nodes : goal.returns-in_err-check_nodes
returns-in_err-check_nodes c =
    let p = err_from_is_err_and c.from_residual.result c.from_residual.ensures.1 in
    rw (p.1, p.2) (root_refused (decoding _ _ _ _) c.in_err-check_nodes.ensures)

-- the bytes are a type of as many nodes as they say
abbrev form : In_ok-check_nodes → Fact
form c = fact (encoded_form c.in_ok-check_nodes.ensures refl)

abbrev counted : After-unwrap-n → Fact
counted c =
    fact (encoded_form c.in_ok-check_nodes.ensures (nodes_some (sym c.unwrap-n.ensures ∙ c.node_count.ensures)).count)

pub bounds-encoded-2 : goal.bounds-encoded-2
bounds-encoded-2 c =
    let z = (form (goal.at.bounds-encoded-2 c).In_ok-check_nodes).proof.sized in omega (arith, z.some, z.size)

pub unwrap-n-requires : goal.unwrap-n-requires
unwrap-n-requires c =
    rw (c.node_count.ensures, nodes_sized (form (goal.at.unwrap-n-requires c).In_ok-check_nodes).proof.sized) refl

pub word-requires : goal.word-requires
word-requires c = let z = (counted (goal.at.word-requires c).After-unwrap-n).proof.sized in omega (arith, z.some, z.size)

pub returns : goal.returns
returns c = rw c.word.ensures (form_root (counted (goal.at.returns c).After-unwrap-n).proof)

pub overflow_add-n : goal.overflow_add-n
overflow_add-n c = omega (arith, (counted (goal.at.overflow_add-n c).After-unwrap-n).proof.sized.few)
