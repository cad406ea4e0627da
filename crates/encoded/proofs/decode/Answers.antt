-- `encoded::decode` meets its contract. Assumes nothing.
use native.Mathlib.Omega.{arith}
use mathlib.Core.Logic.{inl, inr}
use mathlib.Core.Path.{refl, sym, ◌∙◌}
use lib.ListN.{length-drop}
use lib.Seq.{length-take-le}
use borrow.Author.Rules.{part_to_end}
use Rattle.std.proofs.lemmas.Result.{err_from_is_err_and}
use Rattle.flat.proofs.Truths.{Fact, fact}
use Rattle.encoded.proofs.Answers.{nodes_some, nodes_sized, encoded_form, decodes_refused, decodes_few_kinds, decodes_few_args, decodes_type}
use Rattle.encoded.proofs.decode.Goals as goal
use Rattle.encoded.proofs.decode.Goals.{After-unwrap-n}

pub returns-in_err-check : goal.returns-in_err-check
returns-in_err-check c =
    let p = err_from_is_err_and c.from_residual.result c.from_residual.ensures.1 in
    rw (p.1, p.2) (decodes_refused _ _ _ _ c.in_err-check.ensures)

pub unwrap-n-requires : goal.unwrap-n-requires
unwrap-n-requires c = rw (c.node_count.ensures, nodes_sized (encoded_form c.in_ok-check.ensures refl).sized) refl

-- the bytes are a type of as many nodes as they say
abbrev form : After-unwrap-n → Fact
form c = fact (encoded_form c.in_ok-check.ensures (nodes_some (sym c.unwrap-n.ensures ∙ c.node_count.ensures)).count)

pub returns-then-kinds-n : goal.returns-then-kinds-n
returns-then-kinds-n c =
    let f = (form (goal.at.returns-then-kinds-n c).After-unwrap-n).proof in
    elim c.then-kinds-n.either [ inl k ↦ decodes_few_kinds f k | inr h ↦ decodes_few_args f h.0 h.1 ]

pub read_args-requires : goal.read_args-requires
read_args-requires c =
    rw (part_to_end, length-drop, length-take-le c.unwrap-n.result c.args.args.now c.if-args-n.false)
    (omega (arith, (form (goal.at.read_args-requires c).After-unwrap-n).proof.sized.size))

pub returns : goal.returns
returns c =
    let read = rw (length-take-le c.unwrap-n.result c.args.args.now c.if-args-n.false) at c.read_args.ensures in
    decodes_type (form (goal.at.returns c).After-unwrap-n).proof c.if-kinds-n.false c.if-args-n.false
    (rw c.copy.ensures) (rw read)

pub slice_bounds-copy-end : goal.slice_bounds-copy-end
slice_bounds-copy-end c =
    omega (arith, (form (goal.at.slice_bounds-copy-end c).After-unwrap-n).proof.sized.size)

pub slice_bounds-read_args-count : goal.slice_bounds-read_args-count
slice_bounds-read_args-count c =
    omega (arith, (form (goal.at.slice_bounds-read_args-count c).After-unwrap-n).proof.sized.size)

pub slice_bounds-read_args-start : goal.slice_bounds-read_args-start
slice_bounds-read_args-start c =
    omega (arith, (form (goal.at.slice_bounds-read_args-start c).After-unwrap-n).proof.sized.size)
