-- `encoded::read` meets its contract: the two parts of bytes of the right length. Assumes nothing.
use native.Mathlib.Omega.{arith}
use mathlib.Core.Path.{◌∙◌}
use lib.ListN.{length-drop}
use lib.Seq.{length-take-le}
use borrow.Author.Rules.{part_to_end}
use Rattle.std.proofs.lemmas.Result.{err_from_is_err_and}
use Rattle.flat.proofs.Truths.{Fact, fact, handed_on}
use Rattle.encoded.proofs.Laws.{size_parts}
use Rattle.encoded.proofs.Answers.{ok_or_some, ok_or_none, nodes_some, kinds_front, args_rest, nodes_sized}
use Rattle.encoded.proofs.Opening.{reads_none, reads_type, reads_refused}
use Rattle.encoded.proofs.read.Goals as goal
use Rattle.encoded.proofs.read.Goals.{In_ok-n, After-read_args}

pub returns-in_err-n : goal.returns-in_err-n
returns-in_err-n c =
    let q = ok_or_none _ _ c.ok_or.ensures.value c.in_err-n.was in
    rw (handed_on (err_from_is_err_and c.from_residual.result c.from_residual.ensures.1), q.1)
    (reads_none (q.0 ∙ c.node_count.ensures))

-- the bytes are as long as their count says
abbrev sized : In_ok-n → Fact
sized c = fact (nodes_some (ok_or_some _ _ c.ok_or.ensures.value c.in_ok-n.was ∙ c.node_count.ensures))

pub slice_bounds-split_at-count : goal.slice_bounds-split_at-count
slice_bounds-split_at-count c = omega (arith, (sized (goal.at.slice_bounds-split_at-count c).In_ok-n).proof.size)

pub slice_bounds-split_at-start : goal.slice_bounds-split_at-start
slice_bounds-split_at-start c = omega (arith, (sized (goal.at.slice_bounds-split_at-start c).In_ok-n).proof.size)

pub split_at-requires : goal.split_at-requires
split_at-requires c =
    rw (part_to_end, length-drop)
    (omega (arith, (sized (goal.at.split_at-requires c).In_ok-n).proof.size, size_parts 8 c.in_ok-n.n))

abbrev room : In_ok-n → Fact
room c = fact (rw (nodes_sized (sized c).proof) at c.requires)

-- what is read of them
abbrev kinds : After-read_args → Fact
kinds c =
    fact (rw part_to_end at c.split_at.ensures.front ∙ kinds_front (sized (goal.at.After-read_args c).In_ok-n).proof)

abbrev args : After-read_args → Fact
args c =
    let z = (sized (goal.at.After-read_args c).In_ok-n).proof in
    fact (rw (length-take-le c.in_ok-n.n c.args.args.now (room (goal.at.After-read_args c).In_ok-n).proof, c.split_at.ensures.back, part_to_end) at c.read_args.ensures ∙ args_rest z)

pub read_args-requires : goal.read_args-requires
read_args-requires c =
    rw (c.split_at.ensures.back, part_to_end, length-drop, length-drop, length-take-le c.in_ok-n.n c.args.args.now (room (goal.at.read_args-requires c).In_ok-n).proof)
    (omega (arith, (sized (goal.at.read_args-requires c).In_ok-n).proof.size, size_parts 8 c.in_ok-n.n))

pub returns-in_err-check : goal.returns-in_err-check
returns-in_err-check c =
    rw (handed_on (err_from_is_err_and c.from_residual-in_err-check.result c.from_residual-in_err-check.ensures.1))
    (reads_refused (sized (goal.at.returns-in_err-check c).In_ok-n).proof
    (kinds (goal.at.returns-in_err-check c).After-read_args).proof (args (goal.at.returns-in_err-check c).After-read_args).proof _ _ c.in_err-check.ensures)

pub returns : goal.returns
returns c =
    reads_type (sized (goal.at.returns c).In_ok-n).proof (kinds (goal.at.returns c).After-read_args).proof
    (args (goal.at.returns c).After-read_args).proof _ _ c.in_ok-check.ensures
