-- `encoded::open` meets its contract: the two arrays stand where `read` left them. Assumes nothing.
use native.Mathlib.Omega.{arith}
use mathlib.Core.Path.{sym}
use Rattle.flat.proofs.Truths.{Fact, fact}
use Rattle.encoded.proofs.Laws.{size_parts}
use Rattle.encoded.proofs.Opening.{read_form, read_length, read_flat, read_checked}
use Rattle.encoded.proofs.open.Goals as goal
use Rattle.encoded.proofs.open.Goals.{In_ok-n}

abbrev form : In_ok-n → Fact
form c = fact (read_form c.in_ok-n.ensures)

pub overflow_add-result : goal.overflow_add-result
overflow_add-result c = let f = (form (goal.at.overflow_add-result c).In_ok-n).proof in omega (arith, f.sized.few)

pub slice_bounds-result-end : goal.slice_bounds-result-end
slice_bounds-result-end c =
    let f = (form (goal.at.slice_bounds-result-end c).In_ok-n).proof in
    omega (arith, f.sized.size, size_parts 8 c.in_ok-n.n)

pub slice_bounds-result-end-2 : goal.slice_bounds-result-end-2
slice_bounds-result-end-2 c = sym (read_length c.in_ok-n.ensures)

pub invariant_of-result : goal.invariant_of-result
invariant_of-result c = record { checked = read_checked c.in_ok-n.ensures }

pub returns : goal.returns
returns c = read_flat c.in_ok-n.ensures
