-- `replay::answer::is_result` meets its contract: where the kinds are the same, the arguments decide. Assumes nothing.
use Rattle.std.proofs.Common.{◌≡◌, ℕ, ◌∙◌, Decides, List, ◌++◌, length, take, drop, sym, ap, rules}
use Rattle.std.proofs.Math.Seq.{drop-append_seam}
use Rattle.std.proofs.lemmas.List.{take-append-drop}
use Rattle.std.proofs.lemmas.Bool.Decides.{Decides-like}
use Rattle.replay.proofs.answer.is_result.Goals as goal

-- two parts of numbers, of which the front is these kinds
by_rest : (numbers front back ks xs : List ℕ) → {r : _} → front ≡ take (length ks) numbers
    → back ≡ drop (length ks) numbers → front ≡ ks → Decides r (back ≡ xs) → Decides r (numbers ≡ ks ++ xs)
by_rest numbers front back ks xs f b k d =
    Decides-like _ (λ e. sym (take-append-drop (length ks) numbers) ∙ (λ i. (sym f ∙ k) i ++ (sym b ∙ e) i))
    (λ e. b ∙ ap (drop (length ks)) e ∙ drop-append_seam ks xs) d

pub returns-then-same_kinds : goal.returns-then-same_kinds
returns-then-same_kinds c =
    let d : Decides c.eq.result (c.in-Some.its_args.now ≡ c.args.args.now) = search rules in
    by_rest c.args.numbers.now c.in-Some.its_kinds.now c.in-Some.its_args.now c.args.kinds.now c.args.args.now
    (search rules) (search rules) (search rules) d
