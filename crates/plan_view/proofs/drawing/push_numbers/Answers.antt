-- Five numbers were appended.
use Rattle.std.proofs.Common.{◌≡◌, ◌++◌, codes, ap, ◌∙◌, slice_index}
use Rattle.lit_base.specs.Costs.{run_cost}
use Rattle.lit_base.specs.Literals.{lengths}
use Rattle.plan_view.specs.Drawings.{numbers_text, said}
use Rattle.plan_view.specs.Rows.{percent, total_of}
use Rattle.plan_view.proofs.Appends.{five_appended}
use Rattle.plan_view.proofs.drawing.push_numbers.Goals as goal

pub returns : goal.returns
unfolding numbers_text
returns c =
    let l = c.args.view.list.now in
    let cost = run_cost (lengths l) c.args.bucket.start c.args.bucket.end in
    let three : c.push_said-3.new.text.items ≡ c.push_said-2.new.text.items ++ said (codes ", shortest ") (slice_index (lengths l) c.args.bucket.start) =
    c.in_ok-push_said-3.ensures ∙ ap (λ n. c.push_said-2.new.text.items ++ said (codes ", shortest ") n) c.get-shortest.ensures.len in
    let four : c.push_said-4.new.text.items ≡ c.push_said-3.new.text.items ++ said (codes ", cost ") cost =
    c.in_ok-push_said-4.ensures ∙ ap (λ n. c.push_said-3.new.text.items ++ said (codes ", cost ") n) c.run_cost-cost.ensures.value in
    let five : c.push_said-5.new.text.items ≡ c.push_said-4.new.text.items ++ said (codes ", % of all ") (percent cost (total_of l c.args.view.ends.now.items)) =
    c.in_ok-push_said-5.ensures ∙ (λ i. c.push_said-4.new.text.items ++ said (codes ", % of all ") ((c.percent.ensures ∙ (λ j. percent (c.run_cost-cost.ensures.value j) (c.args.view.sum j))) i)) in
    five_appended _ _ _ _ _ _ _ _ _ _ _ c.in_ok-push_said.ensures c.in_ok-push_said-2.ensures three four five
