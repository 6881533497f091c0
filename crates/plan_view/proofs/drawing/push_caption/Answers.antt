-- Four parts were appended.
use Rattle.std.proofs.Common.{◌≡◌, ◌++◌, codes, ap, ◌∙◌}
use Rattle.plan_view.specs.Drawings.{caption, even_phrase, said}
use Rattle.plan_view.specs.Rows.{total_of}
use Rattle.plan_view.specs.Texts.{even_parts, single}
use Rattle.plan_view.proofs.Appends.{four_appended}
use Rattle.plan_view.proofs.drawing.push_caption.Goals as goal

pub returns : goal.returns
unfolding caption
returns c =
    let l = c.args.view.list.now in
    let profile = c.args.view.profile in
    let one : c.push_said.new.text.items ≡ c.args.text.now.items ++ said (codes "<text x=\"40\" y=\"24\">cost ") (total_of l c.args.view.ends.now.items) =
    c.in_ok-push_said.ensures ∙ ap (λ n. c.args.text.now.items ++ said (codes "<text x=\"40\" y=\"24\">cost ") n) c.args.view.sum in
    let two : c.push_said-2.new.text.items ≡ c.push_said.new.text.items ++ said (codes "; one bucket for all ") (single l) =
    c.in_ok-push_said-2.ensures ∙ ap (λ n. c.push_said.new.text.items ++ said (codes "; one bucket for all ") n) c.single.ensures.value in
    let three : c.push_said-3.new.text.items ≡ c.push_said-2.new.text.items ++ said (even_phrase profile) (even_parts profile l) =
    c.in_ok-push_said-3.ensures ∙ (λ i. c.push_said-2.new.text.items ++ said (c.even_phrase.ensures i) (c.even_parts.ensures.value i)) in
    four_appended _ _ _ _ _ _ _ _ _ one two three c.in_ok-extend_from_slice.ensures.items
