-- The parts of the drawing were appended one after another.
use Rattle.std.proofs.Common.{rules, ◌≡◌, [], ◌++◌, flat_map, length, ◌∙◌}
use Rattle.lit_base.specs.Literals.{lengths}
use Rattle.plan_view.specs.Buckets.{buckets_of}
use Rattle.plan_view.specs.Drawings.{caption, drawn, foot, head, highest_cost, legend_line, plan_svg}
use Rattle.plan_view.proofs.Appends.{six_appended}
use Rattle.plan_view.proofs.drawing.plan_svg.Goals as goal

pub returns : goal.returns
unfolding plan_svg foot
returns c =
    let l = c.args.list.now in
    let ends = c.args.ends.now.items in
    let all = buckets_of ends in
    let seen : c.as_slice.result.now ≡ all = search rules in
    let one : c.push_head.new.text.items ≡ [] ++ head (length all) = search rules in
    let two : c.push_caption.new.text.items ≡ c.push_head.new.text.items ++ caption c.args.profile l ends =
    c.in_ok-push_caption.ensures ∙ (λ i. c.push_head.new.text.items ++ caption (c.new-view.ensures.profile i) (c.new-view.ensures.list i) (c.new-view.ensures.ends i).items) in
    let three : c.push_buckets.new.text.items ≡ c.push_caption.new.text.items ++ flat_map (drawn l ends (highest_cost (lengths l) 1 all)) all =
    c.in_ok-push_buckets.ensures ∙ (λ i. c.push_caption.new.text.items ++ flat_map (drawn (c.new-view.ensures.list i) (c.new-view.ensures.ends i).items
    (highest_cost (lengths (c.new-view.ensures.list i)) 1 ((c.new-view.ensures.buckets ∙ seen) i))) ((c.new-view.ensures.buckets ∙ seen) i)) in
    let five : c.push_legend.new.text.items ≡ c.extend_from_slice.new.self.items ++ flat_map (legend_line l ends) all =
    c.in_ok-push_legend.ensures ∙ (λ i. c.extend_from_slice.new.self.items ++ flat_map (legend_line (c.new-view.ensures.list i) (c.new-view.ensures.ends i).items) ((c.new-view.ensures.buckets ∙ seen) i)) in
    six_appended [] _ _ _ _ _ _ _ _ _ _ _ _ one two three c.in_ok-extend_from_slice.ensures.items five c.in_ok-extend_from_slice-2.ensures.items
