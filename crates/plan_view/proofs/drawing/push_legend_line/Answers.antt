-- Four parts were appended.
use Rattle.plan_view.specs.Drawings.{legend_line}
use Rattle.plan_view.proofs.Appends.{four_appended}
use Rattle.plan_view.proofs.drawing.push_legend_line.Goals as goal

pub returns : goal.returns
unfolding legend_line
returns c =
    four_appended _ _ _ _ _ _ _ _ _ c.in_ok-push_said.ensures c.in_ok-extend_from_slice.ensures.items c.in_ok-push_numbers.ensures c.in_ok-extend_from_slice-2.ensures.items
