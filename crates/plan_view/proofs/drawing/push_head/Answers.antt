-- Two parts were appended.
use Rattle.plan_view.specs.Drawings.{head}
use Rattle.plan_view.proofs.Appends.{two_appended}
use Rattle.plan_view.proofs.drawing.push_head.Goals as goal

pub returns : goal.returns
unfolding head
returns c = two_appended _ _ _ _ _ c.in_ok-push_said.ensures c.in_ok-extend_from_slice.ensures.items
