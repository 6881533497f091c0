-- What stands after the line stands after lines.
use Rattle.std.proofs.Common.{subst, sym, ◌∙◌}
use Rattle.text_lines.specs.HitLines.{HitSearch, IsFirstHitLine}
use Rattle.text_lines.proofs.AfterLines.{after-hit, hit-closed}
use Rattle.text_lines.proofs.hit_line.HitLines.next_line.Goals as goal

pub invariant_of-self : goal.invariant_of-self
invariant_of-self c =
    let l = c.self.inside.compiled.now.literals in
    let rest = c.self.inside.rest.now in
    let hit = c.in_ok-hit.hit in
    let first = subst (λ (s : HitSearch). IsFirstHitLine s.plan.literals s.rest hit.missed.now hit.line.now hit.after.now) (sym c.first.ensures.same ∙ sym c.self.view_is) c.in_ok-hit.ensures.hit in
    record {
      serves = c.self.invariant.serves;
      by_plan = c.self.invariant.by_plan;
      after = after-hit l c.self.inside.text.now rest hit.missed.now hit.line.now hit.after.now c.self.invariant.after first;
      closed = hit-closed first c.self.invariant.closed;
      apart = c.self.invariant.apart;
      normal = c.self.invariant.normal;
    }
