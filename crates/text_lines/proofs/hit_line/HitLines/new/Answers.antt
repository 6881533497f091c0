-- A text stands after nothing, and the literals of the plan are in normal form.
use Rattle.std.proofs.Common.{subst}
use Rattle.lit_base.specs.Literals.{IsNormal}
use Rattle.text_lines.proofs.AfterLines.{after-nothing}
use Rattle.text_lines.proofs.hit_line.HitLines.new.Goals as goal

pub invariant_of-result : goal.invariant_of-result
invariant_of-result c = record {
  serves = c.requires.finder;
  by_plan = c.new.ensures;
  after = after-nothing c.args.text.now;
  closed = c.requires.closed;
  apart = c.requires.apart;
  normal = subst IsNormal c.list.ensures c.normal_law.ensures;
}
