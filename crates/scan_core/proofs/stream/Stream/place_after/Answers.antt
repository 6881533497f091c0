use Rattle.std.proofs.Math.Nat.{min-le_right}
use Rattle.std.proofs.Common.{ℕ, ◌-◌, sym, subst, arith}
use Rattle.lit_plan.specs.Plans.{Plan}
use Rattle.lit_plan.specs.Bounds.{HasBounds, carry_of}
use Rattle.scan_core.specs.Prefixes.{IsKept}
use Rattle.scan_core.specs.Sessions.{Bound}
use Rattle.scan_core.proofs.stream.Stream.place_after.Goals as goal

pub returns-clause-kept : goal.returns-clause-kept
returns-clause-kept c =
    let scan = c.self.inside.scanner in
    subst (λ (n : ℕ × Bound). IsKept n.1.scan) c.self.view_is record {
      bounds = subst (λ (p : Plan). HasBounds p.literals) (sym c.self.invariant) c.carry-carry.ensures.bounds;
      short = omega (arith, c.place.ensures.tail, min-le_right (c.place.result - scan.base) (carry_of scan.plan.literals));
    }
