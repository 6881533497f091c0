-- What stands for patterns without newlines holds none.
use Rattle.std.proofs.Common.{rules}
use Rattle.line_pick.specs.Matching.{StandsFor}
use Rattle.grep_run.proofs.compiled_patterns.CompiledPatterns.new.Goals as goal

pub invariant_of-result : goal.invariant_of-result
invariant_of-result c =
    let stands : StandsFor c.args.fold c.args.patterns.now c.in_ok-plan.plan c.has_null-has_empty.result = search rules in
    record { apart = c.standing_law.ensures.apart c.args.fold c.args.patterns.now c.in_ok-plan.plan c.has_null-has_empty.result stands c.requires }
