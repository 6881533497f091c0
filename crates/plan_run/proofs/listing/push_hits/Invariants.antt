use Rattle.std.proofs.Common.{◌≡◌, ◌++◌, take}
use Rattle.plan_run.specs.Listings.{hit_lines}
use Rattle.plan_run.proofs.listing.push_hits.Given as goal

-- the lines of the hits so far were appended
abbrev pub invariant-loop-hit : goal.invariant-loop-hit
invariant-loop-hit l = l.text.items ≡ l.fn.text.items ++ hit_lines l.line l.compiled.literals (take l.hit-index l.hits)
