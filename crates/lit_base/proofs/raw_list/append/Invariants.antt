-- The list has gained the patterns so far, and starts as it was.
use Rattle.std.proofs.Common.{◌≡◌, ◌++◌, ◌≤◌, length, map, take}
use Rattle.lit_base.specs.Patterns.{patterns_of}
use Rattle.lit_base.proofs.raw_list.append.Given as goal

abbrev pub invariant-loop-pattern : goal.invariant-loop-pattern
invariant-loop-pattern l = record {
  can_next : (goal.iterator-loop-pattern).can_next l.pattern-iterator;
  ends : (goal.iterator-loop-pattern).is_finite l.pattern-iterator;
  gained : map (λ p. p.items) l.list.items ++ patterns_of l.pattern-iterator ≡ map (λ p. p.items) l.fn.list.items ++ patterns_of l.fn.patterns;
  longer : l.before ≤ length (map (λ p. p.items) l.list.items);
  kept : take l.before (map (λ p. p.items) l.list.items) ≡ map (λ p. p.items) l.fn.list.items;
}
