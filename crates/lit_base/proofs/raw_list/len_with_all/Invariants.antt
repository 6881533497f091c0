-- The count and the length include the patterns so far; the refusal of all is the refusal of the rest.
use Rattle.std.proofs.Common.{◌≡◌, ◌+◌, ◌≤◌, length, sum_by}
use Rattle.lit_base.specs.RawLists.{first_refusal}
use Rattle.lit_base.specs.Patterns.{patterns_of}
use Rattle.lit_base.specs.declared.limits.TheConstants.{MAX_LIST_LEN, MAX_PATTERNS}
use Rattle.lit_base.proofs.raw_list.len_with_all.Given as goal

abbrev pub invariant-loop-pattern : goal.invariant-loop-pattern
invariant-loop-pattern l = record {
  can_next : (goal.iterator-loop-pattern).can_next l.pattern-iterator;
  ends : (goal.iterator-loop-pattern).is_finite l.pattern-iterator;
  few : l.count ≤ MAX_PATTERNS;
  small : l.len_in_all ≤ MAX_LIST_LEN;
  len : l.len_in_all + sum_by length (patterns_of l.pattern-iterator) ≡ l.fn.len_in_all + sum_by length (patterns_of l.fn.patterns);
  refusal : first_refusal l.count l.len_in_all (patterns_of l.pattern-iterator) ≡ first_refusal l.fn.count l.fn.len_in_all (patterns_of l.fn.patterns);
}
