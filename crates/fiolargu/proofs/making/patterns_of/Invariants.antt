-- The patterns so far are in the list; the refusal of all is the refusal of the rest.
use Rattle.std.proofs.Common.{◌≡◌, length, sum_by, take, drop}
use Rattle.lit_base.specs.RawLists.{first_refusal}
use Rattle.fiolargu.specs.Made.{bytes_of}
use Rattle.fiolargu.proofs.making.patterns_of.Given as goal

abbrev pub invariant-loop-pattern : goal.invariant-loop-pattern
invariant-loop-pattern l = record {
  so_far : l.raw ≡ bytes_of (take l.pattern-index l.patterns);
  rest : first_refusal 0 0 (bytes_of l.patterns) ≡ first_refusal (length l.raw) (sum_by length l.raw) (bytes_of (drop l.pattern-index l.patterns));
}
