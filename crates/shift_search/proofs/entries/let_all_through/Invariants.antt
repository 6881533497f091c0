use Rattle.std.proofs.Common.{◌≡◌, vec_len}
use Rattle.shift_search.specs.ShiftOr.{AreCleared, FitsPair, IsPass}
use Rattle.shift_search.specs.declared.entries.TheConstants.{ENTRIES}
use Rattle.shift_search.proofs.entries.let_all_through.Given as goal

-- the literals passed are let through, and nothing else is
abbrev pub invariant-loop-place : goal.invariant-loop-place
invariant-loop-place l = record {
  len : vec_len l.entries ≡ ENTRIES;
  cleared : AreCleared l.fn.entries.items l.entries.items (λ number. IsPass l.list l.buckets (FitsPair l.list.folding number) l.place);
}
