use Rattle.std.proofs.Common.{◌≡◌, ◌/◌, ◌<◌, vec_len}
use Rattle.shift_search.specs.ShiftOr.{AreCleared, FitsPair, IsPassOf}
use Rattle.shift_search.specs.declared.entries.TheConstants.{ENTRIES}
use Rattle.shift_search.proofs.entries.let_through.Given as goal

-- the literal passes at the positions so far
abbrev pub invariant-loop-ahead : goal.invariant-loop-ahead
invariant-loop-ahead l = record {
  len : vec_len l.entries ≡ ENTRIES;
  cleared : AreCleared l.fn.entries.items l.entries.items (λ number bit. IsPassOf (FitsPair l.fold number) l.literal l.bucket bit × (bit / 8 < l.ahead));
}
