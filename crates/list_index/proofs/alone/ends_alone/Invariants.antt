use Rattle.list_index.proofs.AloneLemmas.{AreCleared}
use Rattle.list_index.proofs.alone.ends_alone.Given as goal

-- the shortest suffixes of the literals passed have lost their flags
abbrev pub invariant-loop-place : goal.invariant-loop-place
invariant-loop-place l = AreCleared l.list l.place l.flags.items
