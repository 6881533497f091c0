use Rattle.list_index.specs.Checks.{checked_key, width_bit}
use Rattle.list_index.specs.HashBits.{AreKeyBits}
use Rattle.list_index.specs.declared.suffixes.checks.TheConstants.{CHECK_BITS}
use Rattle.list_index.proofs.suffixes.checks.SuffixChecks.new.Given as goal

-- the literals passed are checked, and nothing else is
abbrev pub invariant-loop-place : goal.invariant-loop-place
invariant-loop-place l = AreKeyBits CHECK_BITS (checked_key l.list l.most) (width_bit l.list) l.place l.widths.items
