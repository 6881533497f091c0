use Rattle.list_index.specs.HashBits.{AreKeyBits}
use Rattle.shift_search.specs.ShiftOr.{bucket_at, bucket_key}
use Rattle.shift_search.specs.declared.bucket_checks.TheConstants.{CHECK_BITS}
use Rattle.shift_search.proofs.bucket_checks.set_checks.Given as goal

-- the literals passed have their bits, and nothing else has
abbrev pub invariant-loop-place : goal.invariant-loop-place
invariant-loop-place l = AreKeyBits CHECK_BITS (bucket_key l.list l.buckets l.widths) (bucket_at l.buckets) l.place l.table.items
