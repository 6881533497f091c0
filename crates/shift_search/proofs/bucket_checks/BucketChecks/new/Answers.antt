-- The table has no bit at first, and in the end those of the literals alone.
use Rattle.std.proofs.Common.{ap, ◌∙◌}
use Rattle.list_index.specs.Suffixes.{case_bits}
use Rattle.list_index.proofs.HashBitLemmas.{no_key_bits}
use Rattle.shift_search.specs.declared.bucket_checks.TheConstants.{CHECK_BITS}
use Rattle.shift_search.proofs.bucket_checks.BucketChecks.new.Goals as goal

pub set_checks-requires-clause-none : goal.set_checks-requires-clause-none
set_checks-requires-clause-none c = no_key_bits CHECK_BITS _ _ _ (c.in_ok-table.ensures.items_if_clones_equal (λ y same. same))

pub returns : goal.returns
returns c = record {
  case = c.case_bits.ensures ∙ ap case_bits c.fold.ensures;
  widths = c.narrow_all.ensures;
  bits = rw c.deref.ensures.value at c.set_checks.ensures;
}
