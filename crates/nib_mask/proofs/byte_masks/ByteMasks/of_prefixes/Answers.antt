-- The six tables have the bits of all prefixes.
use Rattle.std.proofs.Common.{◌≡◌, ℕ, List, length, subst}
use Rattle.lit_base.specs.Literals.{Literals}
use Rattle.nib_mask.specs.declared.masks.Masks.{Masks}
use Rattle.nib_mask.specs.Prefixes.{CoversPrefixes, KeepsPrefixes}
use Rattle.nib_mask.proofs.PrefixLemmas.{covers_prefixes}
use Rattle.nib_mask.proofs.TableLemmas.{HaveEntries}
use Rattle.nib_mask.proofs.byte_masks.ByteMasks.of_prefixes.Goals as goal

-- tables for as many literals as a list has miss none of them
covers_all : (l : Literals) (count : ℕ) (offsets buckets : List ℕ) (masks : Masks) → count ≡ length l.texts → HaveEntries (KeepsPrefixes l count offsets buckets) masks → CoversPrefixes l (length l.texts) offsets masks
covers_all l count offsets buckets masks all have = subst (λ (n : ℕ). CoversPrefixes l n offsets masks) all (covers_prefixes l count offsets buckets masks have)

pub returns : goal.returns
returns c = covers_all c.args.list.now c.len-count.result c.args.offsets.now c.args.buckets.now _ c.len-count.ensures.value (record {
  low_0 = c.table.ensures;
  low_1 = c.table-2.ensures;
  low_2 = c.table-3.ensures;
  high_0 = c.table-4.ensures;
  high_1 = c.table-5.ensures;
  high_2 = c.table-6.ensures;
})
