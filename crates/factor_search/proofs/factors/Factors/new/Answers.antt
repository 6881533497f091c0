-- The last bytes have their hash bits, and the masks fit them.
use Rattle.std.proofs.Common.{ℕ, List, length, ap, ◌∙◌, subst, arith}
use Rattle.lit_base.specs.Literals.{Literals}
use Rattle.nib_mask.specs.Prefixes.{CoversPrefixes}
use Rattle.nib_mask.specs.Halves.{widened}
use Rattle.factor_search.specs.Widths.{IsLeastWidth}
use Rattle.factor_search.specs.Factors.{AreFactorBits}
use Rattle.factor_search.proofs.factors.Factors.new.Goals as goal

pub invariant_of-result : goal.invariant_of-result
invariant_of-result c =
    let same = c.list-list.ensures ∙ c.deref.ensures in
    let list = c.list-list.result.now in
    let masks = subst (λ (offsets : List ℕ). CoversPrefixes list (length list.texts) offsets (widened c.masks_of-masks.result)) c.deref-2.ensures.value c.masks_of-masks.ensures.masks in
    let count = ap (λ (l : Literals). length l.texts) same in (
      subst (λ (l : Literals). IsLeastWidth l c.least_width-least.result) same c.least_width-least.ensures,
      subst (λ (l : Literals). AreFactorBits l c.set_hash_bits.new.offsets.items c.set_hash_bits.new.hash_bits.items (length l.texts)) same c.set_hash_bits.ensures,
      subst (λ (l : Literals). CoversPrefixes l (length l.texts) c.set_hash_bits.new.offsets.items (widened c.masks_of-masks.result)) same masks,
      omega (arith, c.masks_of-masks.ensures.buckets, c.in_ok-buckets.ensures.len, c.len-2.ensures.value, count),
      omega (arith, c.in_ok-counts.ensures),
    )
