-- The chosen factors have their hash bits, and the masks fit them.
use Rattle.std.proofs.Common.{ℕ, List, length, ap, ◌∙◌, subst, arith}
use Rattle.lit_base.specs.Literals.{Literals}
use Rattle.nib_mask.specs.Prefixes.{CoversPrefixes}
use Rattle.nib_mask.specs.Halves.{widened}
use Rattle.factor_search.specs.Factors.{AreFactorBits}
use Rattle.factor_search.proofs.factors.Factors.tune.Goals as goal

pub invariant_of-self : goal.invariant_of-self
invariant_of-self c =
    let same = c.list-list.ensures ∙ c.deref.ensures in
    let list = c.list-list.result.now in
    let masks = subst (λ (offsets : List ℕ). CoversPrefixes list (length list.texts) offsets (widened c.masks_of-self-inside.result)) c.deref-2.ensures.value c.masks_of-self-inside.ensures.masks in
    let count = ap (λ (l : Literals). length l.texts) same in (
      c.self.invariant.0,
      subst (λ (l : Literals). AreFactorBits l c.set_hash_bits.new.offsets.items c.set_hash_bits.new.hash_bits.items (length l.texts)) same c.set_hash_bits.ensures,
      subst (λ (l : Literals). CoversPrefixes l (length l.texts) c.set_hash_bits.new.offsets.items (widened c.masks_of-self-inside.result)) same masks,
      omega (arith, c.masks_of-self-inside.ensures.buckets, c.self.invariant.3),
      omega (arith, c.count.ensures),
    )
