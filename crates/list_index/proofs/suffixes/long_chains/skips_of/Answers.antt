-- Each literal adds its skip to those after it.
use Rattle.std.proofs.Common.{◌-◌, ◌+◌, ◌<◌, length, ◌∙◌, subst, arith}
use Rattle.std.proofs.lemmas.List.{length-set}
use Rattle.list_index.specs.LongChains.{AreSkips}
use Rattle.list_index.proofs.LongLemmas.{one_more_skip}
use Rattle.list_index.proofs.suffixes.long_chains.skips_of.Goals as goal

pub loop-low-preserved : goal.loop-low-preserved
loop-low-preserved c =
    let old = c.loop-low.invariant in
    let low = c.loop-low.low in
    let room : low - 1 < length c.loop-low.skips.items = omega (arith, c.loop-low-test.true, old.within, old.len) in
    let later : AreSkips c.args.list.now c.args.short.now (low - 1 + 1) c.loop-low.skips.items = subst (λ n. AreSkips c.args.list.now c.args.short.now n c.loop-low.skips.items) (omega (arith, c.loop-low-test.true)) old.skips in
    record {
      within = omega (arith, old.within);
      len = length-set c.loop-low.skips.items (low - 1) c.skip_of-skip.result ∙ old.len;
      skips = one_more_skip c.args.list.now c.args.short.now (low - 1) c.skip_of-skip.result c.loop-low.skips.items room c.skip_of-skip.ensures later;
    }
