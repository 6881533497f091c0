-- Each literal is let through after the others.
use Rattle.std.proofs.Common.{◌≡◌, [], subst, arith}
use Rattle.std.proofs.lemmas.List.{get_or_read}
use Rattle.lit_base.specs.Literals.{literal_at}
use Rattle.shift_search.specs.ShiftOr.{AreCleared, FitsPair, IsPassOf}
use Rattle.shift_search.proofs.EntryLemmas.{more_cleared, more_literals}
use Rattle.shift_search.proofs.entries.let_all_through.Goals as goal

pub loop-place-preserved : goal.loop-place-preserved
loop-place-preserved c =
    let l = c.args.list.now in
    let place = c.loop-place.place in
    let here : c.get.result.now ≡ literal_at l place = get_or_read l.texts place c.get.result.now (omega (arith, c.loop-place-test.true)) c.get.ensures.value [] in
    let cleared = subst (λ fold. AreCleared c.loop-place.entries.items c.let_through.new.entries.items (λ number. IsPassOf (FitsPair fold number) c.get.result.now c.bucket_of-bucket.result)) c.fold.ensures c.let_through.ensures.cleared in
    record {
      len = c.let_through.ensures.len;
      cleared = λ number bit small. more_cleared (c.loop-place.invariant.cleared number bit small) (cleared number bit small)
          (more_literals l c.args.buckets.now (FitsPair l.folding number) place bit c.bucket_of-bucket.result c.get.result.now here c.bucket_of-bucket.ensures);
    }
