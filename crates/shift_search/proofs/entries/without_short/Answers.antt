-- Each literal clears its own bits alone.
use Rattle.std.proofs.Common.{◌≡◌, [], arith}
use Rattle.std.proofs.lemmas.List.{get_or_read}
use Rattle.lit_base.specs.Literals.{literal_at}
use Rattle.shift_search.specs.ShiftOr.{IsShort}
use Rattle.shift_search.proofs.EntryLemmas.{more_cleared, more_literals}
use Rattle.shift_search.proofs.entries.without_short.Goals as goal

pub loop-place-preserved : goal.loop-place-preserved
loop-place-preserved c = λ bit small.
    let l = c.args.list.now in
    let place = c.loop-place.place in
    let here : c.get.result.now ≡ literal_at l place = get_or_read l.texts place c.get.result.now (omega (arith, c.loop-place-test.true)) c.get.ensures.value [] in
    more_cleared (c.loop-place.invariant bit small) (c.without_ends-found.ensures bit small)
    (more_literals l c.args.buckets.now IsShort place bit c.bucket_of.result c.get.result.now here c.bucket_of.ensures)
