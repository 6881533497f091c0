-- Each literal adds its bit alone.
use Rattle.std.proofs.Common.{◌≡◌, ◌<◌, [], length, slice_index, ◌∙◌, arith}
use Rattle.std.proofs.lemmas.List.{get_or_read}
use Rattle.lit_base.specs.Literals.{literal_at}
use Rattle.list_index.specs.Suffixes.{suffix_key}
use Rattle.list_index.proofs.HashBitLemmas.{more_key_bits}
use Rattle.shift_search.specs.ShiftOr.{bucket_at, bucket_key}
use Rattle.shift_search.specs.declared.bucket_checks.TheConstants.{CHECK_BITS}
use Rattle.shift_search.proofs.bucket_checks.set_checks.Goals as goal

pub loop-place-preserved : goal.loop-place-preserved
loop-place-preserved c =
    let l = c.args.list.now in
    let place = c.loop-place.place in
    let buckets = c.args.buckets.now in
    let widths = c.args.widths.now in
    let inside : place < length l.texts = omega (arith, c.loop-place-test.true) in
    let here : c.get-literal.result.now ≡ literal_at l place = get_or_read l.texts place c.get-literal.result.now inside c.get-literal.ensures.value [] in
    let its : c.bucket_of-bucket.result ≡ bucket_at buckets place = c.bucket_of-bucket.ensures in
    let key : c.suffix_key-key.result ≡ bucket_key l buckets widths place = c.suffix_key-key.ensures ∙ (λ i. suffix_key (c.fold.ensures i) (here i) (length (here i)) (slice_index widths (its i))) in
    more_key_bits CHECK_BITS (bucket_key l buckets widths) (bucket_at buckets) place c.suffix_key-key.result c.bucket_of-bucket.result c.loop-place.table.items c.set_hash_bit.new.table.items c.loop-place.invariant key its (omega (arith, c.set_hash_bit.ensures.len)) c.set_hash_bit.ensures.set
