-- Where the bucket's bit is not set, none of its literals has the bytes before the end.
use Rattle.std.proofs.Common.{◌≡◌, sym, ap, ◌∙◌, subst, arith}
use Rattle.std.specs.Int.{bit_at}
use Rattle.std.specs.List.{slice_index}
use Rattle.std.proofs.lemmas.Bool.{false≢true}
use Rattle.std.proofs.lemmas.Grind.{get_or_default_zero}
use Rattle.std.proofs.lemmas.Option.{slice_get_within}
use Rattle.lit_base.specs.Literals.{Literals}
use Rattle.list_index.specs.Suffixes.{hash_of, last_key, masked_key}
use Rattle.list_index.proofs.SuffixLemmas.{are_bytes, word-occurs}
use Rattle.shift_search.specs.ShiftOr.{Bucketing, NoneOf, bucket_at, bucket_key}
use Rattle.shift_search.specs.declared.bucket_checks.TheConstants.{CHECK_BITS}
use Rattle.shift_search.proofs.ShiftOrLemmas.{few_buckets}
use Rattle.shift_search.proofs.shift_or.ShiftOr.may_end.Goals as goal

pub returns : goal.returns
returns c = λ cleared.
    let l : Literals = c.self.inside.index.value in
    let text = c.args.text.now in
    let buckets = c.self.inside.buckets.items in
    let checks = c.self.inside.checks in
    let widths = checks.widths.items in
    let table = checks.table.items in
    let has = c.self.invariant.3 in
    let width = c.index-width.result.now in
    let byte = c.index.result.now in
    let known : width ≡ slice_index widths c.args.bucket = c.index-width.ensures ∙ get_or_default_zero widths c.args.bucket width (omega (arith, c.requires.bucket, has.widths.eight)) in
    let read : byte ≡ slice_index table (hash_of CHECK_BITS (masked_key c.last_word.result width checks.case_bits)) =
    c.index.ensures ∙ get_or_default_zero table c.hash_of.result byte (omega (arith, c.hash_of.ensures.below, has.bits.room)) ∙ ap (slice_index table) (c.hash_of.ensures.value ∙ ap (hash_of CHECK_BITS) c.masked_key-key.ensures) in
    subst (λ (v : Bucketing). NoneOf v text c.args.bucket c.args.end) c.self.view_is (λ place same occurs.
    let there = slice_get_within l.texts place occurs.literal occurs.stands in
    let bucket = bucket_at buckets place in
    let own : width ≡ slice_index widths bucket = known ∙ ap (slice_index widths) (sym same) in
    let key : masked_key c.last_word.result width checks.case_bits ≡ bucket_key l buckets widths place =
    word-occurs l text place c.args.end width c.last_word.result checks.case_bits (are_bytes text c.type_inv.text) (omega (arith, own, has.widths.narrow bucket (few_buckets buckets place))) c.requires.eight (omega (arith, own, has.widths.long place there)) c.last_word.ensures has.case occurs
    ∙ ap (λ w. last_key l w place) own in
    let set : bit_at byte c.args.bucket ≡ 1 = ap (bit_at byte) (sym same) ∙ ap (λ b. bit_at b bucket) (read ∙ ap (λ k. slice_index table (hash_of CHECK_BITS k)) key) ∙ has.bits.has place there in
    false≢true (sym cleared ∙ c.has_bit.ensures.1 set))
