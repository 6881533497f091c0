use Rattle.std.proofs.Common.{Fits, w8, ◌∙◌, ◌%◌, ◌/◌, ◌<◌, ℕ, ap, arith, get_or}
use Rattle.std.proofs.lemmas.Simd.{Each1-get_or}
use Rattle.byte_lanes.proofs.LaneLemmas.{lanes_named}
use Rattle.byte_lanes.proofs.FilterLemmas.{lanes_by_entries}
use Rattle.byte_lanes.specs.Entries.{entries_value}
use Rattle.byte_lanes.proofs.entries.MaskEntries.at_position.Goals as goal

pub returns : goal.returns
returns c of_low of_high low high =
    let bytes = c.args.bytes in
    let low_half = λ (k : ℕ) (l : k < 32). c.widen.ensures.each k l ∙ c.low_halves.ensures.each k l in
    let high_half = λ (k : ℕ) (l : k < 32). c.widen-2.ensures.each k l ∙ c.high_halves.ensures.each k l in
    let byte = λ (k : ℕ) (l : k < 32). (Each1-get_or (Fits w8) bytes k 0 (omega (arith, c.fits-bytes.0, l)) c.fits-bytes.1).fits in
    lanes_by_entries bytes of_low of_high
    (lanes_named _ c.look_up.ensures
    (λ k l. ap (entries_value c.args.low.now.halves c.args.low.now.values c.args.low.now.count) (low_half k l) ∙ low (get_or bytes k 0 % 16) (omega arith)))
    (lanes_named _ c.look_up-2.ensures
    (λ k l.
    ap (entries_value c.args.high.now.halves c.args.high.now.values c.args.high.now.count) (high_half k l)
    ∙ high (get_or bytes k 0 / 16) (omega (arith, byte k l))))
    c.both_wide.ensures
