-- One of the probes is by the bytes that a literal is checked by.
use Rattle.std.proofs.Common.{◌≡◌, ℕ, ◌-◌, ◌*◌, ◌%◌, ◌^◌, ◌≤◌, inl, inr, sym, ap, ◌∙◌, subst, arith, below_more}
use Rattle.std.specs.Int.{bit_at}
use Rattle.std.specs.Int.RustNames.{bit_and, bit_or}
use Rattle.std.proofs.lemmas.Bool.{cases_lt}
use Rattle.std.proofs.lemmas.Nat.Bits.{bit_at_ones}
use Rattle.std.proofs.lemmas.Option.{slice_get_within}
use Rattle.list_index.specs.Chains.{key_width_at}
use Rattle.list_index.specs.Checks.{checked_width}
use Rattle.list_index.specs.HashBits.{HasBit}
use Rattle.list_index.specs.Suffixes.{hash_of, last_key}
use Rattle.list_index.specs.declared.suffixes.checks.TheConstants.{CHECK_BITS}
use Rattle.list_index.proofs.CheckLemmas.{IsChecked, bit_kept, checked_short, checked_within, one_bit}
use Rattle.list_index.proofs.HashBitLemmas.{bit_of_left, bit_of_right}
use Rattle.list_index.proofs.SuffixLemmas.{are_bytes, word-occurs}
use Rattle.list_index.proofs.suffixes.checks.SuffixChecks.widths_at.Goals as goal

pub loop-width-preserved : goal.loop-width-preserved
loop-width-preserved c =
    let checks = c.args.self.now in
    let now : ℕ = c.loop-width.width in
    let short : ℕ = c.loop-width.short in
    let byte : ℕ = c.widths_of.result in
    let mask : ℕ = 1 * 2 ^ (now - 1) % 256 in
    below_more (λ width. checks.least ≤ width → IsChecked checks c.last_word-word.result width width → bit_at (bit_or short (bit_and byte mask)) (width - 1) ≡ 1) now
    (λ width before least checked. bit_of_left short (bit_and byte mask) (width - 1) (c.loop-width.invariant width before least checked))
    (λ least checked. bit_of_right short (bit_and byte mask) (now - 1)
    (bit_kept byte mask (now - 1) (one_bit (now - 1) (omega (arith, c.loop-width-test.true))) (ap (λ b. bit_at b (now - 1)) c.widths_of.ensures ∙ checked)))

pub returns : goal.returns
returns c = λ l place is occurs.
    let checks = c.args.self.now in
    let word : ℕ = c.last_word-word.result in
    let there = slice_get_within l.texts place occurs.literal occurs.stands in
    let width : ℕ = key_width_at l place in
    let back : ℕ = width - 1 in
    let least : checks.least ≤ width = omega (arith, is.narrow, is.wide place there) in
    let has : (bytes : ℕ) → checked_width checks.most width ≡ bytes → IsChecked checks word bytes width = λ bytes same.
    let within : bytes ≤ width = omega (arith, same, checked_within checks.most width) in
    subst (λ k. HasBit checks.widths.items (hash_of CHECK_BITS k) back)
    (ap (λ n. last_key l n place) same ∙ sym (word-occurs l c.args.text.now place c.args.end bytes word checks.case_bits (are_bytes c.args.text.now c.type_inv.text) (omega (arith, within)) c.requires.eight (omega (arith, within)) c.last_word-word.ensures is.case occurs))
    (is.bits.has place there) in
    let short : ℕ = c.loop-width.short in
    let longer : ℕ = bit_and c.widths_of-longer.result 127 in
    let widest : ℕ = bit_and c.widths_of-widest.result 128 in
    elim (cases_lt width 8) [
      | inl narrow ↦
          let by = checked_short checks.most width narrow in
          bit_of_left (bit_or short longer) widest back (elim (cases_lt width checks.most) [
            | inl few ↦ bit_of_left short longer back
                (c.loop-width.invariant width (omega (arith, c.loop-width-test.false, few, is.most, least)) least (has width (by ∙ omega (arith, few))))
            | inr enough ↦ bit_of_right short longer back
                (bit_kept c.widths_of-longer.result 127 back (bit_at_ones 7 back (omega (arith, narrow, is.some, least)))
                (ap (λ b. bit_at b back) c.widths_of-longer.ensures ∙ has checks.most (by ∙ omega (arith, enough))))
          ])
      | inr wide ↦
          let eight : width ≡ 8 = omega (arith, wide) in
          bit_of_right (bit_or short longer) widest back
          (bit_kept c.widths_of-widest.result 128 back (ap (λ w. bit_at 128 (w - 1)) eight) (ap (λ b. bit_at b back) c.widths_of-widest.ensures ∙ has 8 (ap (checked_width checks.most) eight)))
    ]
