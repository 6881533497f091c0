-- The entries of the bytes without case lack what the base lacks, and what the literals clear; then all are as these.
use Rattle.std.proofs.Common.{◌≡◌, ◌/◌, ◌^◌, bit_or, slice_index, inl, inr, sym, ap, ◌∙◌, arith}
use Rattle.std.specs.Int.{bit_at}
use Rattle.std.proofs.lemmas.Nat.{or_lt}
use Rattle.std.proofs.lemmas.Nat.Bits.{bit_at_ones}
use Rattle.list_index.specs.Suffixes.{case_bits}
use Rattle.shift_search.specs.ShiftOr.{pair_case_bits}
use Rattle.shift_search.proofs.ShiftOrLemmas.{pair_case_small}
use Rattle.shift_search.proofs.entries.fill_all.Goals as goal

pub returns : goal.returns
returns c = record {
  all = omega (arith, c.leave_case_out.ensures.len);
  each = λ number bit small low.
      let case = pair_case_bits c.args.list.now.folding in
      let plain = bit_or number case in
      let old = c.let_all_through.new.entries.items in
      let same : slice_index c.leave_case_out.new.entries.items number ≡ slice_index old plain =
      c.leave_case_out.ensures.alike number small ∙ ap (λ bits. slice_index old (bit_or number (bits / 2 ^ 48))) (c.case_bits.ensures ∙ ap case_bits c.fold.ensures) in
      let first = c.fill_with.ensures.alike plain (or_lt 16 number case small (pair_case_small c.args.list.now.folding)) in
      let short = c.without_short.ensures bit low in
      let through = c.let_all_through.ensures.cleared plain bit low in (
        λ zero. elim (through.0 (ap (λ e. bit_at e bit) (sym same) ∙ zero)) [
          | inl base ↦ elim (short.0 (ap (λ e. bit_at e bit) (sym first) ∙ base)) [
            | inl none ↦ absurd (omega (arith, bit_at_ones 64 bit low, none))
            | inr is ↦ inl is
          ]
          | inr is ↦ inr is
        ],
        λ needed. ap (λ e. bit_at e bit) same ∙ through.1 (elim needed [
          | inl is ↦ inl (ap (λ e. bit_at e bit) first ∙ short.1 (inr is))
          | inr is ↦ inr is
        ]),
      );
}
