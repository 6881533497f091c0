-- One bit is cleared, and the others stay.
use Rattle.std.proofs.Common.{inl, inr, sym, ap, ◌∙◌, w64}
use Rattle.std.specs.Int.{bit_at}
use Rattle.std.proofs.lemmas.Bool.{cases_eq}
use Rattle.std.proofs.lemmas.Nat.Bits.{bit_at_clear_other, bit_at_clear_same}
use Rattle.shift_search.proofs.entries.without.Goals as goal

pub returns : goal.returns
returns c = λ other small. elim (cases_eq other c.args.bit) [
  | inl same ↦ (λ _. inr same, λ _. ap (bit_at _) same ∙ bit_at_clear_same w64 c.args.entry c.args.bit c.requires)
  | inr apart ↦
      let kept = bit_at_clear_other w64 c.args.entry c.args.bit c.requires other small apart in
      (λ zero. inl (sym kept ∙ zero), λ e. elim e [ inl zero ↦ kept ∙ zero | inr same ↦ absurd (apart same) ])
]
