-- A pair of bytes is one number, and the numbers of all pairs with one last byte stand in a row.
use Rattle.std.proofs.Common.{◌≡◌, ◌-◌, ◌/◌, ◌^◌, length, inl, inr, ap, arith}
use Rattle.shift_search.specs.ShiftOr.{last_number_at, number_at}
use Rattle.shift_search.proofs.entries.fitting.Goals as goal

pub returns-then-end-eq1-clause-fits : goal.returns-then-end-eq1-clause-fits
returns-then-end-eq1-clause-fits c = λ number.
    let last : c.suffix_key-first.result / 2 ^ 56 ≡ last_number_at c.args.fold c.args.literal.now 1 = ap (λ k. k / 2 ^ 56) c.suffix_key-first.ensures in (
      λ fits. elim fits [
        | inl first ↦ (omega (arith, first.1, last), omega (arith, first.1, last))
        | inr pair ↦ absurd (omega (arith, pair.0, c.if-end-eq1.true))
      ],
      λ inside. inl (omega (arith, c.if-end-eq1.true, c.requires), omega (arith, inside.0, inside.1, last)),
    )

pub returns-clause-fits : goal.returns-clause-fits
returns-clause-fits c = λ number.
    let literal = c.args.literal.now in
    let pair : c.suffix_key-pair.result / 2 ^ 48 ≡ number_at c.args.fold literal (length literal - c.args.ahead) = ap (λ k. k / 2 ^ 48) c.suffix_key-pair.ensures in (
      λ fits. elim fits [
        | inl first ↦ absurd (omega (arith, first.0, c.if-end-eq1.false))
        | inr is ↦ (omega (arith, is.1, pair), omega (arith, is.1, pair))
      ],
      λ inside. inr (omega (arith, c.if-end-eq1.false, c.requires), omega (arith, inside.0, inside.1, pair)),
    )
