-- The literal passes at one position after another, and fits no entry after its first byte.
use Rattle.std.proofs.Common.{◌/◌, ◌<◌, length, inl, inr, ◌∙◌, arith}
use Rattle.shift_search.specs.ShiftOr.{FitsPair}
use Rattle.shift_search.proofs.EntryLemmas.{more_cleared, more_ends, same_cleared}
use Rattle.shift_search.proofs.entries.let_through.Goals as goal

pub loop-ahead-preserved : goal.loop-ahead-preserved
loop-ahead-preserved c =
    let before = c.loop-ahead.invariant in
    record {
      len = c.clear.ensures.len ∙ before.len;
      cleared = λ number bit small.
          let fits = c.fitting-first.ensures.fits number in
          more_cleared (before.cleared number bit small) (c.clear.ensures.cleared number bit small)
          (more_ends (FitsPair c.args.fold number) c.args.literal.now c.args.bucket c.loop-ahead.ahead bit _ c.requires.bucket (λ q. (fits.1 q.0, q.1), λ is. (fits.0 is.0, is.1)));
    }

pub returns-clause-cleared : goal.returns-clause-cleared
returns-clause-cleared c = λ number bit small. same_cleared (c.loop-ahead.invariant.cleared number bit small) (
  λ p. p.0,
  λ p.
      let reaches : bit / 8 < length c.args.literal.now = elim p.1 [ inl first ↦ omega (arith, first.0) | inr pair ↦ omega (arith, pair.0) ] in
      (p, omega (arith, small, reaches, c.min-last.ensures, c.loop-ahead-test.false)),
)
