-- The bits are the answers of the tests, state by state.
use Rattle.std.proofs.Common.{ℕ, ◌<◌, ◌≤◌, subst, arith}
use Rattle.std.proofs.lemmas.Simd.{get_or-chunk, length-chunk}
use Rattle.text_automaton.proofs.QuietLemmas.{quiet_run}
use Rattle.text_automaton.proofs.reporting.count_quiet.Goals as goal

pub returns : goal.returns
returns c =
    let states = c.args.states.now in
    let run = quiet_run _ c.args.quiet c.trailing_ones.result (length-chunk c.args.at 32 states c.requires) c.trailing_ones.ensures in
    let state = λ (k : ℕ) (low : k < 32). get_or-chunk c.args.at 32 states k 0 low in
    record {
      few = run.0;
      none = λ k low. subst (λ x. x < c.args.quiet) (state k (omega (arith, low, run.0))) (run.1 k low);
      reporting = λ low. subst (λ x. c.args.quiet ≤ x) (state c.trailing_ones.result low) (run.2 low);
    }
