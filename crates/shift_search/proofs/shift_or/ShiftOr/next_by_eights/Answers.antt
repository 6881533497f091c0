-- The remaining ends at eight positions are verified one after the other, and then the rest of the text is searched
-- position by position.
use Rattle.std.specs.Int.{bit_not}
use Rattle.std.proofs.Common.{ℕ, ◌+◌, bit_or, length, arith, w64}
use Rattle.std.proofs.lemmas.Nat.{or_lt}
use Rattle.shift_search.specs.Probes.{AreProbes}
use Rattle.shift_search.specs.ShiftOr.{IsRuled}
use Rattle.shift_search.proofs.ShiftOrLemmas.{probes_here, ruled_joined, verified_further}
use Rattle.shift_search.proofs.shift_or.ShiftOr.next_by_eights.Goals as goal
use Rattle.shift_search.proofs.shift_or.ShiftOr.next_by_eights.Goals.{After-probes_from-now}
use Rattle.shift_search.proofs.shift_or.ShiftOr.next_by_eights.Given.{Over}

-- the probes at the next eight positions, with what those before them rule out there, are the state of a search
made : (g : Over) (c : After-probes_from-now g) → AreProbes c.args.self.now c.args.text.now c.args.start (record { at = c.eights.at + 8; unruled = bit_not w64 (bit_or c.probes_from-now.result.here c.eights.carried); carried = c.probes_from-now.result.after })
made g c =
    let b = c.args.self.now in
    let text = c.args.text.now in
    let before = c.eights.invariant in
    let now = c.probes_from-now.result in
    let at : ℕ = c.eights.at + 8 in
    let is : IsRuled b text at now = c.probes_from-now.ensures b c.requires.entries in
    probes_here b text c.args.start at (bit_or now.here c.eights.carried) now.after (omega (arith, before.near)) (omega (arith, before.some)) (omega (arith, c.eights-test.true, before.some, c.saturating_sub-last.ensures))
    (or_lt 64 now.here c.eights.carried (omega arith) (omega arith)) (λ end later within. before.none end later (omega (arith, within))) (ruled_joined b text at now.here c.eights.carried is.here before.rules) is.after

pub returns-in-Some : goal.returns-in-Some
returns-in-Some g c = c.in-Some.ensures c.args.start (made g (goal.at.returns-in-Some g c).After-probes_from-now)

pub eights-preserved : goal.eights-preserved
eights-preserved g c =
    let state = made g (goal.at.eights-preserved g c).After-probes_from-now in
    record {
      some = omega (arith, c.eights.invariant.some);
      near = omega (arith, c.eights.invariant.near);
      within = state.within;
      none = c.in_default.ensures c.args.start state;
      rules = state.carried;
    }

pub returns : goal.returns
returns g c = verified_further c.args.self.now c.args.text.now c.args.start (c.eights.at + 7) (length c.args.text.now) c.next_unprobed.result c.eights.invariant.near c.eights.invariant.none c.next_unprobed.ensures
