-- One more position is read.
use Rattle.std.proofs.Common.{◌+◌, ◌<◌, inl, inr, ◌∙◌, arith}
use Rattle.std.proofs.lemmas.Bool.{cases_lt}
use Rattle.std.proofs.lemmas.List.{length-set}
use Rattle.text_automaton.specs.Prefixes.{IsRead}
use Rattle.text_automaton.proofs.ReadLemmas.{read_on, set_more}
use Rattle.text_automaton.proofs.tables.Tables.read_rest.Goals as goal

pub loop-at-preserved : goal.loop-at-preserved
loop-at-preserved c =
    let before = c.loop-at.invariant in
    let t = c.args.self.now in
    let text = c.args.text.now in
    let longest = c.args.longest in
    let start = c.args.start in
    let at = c.loop-at.at in
    let to = c.next_state-state.result in
    let led = c.next_state-state.ensures in
    record {
      room = length-set c.loop-at.states at to ∙ before.room;
      state = read_on t text longest (start + at) (start + at) (start + (at + 1)) c.loop-at.state to before.state (omega arith) (omega arith) led.value led.state;
      states = λ k low. set_more (λ k s. IsRead t text longest (start + k + 1) s) (λ k. k < at) c.loop-at.states at to (omega (arith, before.room, c.loop-at-test.true, c.requires.few)) before.states
          (read_on t text longest (start + at) (start + at) (start + at + 1) c.loop-at.state to before.state (omega arith) (omega arith) led.value led.state) k
          (elim (cases_lt k at) [
            | inl sooner ↦ inl sooner
            | inr there ↦ inr (omega (arith, low, there))
          ]);
    }
