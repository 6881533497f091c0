-- The states that were read belong to their positions.
use Rattle.std.proofs.Common.{◌≡◌, ◌+◌, ◌≤◌, All, ap, ◌∙◌, subst, slice_index, arith}
use Rattle.lit_base.specs.Literals.{IsNormal, Literals, lengths}
use Rattle.text_automaton.specs.Automata.{IsStateAt, Outputs}
use Rattle.text_automaton.specs.TableStates.{has_tables}
use Rattle.text_automaton.proofs.OutputLemmas.{state_there}
use Rattle.text_automaton.proofs.automaton.Automaton.read_on.Goals as goal

pub returns-clause-reading : goal.returns-clause-reading
returns-clause-reading c =
    let a = c.self.inside in
    let text = c.args.text.now in
    let start = c.args.reading.now.start + c.args.reading.now.count in
    let states = c.read_after-count.new.states in
    let same : c.list-list.result.now ≡ a.index.value = c.list-list.ensures ∙ c.deref.ensures in
    let normal : IsNormal a.index.value = subst IsNormal same c.normal_law.ensures in
    let longest = subst (λ (l : Literals). All (λ len. len ≤ c.longest-longest.result) (lengths l)) same c.longest-longest.ensures.greatest in
    let right = c.self.invariant.0 (ap (λ (x : Outputs). x.is_made) c.self.view_is ∙ c.requires.reading.made) in
    record {
      made = c.requires.reading.made;
      states = λ at low. subst (λ (x : Outputs). IsStateAt x text (start + at + 1) (slice_index states at)) c.self.view_is
          (state_there a.tables a.index.value text c.longest-longest.result (start + at + 1) (slice_index states at) (has_tables a.state) right normal.nonempty longest
          (λ i. omega (arith, c.type_inv.text i)) (omega (arith, low, c.read_after-count.ensures.count, c.requires.more)) (c.read_after-count.ensures.states at low));
      passed = omega arith;
      room = omega (arith, c.read_after-count.ensures.count);
      inside = omega (arith, c.read_after-count.ensures.count, c.requires.more);
    }
