-- One literal after the other is added.
use Rattle.std.proofs.Common.{◌+◌, ◌<◌, ℕ, [], ◌∷◌, ◌++◌, inl, inr, length, slice_index, ap, subst, arith}
use Rattle.std.proofs.lemmas.Bool.{cases_lt}
use Rattle.std.proofs.lemmas.List.{append-nil, length-append}
use Rattle.lit_base.specs.Occurrences.{IsFirstEnding}
use Rattle.text_ends.proofs.HitLists.{gained_both, gained_one, hits_at_ended, hits_at_more, hits_at_none}
use Rattle.text_automaton.proofs.OutputListLemmas.{output_below, output_few, output_next, output_none, output_within}
use Rattle.text_automaton.proofs.automaton_ends.add_output.Goals as goal
use Rattle.std.proofs.Common.{◌≡◌, sym}

pub loop-place-init : goal.loop-place-init
loop-place-init c = record {
  from = 0;
  found = [];
  grown = sym (append-nil c.args.out.now.items);
  added = hits_at_none c.args.list.now c.args.text.now c.args.end c.args.at;
  passed = λ k low. absurd (omega (arith, low));
  left = λ k after within. omega arith;
  few = omega arith;
}

pub hit_of-requires : goal.hit_of-requires
hit_of-requires c =
    let small = output_within c.args.list.now c.args.text.now c.args.end c.args.output.now c.loop-place.place c.requires.output c.loop-place-test.true in
    omega (arith, small, c.from.ensures)

pub loop-place-preserved : goal.loop-place-preserved
loop-place-preserved c =
    let before = c.loop-place.invariant in
    let l = c.args.list.now in
    let text = c.args.text.now in
    let end = c.args.end in
    let output = c.args.output.now in
    let i = c.loop-place.place in
    let hit : ℕ × ℕ = (c.from.result, c.args.at) in
    let is : c.from.result ≡ slice_index output i = c.from.ensures in
    let next : IsFirstEnding l text before.from end c.from.result =
    subst (IsFirstEnding l text before.from end) (sym is) (output_next l text end output i before.from c.requires.output c.loop-place-test.true before.passed (before.left i (omega arith) c.loop-place-test.true)) in
    record {
      from = c.from.result + 1;
      found = before.found ++ hit ∷ [];
      grown = gained_both c.args.out.now.items c.loop-place.out.items c.push.new.self.items before.found (hit ∷ []) before.grown
          (gained_one c.loop-place.out.items c.push.new.self.items c.hit_of.result hit c.in_ok-push.ensures.items c.hit_of.ensures);
      added = hits_at_more l text end c.args.at before.from c.from.result before.found before.added next;
      passed = λ k low. elim (cases_lt k i) [
        | inl sooner ↦ let below = output_below l text end output k i c.requires.output sooner c.loop-place-test.true in omega (arith, below, is)
        | inr there ↦
            let here : k ≡ i = omega (arith, low, there) in
            subst (λ x. slice_index output x < c.from.result + 1) (sym here) (omega (arith, is))
      ];
      left = λ k after within. let above = output_below l text end output i k c.requires.output (omega (arith, after)) within in omega (arith, above, is);
      few = omega (arith, length-append before.found (hit ∷ []), before.few);
    }

pub returns-clause-ok : goal.returns-clause-ok
returns-clause-ok c =
    let all = c.loop-place.invariant in
    record {
      found = all.found;
      grown = all.grown;
      added = hits_at_ended c.args.list.now c.args.text.now c.args.end c.args.at all.from all.found all.added
          (output_none c.args.list.now c.args.text.now c.args.end c.args.output.now all.from c.requires.output (λ k within. all.passed k (omega (arith, within, c.loop-place-test.false))));
    }

pub returns-clause-few : goal.returns-clause-few
returns-clause-few c =
    let all = c.loop-place.invariant in
    let few = output_few c.args.list.now c.args.text.now c.args.end c.args.output.now c.requires.output in
    omega (arith, ap length all.grown, length-append c.args.out.now.items all.found, all.few, few, c.loop-place.auto.place-end)
