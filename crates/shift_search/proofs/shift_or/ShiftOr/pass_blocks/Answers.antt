-- A block more in which nothing ends.
use Rattle.std.proofs.Common.{◌≡◌, ◌+◌, inl, inr, slice_index, subst, arith}
use Rattle.std.proofs.lemmas.Bool.{cases_lt}
use Rattle.shift_search.specs.ShiftOr.{RulesOut}
use Rattle.shift_search.proofs.BlockLemmas.{words_noted}
use Rattle.shift_search.proofs.shift_or.ShiftOr.pass_blocks.Goals as goal

pub has_end-requires-clause-noted : goal.has_end-requires-clause-noted
has_end-requires-clause-noted g c =
    let noted = c.note_words-count.ensures in
    words_noted c.args.self.now c.args.text.now (c.quiet.at + 8) 32 c.probe_block-noted.new.words c.probe_block-noted.new.groups c.note_words-count.new.numbers c.probe_block-noted.result.count c.note_words-count.result _ (omega arith)
    (c.probe_block-noted.ensures.block c.args.self.now c.requires.entries c.quiet.invariant.passed.rules) noted.inside noted.noted

pub quiet-preserved : goal.quiet-preserved
quiet-preserved g c =
    let b = c.args.self.now in
    let text = c.args.text.now in
    let before = c.quiet.invariant in
    let next : c.quiet.at + 8 + 1024 ≡ c.quiet.at + 1024 + 8 = omega arith in
    record {
      words = omega (arith, c.probe_block-noted.ensures.words, before.words);
      groups = omega (arith, c.probe_block-noted.ensures.groups, before.groups);
      numbers = omega (arith, c.note_words-count.ensures.numbers, before.numbers);
      after = omega (arith, before.after);
      passed = record {
        some = omega (arith, before.passed.some);
        near = omega (arith, before.passed.near);
        within = omega (arith, c.quiet-test.true, c.saturating_sub-last.ensures);
        none = λ end further upto. elim (cases_lt (c.quiet.at + 7) end) [
          | inl later ↦ c.has_end.ensures c.if-has_end.false end (omega (arith, later)) (omega (arith, upto))
          | inr sooner ↦ before.passed.none end further (omega (arith, sooner))
        ];
        rules = subst (λ p. RulesOut b text p (slice_index c.probe_block-noted.result.after 3)) next (c.probe_block-noted.ensures.block b c.requires.entries before.passed.rules).after;
      };
    }
