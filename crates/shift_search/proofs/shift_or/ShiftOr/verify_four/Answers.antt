-- The remaining ends of one word after the other, each with the next word for the ends ruled out after it.
use Rattle.std.proofs.Common.{◌≡◌, ℕ, ◌+◌, ◌-◌, ◌*◌, ◌<◌, inl, inr, slice_index, ap, ◌∙◌, subst, arith}
use Rattle.std.specs.Int.{bit_at}
use Rattle.std.proofs.lemmas.Bool.{cases_lt}
use Rattle.std.proofs.lemmas.Nat.Bits.{bit_at-lt, bit_at-zero}
use Rattle.lit_base.specs.NextEnds.{NoEndUpTo}
use Rattle.shift_search.proofs.ShiftOrLemmas.{probes_of_word, low_of_four, none_of_word, none_of_words}
use Rattle.shift_search.proofs.shift_or.ShiftOr.verify_four.Goals as goal

pub words-init : goal.words-init
words-init c = record {
  few = c.lacking-unseen.ensures.few;
  none = λ i four unset. none_of_word c.args.self.now c.args.text.now (c.args.at + 8 * i) (slice_index c.args.ruled i) (omega (arith, c.requires.eight)) (c.requires.ruled i four) (c.lacking-unseen.ensures.full i four unset);
}

pub bounds-words-word : goal.bounds-words-word
bounds-words-word c = omega (arith, low_of_four c.words.unseen c.split_lowest-word.result.0 c.words.invariant.few c.split_lowest-word.ensures.set)

pub bounds-later-word : goal.bounds-later-word
bounds-later-word c = omega (arith, low_of_four c.words.unseen c.split_lowest-word.result.0 c.words.invariant.few c.split_lowest-word.ensures.set)

pub first_verified-requires-clause-inside : goal.first_verified-requires-clause-inside
first_verified-requires-clause-inside c = omega (arith, c.requires.inside, low_of_four c.words.unseen c.split_lowest-word.result.0 c.words.invariant.few c.split_lowest-word.ensures.set)

pub returns-in-Some : goal.returns-in-Some
returns-in-Some c = λ start before none.
    let b = c.args.self.now in
    let text = c.args.text.now in
    let at = c.args.at in
    let split = c.split_lowest-word.ensures in
    let word = c.split_lowest-word.result.0 in
    let unseen = c.words.unseen in
    let four : word < 4 = low_of_four unseen word c.words.invariant.few split.set in
    let passed : NoEndUpTo b.literals text start (at + 8 * word - 1) = none_of_words b.literals text start at word c.requires.eight none (λ i below. c.words.invariant.none i (omega (arith, below, four)) (split.lowest i below)) in
    let probes = probes_of_word b text start at c.args.after c.args.ruled word (omega (arith, before)) c.requires.eight c.requires.inside c.fits-ruled.0 c.fits-ruled.1 four c.requires.ruled c.requires.after passed in
    c.in-Some.ensures start probes

pub words-preserved : goal.words-preserved
words-preserved c =
    let b = c.args.self.now in
    let text = c.args.text.now in
    let at = c.args.at in
    let split = c.split_lowest-word.ensures in
    let word = c.split_lowest-word.result.0 in
    let unseen = c.words.unseen in
    let four : word < 4 = low_of_four unseen word c.words.invariant.few split.set in
    let here : ℕ = at + 8 * word in
    let rest = c.split_lowest-word.result.1 in
    let probes = probes_of_word b text (here - 1) at c.args.after c.args.ruled word (omega (arith, c.requires.eight)) c.requires.eight c.requires.inside c.fits-ruled.0 c.fits-ruled.1 four c.requires.ruled c.requires.after (λ end further within. absurd (omega (arith, further, within))) in
    let own : NoEndUpTo b.literals text (here - 1) (here + 7) = c.in_default.ensures (here - 1) probes in
    record {
      few = omega (arith, split.less, c.words.invariant.few);
      none = λ i below unset. elim (cases_lt i word) [
        | inl sooner ↦ c.words.invariant.none i below (split.lowest i sooner)
        | inr from ↦ elim (cases_lt word i) [
          | inl later ↦ elim (cases_lt (bit_at unseen i) 1) [
            | inl zero_bit ↦ c.words.invariant.none i below (omega (arith, zero_bit))
            | inr set ↦ absurd (omega (arith, unset, (split.others i).1 (later, omega (arith, set, bit_at-lt unseen i))))
          ]
          | inr upto ↦ let same : word ≡ i = omega (arith, from, upto) in subst (λ j. NoEndUpTo b.literals text (at + 8 * j - 1) (at + 8 * j + 7)) same own
        ]
      ];
    }

pub returns : goal.returns
returns c = λ start before none end further within.
    let gone : c.words.unseen ≡ 0 = omega (arith, c.words-test.false) in
    none_of_words c.args.self.now.literals c.args.text.now start c.args.at 4 c.requires.eight none (λ i below. c.words.invariant.none i below (ap (λ w. bit_at w i) gone ∙ bit_at-zero i)) end further (omega (arith, within))
