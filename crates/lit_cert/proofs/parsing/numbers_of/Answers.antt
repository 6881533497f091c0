use Rattle.std.proofs.Common.{◌^◌, eqb, refl, map, length, get_or, arith, rules, tests}
use Rattle.std.proofs.lemmas.List.{length-map}
use Rattle.std.proofs.lemmas.Iterator.Splits.{YieldsList-from_slice_split}
use Rattle.std.proofs.lemmas.Iterator.Consumers.{YieldsList-at}
use Rattle.lit_cert.proofs.Splits.{words_in, yielded_next, yielded_all, same_count, reads_all, word_at}
use Rattle.lit_cert.proofs.Results.{from_none, at_none}
use Rattle.lit_cert.proofs.parsing.numbers_of.Goals as goal

pub returns-then-len-most-clause-wrong : goal.returns-then-len-most-clause-wrong
returns-then-len-most-clause-wrong c =
    let turn = yielded_next c.loop-word.yielded _ c.loop-word.yielded_by _ _ c.in-Some.word c.in-Some.is c.next.ensures.steps (λ w. w.now) (words_in c.args.line.now) (YieldsList-at c.into_iter-word-iterator.ensures.into_iter_gives (YieldsList-from_slice_split _ (λ b. eqb b 32) c.args.line.now c.split-word-items.ensures.rest c.split-word-items.ensures.done c.split-word-items.ensures.closure (λ x b q k. search (rules, tests)))) in (
      refl,
      λ xs has.
          let at = word_at c.args.line.now xs (length c.loop-word.yielded) c.in-Some.word.now has.some has.small has.line_is turn.0 turn.1 in
          let count = same_count (map (λ w. w.now) c.loop-word.yielded) c.loop-word.numbers.items c.args.most (2 ^ 64) c.loop-word.invariant in
          omega (arith, at.0, has.few, c.loop-word.numbers.ok.0, length-map c.loop-word.yielded (λ w. w.now)),
    )

pub returns-in_err-ok_or-clause-wrong : goal.returns-in_err-ok_or-clause-wrong
returns-in_err-ok_or-clause-wrong c =
    let turn = yielded_next c.loop-word.yielded _ c.loop-word.yielded_by _ _ c.in-Some.word c.in-Some.is c.next.ensures.steps (λ w. w.now) (words_in c.args.line.now) (YieldsList-at c.into_iter-word-iterator.ensures.into_iter_gives (YieldsList-from_slice_split _ (λ b. eqb b 32) c.args.line.now c.split-word-items.ensures.rest c.split-word-items.ensures.done c.split-word-items.ensures.closure (λ x b q k. search (rules, tests)))) in
    from_none c.from_residual.result c.number_of.result c.in_err-ok_or.field-0.0 _ _ c.from_residual.ensures.1 c.in_err-ok_or.ensures.value (λ none. (
      refl,
      λ xs has.
          let at = word_at c.args.line.now xs (length c.loop-word.yielded) c.in-Some.word.now has.some has.small has.line_is turn.0 turn.1 in
          at_none c.number_of.result _ none c.number_of.ensures.none (get_or xs (length c.loop-word.yielded) 0) (has.small _ 0 at.0) at.1,
    ))

pub returns-clause-found : goal.returns-clause-found
returns-clause-found c =
    let all = yielded_all c.loop-word.yielded _ c.loop-word.yielded_by _ _ c.in-None.is c.next.ensures.steps (λ w. w.now) (words_in c.args.line.now) (YieldsList-at c.into_iter-word-iterator.ensures.into_iter_gives (YieldsList-from_slice_split _ (λ b. eqb b 32) c.args.line.now c.split-word-items.ensures.rest c.split-word-items.ensures.done c.split-word-items.ensures.closure (λ x b q k. search (rules, tests)))) in
    let so_far = c.loop-word.invariant in
    let read = reads_all c.args.line.now (map (λ w. w.now) c.loop-word.yielded) c.loop-word.numbers.items c.args.most (2 ^ 64) so_far all in
    record { some = read.0; few = so_far.few; small = so_far.small; line_is = read.1 }
