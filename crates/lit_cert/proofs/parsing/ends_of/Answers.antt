use Rattle.std.proofs.Common.{◌≡◌, ◌∙◌, ◌<◌, ◌^◌, ◌∷◌, ◌++◌, [], eqb, sym, ap, map, length, get_or, arith, rules, tests}
use Rattle.std.specs.Fmt.{decimal}
use Rattle.std.proofs.lemmas.List.Elements.{All-weaker}
use Rattle.std.proofs.lemmas.Fmt.{decimal_injective}
use Rattle.std.proofs.lemmas.Result.{Ok-from_Ok_iff, OkIff-at_ok}
use Rattle.std.proofs.lemmas.List.{map_push, length-map}
use Rattle.std.proofs.lemmas.Iterator.Splits.{YieldsList-from_slice_split}
use Rattle.std.proofs.lemmas.Iterator.Consumers.{YieldsList-at}
use Rattle.lit_base.specs.Profiles.{buckets}
use Rattle.lit_cert.proofs.Splits.{words_in, yielded_next, yielded_all, reads_more, same_count, reads_all, word_at}
use Rattle.lit_cert.proofs.Results.{ok_is, ok_is_not}
use Rattle.lit_cert.proofs.parsing.ends_of.Goals as goal

pub returns-in_err-number_of-clause-none : goal.returns-in_err-number_of-clause-none
returns-in_err-number_of-clause-none c =
    let turn = yielded_next c.loop-word.yielded _ c.loop-word.yielded_by _ _ c.in-Some.word c.in-Some.is c.next.ensures.steps (λ w. w.now) (words_in c.args.words.now) (YieldsList-at c.into_iter-word-iterator.ensures.into_iter_gives (YieldsList-from_slice_split _ (λ b. eqb b 32) c.args.words.now c.split-word-items.ensures.rest c.split-word-items.ensures.done c.split-word-items.ensures.closure (λ x b q k. search (rules, tests)))) in
    rw c.from_residual.ensures (λ ends has e.
    let numbers = All-weaker (λ x. x < 2 ^ 16) (λ x. x < 2 ^ 64) (λ x small. omega arith) ends has.small in
    let at = word_at c.args.words.now ends (length c.loop-word.yielded) c.in-Some.word.now has.some numbers e turn.0 turn.1 in
    c.in_err-number_of.ensures.none (get_or ends (length c.loop-word.yielded) 0) (numbers _ 0 at.0) at.1)

pub returns-in_err-end-clause-none : goal.returns-in_err-end-clause-none
returns-in_err-end-clause-none c =
    let turn = yielded_next c.loop-word.yielded _ c.loop-word.yielded_by _ _ c.in-Some.word c.in-Some.is c.next.ensures.steps (λ w. w.now) (words_in c.args.words.now) (YieldsList-at c.into_iter-word-iterator.ensures.into_iter_gives (YieldsList-from_slice_split _ (λ b. eqb b 32) c.args.words.now c.split-word-items.ensures.rest c.split-word-items.ensures.done c.split-word-items.ensures.closure (λ x b q k. search (rules, tests)))) in
    rw c.from_residual-in_err-end.ensures (λ ends has e.
    let numbers = All-weaker (λ x. x < 2 ^ 16) (λ x. x < 2 ^ 64) (λ x small. omega arith) ends has.small in
    let at = word_at c.args.words.now ends (length c.loop-word.yielded) c.in-Some.word.now has.some numbers e turn.0 turn.1 in
    let same = decimal_injective c.in_ok-number_of.field-0 (get_or ends (length c.loop-word.yielded) 0) c.in_ok-number_of.ensures.found.0 (numbers _ 0 at.0) (sym c.in_ok-number_of.ensures.found.1 ∙ at.1) in
    ok_is_not c.try_from.result c.in_ok-number_of.field-0 c.in_err-end.ensures.value (Ok-from_Ok_iff c.try_from.result (c.in_ok-number_of.field-0 < 2 ^ 16) c.in_ok-number_of.field-0 c.try_from.ensures (rw same (has.small _ 0 at.0))))

pub loop-word-preserved : goal.loop-word-preserved
loop-word-preserved c =
    let fits = OkIff-at_ok c.try_from.result (c.in_ok-number_of.field-0 < 2 ^ 16) c.in_ok-number_of.field-0 c.in_ok-end.end c.try_from.ensures (ok_is c.try_from.result c.in_ok-end.end c.in_ok-end.ensures.value) in
    let items : c.push.new.self.items ≡ c.loop-word.ends.items ++ c.in_ok-end.end ∷ [] = c.push.ensures.items in
    let room : length c.loop-word.ends.items < (buckets c.args.profile) = omega (arith, c.loop-word.invariant.few, c.if-len-buckets.false, c.len.ensures.value, c.buckets.ensures.value) in
    let word : c.in-Some.word.now ≡ decimal c.in_ok-end.end = c.in_ok-number_of.ensures.found.1 ∙ ap decimal (sym fits.1) in
    let more = reads_more (map (λ w. w.now) c.loop-word.yielded) c.loop-word.ends.items (buckets c.args.profile) (2 ^ 16) c.in-Some.word.now c.in_ok-end.end c.loop-word.invariant word (rw fits.1 fits.0) room in
    rw (map_push (λ w. w.now) c.loop-word.yielded c.in-Some.word, items) more

pub returns-then-len-buckets-clause-none : goal.returns-then-len-buckets-clause-none
returns-then-len-buckets-clause-none c =
    let turn = yielded_next c.loop-word.yielded _ c.loop-word.yielded_by _ _ c.in-Some.word c.in-Some.is c.next.ensures.steps (λ w. w.now) (words_in c.args.words.now) (YieldsList-at c.into_iter-word-iterator.ensures.into_iter_gives (YieldsList-from_slice_split _ (λ b. eqb b 32) c.args.words.now c.split-word-items.ensures.rest c.split-word-items.ensures.done c.split-word-items.ensures.closure (λ x b q k. search (rules, tests)))) in
    λ ends has e.
    let numbers = All-weaker (λ x. x < 2 ^ 16) (λ x. x < 2 ^ 64) (λ x small. omega arith) ends has.small in
    let at = word_at c.args.words.now ends (length c.loop-word.yielded) c.in-Some.word.now has.some numbers e turn.0 turn.1 in
    let count = same_count (map (λ w. w.now) c.loop-word.yielded) c.loop-word.ends.items (buckets c.args.profile) (2 ^ 16) c.loop-word.invariant in
    let room : length c.loop-word.ends.items < (buckets c.args.profile) = omega (arith, has.few, at.0, length-map c.loop-word.yielded (λ w. w.now)) in
    omega (arith, room, c.if-len-buckets.true, c.len.ensures.value, c.buckets.ensures.value)

pub returns-clause-found : goal.returns-clause-found
returns-clause-found c =
    let all = yielded_all c.loop-word.yielded _ c.loop-word.yielded_by _ _ c.in-None.is c.next.ensures.steps (λ w. w.now) (words_in c.args.words.now) (YieldsList-at c.into_iter-word-iterator.ensures.into_iter_gives (YieldsList-from_slice_split _ (λ b. eqb b 32) c.args.words.now c.split-word-items.ensures.rest c.split-word-items.ensures.done c.split-word-items.ensures.closure (λ x b q k. search (rules, tests)))) in
    let so_far = c.loop-word.invariant in
    let read = reads_all c.args.words.now (map (λ w. w.now) c.loop-word.yielded) c.loop-word.ends.items (buckets c.args.profile) (2 ^ 16) so_far all in
    (record { some = read.0; few = so_far.few; small = so_far.small }, read.1)
