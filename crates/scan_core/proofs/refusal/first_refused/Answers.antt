use Rattle.std.proofs.Common.{◌≡◌, ◌+◌, [], drop, sym, ap, ◌∙◌}
use Rattle.std.specs.Prelude.{is_some}
use Rattle.std.proofs.lemmas.List.{drop_all}
use Rattle.scan_wire.specs.Messages.{texts_of}
use Rattle.scan_core.specs.Refusals.{first_refusal, literal_refusal}
use Rattle.scan_core.proofs.RefusalLemmas.{earlier_none, earlier_some, refusal_from}
use Rattle.scan_core.proofs.refusal.first_refused.Goals as goal

pub returns-then-is_some : goal.returns-then-is_some
returns-then-is_some c =
    let i = c.loop-literal.literal-index in
    let v = c.literal-item.result in
    let rest = first_refusal (i + 1) (texts_of (drop (i + 1) c.args.literals.now)) in
    let own : c.refusal_of_literal-refusal.result ≡ literal_refusal i v.items =
    c.refusal_of_literal-refusal.ensures ∙ ap (λ p. literal_refusal p c.deref.result.now) c.loop-literal.invariant.place ∙ ap (literal_refusal i) c.deref.ensures.value in
    let some = ap is_some (sym own) ∙ sym c.is_some.ensures ∙ c.if-is_some.true in
    own ∙ sym (c.loop-literal.invariant.rest ∙ refusal_from c.args.literals.now i v c.loop-literal-test.true c.literal-item.is ∙ earlier_some (literal_refusal i v.items) rest some)

pub loop-literal-preserved : goal.loop-literal-preserved
loop-literal-preserved c =
    let i = c.loop-literal.literal-index in
    let v = c.literal-item.result in
    let rest = first_refusal (i + 1) (texts_of (drop (i + 1) c.args.literals.now)) in
    let own : c.refusal_of_literal-refusal.result ≡ literal_refusal i v.items =
    c.refusal_of_literal-refusal.ensures ∙ ap (λ p. literal_refusal p c.deref.result.now) c.loop-literal.invariant.place ∙ ap (literal_refusal i) c.deref.ensures.value in
    let none = ap is_some (sym own) ∙ sym c.is_some.ensures ∙ c.if-is_some.false in
    record {
      place = ap (λ n. n + 1) c.loop-literal.invariant.place;
      rest = c.loop-literal.invariant.rest ∙ refusal_from c.args.literals.now i v c.loop-literal-test.true c.literal-item.is ∙ earlier_none (literal_refusal i v.items) rest none;
    }

pub returns : goal.returns
returns c =
    let i = c.loop-literal.literal-index in
    let past : drop i c.args.literals.now ≡ [] = drop_all i c.args.literals.now c.loop-literal-test.false in
    sym (c.loop-literal.invariant.rest ∙ ap (λ ls. first_refusal i (texts_of ls)) past)
