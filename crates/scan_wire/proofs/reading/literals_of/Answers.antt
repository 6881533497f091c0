use Rattle.std.proofs.Common.{◌≡◌, ◌∷◌, [], ◌++◌, ◌∙◌, List, ℕ, length, ap, refl, arith, rules}
use Rattle.std.proofs.lemmas.Bool.{eqb-false}
use Rattle.std.proofs.lemmas.List.{map_push}
use Rattle.scan_wire.specs.Messages.{texts_of}
use Rattle.scan_wire.proofs.LiteralLemmas.{no_more, no_next, so_far_more}
use Rattle.scan_wire.proofs.reading.literals_of.Goals as goal

pub returns-in_default-clause-wrong : goal.returns-in_default-clause-wrong
returns-in_default-clause-wrong c =
    (refl, no_next c.args.count c.args.bytes.now (texts_of c.loop.literals.items) c.loop.rest.now c.loop.invariant.short (omega (arith, c.loop.invariant.count_is)) c.loop.invariant.text_is c.in_default.ensures.none)

pub loop-preserved : goal.loop-preserved
loop-preserved c =
    let literal = c.in_ok-from_slice.field-0 in
    let pushed : texts_of c.push.new.self.items ≡ texts_of c.loop.literals.items ++ c.in-Some.literal.now ∷ [] =
    rw c.in_ok-push.ensures.items (map_push _ c.loop.literals.items literal ∙ ap (λ (x : List ℕ). texts_of c.loop.literals.items ++ x ∷ []) c.in_ok-from_slice.ensures.items) in
    so_far_more c.loop.counter c.args.bytes.now (texts_of c.loop.literals.items) (texts_of c.push.new.self.items) c.in-Some.literal.now c.loop.rest.now c.in-Some.after.now c.loop.invariant c.in-Some.ensures.found.0 c.in-Some.ensures.found.1 pushed

pub returns-else-is_empty-clause-wrong : goal.returns-else-is_empty-clause-wrong
returns-else-is_empty-clause-wrong c =
    (refl, no_more c.args.count c.args.bytes.now (texts_of c.loop.literals.items) c.loop.rest.now c.loop.invariant.short (omega (arith, c.loop.invariant.count_is)) c.loop.invariant.text_is (λ e. eqb-false (length c.loop.rest.now) 0 (search rules) (ap length e)))
