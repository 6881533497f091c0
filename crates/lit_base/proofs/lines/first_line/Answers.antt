-- The parts round the first newline are the first line and the text of the others.
use Rattle.std.proofs.Common.{◌≡◌, ◌+◌, ◌-◌, ◌∷◌, [], length, take, drop, ap, ◌∙◌, arith}
use Rattle.std.proofs.lemmas.Grind.{common_steps}
use Rattle.lit_base.specs.Lines.{lines}
use Rattle.lit_base.proofs.LineLemmas.{lines-at, lines-none}
use Rattle.lit_base.proofs.lines.first_line.Goals as goal

pub returns-in-Some : goal.returns-in-Some
returns-in-Some c =
    let text = c.args.text.now in
    let at = c.in-Some.at in
    let rest : drop (at + 1) text ≡ take (length text - (at + 1)) (drop (at + 1) text) = grind (arith, common_steps) in
    lines-at text at c.in-Some.ensures.value ∙ ap (λ t. take at text ∷ lines t) rest

pub returns-in-None : goal.returns-in-None
returns-in-None c =
    let whole : c.args.text.now ≡ c.split_at.result.0.now = grind (arith, common_steps) in
    let none : c.split_at.result.1.now ≡ [] = grind (arith, common_steps) in
    lines-none c.args.text.now c.split_at.result.1.now c.requires c.in-None.ensures.value none ∙ ap (λ t. t ∷ lines c.split_at.result.1.now) whole
