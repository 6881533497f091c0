-- Zeros stand for the bytes before the text, and there are none before eight bytes of it.
use Rattle.std.proofs.Common.{◌≡◌, ℕ, ◌-◌, ◌++◌, length, take, replicate, sym, ap, ◌∙◌, arith}
use Rattle.std.specs.List.{slice_range}
use Rattle.std.proofs.lemmas.List.Edits.{length-between}
use Rattle.std.proofs.lemmas.Slice.{between_from_start}
use Rattle.list_index.specs.Suffixes.{spelled}
use Rattle.list_index.proofs.suffixes.key.word_before.Goals as goal

pub returns-then-end-lt8 : goal.returns-then-end-lt8
returns-then-end-lt8 c =
    let text = c.args.text.now in
    let end = c.args.end in
    let from : 0 ≡ end - (8 - (8 - end)) = omega (arith, c.if-end-lt8.true) in
    let part : take end text ≡ slice_range text 0 end = sym (between_from_start text end) in
    let len : length (take end text) ≡ end = ap length part ∙ length-between text 0 end c.requires ∙ omega arith in
    let same : take end text ≡ slice_range text (end - (8 - (8 - end))) end = part ∙ ap (λ (k : ℕ). slice_range text k end) from in
    c.padded_word.ensures ∙ (λ i. spelled (replicate (8 - len i) 0 ++ same i))

pub returns-else-end-lt8 : goal.returns-else-end-lt8
returns-else-end-lt8 c =
    let none : 8 - c.args.end ≡ 0 = omega (arith, c.if-end-lt8.false) in
    c.last_word.ensures ∙ ap (λ (z : ℕ). spelled (replicate z 0 ++ slice_range c.args.text.now (c.args.end - (8 - z)) c.args.end)) (sym none)
