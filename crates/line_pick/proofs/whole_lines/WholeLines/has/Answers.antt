-- A line without an entry is no literal.
use Rattle.std.proofs.Common.{true, ap, ◌∙◌, sym, get_or, false, length, ◌≡◌}
use Rattle.lit_base.specs.declared.fold.Fold.{Fold}
use Rattle.lit_base.specs.Folding.{folded}
use Rattle.lit_base.specs.Literals.{Literals}
use Rattle.lit_base.specs.Selected.{matches}
use Rattle.line_pick.specs.WholeLines.{start_of}
use Rattle.line_pick.proofs.WholeLemmas.{no-start}
use Rattle.line_pick.proofs.whole_lines.WholeLines.has.Goals as goal

pub returns-else-self-start : goal.returns-else-self-start
returns-else-self-start c =
    let l = c.self.inside.list.now in
    let text = c.args.text.now in
    let line = c.args.line.now in
    let starts = c.self.inside.starts in
    let none : get_or starts (start_of (length line) (folded l.folding (get_or text 0 0))) false ≡ false =
    ap (λ b. get_or starts (start_of (length line) b) false) (sym (c.fold_byte.ensures ∙ ap (λ (f : Fold). folded f (get_or text 0 0)) c.fold.ensures))
    ∙ ap (λ n. get_or starts n false) (sym c.start_of-start.ensures.value) ∙ c.if-self-start.false in
    c.if-self-start.false ∙ no-start l c.normal_law.ensures starts c.self.invariant text line c.requires none ∙ ap (λ (k : Literals). matches k.folding true k.texts line) c.self.view_is
