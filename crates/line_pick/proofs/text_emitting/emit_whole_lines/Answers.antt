-- The literals of the plan are all patterns.
use Rattle.std.proofs.Common.{Some, false, refl, sym}
use Rattle.lit_base.specs.Lines.{ended_lines}
use Rattle.lit_base.specs.Selected.{is_selected}
use Rattle.line_pick.specs.declared.matcher.Matcher.{Matcher}
use Rattle.line_pick.specs.Matching.{picks}
use Rattle.line_pick.proofs.AroundHitLines.{picks-literals}
use Rattle.line_pick.proofs.EmittedLemmas.{Emitted-lines, numbered-same}
use Rattle.line_pick.proofs.text_emitting.emit_whole_lines.Goals as goal

pub returns-clause-emitted : goal.returns-clause-emitted
returns-clause-emitted g c =
    let p = c.args.compiled.now in
    let rule = c.args.rule in
    let m : Matcher = record { plan = Some c.args.compiled; has_empty = false; rule = rule } in
    Emitted-lines (numbered-same (picks m) (is_selected p.literals.folding rule.whole rule.invert p.literals.texts) c.args.before (ended_lines c.args.text.now)
    (λ k d inside. sym (picks-literals m _ p refl refl))) c.emit_lines.ensures.emitted
