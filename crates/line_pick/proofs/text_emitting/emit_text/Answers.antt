-- Each line is selected, or none, or those by the literals.
use Rattle.std.proofs.Common.{◌≡◌, Some, not, ap}
use Rattle.std.specs.Option.{option_copied}
use Rattle.lit_base.specs.Lines.{ended_lines}
use Rattle.lit_base.specs.Selected.{is_selected}
use Rattle.line_pick.specs.Matching.{picks}
use Rattle.line_pick.proofs.AroundHitLines.{picks-literals, picks-none, picks-null}
use Rattle.line_pick.proofs.EmittedLemmas.{Emitted-lines, numbered-same}
use Rattle.line_pick.proofs.NumberLemmas.{Emitted-taken}
use Rattle.line_pick.proofs.text_emitting.emit_text.Goals as goal

pub returns-then-matcher-2-clause-emitted : goal.returns-then-matcher-2-clause-emitted
returns-then-matcher-2-clause-emitted g c = Emitted-taken g.S.Sink.takes c.args.is_numbered c.emit_lines.ensures.emitted

pub returns-then-matcher-clause-emitted : goal.returns-then-matcher-clause-emitted
returns-then-matcher-clause-emitted g c =
    let m = c.args.search.now.matcher in
    Emitted-lines (numbered-same (λ _. not m.rule.invert) (picks m) c.args.before (ended_lines c.args.text.now) (λ k d inside. picks-null m _ c.if-matcher-2.false c.if-matcher.true)) c.emit_all_if.ensures.emitted

pub returns-in_default-clause-emitted : goal.returns-in_default-clause-emitted
returns-in_default-clause-emitted g c =
    let m = c.args.search.now.matcher in
    Emitted-lines (numbered-same (λ _. m.rule.invert) (picks m) c.args.before (ended_lines c.args.text.now)
    (λ k d inside. picks-none m _ c.if-matcher.false (ap option_copied c.in_default.is))) c.emit_all_if-in_default.ensures.emitted

pub returns-then-not-are_short-clause-emitted : goal.returns-then-not-are_short-clause-emitted
returns-then-not-are_short-clause-emitted g c =
    let m = c.args.search.now.matcher in
    let p = c.in-Some.compiled.now in
    let known : option_copied m.plan ≡ Some p = ap option_copied c.in-Some.is in
    Emitted-lines (numbered-same (is_selected p.literals.folding m.rule.whole m.rule.invert p.literals.texts) (picks m) c.args.before (ended_lines c.args.text.now)
    (λ k d inside. picks-literals m _ p c.if-matcher.false known)) (Emitted-taken g.S.Sink.takes c.args.is_numbered c.emit_whole_lines.ensures.emitted)

pub returns-clause-emitted : goal.returns-clause-emitted
returns-clause-emitted g c =
    let m = c.args.search.now.matcher in
    let p = c.in-Some.compiled.now in
    let known : option_copied m.plan ≡ Some p = ap option_copied c.in-Some.is in
    Emitted-lines (numbered-same (is_selected p.literals.folding m.rule.whole m.rule.invert p.literals.texts) (picks m) c.args.before (ended_lines c.args.text.now)
    (λ k d inside. picks-literals m _ p c.if-matcher.false known)) (rw c.new-hits.ensures at c.emit_hits-emitted.ensures.emitted)
