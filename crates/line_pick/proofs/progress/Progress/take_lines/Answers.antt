-- The lines of the text are those up to its last newline.
use Rattle.std.proofs.Common.{ℕ, ◌+◌, ◌<◌, List, ◌++◌, OnErr, length, arith, sym, ap, ◌∙◌, subst}
use Rattle.std.specs.Option.{option_copied}
use Rattle.lit_base.specs.Lines.{ended_lines}
use Rattle.std.proofs.lemmas.Result.{err_from_is_err_and, on_ok_weaker}
use Rattle.line_pick.specs.Emitting.{Ended, numbered}
use Rattle.line_pick.specs.Matching.{picks}
use Rattle.line_pick.specs.OpenLines.{Keeps, most_kept}
use Rattle.line_pick.specs.declared.matcher.LineSearch.{LineSearch}
use Rattle.line_pick.proofs.EmittedLemmas.{Emitted-lines, Emitted-nothing, OnOk-any, OrAll-held, answer_to-More}
use Rattle.line_pick.proofs.CutLemmas.{ended_lines-cut, open_rest-cut, length-cut}
use Rattle.line_pick.proofs.progress.Progress.take_lines.Goals as goal

pub emit_text-requires-clause-fits : goal.emit_text-requires-clause-fits
emit_text-requires-clause-fits g c = omega (arith, c.requires.counted, length-cut c.split_ended.ensures)

pub returns-in_err-self-clause-emitted : goal.returns-in_err-self-clause-emitted
returns-in_err-self-clause-emitted g c =
    let p = err_from_is_err_and c.from_residual.result c.from_residual.ensures.1 in
    let same = ap (numbered (picks c.args.search.now.matcher) c.args.self.now.lines) (sym (ended_lines-cut c.split_ended.ensures)) in
    rw (p.1, p.2) (Ended (Emitted-lines same c.in_err-self.ensures.emitted))

pub returns-clause-emitted : goal.returns-clause-emitted
returns-clause-emitted g c =
    let same = ap (numbered (picks c.args.search.now.matcher) c.args.self.now.lines) (sym (ended_lines-cut c.split_ended.ensures)) in
    OrAll-held c.hold_open.result (Emitted-lines same c.in_ok-self.ensures.emitted) c.hold_open.ensures.starved
    (subst (λ (rest : List ℕ). OnErr c.hold_open.result (0 < length rest)) (sym (open_rest-cut c.split_ended.ensures)) c.hold_open.ensures.some)

pub returns-clause-held : goal.returns-clause-held
returns-clause-held g c =
    let all = ap (λ h. h ++ c.split_ended.result.1.now) c.requires.fresh ∙ sym (open_rest-cut c.split_ended.ensures) in
    let kept = c.hold_open.new.self.held.items in
    on_ok_weaker c.hold_open.result (λ k. subst (Keeps c.args.self.now.has_bytes (picks c.args.search.now.matcher) (most_kept (option_copied c.args.search.now.matcher.plan)) kept) all
    (subst (λ (s : LineSearch). Keeps c.args.self.now.has_bytes (picks s.matcher) (most_kept (option_copied s.matcher.plan)) kept (c.args.self.now.held.items ++ c.split_ended.result.1.now)) c.in_ok-self.ensures.same k)) c.hold_open.ensures.held

pub returns-clause-lines : goal.returns-clause-lines
returns-clause-lines g c = OnOk-any c.hold_open.result (λ e. c.hold_open.ensures.lines ∙ c.in_ok-self.ensures.count e ∙ ap (λ ls. c.args.self.now.lines + length ls) (sym (ended_lines-cut c.split_ended.ensures)))

pub returns-in_err-self-clause-idle : goal.returns-in_err-self-clause-idle
unfolding ended_lines
returns-in_err-self-clause-idle g c = λ none.
    let nothing = sym (ended_lines-cut c.split_ended.ensures) ∙ ap ended_lines none in
    absurd (answer_to-More c.in_err-self.field-0.0 (Emitted-nothing (ap (numbered (picks c.args.search.now.matcher) c.args.self.now.lines) nothing) c.in_err-self.ensures.emitted))
