-- The first line of the held bytes and the piece, and the lines after it.
use Rattle.std.proofs.Common.{◌≡◌, ℕ, ◌+◌, ◌<◌, List, [], ◌∷◌, ◌++◌, Result, Err, arith, eqb, false, rules, length, sym, ap, ◌∙◌, subst, vec_len}
use Rattle.std.specs.Option.{option_copied}
use Rattle.std.proofs.lemmas.Bool.{eqb-false, eqb-true}
use Rattle.std.proofs.lemmas.List.{nil_from_length}
use Rattle.std.proofs.lemmas.Result.{err_from_is_err_and, on_ok_weaker}
use Rattle.lit_base.specs.Lines.{ended_lines, open_rest}
use Rattle.lit_base.proofs.EndedLemmas.{ended_lines-none, open_rest-none}
use Rattle.line_pick.specs.declared.halt.Halt.{Halt}
use Rattle.line_pick.specs.Emitting.{NoneLeft, numbered}
use Rattle.line_pick.specs.Matching.{picks}
use Rattle.line_pick.specs.OpenLines.{Keeps, most_kept}
use Rattle.line_pick.proofs.EmittedLemmas.{Emits-from_all, Emits-from_none, Emits-held, Emits-lines, Emits-refused, Emits-rest, Emitted-from_none, Emitted-lines, OnOk-any, OrAll-join, OrAll-lines, OrNone-halted, answer_to-More, count-first, count-none, numbered-first}
use Rattle.line_pick.proofs.NumberLemmas.{Emitted-taken, OrAll-same, OrNone-taken}
use Rattle.line_pick.proofs.CutLemmas.{first-held, open_rest-first}
use Rattle.text_lines.proofs.Newlines.{one-append}
use Rattle.line_pick.proofs.progress.Progress.take.Goals as goal

-- two answers have the same fault
same_fault : {T : Type 0} {h k : Halt} → ◌≡◌ {A = Result T Halt} (Err h) (Err k) → h ≡ k
same_fault e = (cc)

-- a list that is not empty has an element
some_held : (held : List ℕ) (len : ℕ) → len ≡ length held → eqb len 0 ≡ false → 0 < length held
some_held [] len same some = absurd (eqb-false len 0 some same)
some_held (b ∷ held) len same some = omega arith

pub returns-in_err-self-clause-emitted : goal.returns-in_err-self-clause-emitted
returns-in_err-self-clause-emitted g c =
    let p = err_from_is_err_and c.from_residual.result c.from_residual.ensures.1 in
    Emits-refused (numbered (picks c.args.search.now.matcher) c.args.self.now.lines (ended_lines (c.args.self.now.held.items ++ c.args.piece.now))) c.from_residual.result
    (p.1 ∙ ap (λ h. Err h) (p.2 ∙ same_fault c.in_err-self.ensures.err))

pub returns-in_err-end_line-in-Some-clause-emitted : goal.returns-in_err-end_line-in-Some-clause-emitted
returns-in_err-end_line-in-Some-clause-emitted g c =
    let p = err_from_is_err_and c.from_residual-in_err-end_line-in-Some.result c.from_residual-in_err-end_line-in-Some.ensures.1 in
    let test = picks c.args.search.now.matcher in
    let lines = c.args.self.now.lines in
    let held = c.args.self.now.held.items in
    let cut = first-held held c.requires.sound.one c.in-Some.ensures in
    let some = some_held held (vec_len c.args.self.now.held) c.args.self.now.held.ok.0 (search rules) in
    rw (p.1, p.2) (Emits-lines (sym (numbered-first test lines (held ++ c.args.piece.now) (held ++ c.in-Some.prefix.now) c.in-Some.after.now cut))
    (Emits-from_none some (OrNone-halted (numbered test (lines + 1) (ended_lines c.in-Some.after.now)) (OrNone-taken g.S.Sink.takes c.args.self.now.is_numbered c.in_err-end_line-in-Some.ensures.emitted) (answer_to-More c.in_err-end_line-in-Some.field-0.0))))

-- where nothing is held, the text is the piece
pub returns-then-is_fresh-clause-emitted : goal.returns-then-is_fresh-clause-emitted
returns-then-is_fresh-clause-emitted g c =
    let none : [] ≡ c.args.self.now.held.items = sym (nil_from_length c.args.self.now.held.items (sym c.args.self.now.held.ok.0 ∙ eqb-true (vec_len c.args.self.now.held) 0 (search rules))) in
    Emits-rest (ap (λ held. open_rest (held ++ c.args.piece.now)) none)
    (Emits-lines (ap (λ held. numbered (picks c.args.search.now.matcher) c.args.self.now.lines (ended_lines (held ++ c.args.piece.now))) none) (Emits-from_all c.take_lines.ensures.emitted))

pub returns-in-None-clause-emitted : goal.returns-in-None-clause-emitted
returns-in-None-clause-emitted g c =
    let held = c.args.self.now.held.items in
    let none = ended_lines-none (held ++ c.args.piece.now) (one-append held c.args.piece.now c.requires.sound.one c.in-None.ensures) in
    let some = some_held held (vec_len c.args.self.now.held) c.args.self.now.held.ok.0 (search rules) in
    Emits-held c.hold_open.result some (Emitted-lines (ap (numbered (picks c.args.search.now.matcher) c.args.self.now.lines) (sym none)) NoneLeft) c.hold_open.ensures.starved

pub returns-in-None-clause-held : goal.returns-in-None-clause-held
returns-in-None-clause-held g c =
    let held = c.args.self.now.held.items in
    let all = open_rest-none (held ++ c.args.piece.now) (one-append held c.args.piece.now c.requires.sound.one c.in-None.ensures) in
    on_ok_weaker c.hold_open.result (subst (Keeps c.args.self.now.has_bytes (picks c.args.search.now.matcher) (most_kept (option_copied c.args.search.now.matcher.plan)) c.hold_open.new.self.held.items) (sym all)) c.hold_open.ensures.held

pub returns-in-None-clause-lines : goal.returns-in-None-clause-lines
returns-in-None-clause-lines g c =
    let held = c.args.self.now.held.items in
    let none = count-none (held ++ c.args.piece.now) (one-append held c.args.piece.now c.requires.sound.one c.in-None.ensures) in
    OnOk-any c.hold_open.result (λ _. omega (arith, none, c.hold_open.ensures.lines))

pub returns-in_ok-end_line-in-Some-clause-emitted : goal.returns-in_ok-end_line-in-Some-clause-emitted
returns-in_ok-end_line-in-Some-clause-emitted g c =
    let test = picks c.args.search.now.matcher in
    let lines = c.args.self.now.lines in
    let held = c.args.self.now.held.items in
    let cut = first-held held c.requires.sound.one c.in-Some.ensures in
    Emits-rest (sym (open_rest-first cut))
    (Emits-lines (sym (numbered-first test lines (held ++ c.args.piece.now) (held ++ c.in-Some.prefix.now) c.in-Some.after.now cut))
    (Emits-from_all (OrAll-join (Emitted-taken g.S.Sink.takes c.args.self.now.is_numbered (Emitted-from_none c.in_ok-end_line-in-Some.ensures.emitted))
    (OrAll-lines (ap (λ n. numbered test n (ended_lines c.in-Some.after.now)) c.in_ok-end_line-in-Some.ensures.lines) (OrAll-same g.S.Sink.takes c.in_ok-end_line-in-Some.ensures.numbered (rw c.in_ok-end_line-in-Some.ensures.same at c.take_lines-in-Some.ensures.emitted))))))

pub returns-in_ok-end_line-in-Some-clause-held : goal.returns-in_ok-end_line-in-Some-clause-held
returns-in_ok-end_line-in-Some-clause-held g c =
    let held = c.args.self.now.held.items in
    let same = open_rest-first (first-held held c.requires.sound.one c.in-Some.ensures) in
    on_ok_weaker c.take_lines-in-Some.result (λ k. subst (λ has. Keeps has (picks c.args.search.now.matcher) (most_kept (option_copied c.args.search.now.matcher.plan)) c.take_lines-in-Some.new.self.held.items (open_rest (held ++ c.args.piece.now))) c.in_ok-end_line-in-Some.ensures.seen
    (subst (Keeps c.end_line.new.self.has_bytes (picks c.args.search.now.matcher) (most_kept (option_copied c.args.search.now.matcher.plan)) c.take_lines-in-Some.new.self.held.items) (sym same) k)) (rw c.in_ok-end_line-in-Some.ensures.same at c.take_lines-in-Some.ensures.held)

pub returns-in_ok-end_line-in-Some-clause-lines : goal.returns-in_ok-end_line-in-Some-clause-lines
returns-in_ok-end_line-in-Some-clause-lines g c =
    let test = picks c.args.search.now.matcher in
    let held = c.args.self.now.held.items in
    let cut = first-held held c.requires.sound.one c.in-Some.ensures in
    let count = count-first test 0 (held ++ c.args.piece.now) (held ++ c.in-Some.prefix.now) c.in-Some.after.now cut in
    on_ok_weaker c.take_lines-in-Some.result (λ e is. omega (arith, e (c.in_ok-end_line-in-Some.ensures.numbered ∙ is), count, c.in_ok-end_line-in-Some.ensures.lines)) c.take_lines-in-Some.ensures.lines
