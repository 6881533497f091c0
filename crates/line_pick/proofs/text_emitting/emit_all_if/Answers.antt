-- Each line passes, or none.
use Rattle.std.proofs.Common.{◌≡◌, ℕ, ◌+◌, Bool, false, List, Result, Ok, sym, ap, ◌∙◌}
use Rattle.lit_base.specs.Lines.{ended_lines}
use Rattle.line_pick.specs.Emitting.{Emitted, NoneLeft, as_numbered, numbered}
use Rattle.line_pick.specs.declared.fault.Fault.{Fault}
use Rattle.line_pick.specs.declared.sink.Next.{Next}
use Rattle.line_pick.specs.declared.sink.Next.TheVariants.{More}
use Rattle.line_pick.specs.Matching.{picks}
use Rattle.line_pick.proofs.CutLemmas.{length-ended_lines}
use Rattle.line_pick.proofs.EmittedLemmas.{Emitted-lines, numbered-none, numbered-same}
use Rattle.line_pick.proofs.NumberLemmas.{Emitted-taken}
use Rattle.line_pick.proofs.text_emitting.emit_all_if.Goals as goal

-- lines that are not selected are passed over
passed_over : {S : Type 0} (takes : S → ℕ → List ℕ → Result Next Fault → S → Type 0) (selected is_numbered : Bool) (before : ℕ) (lines : List (List ℕ)) → selected ≡ false → {s : S} → Emitted (as_numbered is_numbered takes) s (numbered (λ _. selected) before lines) (Ok More) s
passed_over takes selected is_numbered before lines none = Emitted-lines (sym (ap (λ b. numbered (λ _. b) before lines) none ∙ numbered-none before lines)) NoneLeft

pub returns-then-selected-clause-emitted : goal.returns-then-selected-clause-emitted
returns-then-selected-clause-emitted g c =
    let lines = ended_lines c.args.text.now in
    Emitted-taken g.S.Sink.takes c.args.is_numbered (Emitted-lines (numbered-same (picks c.each_line.result) (λ _. c.args.selected) c.args.before lines (λ k d inside. c.each_line.ensures _ ∙ sym c.if-selected.true)) c.emit_lines.ensures.emitted)

pub returns-then-is_numbered-clause-emitted : goal.returns-then-is_numbered-clause-emitted
returns-then-is_numbered-clause-emitted g c = passed_over g.S.Sink.takes c.args.selected c.args.is_numbered c.args.before (ended_lines c.args.text.now) c.if-selected.false

pub returns-else-is_numbered-clause-emitted : goal.returns-else-is_numbered-clause-emitted
returns-else-is_numbered-clause-emitted g c = passed_over g.S.Sink.takes c.args.selected c.args.is_numbered c.args.before (ended_lines c.args.text.now) c.if-selected.false

pub returns-then-is_numbered-clause-count : goal.returns-then-is_numbered-clause-count
returns-then-is_numbered-clause-count g c = λ _. ap (λ n. c.args.before + n) (c.count_newlines.ensures ∙ sym (length-ended_lines c.args.text.now))
