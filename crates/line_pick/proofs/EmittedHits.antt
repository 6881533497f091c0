-- Lines emitted up to a line with a literal: the lines before it, then this line.
use Rattle.std.proofs.Common.{◌≡◌, ◌≢◌, ℕ, ◌+◌, Bool, true, List, [], ◌∷◌, ◌++◌, length, Result, Ok, refl, ap, subst}
use Rattle.lit_base.specs.Lines.{ended_lines}
use Rattle.lit_base.specs.Selected.{is_selected}
use Rattle.lit_plan.specs.Plans.{Plan}
use Rattle.line_pick.specs.declared.fault.Fault.{Fault}
use Rattle.line_pick.specs.declared.sink.Next.{Next}
use Rattle.line_pick.specs.declared.sink.Next.TheVariants.{More}
use Rattle.text_lines.specs.HitLines.{IsFirstHitLine}
use Rattle.line_pick.specs.Emitting.{Emitted, as_numbered, numbered}
use Rattle.line_pick.proofs.AroundHitLines.{hit-numbered}
use Rattle.line_pick.proofs.EmittedLemmas.{EmittedOn, EmittedOn-prefix, EmittedOn-last}
use Rattle.line_pick.proofs.NumberLemmas.{Emitted-moved, Emitted-taken, EmittedOn-moved}

module _ {S : Type 0} (takes : S → ℕ → List ℕ → Result Next Fault → S → Type 0) (is_numbered whole invert : Bool) where
  -- the search's plan is the one by which lines are selected
  module _ (before : ℕ) {by plan : Plan} (same : by ≡ plan) {rest missed line after : List ℕ} (first : IsFirstHitLine by.literals rest missed line after) {s t : S} {all : List (ℕ × List ℕ)} (on : EmittedOn (as_numbered is_numbered takes) s all t (numbered (is_selected plan.literals.folding whole invert plan.literals.texts) before (ended_lines rest))) where
    abbrev test : List ℕ → Bool
    test = is_selected plan.literals.folding whole invert plan.literals.texts

    abbrev later : ℕ
    later = before + length (ended_lines missed)

    parts : (selected : Bool) → selected ≡ test line
        → numbered test before (ended_lines rest) ≡ numbered (λ _. invert) before (ended_lines missed) ++ (numbered (λ _. selected) later (line ∷ []) ++ numbered test (later + 1) (ended_lines after))
    parts = hit-numbered plan.literals whole invert (subst (λ (p : Plan). IsFirstHitLine p.literals rest missed line after) same first) before later refl

    -- one of the lines before it was the last
    pub missed-last : {u : S} {answer : Result Next Fault} → Emitted (as_numbered is_numbered takes) t (numbered (λ _. invert) before (ended_lines missed)) answer u → answer ≢ Ok More → Emitted (as_numbered is_numbered takes) s all answer u
    missed-last emitted halted = EmittedOn-last (numbered (λ _. test line) later (line ∷ []) ++ numbered test (later + 1) (ended_lines after)) on (parts (test line) refl) emitted halted

    -- all lines before it were taken, and `lines` is their number where lines are numbered
    module _ {compiled : Plan} (is : compiled ≡ plan) {selected : Bool} (selects : selected ≡ is_selected compiled.literals.folding whole invert compiled.literals.texts line) {lines : ℕ} (count : is_numbered ≡ true → lines ≡ later) {u : S} (emitted-missed : Emitted (as_numbered is_numbered takes) t (numbered (λ _. invert) before (ended_lines missed)) (Ok More) u) where
      on-line : EmittedOn (as_numbered is_numbered takes) s all u (numbered (λ _. selected) later (line ∷ []) ++ numbered test (later + 1) (ended_lines after))
      on-line = EmittedOn-prefix on (parts selected (subst (λ (p : Plan). selected ≡ is_selected p.literals.folding whole invert p.literals.texts line) is selects)) emitted-missed

      emitted-line : {v : S} {answer : Result Next Fault} → Emitted takes u (numbered (λ _. selected) lines (line ∷ [])) answer v → Emitted (as_numbered is_numbered takes) u (numbered (λ _. selected) later (line ∷ [])) answer v
      emitted-line emitted = Emitted-moved takes (λ _. selected) lines later (line ∷ []) is_numbered count (Emitted-taken takes is_numbered emitted)

      -- its line was the last
      pub hit-last : {v : S} {answer : Result Next Fault} → Emitted takes u (numbered (λ _. selected) lines (line ∷ [])) answer v → answer ≢ Ok More → Emitted (as_numbered is_numbered takes) s all answer v
      hit-last emitted halted = EmittedOn-last (numbered test (later + 1) (ended_lines after)) on-line refl (emitted-line emitted) halted

      -- its line was taken too
      pub EmittedOn-hit : {v : S} → Emitted takes u (numbered (λ _. selected) lines (line ∷ [])) (Ok More) v → EmittedOn (as_numbered is_numbered takes) s all v (numbered test (lines + 1) (ended_lines after))
      EmittedOn-hit emitted = EmittedOn-moved takes test (lines + 1) (later + 1) (ended_lines after) is_numbered (λ e. ap (λ n. n + 1) (count e)) (EmittedOn-prefix on-line refl (emitted-line emitted))
