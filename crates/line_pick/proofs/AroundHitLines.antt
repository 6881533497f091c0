-- The lines of a text: those before a line with a literal, this line, and those after it.
use Rattle.std.proofs.Common.{◌≡◌, ℕ, suc, ◌+◌, Bool, true, false, not, cond, List, [], ◌∷◌, ◌++◌, length, Some, None, get_or, refl, sym, ap, ◌∙◌, append-nil}
use Rattle.std.specs.Option.{option_copied}
use Rattle.std.proofs.lemmas.List.{length-append}
use Rattle.lit_base.specs.Lines.{ended_lines}
use Rattle.lit_base.specs.Literals.{Literals}
use Rattle.lit_base.specs.Selected.{is_selected, matches}
use Rattle.lit_base.specs.Folding.{folded_text}
use Rattle.lit_base.proofs.MatchLemmas.{matching}
use Rattle.lit_base.proofs.EndedLemmas.{ended_lines-append, ended_lines-newline}
use Rattle.lit_plan.specs.Plans.{Plan}
use Rattle.line_pick.specs.declared.matcher.Matcher.{Matcher}
use Rattle.text_lines.specs.HitLines.{AllMiss, IsFirstHitLine}
use Rattle.line_pick.specs.Emitting.{numbered}
use Rattle.line_pick.specs.Matching.{fold_of, literals_of, literals_and_null, picks}
use Rattle.line_pick.proofs.EmittedLemmas.{numbered-append, numbered-cons, numbered-one, numbered-same}
use Rattle.text_lines.proofs.LiteralParts.{not_passed}
use Rattle.line_pick.proofs.Patterns.{by_plan, no_plan, null-matches, null-misses, null-occurs}

-- a test that fails, under invert or not
select_missed : (invert : Bool) → cond invert (not false) false ≡ invert
select_missed true = refl
select_missed false = refl

select_hit : (invert : Bool) → cond invert (not true) true ≡ not invert
select_hit true = refl
select_hit false = refl

-- a line that holds no literal is none
whole-misses : (l : Literals) (whole : Bool) (line : List ℕ) → matches l.folding false l.texts line ≡ false → matches l.folding whole l.texts line ≡ false
whole-misses l false line misses = misses
whole-misses l true line misses = sym (not_passed (matches l.folding true l.texts line) (λ e.
    let w = (matching.matches l.folding true l.texts line).0 e in
    let held : matches l.folding false l.texts line ≡ true =
    (matching.matches l.folding false l.texts line).1 (w.0, w.1, w.2, w.3, ([], [], w.4 ∙ sym (append-nil (folded_text l.folding w.1)))) in
    let both : true ≡ false = sym held ∙ misses in
    absurd (cc)))

-- the lines before a line with a literal, this line, and the text after it
module _ {l : Literals} {rest missed line after : List ℕ} (hit : IsFirstHitLine l rest missed line after) where
  pub hit-lines : ended_lines rest ≡ ended_lines missed ++ line ∷ ended_lines after
  hit-lines =
      ap ended_lines hit.whole ∙ ended_lines-append missed (line ++ 10 ∷ after) ∙ ap (λ r. ended_lines missed ++ ended_lines (r ++ (line ++ 10 ∷ after))) hit.closed
      ∙ ap (λ ls. ended_lines missed ++ ls) (ended_lines-newline line after hit.one)

  pub hit-length : length rest ≡ length missed + (length line + suc (length after))
  hit-length = ap length hit.whole ∙ length-append missed (line ++ 10 ∷ after) ∙ ap (λ n. length missed + n) (length-append line (10 ∷ after))

  pub hit-count : length (ended_lines rest) ≡ length (ended_lines missed) + suc (length (ended_lines after))
  hit-count = ap length hit-lines ∙ length-append (ended_lines missed) (line ∷ ended_lines after)

module _ (l : Literals) (whole invert : Bool) where
  -- lines that hold no literal are all selected, or none
  pub missed-numbered : (before : ℕ) (text : List ℕ) → AllMiss l text → numbered (is_selected l.folding whole invert l.texts) before (ended_lines text) ≡ numbered (λ _. invert) before (ended_lines text)
  missed-numbered before text misses =
      numbered-same (is_selected l.folding whole invert l.texts) (λ _. invert) before (ended_lines text)
      (λ k d inside. ap (λ m. cond invert (not m) m) (whole-misses l whole (get_or (ended_lines text) k d) (misses k d inside)) ∙ select_missed invert)

  -- the selected lines of a text up to its first line with a literal, and after it, with their numbers
  pub hit-numbered : {rest missed line after : List ℕ} → IsFirstHitLine l rest missed line after
      → (before later : ℕ) → later ≡ before + length (ended_lines missed)
      → (selected : Bool) → selected ≡ is_selected l.folding whole invert l.texts line
      → numbered (is_selected l.folding whole invert l.texts) before (ended_lines rest)
      ≡ numbered (λ _. invert) before (ended_lines missed) ++ (numbered (λ _. selected) later (line ∷ []) ++ numbered (is_selected l.folding whole invert l.texts) (later + 1) (ended_lines after))
  hit-numbered {rest} {missed} {line} {after} hit before later at selected is =
      let test = is_selected l.folding whole invert l.texts in
      ap (numbered test before) (hit-lines hit) ∙ numbered-append test before (ended_lines missed) (line ∷ ended_lines after)
      ∙ ap (λ n. numbered test before (ended_lines missed) ++ numbered test n (line ∷ ended_lines after)) (sym at)
      ∙ ap (λ ls. ls ++ numbered test later (line ∷ ended_lines after)) (missed-numbered before missed hit.misses)
      ∙ ap (λ ls. numbered (λ _. invert) before (ended_lines missed) ++ ls)
      (numbered-cons test later line (ended_lines after) ∙ ap (λ ls. ls ++ numbered test (later + 1) (ended_lines after)) (sym (numbered-one test later line is)))

module _ (m : Matcher) (line : List ℕ) where
  -- what a line matches, it is selected by
  picks-by : (b : Bool) → matches (fold_of (option_copied m.plan)) m.rule.whole (literals_and_null (option_copied m.plan) m.has_empty) line ≡ b → cond m.rule.invert (not b) b ≡ picks m line
  picks-by b e = ap (λ t. cond m.rule.invert (not t) t) (sym e)

  -- the null pattern is a slice of each line
  pub picks-null : m.rule.whole ≡ false → m.has_empty ≡ true → not m.rule.invert ≡ picks m line
  picks-null part is = sym (select_hit m.rule.invert) ∙ picks-by true
      (ap (λ w. matches (fold_of (option_copied m.plan)) w (literals_and_null (option_copied m.plan) m.has_empty) line) part
      ∙ null-matches (fold_of (option_copied m.plan)) false m.has_empty (literals_of (option_copied m.plan)) line is (null-occurs (fold_of (option_copied m.plan)) line))

  alone : m.has_empty ≡ false → matches (fold_of (option_copied m.plan)) m.rule.whole (literals_and_null (option_copied m.plan) m.has_empty) line ≡ matches (fold_of (option_copied m.plan)) m.rule.whole (literals_of (option_copied m.plan)) line
  alone none = null-misses (fold_of (option_copied m.plan)) m.rule.whole m.has_empty (literals_of (option_copied m.plan)) line (λ is. let both : true ≡ false = sym is ∙ none in absurd (cc))

  -- without it the literals decide
  pub picks-literals : (p : Plan) → m.has_empty ≡ false → option_copied m.plan ≡ Some p → is_selected p.literals.folding m.rule.whole m.rule.invert p.literals.texts line ≡ picks m line
  picks-literals p none e = picks-by (matches p.literals.folding m.rule.whole p.literals.texts line) (alone none ∙ sym (by_plan m.rule.whole line (option_copied m.plan) p e))

  -- if there are any
  pub picks-none : m.has_empty ≡ false → option_copied m.plan ≡ None → m.rule.invert ≡ picks m line
  picks-none none e = sym (select_missed m.rule.invert) ∙ picks-by false (alone none ∙ no_plan m.rule.whole line (option_copied m.plan) e)
