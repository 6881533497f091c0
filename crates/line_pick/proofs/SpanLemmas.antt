-- Where literals end in a line that is searched span by span.
use Rattle.std.proofs.Common.{◌≡◌, ℕ, ◌≤◌, true, false, List, MatchOption, Option, None, Some, inl, inr, drop, length, take, sym, subst, arith}
use Rattle.std.specs.Option.{is_some}
use Rattle.std.proofs.lemmas.Bool.{cases_lt}
use Rattle.std.proofs.lemmas.List.{length-take, take-append-drop}
use Rattle.lit_base.specs.Literals.{IsNormal, Literals}
use Rattle.lit_base.specs.NextEnds.{IsNextEnd, NoEndAfter, NoEndUpTo}
use Rattle.lit_base.specs.Occurrences.{HasEnd, Occurs}
use Rattle.lit_base.specs.Selected.{matches}
use Rattle.lit_base.proofs.MatchLemmas.{matching}
use Rattle.text_ends.proofs.Occurring.{occurs_in_prefix, occurs_of_prefix}
use Rattle.text_lines.proofs.LiteralParts.{match-from_end}

-- an end in the first bytes of a line is one in the line
pub end-of_prefix : (l : Literals) (line : List ℕ) (stop end : ℕ) → HasEnd l (take stop line) end → HasEnd l line end
end-of_prefix l line stop end h =
    (h.0, subst (λ t. Occurs l t h.0 end) (take-append-drop stop line) (occurs_of_prefix l (take stop line) (drop stop line) h.0 end h.1))

-- nothing ends up to a position where nothing ends in the bytes up to it
pub none-further : (l : Literals) (line : List ℕ) (place stop : ℕ) → stop ≤ length line → NoEndUpTo l line 0 place → NoEndAfter l (take stop line) place
    → NoEndUpTo l line 0 stop
none-further l line place stop inside before none = λ end some low h.
    elim (cases_lt place end) [
      | inl later ↦ none end later (
        h.0,
        occurs_in_prefix l (take stop line) (drop stop line) h.0 end (omega (arith, low, inside, length-take stop line))
            (subst (λ t. Occurs l t h.0 end) (sym (take-append-drop stop line)) h.1),
      )
      | inr sooner ↦ before end some (omega (arith, sooner)) h
    ]

-- nothing ends in a line where nothing does up to its end
pub none-in_line : (l : Literals) (line : List ℕ) (place : ℕ) → length line ≤ place → NoEndUpTo l line 0 place → NoEndAfter l line 0
none-in_line l line place whole none = λ end some h. none end some (omega (arith, h.1.ends, whole)) h

-- what a search of the first bytes of a line finds is there
pub found-matches : (l : Literals) (line : List ℕ) (place stop : ℕ) (found : Option ℕ) → IsNormal l → MatchOption found (NoEndAfter l (take stop line) place) (IsNextEnd l (take stop line) place)
    → is_some found ≡ true → true ≡ matches l.folding false l.texts line
found-matches l line place stop None normal none is = absurd (cc)
found-matches l line place stop (Some end) normal next is =
    sym ((matching.matches l.folding false l.texts line).1 (match-from_end l normal line end (end-of_prefix l line stop end next.here)))

-- and where it finds nothing, there is nothing
pub none-found : (l : Literals) (line : List ℕ) (place stop : ℕ) (found : Option ℕ) → MatchOption found (NoEndAfter l (take stop line) place) (IsNextEnd l (take stop line) place)
    → is_some found ≡ false → NoEndAfter l (take stop line) place
none-found l line place stop None none is = none
none-found l line place stop (Some end) next is = absurd (cc)
