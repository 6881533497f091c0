-- Which condition fails first: there is one answer, and none where the certificate holds.
use Rattle.std.proofs.Common.{◌≡◌, ℕ, ◌+◌, ◌<◌, ◌≤◌, ◌↔◌, inl, inr, List, length, refl, sym, ap, ◌∙◌, subst, arith, Result, Ok, Err}
use Rattle.std.specs.Prelude.{IsOk, IsErrAnd, IsErrOf, MatchResult}
use Rattle.std.proofs.lemmas.Bool.{cases_order, cases_lt, false≢true}
use Rattle.lit_base.specs.Literals.{Literals}
use Rattle.lit_base.specs.Potentials.{BoundsBelow}
use Rattle.lit_cert.specs.Certificates.{CertificateParts}
use Rattle.lit_cert.specs.Certified.{cost_of, potential_of, EndRowsHold, IsCertifiedFor, IsFirstEnd, IsFirstEndRow, IsFirstFailureFor, IsFirstRun, IsFirstStep, IsFirstStepRow, StepRowsHold}
use Rattle.lit_cert.specs.declared.reason.Reason.{Reason}
use Rattle.lit_cert.specs.declared.reason.Reason.TheVariants.{Length, Ends, Total, EndRow, Step}

-- what holds of the numbers from a on before i, and of i, holds of the numbers before i + 1
pub rows_more : (P : ℕ → Type 0) (a i : ℕ) → ((s : ℕ) → a ≤ s → s < i → P s) → P i → (s : ℕ) → a ≤ s → s < i + 1 → P s
rows_more P a i rows here s low high =
    elim (cases_lt s i) [
      | inl before ↦ rows s low before
      | inr last ↦ let at : i ≡ s = omega arith in subst P at here
    ]

-- where all end rows and all steps hold, the potentials bound from below
pub bounds-from_rows : (most : ℕ) (l : Literals) (c : CertificateParts) → EndRowsHold l c.potentials (most + 1) → StepRowsHold l c.potentials (most + 1) → BoundsBelow (cost_of l) (potential_of l c.potentials) most (length l.texts)
bounds-from_rows most l c ends steps = record {
  ends = λ r p low high inner. ends r low (omega arith) p inner;
  steps = λ r p q low high some inner. steps r low (omega arith) p (omega arith) q some inner;
}

-- no end row fails where they hold
ends_or_fails : (most : ℕ) (l : Literals) (c : CertificateParts) (r p i : ℕ) → r < i → EndRowsHold l c.potentials i → IsFirstEndRow most l c.potentials r p → ⊥
ends_or_fails most l c r p i before hold first =
    absurd (omega (arith, hold r first.from_one before p first.here.inner, first.here.above))

-- nor does a step
steps_or_fails : (most : ℕ) (l : Literals) (c : CertificateParts) (r p q i : ℕ) → r < i → StepRowsHold l c.potentials i → IsFirstStepRow most l c.potentials r p q → ⊥
steps_or_fails most l c r p q i before hold first =
    let run = first.here.here in
    absurd (omega (arith, hold r first.from_two before p (omega (arith, run.some, run.inner)) q run.some run.inner, run.above))

-- a certificate that holds has no failure
pub certified_or_fails : (most : ℕ) (l : Literals) (c : CertificateParts) (reason : Reason) → IsCertifiedFor most l c → IsFirstFailureFor most l c reason → ⊥
certified_or_fails most l c Length holds fails = fails holds.priced.size
certified_or_fails most l c Ends holds fails = fails.1 holds.priced.cut
certified_or_fails most l c Total holds fails = fails.2 holds.priced.total
certified_or_fails most l c (EndRow r p) holds fails =
    let first = fails.first in
    absurd (omega (arith, holds.bounds.ends r p first.from_one first.allowed first.here.inner, first.here.above))
certified_or_fails most l c (Step r p q) holds fails =
    let first = fails.first in
    let run = first.here.here in
    absurd (omega (arith, holds.bounds.steps r p q first.from_two first.allowed run.some run.inner, run.above))

-- a row has one first place whose end row fails
same_end_place : (l : Literals) (hs : List ℕ) (r p o : ℕ) → IsFirstEnd l hs r p → IsFirstEnd l hs r o → p ≡ o
same_end_place l hs r p o first second =
    elim (cases_order p o) [
      | inl same ↦ same
      | inr apart ↦ elim apart [
        | inl earlier ↦ absurd (omega (arith, second.places p earlier, first.above))
        | inr later ↦ absurd (omega (arith, first.places o later, second.above))
      ]
    ]

-- a place has one first run whose step fails
same_run : (l : Literals) (hs : List ℕ) (r p q k : ℕ) → IsFirstRun l hs r p q → IsFirstRun l hs r p k → q ≡ k
same_run l hs r p q k first second =
    elim (cases_order q k) [
      | inl same ↦ same
      | inr apart ↦ elim apart [
        | inl earlier ↦ absurd (omega (arith, second.runs q first.some earlier, first.above))
        | inr later ↦ absurd (omega (arith, first.runs k second.some later, second.above))
      ]
    ]

-- a row has one first place with a step above
same_step_place : (l : Literals) (hs : List ℕ) (r p q o k : ℕ) → IsFirstStep l hs r p q → IsFirstStep l hs r o k → p ≡ o
same_step_place l hs r p q o k first second =
    elim (cases_order p o) [
      | inl same ↦ same
      | inr apart ↦ elim apart [
        | inl earlier ↦ absurd (omega (arith, second.places p earlier q first.here.some first.here.inner, first.here.above))
        | inr later ↦ absurd (omega (arith, first.places o later k second.here.some second.here.inner, second.here.above))
      ]
    ]

-- there is one first end row that fails
same_end : (most : ℕ) (l : Literals) (c : CertificateParts) (r p s o : ℕ) → IsFirstEndRow most l c.potentials r p → IsFirstEndRow most l c.potentials s o → EndRow r p ≡ EndRow s o
same_end most l c r p s o first second =
    elim (cases_order r s) [
      | inl rows ↦
          let place = same_end_place l c.potentials r p o first.here (subst (λ x. IsFirstEnd l c.potentials x o) (sym rows) second.here) in
          ap (λ x. EndRow x p) rows ∙ ap (EndRow s) place
      | inr apart ↦ elim apart [
        | inl earlier ↦ absurd (ends_or_fails most l c r p s earlier second.rows first)
        | inr later ↦ absurd (ends_or_fails most l c s o r later first.rows second)
      ]
    ]

-- and one first step
same_step : (most : ℕ) (l : Literals) (c : CertificateParts) (r p q s o k : ℕ) → IsFirstStepRow most l c.potentials r p q → IsFirstStepRow most l c.potentials s o k → Step r p q ≡ Step s o k
same_step most l c r p q s o k first second =
    elim (cases_order r s) [
      | inl rows ↦
          let here = subst (λ x. IsFirstStep l c.potentials x o k) (sym rows) second.here in
          let place = same_step_place l c.potentials r p q o k first.here here in
          let run = same_run l c.potentials r p q k first.here.here (subst (λ x. IsFirstRun l c.potentials r x k) (sym place) here.here) in
          ap (λ x. Step x p q) rows ∙ (ap (λ x. Step s x q) place ∙ ap (Step s o) run)
      | inr apart ↦ elim apart [
        | inl earlier ↦ absurd (steps_or_fails most l c r p q s earlier second.rows first)
        | inr later ↦ absurd (steps_or_fails most l c s o k r later first.rows second)
      ]
    ]

-- there is one first failure
pub same_failure : (most : ℕ) (l : Literals) (c : CertificateParts) (e f : Reason) → IsFirstFailureFor most l c e → IsFirstFailureFor most l c f → e ≡ f
same_failure most l c Length Length x y = refl
same_failure most l c Length Ends x y = absurd (x y.0)
same_failure most l c Length Total x y = absurd (x y.0)
same_failure most l c Length (EndRow s o) x y = absurd (x y.priced.size)
same_failure most l c Length (Step s o k) x y = absurd (x y.priced.size)
same_failure most l c Ends Length x y = absurd (y x.0)
same_failure most l c Ends Ends x y = refl
same_failure most l c Ends Total x y = absurd (x.1 y.1)
same_failure most l c Ends (EndRow s o) x y = absurd (x.1 y.priced.cut)
same_failure most l c Ends (Step s o k) x y = absurd (x.1 y.priced.cut)
same_failure most l c Total Length x y = absurd (y x.0)
same_failure most l c Total Ends x y = absurd (y.1 x.1)
same_failure most l c Total Total x y = refl
same_failure most l c Total (EndRow s o) x y = absurd (x.2 y.priced.total)
same_failure most l c Total (Step s o k) x y = absurd (x.2 y.priced.total)
same_failure most l c (EndRow r p) Length x y = absurd (y x.priced.size)
same_failure most l c (EndRow r p) Ends x y = absurd (y.1 x.priced.cut)
same_failure most l c (EndRow r p) Total x y = absurd (y.2 x.priced.total)
same_failure most l c (EndRow r p) (EndRow s o) x y = same_end most l c r p s o x.first y.first
same_failure most l c (EndRow r p) (Step s o k) x y = absurd (ends_or_fails most l c r p (most + 1) (omega (arith, x.first.allowed)) y.ends x.first)
same_failure most l c (Step r p q) Length x y = absurd (y x.priced.size)
same_failure most l c (Step r p q) Ends x y = absurd (y.1 x.priced.cut)
same_failure most l c (Step r p q) Total x y = absurd (y.2 x.priced.total)
same_failure most l c (Step r p q) (EndRow s o) x y = absurd (ends_or_fails most l c s o (most + 1) (omega (arith, y.first.allowed)) x.ends y.first)
same_failure most l c (Step r p q) (Step s o k) x y = same_step most l c r p q s o k x.first y.first

-- what the checker's answer says: yes exactly where the certificate holds
pub yes-from_answer : {T : Type 0} (r : Result T Reason) (most : ℕ) (l : Literals) (c : CertificateParts) → MatchResult r (λ _. IsCertifiedFor most l c) (λ reason. IsFirstFailureFor most l c reason) → IsOk r ↔ IsCertifiedFor most l c
yes-from_answer (Ok x) most l c answer = (λ _. answer, λ _. refl)
yes-from_answer (Err e) most l c answer = (λ none. absurd (false≢true none), λ holds. absurd (certified_or_fails most l c e holds answer))

-- and each reason exactly where it is the first failure
pub no-from_answer : {T : Type 0} (r : Result T Reason) (most : ℕ) (l : Literals) (c : CertificateParts) → MatchResult r (λ _. IsCertifiedFor most l c) (λ reason. IsFirstFailureFor most l c reason) → (reason : Reason) → IsErrOf r reason ↔ IsFirstFailureFor most l c reason
no-from_answer (Ok x) most l c answer reason = (λ none. absurd (cc), λ fails. absurd (certified_or_fails most l c reason answer fails))
no-from_answer (Err e) most l c answer reason =
    (λ is. let same : e ≡ reason = cc in subst (IsFirstFailureFor most l c) same answer, λ fails. ap Err (same_failure most l c e reason answer fails))

-- the answer where a step of the check fails
pub failure_answer : {T : Type 0} (r : Result T Reason) (most : ℕ) (l : Literals) (c : CertificateParts) (e : Reason) → IsErrAnd r (λ f. f ≡ e) → IsFirstFailureFor most l c e → MatchResult r (λ _. IsCertifiedFor most l c) (λ reason. IsFirstFailureFor most l c reason)
failure_answer (Ok x) most l c e is fails = absurd is
failure_answer (Err f) most l c e is fails = subst (IsFirstFailureFor most l c) (sym is) fails
