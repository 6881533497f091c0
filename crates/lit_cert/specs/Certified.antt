-- When a certificate shows that its runs are the cheapest, and otherwise the first condition that fails. With n
-- literals, c(p, q) is the cost of the run from place p up to but not including q, and h(r, p) a potential.
use Rattle.std.specs.Prelude.{◌≡◌, ℕ, ◌+◌, ◌-◌, ◌*◌, ◌<◌, ◌≤◌, List, length}
use Rattle.lit_base.specs.Literals.{Literals, lengths}
use Rattle.lit_base.specs.Costs.{run_cost}
use Rattle.lit_base.specs.Cuts.{IsCut, cut_price}
use Rattle.lit_base.specs.Potentials.{BoundsBelow, potential}
use Rattle.lit_base.specs.Profiles.{buckets}
use Rattle.lit_cert.specs.Certificates.{CertificateParts}
use Rattle.lit_cert.specs.declared.reason.Reason.{Reason}
use Rattle.lit_cert.specs.declared.reason.Reason.TheVariants.{Length, Ends, Total, EndRow, Step}

-- c(p, q)
abbrev pub cost_of : Literals → ℕ → ℕ → ℕ
cost_of l = run_cost (lengths l)

-- h(r, p)
abbrev pub potential_of : Literals → List ℕ → ℕ → ℕ → ℕ
potential_of l hs = potential hs (length l.texts)

-- there are n literals, at least one, and `most` rows of as many potentials
pub record HasLength (most : ℕ) (l : Literals) (hs : List ℕ) : Type 0 where
  pub some : 1 ≤ length l.texts
  pub rows : length hs ≡ most * length l.texts

-- the price of the runs, the cost and h(most, 0) are one number
pub record HasTotalFor (most : ℕ) (l : Literals) (c : CertificateParts) : Type 0 where
  pub price : cut_price (cost_of l) 0 c.ends ≡ c.cost
  pub bound : potential_of l c.potentials most 0 ≡ c.cost

-- the certificate is one for the literals, and states the price of its runs
pub record IsPricedFor (most : ℕ) (l : Literals) (c : CertificateParts) : Type 0 where
  pub size : HasLength most l c.potentials
  pub cut : IsCut most (length l.texts) c.ends
  pub total : HasTotalFor most l c

-- its potentials show, besides, that no cut and no assignment costs less
pub record IsCertifiedFor (most : ℕ) (l : Literals) (c : CertificateParts) : Type 0 where
  pub priced : IsPricedFor most l c
  pub bounds : BoundsBelow (cost_of l) (potential_of l c.potentials) most (length l.texts)

-- of row r, no h(r, o) with o before p is above c(o, n)
abbrev pub EndsHold : Literals → List ℕ → ℕ → ℕ → Type 0
EndsHold l hs r p = (o : ℕ) → o < p → potential_of l hs r o ≤ cost_of l o (length l.texts)

-- nor is any of the rows before r
abbrev pub EndRowsHold : Literals → List ℕ → ℕ → Type 0
EndRowsHold l hs r = (s : ℕ) → 1 ≤ s → s < r → EndsHold l hs s (length l.texts)

-- h(r, p) is above no c(p, k) + h(r - 1, k) with k before q
abbrev pub RunsHold : Literals → List ℕ → ℕ → ℕ → ℕ → Type 0
RunsHold l hs r p q =
    (k : ℕ) → p < k → k < q → potential_of l hs r p ≤ cost_of l p k + potential_of l hs (r - 1) k

-- of row r, no h(r, o) with o before p is above one of the sums
abbrev pub StepsHold : Literals → List ℕ → ℕ → ℕ → Type 0
StepsHold l hs r p = (o : ℕ) → o < p → RunsHold l hs r o (length l.texts)

-- nor is any of the rows before r
abbrev pub StepRowsHold : Literals → List ℕ → ℕ → Type 0
StepRowsHold l hs r = (s : ℕ) → 2 ≤ s → s < r → StepsHold l hs s (length l.texts)

-- p is the first place at which h(r, p) is above c(p, n)
pub record IsFirstEnd (l : Literals) (hs : List ℕ) (r p : ℕ) : Type 0 where
  pub inner : p < length l.texts
  pub above : cost_of l p (length l.texts) < potential_of l hs r p
  pub places : EndsHold l hs r p

-- q is the first place at which h(r, p) is above c(p, q) + h(r - 1, q)
pub record IsFirstRun (l : Literals) (hs : List ℕ) (r p q : ℕ) : Type 0 where
  pub some : p < q
  pub inner : q < length l.texts
  pub above : cost_of l p q + potential_of l hs (r - 1) q < potential_of l hs r p
  pub runs : RunsHold l hs r p q

-- and p is the first place of row r with a q like this
pub record IsFirstStep (l : Literals) (hs : List ℕ) (r p q : ℕ) : Type 0 where
  pub here : IsFirstRun l hs r p q
  pub places : StepsHold l hs r p

-- r is the first of the rows from 1 to `most` with a place of the first kind, and p this place
pub record IsFirstEndRow (most : ℕ) (l : Literals) (hs : List ℕ) (r p : ℕ) : Type 0 where
  pub from_one : 1 ≤ r
  pub allowed : r ≤ most
  pub here : IsFirstEnd l hs r p
  pub rows : EndRowsHold l hs r

-- r is the first of the rows from 2 to `most` with places of the second kind, and p and q these places
pub record IsFirstStepRow (most : ℕ) (l : Literals) (hs : List ℕ) (r p q : ℕ) : Type 0 where
  pub from_two : 2 ≤ r
  pub allowed : r ≤ most
  pub here : IsFirstStep l hs r p q
  pub rows : StepRowsHold l hs r

-- the certificate is priced, and this end row is the first that fails
pub record FailsAtEndFor (most : ℕ) (l : Literals) (c : CertificateParts) (r p : ℕ) : Type 0 where
  pub priced : IsPricedFor most l c
  pub first : IsFirstEndRow most l c.potentials r p

-- the certificate is priced, its end rows hold, and this step is the first that fails
pub record FailsAtStepFor (most : ℕ) (l : Literals) (c : CertificateParts) (r p q : ℕ) : Type 0 where
  pub priced : IsPricedFor most l c
  pub ends : EndRowsHold l c.potentials (most + 1)
  pub first : IsFirstStepRow most l c.potentials r p q

-- the reason is the first condition that fails: those before it hold
abbrev pub IsFirstFailureFor : ℕ → Literals → CertificateParts → Reason → Type 0
IsFirstFailureFor most l c Length = ¬ HasLength most l c.potentials
IsFirstFailureFor most l c Ends = HasLength most l c.potentials × ¬ IsCut most (length l.texts) c.ends
IsFirstFailureFor most l c Total =
    HasLength most l c.potentials × IsCut most (length l.texts) c.ends × ¬ HasTotalFor most l c
IsFirstFailureFor most l c (EndRow r p) = FailsAtEndFor most l c r p
IsFirstFailureFor most l c (Step r p q) = FailsAtStepFor most l c r p q

-- ---- of a certificate, by its profile

-- it shows that its runs are the cheapest
abbrev pub IsCertified : Literals → CertificateParts → Type 0
IsCertified l c = IsCertifiedFor (buckets c.profile) l c

-- the reason is the first condition that fails
abbrev pub IsFirstFailure : Literals → CertificateParts → Reason → Type 0
IsFirstFailure l c reason = IsFirstFailureFor (buckets c.profile) l c reason
