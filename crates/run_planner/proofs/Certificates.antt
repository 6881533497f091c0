-- What the parts of a plan make together: its certificate holds, and its prices are few.
use Rattle.std.proofs.Common.{◌≡◌, inl, inr, ℕ, zero, suc, ◌+◌, ◌-◌, ◌*◌, ◌^◌, ◌<◌, ◌≤◌, List, ◌∷◌, ◌++◌, length, take, drop, sym, ap, ◌∙◌, subst, arith}
use Rattle.std.proofs.lemmas.Nat.{mul-le}
use Rattle.std.proofs.Math.Seq.{take-append_seam}
use Rattle.lit_base.specs.Costs.{run_cost}
use Rattle.lit_base.specs.Cuts.{IsCut, cut_price}
use Rattle.lit_base.specs.Literals.{Literals, lengths}
use Rattle.lit_base.specs.Potentials.{BoundsBelow, potential}
use Rattle.lit_base.specs.Profiles.{buckets}
use Rattle.lit_base.specs.declared.profile.Profile.{Profile}
use Rattle.lit_base.specs.declared.profile.Profile.TheVariants.{Eight, Sixteen}
use Rattle.lit_cert.specs.Certificates.{CertificateParts}
use Rattle.lit_cert.specs.Certified.{IsCertified, IsCertifiedFor}
use Rattle.run_planner.specs.FirstCut.{IsFirstCut}
use Rattle.run_planner.specs.TailCosts.{AreTailCosts}
use Rattle.run_planner.proofs.Tails.{tail_cost-le}

-- the list holds the numbers written through a slice
pub written_back : (rows items : List ℕ) (len : ℕ) → length rows ≡ len → take len (rows ++ drop (length rows) items) ≡ rows
written_back rows items len size = subst (λ k. take k (rows ++ drop (length rows) items) ≡ rows) size (take-append_seam rows (drop (length rows) items))

-- all prices together, where n has d binary digits
pub count_all : (profile : Profile) (n d a b e : ℕ) → 0 < n → n < 2 ^ d → b ≤ a + n + (buckets profile - 1) * (d * (n - 1) + n) → e ≤ b + n → e ≤ a + 2 * buckets profile * n * d
count_all profile n zero a b e some digits rows ends = absurd (omega (arith, digits, some))
count_all Eight n (suc k) a b e some digits rows ends =
    let most = mul-le (suc k) (n - 1) (suc k) n (omega arith) (omega arith) in
    let once = mul-le n 1 n (suc k) (omega arith) (omega arith) in
    omega (arith, rows, ends, most, once)
count_all Sixteen n (suc k) a b e some digits rows ends =
    let most = mul-le (suc k) (n - 1) (suc k) n (omega arith) (omega arith) in
    let once = mul-le n 1 n (suc k) (omega arith) (omega arith) in
    omega (arith, rows, ends, most, once)

-- the last row begins within all rows
pub last_within : (profile : Profile) (n len : ℕ) → 0 < n → len ≡ buckets profile * n → (buckets profile - 1) * n < len
last_within Eight n len some is = omega (arith, some, is)
last_within Sixteen n len some is = omega (arith, some, is)

-- the first cut costs as little as any
pub first_cut-price : (c : ℕ → ℕ → ℕ) (most n : ℕ) (hs ends : List ℕ) → 1 ≤ most → AreTailCosts c n most hs → IsFirstCut c most n ends → cut_price c 0 ends ≡ potential hs n most 0
first_cut-price c most n hs ends from_one tails first =
    let all = tails most 0 from_one (omega arith) first.cut.some in
    let there = all.reached in
    let least = all.least ends first.cut.cuts first.cut.few in
    let other : IsCut most n there.0 = record { some = first.cut.some; cuts = there.1; few = there.2 } in
    elim (first.first there.0 other) [
      | inl less ↦ absurd (omega (arith, less, least, there.3))
      | inr same ↦ same.0 ∙ there.3
    ]

-- tail costs bound from below
pub tails-bound : (c : ℕ → ℕ → ℕ) (most n : ℕ) (hs : List ℕ) → AreTailCosts c n most hs → BoundsBelow c (potential hs n) most n
tails-bound c most n hs tails = record {
  ends = λ r p from_one within inner. tail_cost-le c n r p (potential hs n r p) from_one inner (tails r p from_one within inner);
  steps = λ r p q from_two within past inner.
      let there = (tails (r - 1) q (omega (arith, from_two)) (omega (arith, within)) inner).reached in
      let least = (tails r p (omega (arith, from_two)) within (omega (arith, past, inner))).least (q ∷ there.0) (past, there.1) (omega (arith, from_two, there.2)) in
      omega (arith, least, there.3);
}

-- so a certificate of the first cut with the tail costs holds
pub certified-from_plan : (most : ℕ) (l : Literals) (c : CertificateParts) → 1 ≤ most → IsFirstCut (run_cost (lengths l)) most (length l.texts) c.ends → c.cost ≡ cut_price (run_cost (lengths l)) 0 c.ends → AreTailCosts (run_cost (lengths l)) (length l.texts) most c.potentials → length c.potentials ≡ most * length l.texts → IsCertifiedFor most l c
certified-from_plan most l c from_one first cost tails len = record {
  priced = record {
    size = record { some = first.cut.some; rows = len };
    cut = first.cut;
    total = record { price = sym cost; bound = sym (first_cut-price (run_cost (lengths l)) most (length l.texts) c.potentials c.ends from_one tails first) ∙ sym cost };
  };
  bounds = tails-bound (run_cost (lengths l)) most (length l.texts) c.potentials tails;
}

-- so does the certificate of a plan by a meter of as many places, whose prices are the costs of the literals
pub certified-from_meter : (most : ℕ) (l : Literals) (c : CertificateParts) (n : ℕ) (prices : ℕ → ℕ → ℕ) → 1 ≤ most → n ≡ length l.texts → prices ≡ run_cost (lengths l) → IsFirstCut prices most n c.ends → c.cost ≡ cut_price prices 0 c.ends → AreTailCosts prices n most c.potentials → length c.potentials ≡ most * n → IsCertifiedFor most l c
certified-from_meter most l c n prices from_one size same first cost tails len =
    let costs = run_cost (lengths l) in
    certified-from_plan most l c from_one
    (subst (λ k. IsFirstCut costs most k c.ends) size (subst (λ p. IsFirstCut p most n c.ends) same first))
    (cost ∙ ap (λ p. cut_price p 0 c.ends) same)
    (subst (λ k. AreTailCosts costs k most c.potentials) size (subst (λ p. AreTailCosts p n most c.potentials) same tails))
    (len ∙ ap (λ k. most * k) size)

-- by its own profile
pub certified_by_meter : (profile : Profile) (l : Literals) (c : CertificateParts) (n : ℕ) (prices : ℕ → ℕ → ℕ) → c.profile ≡ profile → n ≡ length l.texts → prices ≡ run_cost (lengths l) → IsFirstCut prices (buckets profile) n c.ends → c.cost ≡ cut_price prices 0 c.ends → AreTailCosts prices n (buckets profile) c.potentials → length c.potentials ≡ buckets profile * n → IsCertified l c
certified_by_meter profile l c n prices for_profile size same first cost tails len =
    subst (λ p. IsCertifiedFor (buckets p) l c) (sym for_profile) (certified-from_meter (buckets profile) l c n prices (from_one profile) size same first cost tails len)
  where
    from_one : (profile : Profile) → 1 ≤ buckets profile
    from_one Eight = omega arith
    from_one Sixteen = omega arith
