-- What the checker reads: potentials from the list that holds them row by row, and costs of runs.
use Rattle.std.proofs.Common.{◌≡◌, ℕ, zero, suc, ◌+◌, ◌-◌, ◌*◌, ◌<◌, ◌≤◌, List, length, get_or, drop, refl, sym, ap, ◌∙◌, subst, arith, length-take}
use Rattle.std.specs.List.{slice_range}
use Rattle.std.proofs.lemmas.List.{get_or-take, get_or-drop, get_or_read}
use Rattle.lit_base.specs.Costs.{cost}
use Rattle.lit_base.specs.Literals.{Literals, lengths}
use Rattle.lit_base.specs.Potentials.{potential}
use Rattle.lit_base.proofs.Least.{potential-inner}
use Rattle.lit_base.proofs.Runs.{cost-run}
use Rattle.lit_cert.specs.Certified.{cost_of, potential_of, HasLength}

-- a row has no more than n entries
pub row_within : (hs : List ℕ) (n r p : ℕ) → 1 ≤ r → p < length (slice_range hs ((r - 1) * n) (r * n)) → p < n
row_within hs n zero p from_one inner = absurd (omega (arith, from_one))
row_within hs n (suc s) p from_one inner =
    let one : suc s - 1 ≡ s = omega arith in
    let within = rw one at inner in
    omega (arith, within, length-take (suc s * n - s * n) (drop (s * n) hs))

-- an entry of a row
pub row_at : (hs : List ℕ) (n r p : ℕ) → 1 ≤ r → p < n → get_or (slice_range hs ((r - 1) * n) (r * n)) p 0 ≡ potential hs n r p
row_at hs n zero p from_one inner = absurd (omega (arith, from_one))
row_at hs n (suc s) p from_one inner =
    let one : suc s - 1 ≡ s = omega arith in
    let within : p < suc s * n - (suc s - 1) * n = rw one (omega (arith, inner)) in
    get_or-take (suc s * n - (suc s - 1) * n) (drop ((suc s - 1) * n) hs) p 0 within ∙ (get_or-drop ((suc s - 1) * n) hs p 0 ∙ sym (potential-inner hs n (suc s) p inner))

-- the potential and the cost that an end row compares, as they are read
pub end_read : (l : Literals) (hs : List ℕ) (r p n m price : ℕ) → n ≡ length l.texts → 1 ≤ r → p < n → m ≡ get_or (lengths l) p 0 → price ≡ cost (n - p) m → (get_or (slice_range hs ((r - 1) * n) (r * n)) p 0 ≡ potential_of l hs r p) × (price ≡ cost_of l p (length l.texts))
end_read l hs r p n m price size from_one inner shortest is =
    (row_at hs n r p from_one inner ∙ (subst (λ k. potential hs n r p ≡ potential hs k r p) size refl), is ∙ (cost-run (lengths l) p n (n - p) m refl shortest ∙ subst (λ k. cost_of l p n ≡ cost_of l p k) size refl))

-- the two potentials and the cost that a step compares
pub step_read : (l : Literals) (hs : List ℕ) (r p q n m price : ℕ) → n ≡ length l.texts → 2 ≤ r → p < n → q < n → m ≡ get_or (lengths l) p 0 → price ≡ cost (q - p) m → (get_or hs ((r - 1) * n + p) 0 ≡ potential_of l hs r p) × (get_or (slice_range hs ((r - 2) * n) ((r - 1) * n)) q 0 ≡ potential_of l hs (r - 1) q) × (price ≡ cost_of l p q)
step_read l hs r p q n m price size from_two inner later shortest is =
    let two : r - 2 ≡ (r - 1) - 1 = omega arith in
    let here = sym (potential-inner hs n r p inner) ∙ subst (λ k. potential hs n r p ≡ potential hs k r p) size refl in
    let after = row_at hs n (r - 1) q (omega (arith, from_two)) later ∙ subst (λ k. potential hs n (r - 1) q ≡ potential hs k (r - 1) q) size refl in
    (here, rw two after, is ∙ cost-run (lengths l) p q (q - p) m refl shortest)

-- the first entry of the last row
pub last_row_read : (l : Literals) (hs : List ℕ) (most n bound : ℕ) → n ≡ length l.texts → 1 ≤ most → HasLength most l hs → bound ≡ get_or hs ((most - 1) * n) bound → bound ≡ potential_of l hs most 0
last_row_read l hs zero n bound size some has is = absurd (omega (arith, some))
last_row_read l hs (suc k) n bound size some has is =
    let one : suc k - 1 ≡ k = omega arith in
    let count : length hs ≡ suc k * n = has.rows ∙ ap (λ x. suc k * x) (sym size) in
    let within : (suc k - 1) * n < length hs = rw (one, count) (omega (arith, size, has.some)) in
    let first : (suc k - 1) * n ≡ (suc k - 1) * n + 0 = omega arith in
    let read = get_or_read hs ((suc k - 1) * n) bound within is 0 ∙ ap (λ i. get_or hs i 0) first in
    let at = read ∙ sym (potential-inner hs n (suc k) 0 (omega (arith, size, has.some))) in
    subst (λ x. bound ≡ potential hs x (suc k) 0) size at
