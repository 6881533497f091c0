-- The lengths of literals in order never fall.
use Rattle.std.proofs.Common.{◌≡◌, ℕ, ◌-◌, ◌<◌, ◌≤◌, List, [], length, get_or, map, All, inl, inr, sym, ap, arith}
use Rattle.std.specs.declared.cmp.Ordering.TheVariants.{Less, Greater}
use Rattle.std.specs.Ordering.{nat_cmp, ordering_then}
use Rattle.std.specs.Cmp.Lexicographic.{slice_cmp}
use Rattle.std.specs.List.Sorted.{IsNonDecreasing}
use Rattle.std.specs.Cmp.{nat_cmp_is}
use Rattle.std.proofs.lemmas.Bool.{cases_lt}
use Rattle.std.proofs.lemmas.Map.Keys.{Less-from_sorted}
use Rattle.std.proofs.lemmas.List.{get_or_default}
use Rattle.std.proofs.lemmas.List.{get_or-map, length-map}
use Rattle.lit_base.specs.Literals.{Literals, lengths, literal_cmp, IsNormal}

-- a literal that is below another is no longer
no_longer : (a b : List ℕ) → literal_cmp a b ≡ Less → length a ≤ length b
no_longer a b e = elim (cases_lt (length b) (length a)) [
  | inl longer ↦
      let above : Greater ≡ nat_cmp (length a) (length b) = nat_cmp_is (length a) (length b) Greater longer in
      let not_less : literal_cmp a b ≡ Greater = ap (λ o. ordering_then o (slice_cmp nat_cmp a b)) (sym above) in
      (cc)
  | inr fits ↦ fits
]

-- what stands at a place of the lengths is the length of the literal there
pub length_at : (texts : List (List ℕ)) (i d : ℕ) → i < length texts → get_or (map length texts) i d ≡ length (get_or texts i [])
length_at texts i d inside = get_or-map length texts i [] d inside

-- the lengths never fall
pub lengths_rise : (l : Literals) → IsNormal l → IsNonDecreasing (lengths l)
lengths_rise l normal i j d i≤j inside =
    let short : j < length l.texts = omega (arith, inside, length-map l.texts (length {A = ℕ})) in
    let at_i = length_at l.texts i d (omega arith) in
    let at_j = length_at l.texts j d short in
    elim (cases_lt i j) [
      | inl before ↦
          let below = no_longer (get_or l.texts i []) (get_or l.texts j []) (Less-from_sorted literal_cmp l.texts i j [] normal.rising before short) in
          omega (arith, at_i, at_j, below)
      | inr same ↦
          let here : i ≡ j = omega arith in
          let alike : get_or (lengths l) i d ≡ get_or (lengths l) j d = ap (λ k. get_or (lengths l) k d) here in
          omega (arith, alike)
    ]

-- the first length is the least
pub first_least : (l : Literals) → IsNormal l → (n : ℕ) → n ≡ get_or (lengths l) 0 0 → All (λ len. n ≤ len) (lengths l)
first_least l normal n is k d inside =
    let first : get_or (lengths l) 0 d ≡ get_or (lengths l) 0 0 = get_or_default (lengths l) 0 d 0 (omega arith) in
    omega (arith, lengths_rise l normal 0 k d (omega arith) inside, first, is)

-- the last one is the greatest
pub last_greatest : (l : Literals) → IsNormal l → (n : ℕ) → n ≡ get_or (lengths l) (length l.texts - 1) 0 → All (λ len. len ≤ n) (lengths l)
last_greatest l normal n is k d inside =
    let len = length-map l.texts (length {A = ℕ}) in
    let last : get_or (lengths l) (length l.texts - 1) d ≡ get_or (lengths l) (length l.texts - 1) 0 = get_or_default (lengths l) (length l.texts - 1) d 0 (omega arith) in
    omega (arith, lengths_rise l normal k (length l.texts - 1) d (omega arith) (omega arith), last, is)
