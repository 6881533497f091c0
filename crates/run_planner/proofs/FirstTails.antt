-- First cheapest cuts: each begins with the first end that reaches the potential, and goes on as one.
use Rattle.std.proofs.Common.{append-nil, ◌≡◌, inl, inr, ℕ, zero, suc, ◌+◌, ◌-◌, ◌*◌, ◌^◌, ◌<◌, ◌≤◌, List, [], ◌∷◌, ◌++◌, length, get_or, All, refl, sym, ap, ◌∙◌, subst, arith}
use Rattle.std.specs.List.{slice_range}
use Rattle.std.proofs.lemmas.Bool.{cases_lt}
use Rattle.std.proofs.lemmas.List.Elements.{All-from_get_or}
use Rattle.lit_base.specs.Costs.{AreSmall}
use Rattle.lit_base.specs.Cuts.{CutsFrom, IsCut, cut_price}
use Rattle.lit_base.specs.Potentials.{potential}
use Rattle.lit_base.proofs.Cuts.{cuts-le, length-cuts}
use Rattle.lit_base.proofs.Least.{potential-inner, potential-end}
use Rattle.lit_cert.proofs.Potentials.{row_at, row_within}
use Rattle.run_planner.specs.TailCosts.{IsTailCost, AreTailCosts}
use Rattle.run_planner.specs.FirstCut.{ComeNoLater, IsNoLaterCut, IsFirstCut, IsFirstTail}
use Rattle.run_planner.proofs.Tails.{tail_cost-end, tail_cost-le}

-- what s runs more cost after each end, where there are as many
abbrev After : (ℕ → ℕ → ℕ) → (ℕ → ℕ) → ℕ → ℕ → Type 0
After c rest n s = (q : ℕ) → q ≤ n → (q < n → 1 ≤ s) → IsTailCost c n s q (rest q)

-- after an end before n there are further runs
more_runs : (n s end : ℕ) (ends : List ℕ) → CutsFrom n end ends → length ends ≤ s → end < n → 1 ≤ s
more_runs n s end ends cuts few inner = omega (arith, length-cuts n end ends cuts inner, few)

-- the first end of a cheapest cut reaches the price
reaches : (c : ℕ → ℕ → ℕ) (rest : ℕ → ℕ) (n s p v end : ℕ) (ends : List ℕ) → IsTailCost c n (suc s) p v → After c rest n s → p < end → CutsFrom n end ends → length ends ≤ s → c p end + cut_price c end ends ≡ v → c p end + rest end ≡ v
reaches c rest n s p v end ends tail after past cuts few price =
    let within = cuts-le n end ends cuts in
    let further = after end within (more_runs n s end ends cuts few) in
    let there = further.reached in
    let least = tail.least (end ∷ there.0) (past, there.1) (omega (arith, there.2)) in
    omega (arith, least, there.3, further.least ends cuts few, price)

-- the price of the cut that begins with the first end that reaches, and goes on as a first cheapest cut
first_price : (c : ℕ → ℕ → ℕ) (rest : ℕ → ℕ) (n s p v end : ℕ) (ends others : List ℕ) → IsTailCost c n (suc s) p v → After c rest n s → p < end → end ≤ n → (end < n → c p end + rest end ≡ v) → ((q : ℕ) → p < q → q < end → 1 ≤ s → c p q + rest q ≡ v → ⊥) → cut_price c end ends ≡ rest end → CutsFrom n p others → length others ≤ suc s → cut_price c p others ≡ v → c p end + cut_price c end ends ≡ v
first_price c rest n s p v end ends [] tail after past within reached before price cuts few is = absurd (omega (arith, cuts, past, within))
first_price c rest n s p v end ends (other ∷ others) tail after past within reached before price cuts few is = elim (cases_lt end n) [
  | inl inner ↦ omega (arith, reached inner, price)
  | inr last ↦
      let here = reaches c rest n s p v other others tail after cuts.0 cuts.1 (omega (arith, few)) is in
      let le = cuts-le n other others cuts.1 in
      elim (cases_lt other end) [
        | inl earlier ↦ absurd (before other cuts.0 earlier (more_runs n s other others cuts.1 (omega (arith, few)) (omega (arith, earlier, within))) here)
        | inr same ↦
            let one : other ≡ end = omega (arith, same, le, last) in
            omega (arith, subst (λ e. c p e + rest e ≡ v) one here, price)
      ]
]

-- and no cheapest cut comes earlier
none_earlier : (c : ℕ → ℕ → ℕ) (rest : ℕ → ℕ) (n s p v end : ℕ) (ends others : List ℕ) → IsTailCost c n (suc s) p v → After c rest n s → p < end → end ≤ n → ((q : ℕ) → p < q → q < end → 1 ≤ s → c p q + rest q ≡ v → ⊥) → IsFirstTail c n s end (rest end) ends → CutsFrom n p others → length others ≤ suc s → cut_price c p others ≡ v → ComeNoLater (end ∷ ends) others
none_earlier c rest n s p v end ends [] tail after past within before first cuts few is = absurd (omega (arith, cuts, past, within))
none_earlier c rest n s p v end ends (other ∷ others) tail after past within before first cuts few is =
    let here = reaches c rest n s p v other others tail after cuts.0 cuts.1 (omega (arith, few)) is in
    elim (cases_lt other end) [
      | inl earlier ↦ absurd (before other cuts.0 earlier (more_runs n s other others cuts.1 (omega (arith, few)) (omega (arith, earlier, within))) here)
      | inr no_earlier ↦ elim (cases_lt end other) [
        | inl later ↦ inl later
        | inr no_later ↦
            let same : end ≡ other = omega (arith, no_earlier, no_later) in
            let price : cut_price c other others ≡ rest other = omega (arith, here, is) in
            inr (same, first.first others (subst (λ e. CutsFrom n e others) (sym same) cuts.1) (omega (arith, few)) (subst (λ e. cut_price c e others ≡ rest e) (sym same) price))
      ]
    ]

-- so it is the first cheapest cut from there on
first_tail-next : (c : ℕ → ℕ → ℕ) (rest : ℕ → ℕ) (n s p v end : ℕ) (ends : List ℕ) → IsTailCost c n (suc s) p v → After c rest n s → p < end → end ≤ n → (end < n → c p end + rest end ≡ v) → ((q : ℕ) → p < q → q < end → 1 ≤ s → c p q + rest q ≡ v → ⊥) → IsFirstTail c n s end (rest end) ends → IsFirstTail c n (suc s) p v (end ∷ ends)
first_tail-next c rest n s p v end ends tail after past within reached before first =
    let some = tail.reached in
    record {
      cuts = (past, first.cuts);
      few = omega (arith, first.few);
      price = first_price c rest n s p v end ends some.0 tail after past within reached before first.price some.1 some.2 some.3;
      first = λ others cuts few is. none_earlier c rest n s p v end ends others tail after past within before first cuts few is;
    }

-- nothing is the first cut of nothing
pub first_tail-end : (c : ℕ → ℕ → ℕ) (n r v : ℕ) → 0 ≡ v → IsFirstTail c n r n v []
first_tail-end c n r v is = record { cuts = refl; few = omega arith; price = is; first = λ others cuts few same. tt }

-- what a row of potentials says of the ends after which its runs go on
after-rows : (c : ℕ → ℕ → ℕ) (n s : ℕ) (rows : List ℕ) → AreTailCosts c n (suc s) rows → After c (potential rows n s) n s
after-rows c n s rows tails q within some = elim (cases_lt q n) [
  | inl inner ↦ tails s q (some inner) (omega arith) inner
  | inr last ↦
      let end : n ≡ q = omega (arith, last, within) in
      subst (λ k. IsTailCost c n s k (potential rows n s k)) end (subst (λ v. IsTailCost c n s n v) (sym (potential-end rows n s n refl)) (tail_cost-end c n s))
]

-- by potentials: an end of s runs after it, one run more, makes a first cheapest cut of each such after it
abbrev pub GoesOn : (ℕ → ℕ → ℕ) → ℕ → List ℕ → ℕ → ℕ → ℕ → ℕ → Type 0
GoesOn c n rows s r p end =
    (end < n → c p end + potential rows n s end ≡ potential rows n r p)
    → ((q : ℕ) → p < q → q < end → 1 ≤ s → c p q + potential rows n s q ≡ potential rows n r p → ⊥)
    → (ends : List ℕ) → IsFirstTail c n s end (potential rows n s end) ends → IsFirstTail c n r p (potential rows n r p) (end ∷ ends)

-- it is the first end that reaches the potential
pub goes_on : (c : ℕ → ℕ → ℕ) (n : ℕ) (rows : List ℕ) (r p end : ℕ) → 1 ≤ r → AreTailCosts c n r rows → p < end → end ≤ n → GoesOn c n rows (r - 1) r p end
goes_on c n rows zero p end some tails past within = absurd (omega (arith, some))
goes_on c n rows (suc s) p end some tails past within =
    let one : s ≡ suc s - 1 = omega arith in
    subst (λ k. GoesOn c n rows k (suc s) p end) one (λ reached before ends first.
    first_tail-next c (potential rows n s) n s p (potential rows n (suc s) p) end ends (tails (suc s) p some (omega arith) (omega (arith, past, within))) (after-rows c n s rows tails) past within reached before first)

-- the row of one run fewer, as it is read
pub fewer_at : (rows : List ℕ) (n r w q : ℕ) → w ≡ n → 2 ≤ r → q < n → get_or (slice_range rows ((r - 2) * w) ((r - 1) * w)) q 0 ≡ potential rows n (r - 1) q
fewer_at rows n r w q width some inner =
    let two : r - 2 ≡ (r - 1) - 1 = omega arith in
    rw (width, two) (row_at rows n (r - 1) q (omega (arith, some)) inner)

-- its numbers are small
pub fewer-small : (c : ℕ → ℕ → ℕ) (rows : List ℕ) (n r w : ℕ) → w ≡ n → 2 ≤ r → AreTailCosts c n r rows → AreSmall c n → All (λ v. v < 2 ^ 40) (slice_range rows ((r - 2) * w) ((r - 1) * w))
fewer-small c rows n r w width some tails small =
    let two : r - 2 ≡ (r - 1) - 1 = omega arith in
    All-from_get_or (λ v. v < 2 ^ 40) (slice_range rows ((r - 2) * w) ((r - 1) * w)) 0 (λ q h.
    let inner : q < n = row_within rows n (r - 1) q (omega (arith, some)) (rw (width, two) at h) in
    let tail = tails (r - 1) q (omega (arith, some)) (omega arith) inner in
    omega (arith, fewer_at rows n r w q width some inner, small q n inner (omega arith), tail_cost-le c n (r - 1) q (potential rows n (r - 1) q) (omega (arith, some)) inner tail))

-- where no place remains, the ends so far are the first cheapest cut
pub first_tail-done : (c : ℕ → ℕ → ℕ) (n : ℕ) (rows : List ℕ) (r left place v : ℕ) (ends : List ℕ) → place ≡ n → ((rest : List ℕ) → IsFirstTail c n left place (potential rows n left place) rest → IsFirstTail c n r 0 v (ends ++ rest)) → IsFirstTail c n r 0 v ends
first_tail-done c n rows r left place v ends last whole =
    let nothing = first_tail-end c n left (potential rows n left n) (sym (potential-end rows n left n refl)) in
    subst (λ es. IsFirstTail c n r 0 v es) (append-nil ends) (whole [] (subst (λ k. IsFirstTail c n left k (potential rows n left k) []) (sym last) nothing))

-- the first entry of a row, as it is read
pub first_entry : (rows : List ℕ) (n r w : ℕ) → w ≡ n → 0 < n → potential rows n r 0 ≡ get_or rows ((r - 1) * w) 0
first_entry rows n r w width some =
    let first : (r - 1) * n + 0 ≡ (r - 1) * n = omega arith in
    rw width (potential-inner rows n r 0 some ∙ ap (λ i. get_or rows i 0) first)

-- no cut of its price has fewer runs
no_fewer : (c : ℕ → ℕ → ℕ) (n : ℕ) (rows : List ℕ) (r most : ℕ) (ends : List ℕ) → 0 < n → r ≤ most → AreTailCosts c n most rows → ((s : ℕ) → 1 ≤ s → s < r → potential rows n s 0 ≡ potential rows n most 0 → ⊥) → CutsFrom n 0 ends → cut_price c 0 ends ≡ potential rows n most 0 → r ≤ length ends
no_fewer c n rows r most ends some within tails fewest cuts price = elim (cases_lt (length ends) r) [
  | inl less ↦
      let from_one = length-cuts n 0 ends cuts some in
      let most_from_one : 1 ≤ most = omega (arith, from_one, less, within) in
      let here = tails (length ends) 0 from_one (omega (arith, less, within)) some in
      let all = tails most 0 most_from_one (omega arith) some in
      let there = here.reached in
      let low = here.least ends cuts (omega arith) in
      let high = all.least there.0 there.1 (omega (arith, there.2, less, within)) in
      absurd (fewest (length ends) from_one less (omega (arith, low, high, there.3, price)))
  | inr enough ↦ enough
]

-- against every other cut it costs less, or as much with fewer runs, or comes no later
no_later : (c : ℕ → ℕ → ℕ) (n : ℕ) (rows : List ℕ) (r most : ℕ) (ends others : List ℕ) → 0 < n → 1 ≤ r → r ≤ most → AreTailCosts c n most rows → potential rows n r 0 ≡ potential rows n most 0 → ((s : ℕ) → 1 ≤ s → s < r → potential rows n s 0 ≡ potential rows n most 0 → ⊥) → IsFirstTail c n r 0 (potential rows n r 0) ends → IsCut most n others → IsNoLaterCut c ends others
no_later c n rows r most ends others some from_one within tails same fewest first cut =
    let all = tails most 0 (omega (arith, from_one, within)) (omega arith) some in
    let least = all.least others cut.cuts cut.few in
    let price : cut_price c 0 ends ≡ potential rows n most 0 = first.price ∙ same in
    elim (cases_lt (potential rows n most 0) (cut_price c 0 others)) [
      | inl dearer ↦ inl (omega (arith, price, dearer))
      | inr no_dearer ↦
          let other : cut_price c 0 others ≡ potential rows n most 0 = omega (arith, least, no_dearer) in
          let own = no_fewer c n rows r most ends some within tails fewest first.cuts price in
          let its = no_fewer c n rows r most others some within tails fewest cut.cuts other in
          elim (cases_lt (length ends) (length others)) [
            | inl fewer ↦ inr (price ∙ sym other, inl fewer)
            | inr as_many ↦
                let count : length ends ≡ length others = omega (arith, own, its, as_many, first.few) in
                inr (price ∙ sym other, inr (count, first.first others cut.cuts (omega (arith, count, first.few)) (other ∙ sym same)))
          ]
    ]

-- the fewest runs with the price of all: the first cheapest cut into them is the first of all cuts
pub first_cut-from_tail : (c : ℕ → ℕ → ℕ) (n : ℕ) (rows : List ℕ) (r most : ℕ) (ends : List ℕ) → 0 < n → 1 ≤ r → r ≤ most → AreTailCosts c n most rows → potential rows n r 0 ≡ potential rows n most 0 → ((s : ℕ) → 1 ≤ s → s < r → potential rows n s 0 ≡ potential rows n most 0 → ⊥) → IsFirstTail c n r 0 (potential rows n r 0) ends → IsFirstCut c most n ends
first_cut-from_tail c n rows r most ends some from_one within tails same fewest first = record {
  cut = record { some = some; cuts = first.cuts; few = omega (arith, first.few, within) };
  first = λ others cut. no_later c n rows r most ends others some from_one within tails same fewest first cut;
}
