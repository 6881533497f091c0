-- The states of positions, one after the other.
use Rattle.std.proofs.Common.{◌≡◌, ℕ, suc, ◌+◌, ◌*◌, ◌<◌, ◌≤◌, ◌⊎◌, List, inl, inr, length, get_or, set, slice_index, sym, ap, ◌∙◌, subst, arith}
use Rattle.std.proofs.lemmas.Bool.{cases_eq, cases_lt}
use Rattle.std.proofs.lemmas.List.{get_or-set_other, get_or-set_same}
use Rattle.text_automaton.specs.Prefixes.{IsRead, state_after}
use Rattle.text_automaton.specs.Tables.{count_of, step}
use Rattle.text_automaton.specs.declared.tables.Tables.{Tables}

-- the state of a position leads to the state of the next
pub read_on : (t : Tables) (text : List ℕ) (longest place at next state to : ℕ) → IsRead t text longest place state → at ≡ place → next ≡ place + 1 → to ≡ step t state (slice_index t.classes (slice_index text at)) → to < count_of t
    → IsRead t text longest next to
read_on t text longest place at next state to old here there led known = record {
  from = old.from;
  count = suc old.count;
  here = omega (arith, old.here, there);
  early = omega (arith, old.early, there);
  state = led ∙ ap (λ s. step t s (slice_index t.classes (slice_index text at))) old.state
      ∙ ap (λ p. step t (state_after t text old.from old.count) (slice_index t.classes (slice_index text p))) (here ∙ sym old.here);
  known = known;
}

-- what holds of some places of a list, and of a number, holds of them and of the place where it is put
pub set_more : (P : ℕ → ℕ → Type 0) (D : ℕ → Type 0) (xs : List ℕ) (at value : ℕ) → at < length xs → ((k : ℕ) → D k → P k (get_or xs k 0)) → P at value
    → (k : ℕ) → (D k ⊎ (k ≡ at)) → P k (get_or (set xs at value) k 0)
set_more P D xs at value room old new k which = elim (cases_eq k at) [
  | inl same ↦ subst (λ x. P x (get_or (set xs at value) x 0)) (sym same) (subst (P at) (sym (get_or-set_same xs at value 0 room)) new)
  | inr other ↦ elim which [
    | inl done ↦ subst (P k) (sym (get_or-set_other xs at k value 0 other)) (old k done)
    | inr same ↦ absurd (other same)
  ]
]

-- a position lies in the finished part of one of four lanes of equal length
abbrev pub AreDone : ℕ → ℕ → ℕ → Type 0
AreDone lane count k = ((k < count) ⊎ ((lane ≤ k) × (k < lane + count))) ⊎ (((2 * lane ≤ k) × (k < 2 * lane + count)) ⊎ ((3 * lane ≤ k) × (k < 3 * lane + count)))

-- one more of each lane: the positions before, and four more
pub done_more : (lane count k : ℕ) → AreDone lane (count + 1) k → (((AreDone lane count k ⊎ (k ≡ count)) ⊎ (k ≡ lane + count)) ⊎ (k ≡ 2 * lane + count)) ⊎ (k ≡ 3 * lane + count)
done_more lane count k (inl (inl p)) = elim (cases_lt k count) [
  | inl sooner ↦ inl (inl (inl (inl (inl (inl sooner)))))
  | inr there ↦ inl (inl (inl (inr (omega (arith, p, there)))))
]
done_more lane count k (inl (inr p)) = elim (cases_lt k (lane + count)) [
  | inl sooner ↦ inl (inl (inl (inl (inl (inr (p.0, sooner))))))
  | inr there ↦ inl (inl (inr (omega (arith, p.1, there))))
]
done_more lane count k (inr (inl p)) = elim (cases_lt k (2 * lane + count)) [
  | inl sooner ↦ inl (inl (inl (inl (inr (inl (p.0, sooner))))))
  | inr there ↦ inl (inr (omega (arith, p.1, there)))
]
done_more lane count k (inr (inr p)) = elim (cases_lt k (3 * lane + count)) [
  | inl sooner ↦ inl (inl (inl (inl (inr (inr (p.0, sooner))))))
  | inr there ↦ inr (omega (arith, p.1, there))
]
