-- What a run has at a position, literal by literal.
use Rattle.std.proofs.Common.{◌≡◌, ℕ, ◌+◌, ◌-◌, ◌<◌, ◌≤◌, ◌&&◌, ◌||◌, Bool, true, false, List, length, get_or, take, drop, slice_range, sym, ap, ◌∙◌, inl, inr, arith}
use Rattle.std.specs.List.{list_all, list_any}
use Rattle.std.proofs.lemmas.Bool.{cases_lt}
use Rattle.std.proofs.lemmas.List.{get_or-drop, length-drop}
use Rattle.std.proofs.lemmas.List.Edits.{length-between}
use Rattle.std.proofs.lemmas.List.Folds.{list_all_more, list_any_more, list_all_at}
use Rattle.lit_base.specs.declared.fold.Fold.{Fold}
use Rattle.nib_mask.specs.declared.half.Half.{Half}
use Rattle.nib_mask.specs.FilterSet.{has_half, is_used, reaches, shares_half}
use Rattle.nib_mask.proofs.Ranges.{get_or-range}

-- a range with no place
none : {X Y : Type 0} (f : List X → Y) (xs : List X) (start end : ℕ) → end ≤ start → f (slice_range xs start end) ≡ f (take 0 (drop start xs))
none f xs start end empty = let size : end - start ≡ 0 = omega arith in ap (λ n. f (take n (drop start xs))) size

-- a range that ends where a loop over it ended, with the last place or at once
ended : {X : Type 0} (f : List X → Bool) (b : Bool) (xs : List X) (start place end : ℕ) → start ≤ place → (start ≤ end → place ≤ end) → end ≤ place → ((past : ℕ) → past ≤ start → f (slice_range xs start past) ≡ b) → f (slice_range xs start place) ≡ b → f (slice_range xs start end) ≡ b
ended f b xs start place end from up_to past at_once now =
    elim (cases_lt end start) [
      | inl empty ↦ at_once end (omega arith)
      | inr some ↦ let last : end ≡ place = omega (arith, up_to some) in ap (λ k. f (slice_range xs start k)) last ∙ now
    ]

-- a range with one more literal, where a test of prefixes takes one more
more : {X : Type 0} (f : List X → Bool) (with_one : Bool → X → Bool) → ((xs : List X) (i : ℕ) (d : X) → i < length xs → f (take (i + 1) xs) ≡ with_one (f (take i xs)) (get_or xs i d))
    → (xs : List X) (start place : ℕ) (x : X) → start ≤ place → place < length xs → x ≡ get_or xs place x → f (slice_range xs start (place + 1)) ≡ with_one (f (slice_range xs start place)) x
more f with_one step xs start place x from inside is =
    let size : place + 1 - start ≡ place - start + 1 = omega arith in
    let at : start + (place - start) ≡ place = omega arith in
    ap (λ n. f (take n (drop start xs))) size
    ∙ step (drop start xs) (place - start) x (omega (arith, length-drop start xs))
    ∙ ap (with_one (f (slice_range xs start place))) (get_or-drop start xs (place - start) x ∙ ap (λ k. get_or xs k x) at ∙ sym is)

module _ (position : ℕ) (texts : List (List ℕ)) (start : ℕ) where
  -- no literal fails to reach the position where there is none
  pub is_used-none : (end : ℕ) → end ≤ start → is_used position (slice_range texts start end) ≡ true
  unfolding is_used
  is_used-none end empty = none (list_all (reaches position)) texts start end empty

  -- one more literal that reaches it
  pub is_used-more : (place : ℕ) (literal : List ℕ) → start ≤ place → place < length texts → literal ≡ get_or texts place literal → is_used position (slice_range texts start place) ≡ true → reaches position literal ≡ true → is_used position (slice_range texts start (place + 1)) ≡ true
  unfolding is_used
  is_used-more place literal from inside is before here =
      more (list_all (reaches position)) (λ b t. b && reaches position t) (list_all_more (reaches position)) texts start place literal from inside is ∙ (λ i. before i && here i)

  -- one literal that does not
  pub is_used-not : (end place : ℕ) (literal : List ℕ) → start ≤ place → place < end → end ≤ length texts → literal ≡ get_or texts place literal → reaches position literal ≡ false → is_used position (slice_range texts start end) ≡ false
  unfolding is_used
  is_used-not end place literal from before within is short =
      list_all_at (reaches position) (slice_range texts start end) (place - start) literal (omega (arith, length-between texts start end within))
      (ap (reaches position) (get_or-range texts start end place literal from before ∙ sym is) ∙ short)

  -- all literals up to where a loop over them ended
  pub is_used-ended : (place end : ℕ) → start ≤ place → (start ≤ end → place ≤ end) → end ≤ place → is_used position (slice_range texts start place) ≡ true → is_used position (slice_range texts start end) ≡ true
  is_used-ended place end from up_to past now = ended (is_used position) true texts start place end from up_to past is_used-none now

  module _ (fold : Fold) (half : Half) (value : ℕ) where
    -- no literal has the half where there is none
    pub shares_half-none : (end : ℕ) → end ≤ start → shares_half fold position half value (slice_range texts start end) ≡ false
    unfolding shares_half
    shares_half-none end empty = none (list_any (has_half fold position half value)) texts start end empty

    -- one more literal
    pub shares_half-more : (place : ℕ) (literal : List ℕ) → start ≤ place → place < length texts → literal ≡ get_or texts place literal → shares_half fold position half value (slice_range texts start (place + 1)) ≡ (shares_half fold position half value (slice_range texts start place) || has_half fold position half value literal)
    unfolding shares_half
    shares_half-more place literal from inside is =
        let has : List ℕ → Bool = has_half fold position half value in
        more (list_any has) (λ b t. b || has t) (list_any_more has) texts start place literal from inside is

    -- all literals up to where a loop over them ended, with the last place or at once
    pub shares_half-ended : (place end : ℕ) → start ≤ place → (start ≤ end → place ≤ end) → (end ≤ start → place ≤ start) → end ≤ place → shares_half fold position half value (slice_range texts start place) ≡ shares_half fold position half value (slice_range texts start end)
    shares_half-ended place end from up_to at_once past =
        elim (cases_lt end start) [
          | inl empty ↦ shares_half-none place (omega (arith, at_once (omega arith))) ∙ sym (shares_half-none end (omega arith))
          | inr some ↦ let last : place ≡ end = omega (arith, up_to some) in ap (λ k. shares_half fold position half value (slice_range texts start k)) last
        ]
