-- A number of one bit for each run of a cut.
use Rattle.std.proofs.Common.{◌≡◌, ℕ, zero, suc, ◌+◌, ◌-◌, ◌*◌, ◌^◌, ◌<◌, ◌≤◌, min, ◌&&◌, Bool, true, false, cond, List, [], ◌∷◌, length, get_or, drop, map, slice_range, bit_and, refl, sym, ap, subst, ◌∙◌, inl, inr, arith}
use Rattle.std.specs.Int.{bit_at}
use Rattle.std.proofs.Math.Pow.{pow_mono}
use Rattle.std.specs.Simd.Lanes.{mask_l}
use Rattle.std.proofs.lemmas.Bool.{cases_lt, lt-ltb, le-ltb}
use Rattle.std.proofs.lemmas.Nat.Bits.{bit_at_and, same_from_bits}
use Rattle.std.proofs.lemmas.Simd.{bit_mask_l, mask_l-lt}
use Rattle.std.proofs.lemmas.List.{length-map}
use Rattle.std.proofs.lemmas.List.Edits.{length-between}
use Rattle.lit_base.specs.Cuts.{CutsFrom}
use Rattle.lit_base.proofs.Cuts.{cuts-le}
use Rattle.nib_mask.specs.Runs.{bucket_of, runs_from, runs_mask}
use Rattle.nib_mask.proofs.Ranges.{get_or-range}

-- the first end lies past no literal
pub first-within : (n p : ℕ) (ends : List ℕ) → CutsFrom n p ends → 1 ≤ length ends → get_or ends 0 0 ≤ n
first-within n p [] cuts some = absurd (omega arith)
first-within n p (end ∷ ends) cuts some = cuts-le n end ends cuts.1

-- there are as many runs as ends
length-runs : (texts : List (List ℕ)) (p : ℕ) (ends : List ℕ) → length (runs_from texts p ends) ≡ length ends
length-runs texts p [] = refl
length-runs texts p (end ∷ ends) = ap suc (length-runs texts end ends)

module _ (test : List (List ℕ) → Bool) (texts : List (List ℕ)) where
  -- no bit without a run
  pub runs_mask-none : (p : ℕ) (ends : List ℕ) → length ends < 1 → runs_mask test texts p ends ≡ 0
  unfolding runs_mask
  runs_mask-none p [] empty = refl
  runs_mask-none p (end ∷ ends) empty = absurd (omega arith)

  -- the first run has the lowest bit
  pub runs_mask-first : (p : ℕ) (ends : List ℕ) (entry bit rest : ℕ) → 1 ≤ length ends → entry ≡ bit + 2 * rest → bit ≡ cond (test (slice_range texts p (get_or ends 0 0))) 1 0 → rest ≡ runs_mask test texts (get_or ends 0 0) (drop 1 ends) → entry ≡ runs_mask test texts p ends
  unfolding runs_mask
  runs_mask-first p [] entry bit rest some is here later = absurd (omega arith)
  runs_mask-first p (end ∷ ends) entry bit rest some is here later = is ∙ (λ i. here i + 2 * later i)

  -- no bit lies past the last run
  pub runs_mask-lt : (p : ℕ) (ends : List ℕ) → runs_mask test texts p ends < 2 ^ length ends
  unfolding runs_mask
  runs_mask-lt p ends =
      let runs = runs_from texts p ends in
      subst (λ n. mask_l (map test runs) < 2 ^ n) (length-map runs test ∙ length-runs texts p ends) (mask_l-lt (map test runs))

  -- no more than fifteen runs leave room for one more bit of sixteen
  pub runs_mask-fifteen : (p : ℕ) (ends : List ℕ) → length ends ≤ 15 → runs_mask test texts p ends < 32768
  runs_mask-fifteen p ends few = omega (arith, runs_mask-lt p ends, pow_mono {i = length ends} {j = 15} few)

  -- the bit of a run is the run's test
  pub bit_at-runs_mask : (p : ℕ) (ends : List ℕ) (b : ℕ) → bit_at (runs_mask test texts p ends) b ≡ cond (get_or (map test (runs_from texts p ends)) b false) 1 0
  unfolding runs_mask
  bit_at-runs_mask p ends b = bit_mask_l (map test (runs_from texts p ends)) b

-- a test of two tests has both bits
both : (x y : Bool) → min (cond x 1 0) (cond y 1 0) ≡ cond (x && y) 1 0
both true true = refl
both true false = refl
both false true = refl
both false false = refl

get_or-both : {X : Type 0} (f g : X → Bool) (xs : List X) (b : ℕ) → min (cond (get_or (map f xs) b false) 1 0) (cond (get_or (map g xs) b false) 1 0) ≡ cond (get_or (map (λ x. f x && g x) xs) b false) 1 0
get_or-both f g [] b = refl
get_or-both f g (x ∷ xs) zero = both (f x) (g x)
get_or-both f g (x ∷ xs) (suc b) = get_or-both f g xs b

-- the numbers of two tests agree on the runs that pass both
pub runs_mask-and : (f g : List (List ℕ) → Bool) (texts : List (List ℕ)) (p : ℕ) (ends : List ℕ) → bit_and (runs_mask f texts p ends) (runs_mask g texts p ends) ≡ runs_mask (λ run. f run && g run) texts p ends
runs_mask-and f g texts p ends =
    same_from_bits _ _ (λ b.
    bit_at_and (runs_mask f texts p ends) (runs_mask g texts p ends) b
    ∙ (λ i. min (bit_at-runs_mask f texts p ends b i) (bit_at-runs_mask g texts p ends b i))
    ∙ get_or-both f g (runs_from texts p ends) b
    ∙ sym (bit_at-runs_mask (λ run. f run && g run) texts p ends b))

-- a run has the literal at one of its places
pub record Holds (run : List (List ℕ)) (literal : List ℕ) : Type 0 where
  pub place : ℕ
  pub inside : place < length run
  pub stands : get_or run place [] ≡ literal

-- the run of a literal's bucket has the literal, so it passes a test that every run with the literal passes
run_passes : (test : List (List ℕ) → Bool) (texts : List (List ℕ)) (p : ℕ) (ends : List ℕ) (place : ℕ) → CutsFrom (length texts) p ends → p ≤ place → place < length texts → ((run : List (List ℕ)) → Holds run (get_or texts place []) → test run ≡ true) → get_or (map test (runs_from texts p ends)) (bucket_of ends place) false ≡ true
run_passes test texts p [] place cuts from inside pass = absurd (omega (arith, cuts))
run_passes test texts p (end ∷ ends) place cuts from inside pass =
    let tests = map test (runs_from texts p (end ∷ ends)) in
    elim (cases_lt place end) [
      | inl before ↦
          let here : bucket_of (end ∷ ends) place ≡ 0 = ap (λ t. cond t 0 (suc (bucket_of ends place))) (lt-ltb place end before) in
          let run = slice_range texts p end in
          let long = length-between texts p end (cuts-le (length texts) end ends cuts.1) in
          let holds : Holds run (get_or texts place []) =
          record { place = place - p; inside = omega (arith, long); stands = get_or-range texts p end place [] from before } in
          ap (λ b. get_or tests b false) here ∙ pass run holds
      | inr past ↦
          let later : bucket_of (end ∷ ends) place ≡ suc (bucket_of ends place) = ap (λ t. cond t 0 (suc (bucket_of ends place))) (le-ltb place end past) in
          ap (λ b. get_or tests b false) later ∙ run_passes test texts end ends place cuts.1 past inside pass
    ]

-- so its bit is set
pub bit_at-bucket : (test : List (List ℕ) → Bool) (texts : List (List ℕ)) (ends : List ℕ) (place : ℕ) → CutsFrom (length texts) 0 ends → place < length texts → ((run : List (List ℕ)) → Holds run (get_or texts place []) → test run ≡ true) → bit_at (runs_mask test texts 0 ends) (bucket_of ends place) ≡ 1
bit_at-bucket test texts ends place cuts inside pass =
    bit_at-runs_mask test texts 0 ends (bucket_of ends place)
    ∙ ap (λ t. cond t 1 0) (run_passes test texts 0 ends place cuts (omega arith) inside pass)
