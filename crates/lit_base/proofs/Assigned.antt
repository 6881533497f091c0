-- A cut read as an assignment: it is one, and its price is the cut's.
use Rattle.std.proofs.Common.{◌≡◌, ◌≢◌, ℕ, zero, suc, ◌+◌, ◌-◌, ◌<◌, ◌≤◌, List, [], ◌∷◌, ◌++◌, length, drop, replicate, refl, sym, ap, ◌∙◌, subst, arith, length-append}
use Rattle.std.specs.Prelude.{All}
use Rattle.std.specs.List.{sum_by, range_with_len, slice_range}
use Rattle.std.specs.List.Sorted.{IsNonDecreasing}
use Rattle.std.proofs.lemmas.Bool.{eq-eqb, ne_eqb}
use Rattle.std.proofs.lemmas.List.{append-nil, length-take-le, length-drop, length-replicate}
use Rattle.std.proofs.lemmas.List.Elements.{All-nil, All-append, All-replicate}
use Rattle.std.proofs.lemmas.List.Folds.{drop_split}
use Rattle.std.proofs.lemmas.List.Sums.{sum_by-cons}
use Rattle.lit_base.specs.Costs.{group_cost, run_cost, true_run_cost}
use Rattle.lit_base.specs.Cuts.{CutsFrom, IsCut, cut_price}
use Rattle.lit_base.specs.Assignments.{IsAssignment, bucket, assign_price, run_numbers, assignment_of}
use Rattle.lit_base.proofs.Cuts.{cuts-le}
use Rattle.lit_base.proofs.Runs.{cut_price-true}

-- without numbers a bucket holds nothing
bucket-nil : (b : ℕ) (ls : List ℕ) → bucket b ls [] ≡ []
bucket-nil b [] = refl
bucket-nil b (m ∷ ms) = refl

-- a run of the bucket's own literals lies in it
bucket_run : (b : ℕ) (run ls ns : List ℕ) → bucket b (run ++ ls) (replicate (length run) b ++ ns) ≡ run ++ bucket b ls ns
bucket_run b [] ls ns = refl
bucket_run b (m ∷ run) ls ns = rw (eq-eqb b b refl) (ap (λ ms. m ∷ ms) (bucket_run b run ls ns))

-- and a run of another's does not
bucket_other_run : (b i : ℕ) (run ls ns : List ℕ) → i ≢ b → bucket b (run ++ ls) (replicate (length run) i ++ ns) ≡ bucket b ls ns
bucket_other_run b i [] ls ns other = refl
bucket_other_run b i (m ∷ run) ls ns other = rw (ne_eqb i b other) (bucket_other_run b i run ls ns other)

-- the literals from p on are the run up to the next end and those from there on
split_run : (ls : List ℕ) (p end : ℕ) → p < end → end ≤ length ls → (drop p ls ≡ slice_range ls p end ++ drop end ls) × (length (slice_range ls p end) ≡ end - p)
split_run ls p end some within =
    (drop_split ls p end (omega arith), length-take-le (end - p) (drop p ls) (omega (arith, length-drop p ls)))

-- a bucket of the run's own number begins with the run
bucket_here : (ls : List ℕ) (i p end : ℕ) (ns : List ℕ) → p < end → end ≤ length ls → bucket i (drop p ls) (replicate (end - p) i ++ ns) ≡ slice_range ls p end ++ bucket i (drop end ls) ns
bucket_here ls i p end ns some within =
    let run = slice_range ls p end in
    let split = split_run ls p end some within in
    ap (λ places. bucket i places (replicate (end - p) i ++ ns)) split.0 ∙ (ap (λ k. bucket i (run ++ drop end ls) (replicate k i ++ ns)) (sym split.1) ∙ bucket_run i run (drop end ls) ns)

-- and one of another number passes the run over
bucket_past : (ls : List ℕ) (b i p end : ℕ) (ns : List ℕ) → i ≢ b → p < end → end ≤ length ls → bucket b (drop p ls) (replicate (end - p) i ++ ns) ≡ bucket b (drop end ls) ns
bucket_past ls b i p end ns other some within =
    let run = slice_range ls p end in
    let split = split_run ls p end some within in
    ap (λ places. bucket b places (replicate (end - p) i ++ ns)) split.0 ∙ (ap (λ k. bucket b (run ++ drop end ls) (replicate k i ++ ns)) (sym split.1) ∙ bucket_other_run b i run (drop end ls) ns other)

-- no run from number i on has a lower number
bucket_before : (ls : List ℕ) (b i p : ℕ) (ends : List ℕ) → b < i → CutsFrom (length ls) p ends → bucket b (drop p ls) (run_numbers i p ends) ≡ []
bucket_before ls b i p [] below cuts = bucket-nil b (drop p ls)
bucket_before ls b i p (end ∷ ends) below cuts =
    let other : i ≢ b = omega arith in
    let within = cuts-le (length ls) end ends cuts.1 in
    bucket_past ls b i p end (run_numbers (suc i) end ends) other cuts.0 within ∙ bucket_before ls b (suc i) end ends (omega arith) cuts.1

-- the run with the number i is bucket i
bucket_is_run : (ls : List ℕ) (i p end : ℕ) (ends : List ℕ) → CutsFrom (length ls) p (end ∷ ends) → bucket i (drop p ls) (run_numbers i p (end ∷ ends)) ≡ slice_range ls p end
bucket_is_run ls i p end ends cuts =
    let within = cuts-le (length ls) end ends cuts.1 in
    let none = bucket_before ls i (suc i) end ends (omega arith) cuts.1 in
    bucket_here ls i p end (run_numbers (suc i) end ends) cuts.0 within ∙ (ap (λ rest. slice_range ls p end ++ rest) none ∙ append-nil (slice_range ls p end))

-- the sum of nothing but zeros
sum_by-zero : (f : ℕ → ℕ) → (ns : List ℕ) → ((b : ℕ) → f b ≡ 0) → sum_by f ns ≡ 0
sum_by-zero f [] zeros = refl
sum_by-zero f (b ∷ ns) zeros = omega (arith, sum_by-cons f b ns, zeros b, sum_by-zero f ns zeros)

-- two sums over numbers from i on, of functions that agree there
sum_by-agree : (f g : ℕ → ℕ) (i k : ℕ) → ((b : ℕ) → i ≤ b → f b ≡ g b) → sum_by f (range_with_len i k) ≡ sum_by g (range_with_len i k)
sum_by-agree f g i zero agree = refl
sum_by-agree f g i (suc k) agree =
    omega (arith, sum_by-cons f i (range_with_len (i + 1) k), sum_by-cons g i (range_with_len (i + 1) k), agree i (omega arith), sum_by-agree f g (i + 1) k (λ b h. agree b (omega arith)))

-- the buckets from number i on cost what the runs do
buckets_are_runs : (ls : List ℕ) (i p k : ℕ) (ends : List ℕ) → CutsFrom (length ls) p ends → length ends ≤ k → sum_by (λ b. group_cost (bucket b (drop p ls) (run_numbers i p ends))) (range_with_len i k) ≡ cut_price (true_run_cost ls) p ends
unfolding true_run_cost
buckets_are_runs ls i p k [] cuts few =
    sum_by-zero (λ b. group_cost (bucket b (drop p ls) [])) (range_with_len i k) (λ b. ap group_cost (bucket-nil b (drop p ls)))
buckets_are_runs ls i p zero (end ∷ ends) cuts few = absurd (omega arith)
buckets_are_runs ls i p (suc k) (end ∷ ends) cuts few =
    let all = λ (b : ℕ). group_cost (bucket b (drop p ls) (run_numbers i p (end ∷ ends))) in
    let later = λ (b : ℕ). group_cost (bucket b (drop end ls) (run_numbers (suc i) end ends)) in
    let within = cuts-le (length ls) end ends cuts.1 in
    let here = ap group_cost (bucket_is_run ls i p end ends cuts) in
    let agree : (b : ℕ) → i + 1 ≤ b → all b ≡ later b =
    λ b h. let other : i ≢ b = omega arith in ap group_cost (bucket_past ls b i p end (run_numbers (suc i) end ends) other cuts.0 within) in
    let rest = sum_by-agree all later (i + 1) k agree in
    let next : i + 1 ≡ suc i = omega arith in
    let done = subst (λ j. sum_by later (range_with_len j k) ≡ cut_price (true_run_cost ls) end ends) (sym next) (buckets_are_runs ls (suc i) end k ends cuts.1 (omega arith)) in
    omega (arith, sum_by-cons all i (range_with_len (i + 1) k), here, rest, done)

-- the runs from p on have as many numbers as there are places
length-run_numbers : (n i p : ℕ) (ends : List ℕ) → CutsFrom n p ends → length (run_numbers i p ends) + p ≡ n
length-run_numbers n i p [] cuts = omega (arith, cuts)
length-run_numbers n i p (end ∷ ends) cuts =
    omega (arith, length-append (replicate (end - p) i) (run_numbers (suc i) end ends), length-replicate (end - p) i, length-run_numbers n (suc i) end ends cuts.1, cuts.0)

-- and no run's number passes the last run's
run_numbers-lt : (most i p : ℕ) (ends : List ℕ) → i + length ends ≤ most → All (λ b. b < most) (run_numbers i p ends)
run_numbers-lt most i p [] few = All-nil (λ b. b < most)
run_numbers-lt most i p (end ∷ ends) few =
    All-append (λ b. b < most) (replicate (end - p) i) (run_numbers (suc i) end ends) (All-replicate (λ b. b < most) (end - p) i (omega arith)) (run_numbers-lt most (suc i) end ends (omega arith))

-- a cut read as an assignment is one
pub IsAssignment-from_cut : (most n : ℕ) (ends : List ℕ) → IsCut most n ends → IsAssignment most n (assignment_of ends)
IsAssignment-from_cut most n ends cut = record {
  size = omega (arith, length-run_numbers n 0 0 ends cut.cuts);
  below = run_numbers-lt most 0 0 ends (omega (arith, cut.few));
}

-- of the same price
pub assign_price-from_cut : (most : ℕ) (ls ends : List ℕ) → IsNonDecreasing ls → IsCut most (length ls) ends → assign_price most ls (assignment_of ends) ≡ cut_price (run_cost ls) 0 ends
unfolding assign_price
assign_price-from_cut most ls ends rising cut =
    buckets_are_runs ls 0 0 most ends cut.cuts cut.few ∙ sym (cut_price-true ls (length ls) 0 ends rising (omega arith) cut.cuts)
