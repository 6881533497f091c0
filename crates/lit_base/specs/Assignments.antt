-- Assignments of literals to buckets: for each literal the number of its bucket.
use Rattle.std.specs.Prelude.{◌≡◌, ℕ, suc, ◌-◌, ◌<◌, ◌≤◌, ◌==◌, if◌then◌else◌, List, [], ◌∷◌, ◌++◌, All, length, replicate, sum_by}
use Rattle.std.specs.List.{range_with_len}
use Rattle.lit_base.specs.Costs.{group_cost}
use Rattle.lit_base.specs.Literals.{Literals, lengths}

-- one number below `most` for each of n literals
pub record IsAssignment (most n : ℕ) (numbers : List ℕ) : Type 0 where
  pub size : length numbers ≡ n
  pub below : All (λ number. number < most) numbers

-- the lengths of the literals whose number is b
abbrev pub bucket : ℕ → List ℕ → List ℕ → List ℕ
bucket b [] numbers = []
bucket b (m ∷ ms) [] = []
bucket b (m ∷ ms) (number ∷ numbers) = if number == b then m ∷ bucket b ms numbers else bucket b ms numbers

-- the sum of the costs of the buckets below `most`
unfoldable pub assign_price : ℕ → List ℕ → List ℕ → ℕ
assign_price most ls numbers = sum_by (λ b. group_cost (bucket b ls numbers)) (range_with_len 0 most)

-- the number of each place's run, from place p on, where the run that begins at p has the number i
abbrev pub run_numbers : ℕ → ℕ → List ℕ → List ℕ
run_numbers i p [] = []
run_numbers i p (end ∷ ends) = replicate (end - p) i ++ run_numbers (suc i) end ends

-- a cut read as an assignment: run i is bucket i
abbrev pub assignment_of : List ℕ → List ℕ
assignment_of ends = run_numbers 0 0 ends

-- no assignment of the literals to at most `most` buckets costs less than the price
abbrev pub NoAssignmentBelow : ℕ → Literals → ℕ → Type 0
NoAssignmentBelow most l price =
    (numbers : List ℕ) → IsAssignment most (length l.texts) numbers → price ≤ assign_price most (lengths l) numbers
