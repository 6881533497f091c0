-- The buckets of a plan: runs of the list, one after the other.
use Rattle.std.specs.Prelude.{ℕ, ◌+◌, ◌<◌, ◌≤◌, List, [], ◌∷◌}
use Rattle.plan_view.specs.declared.bucket.Bucket.{Bucket}

-- the buckets from this number on, which begin at this place and have these ends
abbrev pub buckets_from : ℕ → ℕ → List ℕ → List Bucket
buckets_from number start [] = []
buckets_from number start (end ∷ more) = record { number = number; start = start; end = end } ∷ buckets_from (number + 1) end more

-- the buckets of a cut
abbrev pub buckets_of : List ℕ → List Bucket
buckets_of ends = buckets_from 0 0 ends

-- one of at most sixteen buckets of a list of n literals
pub record IsBucket (n : ℕ) (bucket : Bucket) : Type 0 where
  pub few : bucket.number < 16
  pub some : bucket.start < bucket.end
  pub within : bucket.end ≤ n
