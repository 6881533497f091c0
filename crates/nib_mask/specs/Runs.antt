-- The runs of a cut: the literals that lie in one bucket together.
use Rattle.std.specs.Prelude.{ℕ, zero, suc, Bool, List, [], ◌∷◌, map, nat_lt, if◌then◌else◌, slice_range}
use Rattle.std.specs.Simd.Lanes.{mask_l}

-- the literals of each run, where the first run begins at place p
abbrev pub runs_from : List (List ℕ) → ℕ → List ℕ → List (List (List ℕ))
runs_from texts p [] = []
runs_from texts p (end ∷ ends) = slice_range texts p end ∷ runs_from texts end ends

-- the number whose bit b says whether run b passes the test; it has no bit where there is no run
unfoldable pub runs_mask : (List (List ℕ) → Bool) → List (List ℕ) → ℕ → List ℕ → ℕ
runs_mask test texts p ends = mask_l (map test (runs_from texts p ends))

-- the bucket of the literal at a place: the number of the run that holds it
abbrev pub bucket_of : List ℕ → ℕ → ℕ
bucket_of [] place = zero
bucket_of (end ∷ ends) place = if nat_lt place end then zero else suc (bucket_of ends place)
