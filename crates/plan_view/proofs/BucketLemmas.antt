-- The buckets of a cut are runs of the list.
use Rattle.std.proofs.Common.{ℕ, ◌+◌, ◌≤◌, List, [], ◌∷◌, length, arith}
use Rattle.std.specs.Prelude.{All}
use Rattle.std.specs.List.{AllByRecursion}
use Rattle.std.proofs.lemmas.List.Elements.{All-from_recursion}
use Rattle.lit_base.specs.Cuts.{CutsFrom}
use Rattle.lit_base.proofs.Cuts.{cuts-le}
use Rattle.plan_view.specs.Buckets.{IsBucket, buckets_from}

-- each of them, one after the other
by_recursion : (n number start : ℕ) (ends : List ℕ) → CutsFrom n start ends → number + length ends ≤ 16 → AllByRecursion (IsBucket n) (buckets_from number start ends)
by_recursion n number start [] cuts few = tt
by_recursion n number start (end ∷ more) cuts few = (
  record { few = omega (arith, few); some = cuts.0; within = cuts-le n end more cuts.1 },
  by_recursion n (number + 1) end more cuts.1 (omega (arith, few)),
)

pub are_buckets : (n number start : ℕ) (ends : List ℕ) → CutsFrom n start ends → number + length ends ≤ 16 → All (IsBucket n) (buckets_from number start ends)
are_buckets n number start ends cuts few = All-from_recursion (IsBucket n) (buckets_from number start ends) (by_recursion n number start ends cuts few)
