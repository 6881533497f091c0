-- How many endings of three bytes a bucket's filter lets pass.
use Rattle.std.specs.Prelude.{ℕ, List}
use Rattle.std.specs.Int.{bit_at}
use Rattle.lit_base.specs.Literals.{Literals}
use Rattle.nib_mask.specs.FilterSet.{filter_set}
use Rattle.plan_view.specs.Sums.{sum_below}

-- of the 2^24 endings of three bytes, how many have the bucket in their filter set
unfoldable pub endings : Literals → List ℕ → ℕ → ℕ
endings l ends bucket = sum_below 256 (λ a. sum_below 256 (λ b. sum_below 256 (λ c. bit_at (filter_set l ends a b c) bucket)))
