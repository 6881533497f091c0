-- The number of endings as a product of three.
use Rattle.std.proofs.Common.{◌≡◌, ℕ, zero, suc, ◌*◌, ◌<◌, ◌≤◌, min, List, sym, ap, ◌∙◌, arith}
use Rattle.std.specs.Int.{bit_at}
use Rattle.std.proofs.Math.Nat.{min-le_left, mul_comm}
use Rattle.std.proofs.lemmas.Nat.Bits.{bit_at_and, bit_at-lt}
use Rattle.lit_base.specs.Literals.{Literals}
use Rattle.nib_mask.specs.Candidates.{GivesFilterSets}
use Rattle.nib_mask.specs.FilterSet.{filter_set}
use Rattle.nib_mask.specs.Tables.{table_value, value_at}
use Rattle.nib_mask.specs.declared.masks.Masks.{Masks}
use Rattle.plan_view.specs.Endings.{endings}
use Rattle.plan_view.specs.Sums.{sum_below}
use Rattle.plan_view.proofs.Ranges.{sum_of_products}

-- of two bits the least is the product
least_bit : (x y : ℕ) → x < 2 → y < 2 → min x y ≡ x * y
least_bit zero y p q = grind arith
least_bit (suc zero) y p q = grind arith
least_bit (suc (suc x)) y p q = omega (arith, p)

-- a bit of a filter byte is the product of the bits of the three
product_of_bits : (masks : Masks) (bucket a b c : ℕ)
    → bit_at (table_value masks a b c) bucket ≡ bit_at (value_at masks 2 c) bucket * (bit_at (value_at masks 1 b) bucket * bit_at (value_at masks 0 a) bucket)
unfolding table_value
product_of_bits masks bucket a b c =
    let x : ℕ = bit_at (value_at masks 0 a) bucket in
    let y : ℕ = bit_at (value_at masks 1 b) bucket in
    let z : ℕ = bit_at (value_at masks 2 c) bucket in
    let two : min x y ≡ y * x = least_bit x y (bit_at-lt _ bucket) (bit_at-lt _ bucket) ∙ mul_comm x y in
    let small : x < 2 = bit_at-lt _ bucket in
    let less : min x y ≤ x = min-le_left x y in
    let three : min (min x y) z ≡ min x y * z = least_bit (min x y) z (omega (arith, less, small)) (bit_at-lt _ bucket) in
    bit_at_and _ _ bucket ∙ (ap (λ k. min k z) (bit_at_and _ _ bucket) ∙ (three ∙ (mul_comm (min x y) z ∙ ap (λ k. z * k) two)))

-- the sum over all endings is the product of the sums over the bytes of each position
pub product : (masks : Masks) (bucket : ℕ) (l : Literals) (ends : List ℕ) → GivesFilterSets l ends masks
    → (sum_below 256 (λ byte. bit_at (value_at masks 0 byte) bucket) * sum_below 256 (λ byte. bit_at (value_at masks 1 byte) bucket)) * sum_below 256 (λ byte. bit_at (value_at masks 2 byte) bucket)
    ≡ endings l ends bucket
unfolding endings
product masks bucket l ends gives =
    sym (sum_of_products (λ a b c. bit_at (filter_set l ends a b c) bucket) (λ a. bit_at (value_at masks 0 a) bucket) (λ b. bit_at (value_at masks 1 b) bucket) (λ c. bit_at (value_at masks 2 c) bucket) 256 (λ a b c p q r.
    ap (λ k. bit_at k bucket) (sym (gives a b c p q r)) ∙ product_of_bits masks bucket a b c))

-- a product of numbers up to 256 is small
pub two_small : (x y : ℕ) → x ≤ 256 → y ≤ 256 → x * y ≤ 65536
two_small x y p q = grind arith

pub three_small : (x y : ℕ) → x ≤ 65536 → y ≤ 256 → x * y ≤ 16777216
three_small x y p q = grind arith
