-- The squares of widths are prices of a meter.
use Rattle.std.proofs.Common.{◌≡◌, ℕ, ◌+◌, ◌-◌, ◌*◌, ◌≤◌, arith}
use Rattle.std.proofs.lemmas.Nat.{mul-le}
use Rattle.lit_base.specs.Costs.{AreSmall, MeetQuadrangle}
use Rattle.run_planner.specs.Squares.{square_of}

-- they stay small
pub squares-small : AreSmall square_of 3
squares-small p q some within = omega (arith, mul-le (q - p) (q - p) 3 3 (omega arith) (omega arith))

-- four squares
four_squares : (x y z : ℕ) → (x + y) * (x + y) + (y + z) * (y + z) ≤ (x + y + z) * (x + y + z) + y * y
four_squares x y z = omega arith

-- they meet the quadrangle inequality
pub squares-quadrangle : MeetQuadrangle square_of 3
squares-quadrangle i j k l ij jk kl within =
    let ik : (j - i) + (k - j) ≡ k - i = omega arith in
    let jl : (k - j) + (l - k) ≡ l - j = omega arith in
    let il : (k - i) + (l - k) ≡ l - i = omega arith in
    rw (ik, jl, il) at (four_squares (j - i) (k - j) (l - k))
