-- The prices of a meter of the tests.
use Rattle.std.specs.Prelude.{ℕ, ◌-◌, ◌*◌}

-- the square of a run's width
abbrev pub square_of : ℕ → ℕ → ℕ
square_of p q = (q - p) * (q - p)
