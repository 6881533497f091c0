-- The rows of a plan: one for each bucket.
use Rattle.std.specs.Prelude.{ℕ, ◌+◌, ◌-◌, ◌*◌, ◌/◌, List, [], ◌∷◌, ◌++◌, codes, min, slice_index, slice_index_or}
use Rattle.lit_base.specs.Costs.{run_cost, weight}
use Rattle.lit_base.specs.Cuts.{cut_price}
use Rattle.lit_base.specs.Literals.{Literals, lengths}
use Rattle.plan_view.specs.Columns.{columns}
use Rattle.plan_view.specs.Endings.{endings}
use Rattle.plan_view.specs.Quotes.{quoted}
use Rattle.plan_view.specs.declared.bucket.Bucket.{Bucket}

-- a part of a total in percent, rounded down
abbrev pub percent : ℕ → ℕ → ℕ
percent part total = part * 100 / total

-- what the cut costs
abbrev pub total_of : Literals → List ℕ → ℕ
total_of l ends = cut_price (run_cost (lengths l)) 0 ends

-- of a bucket: its number from 1; how many literals it has; the bytes of the shortest; the bytes of a fingerprint; the
-- weight; the cost; its share of the total; and how many endings pass
abbrev pub row_numbers : Literals → List ℕ → Bucket → List (ℕ × ℕ)
row_numbers l ends b =
    let shortest = slice_index (lengths l) b.start in
    let cost = run_cost (lengths l) b.start b.end in
    (6, b.number + 1) ∷ (10, b.end - b.start) ∷ (10, shortest) ∷ (7, min shortest 3) ∷ (8, weight shortest) ∷ (12, cost)
    ∷ (5, percent cost (total_of l ends)) ∷ (10, endings l ends b.number) ∷ []

-- its first literal and its last
abbrev pub span : Literals → Bucket → List ℕ
span l b =
    codes "  " ++ (quoted (slice_index_or l.texts b.start []) ++ (codes " to " ++ quoted (slice_index_or l.texts (b.end - 1) [])))

-- its row
abbrev pub row : Literals → List ℕ → Bucket → List ℕ
row l ends b = columns (row_numbers l ends b) ++ (span l b ++ codes "\n")
