-- A plan as a text: what `litplan explain` prints.
use Rattle.std.specs.Prelude.{ℕ, ◌+◌, ◌*◌, ◌/◌, List, [], ◌∷◌, ◌++◌, codes, decimal, flat_map, if◌then◌else◌, length, nat_lt, Option, take}
use Rattle.lit_base.specs.Costs.{run_cost}
use Rattle.lit_base.specs.Literals.{Literals, lengths}
use Rattle.lit_base.specs.Profiles.{buckets}
use Rattle.lit_base.specs.declared.profile.Profile.{Profile}
use Rattle.lit_base.specs.declared.profile.Profile.TheVariants.{Eight, Sixteen}
use Rattle.plan_view.specs.Buckets.{buckets_of}
use Rattle.plan_view.specs.Columns.{columns}
use Rattle.plan_view.specs.Repeats.{nulls, repeats}
use Rattle.plan_view.specs.Rows.{percent, row, total_of}
use Rattle.plan_view.specs.Sums.{sum_below}
use Rattle.plan_view.specs.declared.repeats.Repeat.{Repeat}

-- the names of the columns
abbrev pub heading : List ℕ
heading = codes "bucket  literals  shortest  bytes  weight        cost    %   endings  first and last literal\n"

-- what one bucket for all literals costs
abbrev pub single : Literals → ℕ
single l = run_cost (lengths l) 0 (length l.texts)

-- what the literals from place p up to but not including q cost, if there are any
abbrev pub part_cost : List ℕ → ℕ → ℕ → ℕ
part_cost ls p q = if nat_lt p q then run_cost ls p q else 0

-- where the k-th of the even parts of n literals begins, as many as the profile has buckets
abbrev pub part_start : Profile → ℕ → ℕ → ℕ
part_start profile n k = k * n / buckets profile

-- what the list costs in even parts
unfoldable pub even_parts : Profile → Literals → ℕ
even_parts profile l =
    let n = length l.texts in
    sum_below (buckets profile) (λ k. part_cost (lengths l) (part_start profile n k) (part_start profile n (k + 1)))

-- what the line of even parts begins with
abbrev pub even_label : Profile → List ℕ
even_label Eight = codes "even eighths                             "
even_label Sixteen = codes "even sixteenths                          "

-- a cost below the rows, and its share of the total, which may be longer than its column
unfoldable pub sum_line : List ℕ → ℕ → ℕ → List ℕ
sum_line label cost share = label ++ (columns ((12, cost) ∷ []) ++ (codes " " ++ (columns ((4, share) ∷ []) ++ codes "\n")))

-- what the plan costs, and what one bucket and even parts would
abbrev pub sums : Profile → Literals → List ℕ → List ℕ
sums profile l ends =
    let total = total_of l ends in
    sum_line (codes "total                                    ") total 100
    ++ (sum_line (codes "one bucket for all                       ") (single l) (percent (single l) total)
    ++ sum_line (even_label profile) (even_parts profile l) (percent (even_parts profile l) total))

-- a line that says again what an earlier one says
abbrev pub repeat_line : Repeat → List ℕ
repeat_line r = codes "  line " ++ (decimal r.line ++ (codes " is line " ++ (decimal r.first_line ++ codes " again\n")))

-- a number after its label
unfoldable pub count_line : List ℕ → ℕ → List ℕ
count_line label count = label ++ (decimal count ++ codes "\n")

-- how many patterns were dropped since an earlier one is equal, with the first ten; and how many since they are null
abbrev pub drops : List (Option ℕ) → List ℕ
drops places =
    let found = repeats places (length places) in
    count_line (codes "equal to an earlier line: ") (length found)
    ++ (flat_map repeat_line (take 10 found) ++ count_line (codes "null patterns: ") (nulls places))

-- the plan, of this profile, of a list that is cut at these ends, whose patterns stand at these places
unfoldable pub plan_text : Profile → Literals → List ℕ → List (Option ℕ) → List ℕ
plan_text profile l ends places = heading ++ (flat_map (row l ends) (buckets_of ends) ++ (sums profile l ends ++ drops places))
