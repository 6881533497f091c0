-- A plan as a drawing, in SVG: the list by length from left to right, cut at the ends of buckets, and costs as heights.
use Rattle.std.specs.Prelude.{ℕ, ◌+◌, ◌-◌, ◌*◌, ◌/◌, ◌==◌, List, [], ◌∷◌, ◌++◌, codes, decimal, flat_map, if◌then◌else◌, length, max, nat_lt, slice_index}
use Rattle.lit_base.specs.Costs.{run_cost}
use Rattle.lit_base.specs.Literals.{Literals, lengths}
use Rattle.lit_base.specs.declared.profile.Profile.{Profile}
use Rattle.lit_base.specs.declared.profile.Profile.TheVariants.{Eight, Sixteen}
use Rattle.plan_view.specs.Buckets.{buckets_of}
use Rattle.plan_view.specs.Rows.{percent, span, total_of}
use Rattle.plan_view.specs.Texts.{even_parts, single}
use Rattle.plan_view.specs.declared.bucket.Bucket.{Bucket}

-- a byte as XML has it
abbrev pub xml_byte : ℕ → List ℕ
xml_byte b = if b == 38 then codes "&amp;" else if b == 60 then codes "&lt;" else if b == 62 then codes "&gt;" else b ∷ []

-- a number after a text
unfoldable pub said : List ℕ → ℕ → List ℕ
said label number = label ++ decimal number

-- how far right of the first literal place p stands, of n places
abbrev pub across : ℕ → ℕ → ℕ
across n p = p * 640 / n

-- how high a cost stands
abbrev pub height : ℕ → ℕ → ℕ
height cost highest = cost * 200 / highest

-- the highest of this cost and the costs of buckets
abbrev pub highest_cost : List ℕ → ℕ → List Bucket → ℕ
highest_cost ls least [] = least
highest_cost ls least (b ∷ more) = highest_cost ls (max least (run_cost ls b.start b.end)) more

-- what a bucket holds and costs
unfoldable pub numbers_text : Literals → List ℕ → Bucket → List ℕ
numbers_text l ends b =
    let cost = run_cost (lengths l) b.start b.end in
    said (codes "bucket ") (b.number + 1) ++ (said (codes ": literals ") (b.end - b.start) ++ (said (codes ", shortest ") (slice_index (lengths l) b.start)
    ++ (said (codes ", cost ") cost ++ said (codes ", % of all ") (percent cost (total_of l ends)))))

-- the title of a bucket, which shows where a pointer rests on it
unfoldable pub title : Literals → List ℕ → Bucket → List ℕ
title l ends b = codes "<title>" ++ (numbers_text l ends b ++ (flat_map xml_byte (span l b) ++ codes "</title>\n"))

-- a bar that stands on the line, x to the right, so wide and so high
unfoldable pub bar : ℕ → ℕ → ℕ → List ℕ
bar x width high =
    said (codes "<rect x=\"") (40 + x) ++ (said (codes "\" y=\"") (260 - high) ++ (said (codes "\" width=\"") width
    ++ (said (codes "\" height=\"") high ++ codes "\"/>\n")))

-- a number at a place
unfoldable pub number_at : ℕ → ℕ → ℕ → List ℕ
number_at x y number =
    said (codes "<text x=\"") (40 + x) ++ (said (codes "\" y=\"") y ++ (said (codes "\">") number ++ codes "</text>\n"))

-- the cost above a bar and the shortest length below it, where it is wide enough for them
unfoldable pub bar_numbers : ℕ → ℕ → ℕ → ℕ → ℕ → List ℕ
bar_numbers x width high cost shortest =
    if nat_lt width 48 then [] else number_at (x + 3) (255 - high) cost ++ number_at (x + 3) 275 shortest

-- a bucket: its title, its bar, and the numbers by it
unfoldable pub drawn : Literals → List ℕ → ℕ → Bucket → List ℕ
drawn l ends highest b =
    let n = length l.texts in
    let cost = run_cost (lengths l) b.start b.end in
    let width = across n b.end - across n b.start in
    codes "<g>" ++ (title l ends b ++ (bar (across n b.start) width (height cost highest)
    ++ (bar_numbers (across n b.start) width (height cost highest) cost (slice_index (lengths l) b.start) ++ codes "</g>\n")))

-- what stands before the cost of even parts
abbrev pub even_phrase : Profile → List ℕ
even_phrase Eight = codes "; even eighths "
even_phrase Sixteen = codes "; even sixteenths "

-- what the drawing is headed by: what the plan costs, and what one bucket and even parts would
unfoldable pub caption : Profile → Literals → List ℕ → List ℕ
caption profile l ends =
    said (codes "<text x=\"40\" y=\"24\">cost ") (total_of l ends) ++ (said (codes "; one bucket for all ") (single l)
    ++ (said (even_phrase profile) (even_parts profile l) ++ codes "</text>\n"))

-- the head of a file with `count` buckets: its size, and colours for light and dark pages
unfoldable pub head : ℕ → List ℕ
head count =
    said (codes "<svg xmlns=\"http://www.w3.org/2000/svg\" viewBox=\"0 0 720 ") (316 + count * 18)
    ++ codes "\" font-family=\"sans-serif\" font-size=\"13\">\n<style>text { fill: #24292f } rect { fill: #4f8fd0; stroke: #fff } path { stroke: #24292f }\n@media (prefers-color-scheme: dark) { text { fill: #e6edf3 } rect { stroke: #0d1117 } path { stroke: #e6edf3 } }</style>\n"

-- the line on which the bars stand, and the text below it
unfoldable pub foot : List ℕ
foot = codes "<path d=\"M40 260H680\"/>\n<text x=\"40\" y=\"300\">literals by length; below a bucket the bytes of its shortest, above it its cost</text>\n"

-- the line of a bucket in the legend, which also has the numbers of bars that are too narrow for them
unfoldable pub legend_line : Literals → List ℕ → Bucket → List ℕ
legend_line l ends b = said (codes "<text x=\"40\" y=\"") (324 + b.number * 18) ++ (codes "\">" ++ (numbers_text l ends b ++ codes "</text>\n"))

-- the plan, of this profile, of a list that is cut at these ends
unfoldable pub plan_svg : Profile → Literals → List ℕ → List ℕ
plan_svg profile l ends =
    let all = buckets_of ends in
    head (length all) ++ (caption profile l ends ++ (flat_map (drawn l ends (highest_cost (lengths l) 1 all)) all
    ++ (foot ++ (flat_map (legend_line l ends) all ++ codes "</svg>\n"))))
