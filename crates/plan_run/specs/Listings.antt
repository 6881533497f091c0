-- What a scan writes of its hits.
use Rattle.std.specs.Prelude.{ℕ, ◌-◌, List, ◌++◌, codes, decimal, flat_map, length, Option, None, Some}
use Rattle.std.specs.List.{slice_get}
use Rattle.lit_base.specs.Literals.{Literals}
use Rattle.plan_view.specs.Quotes.{whole}
use Rattle.plan_run.specs.declared.request.HitLine.{HitLine}
use Rattle.plan_run.specs.declared.request.HitLine.TheVariants.{End, Literal}
use Rattle.plan_run.specs.declared.request.Listing.{Listing}
use Rattle.plan_run.specs.declared.request.Listing.TheVariants.{Count, Lines}

-- a hit, by its literal's place and the place at which it ends
abbrev pub hit_line : ℕ × ℕ → List ℕ
hit_line hit = decimal hit.0 ++ (codes " " ++ (decimal hit.1 ++ codes "\n"))

-- a hit with its literal: where it starts, and the literal itself; the hit alone where there is no literal
abbrev pub literal_line : Option (List ℕ) → ℕ × ℕ → List ℕ
literal_line None hit = hit_line hit
literal_line (Some literal) hit = decimal hit.0 ++ (codes " " ++ (decimal (hit.1 - length literal) ++ (codes " " ++ (whole literal ++ codes "\n"))))

-- a hit of the list
abbrev pub line_of : HitLine → Literals → ℕ × ℕ → List ℕ
line_of End l hit = hit_line hit
line_of Literal l hit = literal_line (slice_get l.texts hit.0) hit

-- hits, a line each
abbrev pub hit_lines : HitLine → Literals → List (ℕ × ℕ) → List ℕ
hit_lines line l hits = flat_map (line_of line l) hits

-- how many there are
abbrev pub hit_count : List (ℕ × ℕ) → List ℕ
hit_count hits = decimal (length hits) ++ codes "\n"

-- their number, or their lines
abbrev pub hits_text : Listing → Literals → List (ℕ × ℕ) → List ℕ
hits_text Count l hits = hit_count hits
hits_text (Lines line) l hits = hit_lines line l hits
