-- What a C program sees of handles and of hits.
use Rattle.std.specs.Prelude.{◌≡◌, ℕ, ◌<◌, List, Option, None, Some, All, length}
use Rattle.std.specs.List.{slice_get}
use Rattle.lit_base.specs.Literals.{Literals}
use Rattle.lit_base.specs.NextEnds.{IsNextEnd, NoEndAfter}
use Rattle.lit_plan.specs.Plans.{Plan}
use Rattle.flow_scan.specs.Scanners.{Scanning}
use Rattle.c_handle.specs.declared.states.SharedPlan.{SharedPlan}
use Rattle.c_handle.specs.declared.states.OpenStream.{OpenStream}
use Rattle.fiolargu.specs.declared.views.FoundHit.{FoundHit}

-- the plan of a handle, unless it is null
abbrev pub plan_of : Option SharedPlan → Option Plan
plan_of None = None
plan_of (Some s) = Some s.plan

-- the stream of a handle, unless it is null
abbrev pub stream_of : Option OpenStream → Option Scanning
stream_of None = None
stream_of (Some s) = Some s.stream

-- a hit as the libraries have it
abbrev pub hit_of : FoundHit → ℕ × ℕ
hit_of f = (f.literal, f.end)

-- the length of a literal, or 0 where there is none
abbrev pub length_of : Option (List ℕ) → ℕ
length_of None = 0
length_of (Some text) = length text

-- each hit has the length of its literal
abbrev pub HaveLengths : Literals → List FoundHit → Type 0
HaveLengths l found = All (λ f. f.length ≡ length_of (slice_get l.texts f.literal)) found

-- the next end after a position, or 0 where there is none
pub record IsNextOrNone (l : Literals) (text : List ℕ) (from end : ℕ) : Type 0 where
  pub none : end ≡ 0 → NoEndAfter l text from
  pub some : 0 < end → IsNextEnd l text from end
