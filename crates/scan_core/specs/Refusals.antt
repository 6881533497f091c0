-- Why a session refuses a request, and which refusal comes first.
use Rattle.std.specs.Prelude.{ℕ, ◌+◌, ◌==◌, nat_le, nat_lt, List, [], ◌∷◌, length, sum_by, Option, Some, None, if◌then◌else◌}
use Rattle.std.specs.Option.{option_or}
use Rattle.lit_base.specs.declared.limits.TheConstants.{MAX_LIST_LEN, MAX_LITERAL_LEN, MAX_PATTERNS}
use Rattle.scan_core.specs.declared.limits.TheConstants.{MAX_PLANS}
use Rattle.scan_core.specs.declared.refusal.Refusal.{Refusal}
use Rattle.scan_core.specs.declared.refusal.Refusal.TheVariants.{PlanQuota, NoLiterals, TooManyPatterns, EmptyLiteral, LiteralTooLong, ListTooLarge, StreamInUse, StreamQuota, NoSuchPlan, NoSuchStream, StreamTooLong}

-- the code in the reply
abbrev pub code_of : Refusal → ℕ
code_of TooManyPatterns = 2
code_of (LiteralTooLong place) = 3
code_of (EmptyLiteral place) = 4
code_of NoLiterals = 5
code_of ListTooLarge = 7
code_of StreamInUse = 12
code_of NoSuchStream = 13
code_of NoSuchPlan = 14
code_of PlanQuota = 15
code_of StreamQuota = 16
code_of StreamTooLong = 20

-- the detail in the reply: the place of a refused literal
abbrev pub detail_of : Refusal → ℕ
detail_of TooManyPatterns = 0
detail_of (LiteralTooLong place) = place
detail_of (EmptyLiteral place) = place
detail_of NoLiterals = 0
detail_of ListTooLarge = 0
detail_of StreamInUse = 0
detail_of NoSuchStream = 0
detail_of NoSuchPlan = 0
detail_of PlanQuota = 0
detail_of StreamQuota = 0
detail_of StreamTooLong = 0

-- of a literal at a place
abbrev pub literal_refusal : ℕ → List ℕ → Option Refusal
literal_refusal place literal =
    if length literal == 0 then Some (EmptyLiteral place)
    else if nat_lt MAX_LITERAL_LEN (length literal) then Some (LiteralTooLong place)
    else None

-- of the first literal that has one, counted from a place on
abbrev pub first_refusal : ℕ → List (List ℕ) → Option Refusal
first_refusal place [] = None
first_refusal place (literal ∷ literals) = option_or (literal_refusal place literal) (first_refusal (place + 1) literals)

-- of literals that have too many bytes together
abbrev pub list_refusal : List (List ℕ) → Option Refusal
list_refusal literals = if nat_lt MAX_LIST_LEN (sum_by length literals) then Some ListTooLarge else None

-- of a Publish of literals, in a session that has published `plan_count` plans
abbrev pub publish_refusal : ℕ → List (List ℕ) → Option Refusal
publish_refusal plan_count literals =
    if nat_le MAX_PLANS plan_count then Some PlanQuota
    else if length literals == 0 then Some NoLiterals
    else if nat_lt MAX_PATTERNS (length literals) then Some TooManyPatterns
    else option_or (first_refusal 0 literals) (list_refusal literals)
