-- Which patterns a raw list refuses.
use Rattle.std.specs.Prelude.{ℕ, ◌+◌, ◌≤◌, nat_le, nat_lt, List, [], ◌∷◌, All, length, sum_by, Option, Some, None, if◌then◌else◌}
use Rattle.lit_base.specs.declared.fault.Fault.{Fault}
use Rattle.lit_base.specs.declared.fault.Fault.TheVariants.{TooManyPatterns, LiteralTooLong, ListTooLarge}
use Rattle.lit_base.specs.declared.limits.TheConstants.{MAX_PATTERNS, MAX_LITERAL_LEN, MAX_LIST_LEN, MAX_TEXT_LEN}

-- the refusal of one more pattern of a length, after `count` patterns with `bytes` bytes in all: the first that holds
abbrev pub pattern_refusal : ℕ → ℕ → ℕ → Option Fault
pattern_refusal count bytes len =
    if nat_le MAX_PATTERNS count then Some TooManyPatterns
    else if nat_lt MAX_LITERAL_LEN len then Some (LiteralTooLong count)
    else if nat_lt MAX_LIST_LEN (bytes + len) then Some ListTooLarge
    else None

-- the first refusal, or else the second
abbrev pub earlier : Option Fault → Option Fault → Option Fault
earlier None second = second
earlier (Some fault) second = Some fault

-- of the patterns in turn: the first refusal
abbrev pub first_refusal : ℕ → ℕ → List (List ℕ) → Option Fault
first_refusal count bytes [] = None
first_refusal count bytes (p ∷ ps) = earlier (pattern_refusal count bytes (length p)) (first_refusal (count + 1) (bytes + length p) ps)

-- of a whole text: at once if it is too long, otherwise by its patterns after the patterns of the list
abbrev pub text_refusal : List (List ℕ) → List ℕ → List (List ℕ) → Option Fault
text_refusal list text patterns =
    if nat_lt MAX_TEXT_LEN (length text) then Some ListTooLarge else first_refusal (length list) (sum_by length list) patterns

-- a list within the limits, as every raw list is
pub record IsWithinLimits (list : List (List ℕ)) : Type 0 where
  pub few : length list ≤ MAX_PATTERNS
  pub short : All (λ p. length p ≤ MAX_LITERAL_LEN) list
  pub small : sum_by length list ≤ MAX_LIST_LEN
