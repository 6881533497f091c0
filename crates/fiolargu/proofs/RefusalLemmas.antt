-- No list of patterns is refused for the number of its literals, or for want of memory.
use Rattle.std.proofs.Common.{◌≡◌, ℕ, ◌+◌, Bool, true, false, List, [], ◌∷◌, length, sum_by, Option, Some, None, Err, if◌then◌else◌}
use Rattle.std.specs.Prelude.{nat_le, nat_lt}
use Rattle.lit_base.specs.Faults.{RefusedBy}
use Rattle.lit_base.specs.RawLists.{earlier, first_refusal, pattern_refusal, text_refusal}
use Rattle.lit_base.specs.declared.fault.Fault.{Fault}
use Rattle.lit_base.specs.declared.fault.Fault.TheVariants.{ListTooLarge, LiteralTooLong, OutOfMemory, TooManyLiterals, TooManyPatterns}
use Rattle.lit_base.specs.declared.limits.TheConstants.{MAX_LIST_LEN, MAX_LITERAL_LEN, MAX_PATTERNS, MAX_TEXT_LEN}

-- a refusal is no such one
abbrev IsOther : Option Fault → Type 0
IsOther refusal = (refusal ≡ Some TooManyLiterals → ⊥) × (refusal ≡ Some OutOfMemory → ⊥)

none_other : IsOther None
none_other = (λ is. absurd cc, λ is. absurd cc)

if_other : (test : Bool) (first second : Option Fault) → IsOther first → IsOther second → IsOther (if test then first else second)
if_other true first second other _ = other
if_other false first second _ other = other

earlier_other : (first second : Option Fault) → IsOther first → IsOther second → IsOther (earlier first second)
earlier_other None second _ other = other
earlier_other (Some fault) second other _ = other

pattern_other : (count bytes len : ℕ) → IsOther (pattern_refusal count bytes len)
pattern_other count bytes len =
    if_other (nat_le MAX_PATTERNS count) (Some TooManyPatterns) _ (λ is. absurd cc, λ is. absurd cc)
    (if_other (nat_lt MAX_LITERAL_LEN len) (Some (LiteralTooLong count)) _ (λ is. absurd cc, λ is. absurd cc)
    (if_other (nat_lt MAX_LIST_LEN (bytes + len)) (Some ListTooLarge) None (λ is. absurd cc, λ is. absurd cc) none_other))

first_other : (count bytes : ℕ) (patterns : List (List ℕ)) → IsOther (first_refusal count bytes patterns)
first_other count bytes [] = none_other
first_other count bytes (p ∷ ps) =
    earlier_other (pattern_refusal count bytes (length p)) (first_refusal (count + 1) (bytes + length p) ps)
    (pattern_other count bytes (length p)) (first_other (count + 1) (bytes + length p) ps)

text_other : (list : List (List ℕ)) (text : List ℕ) (patterns : List (List ℕ)) → IsOther (text_refusal list text patterns)
text_other list text patterns =
    if_other (nat_lt MAX_TEXT_LEN (length text)) (Some ListTooLarge) (first_refusal (length list) (sum_by length list) patterns)
    (λ is. absurd cc, λ is. absurd cc) (first_other (length list) (sum_by length list) patterns)

-- nor does a call fail by it that refuses so
refused_other : (T : Type 0) (refusal : Option Fault) (fault : Fault) → IsOther refusal → RefusedBy {T = T} refusal (Err fault) → fault ≡ TooManyLiterals → ⊥
refused_other T None fault other is many = absurd cc
refused_other T (Some bad) fault other is many = other.0 cc

pub text_fails : (T : Type 0) (list : List (List ℕ)) (text : List ℕ) (patterns : List (List ℕ)) (fault : Fault) → RefusedBy {T = T} (text_refusal list text patterns) (Err fault) → fault ≡ TooManyLiterals → ⊥
text_fails T list text patterns fault = refused_other T (text_refusal list text patterns) fault (text_other list text patterns)

-- and where memory ran out nothing is refused
refused_starved : (T : Type 0) (refusal : Option Fault) (fault : Fault) → IsOther refusal → RefusedBy {T = T} refusal (Err fault) → fault ≡ OutOfMemory → refusal ≡ None
refused_starved T None fault other is memory = (cc)
refused_starved T (Some bad) fault other is memory = absurd (other.1 cc)

pub text_starved : (T : Type 0) (list : List (List ℕ)) (text : List ℕ) (patterns : List (List ℕ)) (fault : Fault) → RefusedBy {T = T} (text_refusal list text patterns) (Err fault) → fault ≡ OutOfMemory → text_refusal list text patterns ≡ None
text_starved T list text patterns fault = refused_starved T (text_refusal list text patterns) fault (text_other list text patterns)
