-- Where no pattern is refused, the list stays within its limits.
use Rattle.std.proofs.Common.{◌≡◌, ℕ, ◌+◌, ◌<◌, ◌≤◌, List, [], ◌∷◌, ◌++◌, length, sum_by, All, Option, Some, None, refl, arith, sym, ap, ◌∙◌, subst}
use Rattle.std.proofs.lemmas.Bool.Decides.{nat_tests}
use Rattle.std.proofs.lemmas.List.Elements.{All-nil, All-cons, All-append}
use Rattle.std.proofs.lemmas.List.Sums.{sum_by-append, sum_by-cons}
use Rattle.std.proofs.lemmas.List.{length-append}
use Rattle.lit_base.specs.declared.fault.Fault.{Fault}
use Rattle.lit_base.specs.RawLists.{pattern_refusal, first_refusal, earlier, IsWithinLimits}
use Rattle.lit_base.specs.declared.limits.TheConstants.{MAX_PATTERNS, MAX_LITERAL_LEN, MAX_LIST_LEN}

-- what more patterns make of a count and a length in all that are within the limits
pub record StaysWithin (count bytes : ℕ) (ps : List (List ℕ)) : Type 0 where
  pub few : count + length ps ≤ MAX_PATTERNS
  pub short : All (λ p. length p ≤ MAX_LITERAL_LEN) ps
  pub small : bytes + sum_by length ps ≤ MAX_LIST_LEN

-- where neither is refused, neither is
neither : (a b : Option Fault) → earlier a b ≡ None → (a ≡ None) × (b ≡ None)
neither None b e = (refl, e)
neither (Some fault) b e = (cc)

-- a pattern that is not refused keeps the limits
accepted : (count bytes len : ℕ) → pattern_refusal count bytes len ≡ None → (count < MAX_PATTERNS) × (len ≤ MAX_LITERAL_LEN) × (bytes + len ≤ MAX_LIST_LEN)
accepted count bytes len e = grind (arith, nat_tests)

-- patterns without a refusal keep them
pub stays_within : (count bytes : ℕ) (ps : List (List ℕ)) → count ≤ MAX_PATTERNS → bytes ≤ MAX_LIST_LEN → first_refusal count bytes ps ≡ None → StaysWithin count bytes ps
stays_within count bytes [] few small e = record { few = omega arith; short = All-nil (λ p. length p ≤ MAX_LITERAL_LEN); small = omega arith }
stays_within count bytes (p ∷ ps) few small e =
    let both = neither (pattern_refusal count bytes (length p)) (first_refusal (count + 1) (bytes + length p) ps) e in
    let here = accepted count bytes (length p) both.0 in
    let rest : StaysWithin (count + 1) (bytes + length p) ps = stays_within (count + 1) (bytes + length p) ps (omega (arith, here.0)) here.2 both.1 in
    record {
      few = omega (arith, rest.few);
      short = All-cons (λ q. length q ≤ MAX_LITERAL_LEN) p ps here.1 rest.short;
      small = omega (arith, sum_by-cons {X = List ℕ} length p ps, rest.small);
    }

-- so does the whole list that they are appended to, whose length in all grows by theirs
pub appended_within : (old more new : List (List ℕ)) (count had has : ℕ) → new ≡ old ++ more → count ≡ length old → had ≡ sum_by length old
    → has ≡ had + sum_by length more → first_refusal count had more ≡ None → IsWithinLimits old → (has ≡ sum_by length new) × IsWithinLimits new
appended_within old more new count had has is counted had_all has_all none within =
    let rest : StaysWithin count had more = stays_within count had more (omega (arith, counted, within.few)) (omega (arith, had_all, within.small)) none in
    let all : sum_by length new ≡ sum_by length old + sum_by length more = ap (sum_by length) is ∙ sum_by-append {X = List ℕ} length old more in
    let long : length new ≡ length old + length more = ap length is ∙ length-append old more in (
      omega (arith, all, had_all, has_all),
      record {
        few = omega (arith, long, counted, rest.few);
        short = subst (λ list. All (λ q. length q ≤ MAX_LITERAL_LEN) list) (sym is) (All-append (λ q. length q ≤ MAX_LITERAL_LEN) old more within.short rest.short);
        small = omega (arith, all, had_all, rest.small);
      },
    )
