use Rattle.std.proofs.Common.{◌≡◌, ◌++◌, ◌^◌, ◌<◌, ℕ, List, Bor}
use Rattle.lit_cert.specs.declared.fault.Fault.TheVariants.{BadCertText}
use Rattle.arrayvec.specs.ArrayVec.{ArrayVec}
use Rattle.lit_cert.specs.Spelling.{IsCount, HasEnds, line_text, literals_words, ends_words, cost_words, version_words}
use Rattle.lit_cert.specs.Reading.{IsBadText}
use Rattle.lit_cert.proofs.Plain.{is_most}
use Rattle.lit_base.specs.Profiles.{buckets}
use Rattle.lit_base.specs.declared.profile.Profile.{Profile}
use Rattle.lit_cert.proofs.ProfileTexts.{bad_after_first, bad_first_line}
use Rattle.lit_cert.proofs.Exits.{bad_count, bad_ends, bad_cost, head_read}
use Rattle.lit_cert.proofs.Results.{from_none, at_none, from_some}
use Rattle.lit_cert.proofs.parsing.head_of.Goals as goal

pub returns-in_err-profile-clause-wrong : goal.returns-in_err-profile-clause-wrong
returns-in_err-profile-clause-wrong c =
    from_none c.from_residual.result c.profile_line.result c.in_err-profile.field-0.0 (BadCertText 1) (IsBadText c.args.text.now) c.from_residual.ensures.1 c.in_err-profile.ensures.value
    (λ none. bad_first_line c.args.text.now (at_none c.profile_line.result _ none c.profile_line.ensures.none))

pub returns-in_err-literals-clause-wrong : goal.returns-in_err-literals-clause-wrong
returns-in_err-literals-clause-wrong c =
    let p = c.in_ok-profile.profile in
    let most = buckets p in
    let first = from_some (λ (x : Profile × Bor (List ℕ)). c.args.text.now ≡ line_text (version_words (buckets x.0)) ++ x.1.now) c.profile_line.result (c.in_ok-profile.profile, c.in_ok-profile.rest) (BadCertText 1) c.in_ok-profile.ensures.value c.profile_line.ensures.found in
    from_none c.from_residual-in_err-literals.result c.literals_line.result c.in_err-literals.field-0.0 (BadCertText 2) (IsBadText c.args.text.now) c.from_residual-in_err-literals.ensures.1 c.in_err-literals.ensures.value
    (λ none. bad_after_first p c.args.text.now c.in_ok-profile.rest.now _ first (bad_count most c.args.text.now c.in_ok-profile.rest.now (is_most p) first (at_none c.literals_line.result _ none c.literals_line.ensures.none)))

pub returns-in_err-ends-clause-wrong : goal.returns-in_err-ends-clause-wrong
returns-in_err-ends-clause-wrong c =
    let p = c.in_ok-profile.profile in
    let most = buckets p in
    let first = from_some (λ (x : Profile × Bor (List ℕ)). c.args.text.now ≡ line_text (version_words (buckets x.0)) ++ x.1.now) c.profile_line.result (c.in_ok-profile.profile, c.in_ok-profile.rest) (BadCertText 1) c.in_ok-profile.ensures.value c.profile_line.ensures.found in
    let second = from_some (λ (x : ℕ × Bor (List ℕ)). IsCount x.0 × (c.in_ok-profile.rest.now ≡ line_text (literals_words x.0) ++ x.1.now)) c.literals_line.result (c.in_ok-literals.literals, c.in_ok-literals.rest) (BadCertText 2) c.in_ok-literals.ensures.value c.literals_line.ensures.found in
    from_none c.from_residual-in_err-ends.result c.ends_line.result c.in_err-ends.field-0.0 (BadCertText 3) (IsBadText c.args.text.now) c.from_residual-in_err-ends.ensures.1 c.in_err-ends.ensures.value
    (λ none. bad_after_first p c.args.text.now c.in_ok-profile.rest.now _ first (bad_ends most c.in_ok-literals.literals c.args.text.now c.in_ok-profile.rest.now c.in_ok-literals.rest.now (is_most p) first second.0 second.1 (at_none c.ends_line.result _ none c.ends_line.ensures.none)))

pub returns-in_err-cost-clause-wrong : goal.returns-in_err-cost-clause-wrong
returns-in_err-cost-clause-wrong c =
    let p = c.in_ok-profile.profile in
    let most = buckets p in
    let first = from_some (λ (x : Profile × Bor (List ℕ)). c.args.text.now ≡ line_text (version_words (buckets x.0)) ++ x.1.now) c.profile_line.result (c.in_ok-profile.profile, c.in_ok-profile.rest) (BadCertText 1) c.in_ok-profile.ensures.value c.profile_line.ensures.found in
    let second = from_some (λ (x : ℕ × Bor (List ℕ)). IsCount x.0 × (c.in_ok-profile.rest.now ≡ line_text (literals_words x.0) ++ x.1.now)) c.literals_line.result (c.in_ok-literals.literals, c.in_ok-literals.rest) (BadCertText 2) c.in_ok-literals.ensures.value c.literals_line.ensures.found in
    let third = from_some (λ (x : ArrayVec ℕ × Bor (List ℕ)). HasEnds most x.0.items × (c.in_ok-literals.rest.now ≡ line_text (ends_words x.0.items) ++ x.1.now)) c.ends_line.result (c.in_ok-ends.ends, c.in_ok-ends.rest) (BadCertText 3) c.in_ok-ends.ensures.value c.ends_line.ensures.found in
    from_none c.from_residual-in_err-cost.result c.cost_line.result c.in_err-cost.field-0.0 (BadCertText 4) (IsBadText c.args.text.now) c.from_residual-in_err-cost.ensures.1 c.in_err-cost.ensures.value
    (λ none. bad_after_first p c.args.text.now c.in_ok-profile.rest.now _ first (bad_cost most c.in_ok-literals.literals c.in_ok-ends.ends.items c.args.text.now c.in_ok-profile.rest.now c.in_ok-literals.rest.now c.in_ok-ends.rest.now (is_most p) first second.0 second.1 third.0 third.1 (at_none c.cost_line.result _ none c.cost_line.ensures.none)))

pub returns-clause-found : goal.returns-clause-found
returns-clause-found c =
    let p = c.in_ok-profile.profile in
    let most = buckets p in
    let first = from_some (λ (x : Profile × Bor (List ℕ)). c.args.text.now ≡ line_text (version_words (buckets x.0)) ++ x.1.now) c.profile_line.result (c.in_ok-profile.profile, c.in_ok-profile.rest) (BadCertText 1) c.in_ok-profile.ensures.value c.profile_line.ensures.found in
    let second = from_some (λ (x : ℕ × Bor (List ℕ)). IsCount x.0 × (c.in_ok-profile.rest.now ≡ line_text (literals_words x.0) ++ x.1.now)) c.literals_line.result (c.in_ok-literals.literals, c.in_ok-literals.rest) (BadCertText 2) c.in_ok-literals.ensures.value c.literals_line.ensures.found in
    let third = from_some (λ (x : ArrayVec ℕ × Bor (List ℕ)). HasEnds most x.0.items × (c.in_ok-literals.rest.now ≡ line_text (ends_words x.0.items) ++ x.1.now)) c.ends_line.result (c.in_ok-ends.ends, c.in_ok-ends.rest) (BadCertText 3) c.in_ok-ends.ensures.value c.ends_line.ensures.found in
    let fourth = from_some (λ (x : ℕ × Bor (List ℕ)). (x.0 < 2 ^ 64) × (c.in_ok-ends.rest.now ≡ line_text (cost_words x.0) ++ x.1.now)) c.cost_line.result (c.in_ok-cost.cost, c.in_ok-cost.rest) (BadCertText 4) c.in_ok-cost.ensures.value c.cost_line.ensures.found in
    head_read most c.in_ok-literals.literals c.in_ok-cost.cost c.in_ok-ends.ends.items c.args.text.now c.in_ok-profile.rest.now c.in_ok-literals.rest.now c.in_ok-ends.rest.now c.in_ok-cost.rest.now first second.0 second.1 third.0 third.1 fourth.0 fourth.1
