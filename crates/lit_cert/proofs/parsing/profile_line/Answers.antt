-- Two first lines are tried.
use Rattle.std.proofs.Common.{◌≢◌, ℕ, List, ◌++◌, ◌∷◌, codes, ap, sym, ◌∙◌}
use Rattle.lit_base.specs.declared.profile.Profile.{Profile}
use Rattle.lit_base.specs.declared.profile.Profile.TheVariants.{Eight, Sixteen}
use Rattle.lit_cert.proofs.ProfileTexts.{first_line_of, first_of_eight, first_of_sixteen}
use Rattle.lit_cert.proofs.parsing.profile_line.Goals as goal

-- where neither stands in front, no first line does
neither : (text : List ℕ) → ((rest : List ℕ) → text ≢ codes "litcert 1" ++ 10 ∷ rest) → ((rest : List ℕ) → text ≢ codes "litcert 2" ++ 10 ∷ rest)
    → (profile : Profile) (rest : List ℕ) → text ≢ first_line_of profile ++ rest
neither text one two Eight rest e = one rest (e ∙ ap (λ (t : List ℕ). t ++ rest) first_of_eight)
neither text one two Sixteen rest e = two rest (e ∙ ap (λ (t : List ℕ). t ++ rest) first_of_sixteen)

pub returns-in-Some-clause-found : goal.returns-in-Some-clause-found
returns-in-Some-clause-found c = c.in-Some.ensures.found ∙ ap (λ (t : List ℕ). t ++ c.in-Some.rest.now) (sym first_of_eight)

pub returns-clause-found : goal.returns-clause-found
returns-clause-found c = c.in_ok-rest.ensures.found ∙ ap (λ (t : List ℕ). t ++ c.in_ok-rest.rest.now) (sym first_of_sixteen)

pub returns-in_err-rest-clause-none : goal.returns-in_err-rest-clause-none
returns-in_err-rest-clause-none c = rw c.from_residual.ensures (neither c.args.text.now c.in_default.ensures.none c.in_err-rest.ensures.none)
