-- The price is the cost here; the last row says whether the potential is.
use Rattle.std.proofs.Common.{◌≡◌, ◌*◌, ◌-◌, ℕ, get_or, sym, ap, ◌∙◌, arith}
use Rattle.std.proofs.lemmas.Bool.{eq-eqb, eqb-true}
use Rattle.lit_base.specs.Profiles.{buckets}
use Rattle.lit_base.specs.Cuts.{cut_price}
use Rattle.lit_cert.specs.Certified.{cost_of, potential_of}
use Rattle.lit_cert.proofs.Potentials.{last_row_read}
use Rattle.lit_cert.proofs.checking.has_total.Goals as goal

pub returns-then-cut_cost-certificate : goal.returns-then-cut_cost-certificate
returns-then-cut_cost-certificate c =
    let l = c.args.list.now in
    let hs = c.args.certificate.now.potentials in
    let bound = c.index-bound.result.now in
    let most : ℕ = buckets c.args.certificate.now.profile in
    let many : c.buckets.result ≡ most = c.buckets.ensures.value ∙ ap (λ v. buckets v.profile) c.certificate.view_is in
    let cost : c.certificate.inside.cost ≡ c.args.certificate.now.cost = ap (λ v. v.cost) c.certificate.view_is in
    let is : bound ≡ get_or hs ((most - 1) * c.len.result) bound = c.index-bound.ensures ∙ ap (λ v. get_or v.potentials ((c.buckets.result - 1) * c.len.result) bound) c.certificate.view_is ∙ ap (λ m. get_or hs ((m - 1) * c.len.result) bound) many in
    let read : bound ≡ potential_of l hs most 0 = last_row_read l hs most c.len.result bound c.len.ensures.value (omega (arith, many, c.buckets.ensures.some)) c.requires.size is in
    let runs : cut_price (cost_of l) 0 c.args.certificate.now.ends ≡ c.cut_cost.result = sym (c.cut_cost.ensures ∙ ap (λ v. cut_price (cost_of l) 0 v.ends) c.certificate.view_is) in
    (λ same. record { price = runs ∙ (c.if-cut_cost-certificate.true ∙ cost); bound = sym read ∙ (eqb-true bound c.certificate.inside.cost same ∙ cost) }, λ total. eq-eqb bound c.certificate.inside.cost (read ∙ (total.bound ∙ sym cost)))
