-- The prefilter is that of the index's list.
use Rattle.std.proofs.Common.{◌∙◌, subst}
use Rattle.lit_base.specs.Literals.{Literals}
use Rattle.lit_cert.specs.Certificates.{CertificateParts}
use Rattle.nib_mask.specs.Candidates.{CoversBy}
use Rattle.lane_filter.specs.Prefilters.{IsPrefilterOf, Passes}
use Rattle.lit_plan.proofs.compiled.Compiled.certified.Goals as goal

pub invariant_of-result : goal.invariant_of-result
invariant_of-result c =
    let same = c.list.ensures ∙ c.deref.ensures in
    record {
      certified = c.requires;
      prefiltered = subst (λ (p : CertificateParts). IsPrefilterOf c.args.index.value p.ends c.of-prefilter.result) c.certificate.view_is
          (subst (λ (l : Literals). IsPrefilterOf l c.certificate.inside.ends.items c.of-prefilter.result) same c.of-prefilter.ensures.prefilter);
      covers = subst (λ (l : Literals). CoversBy l (Passes c.of-prefilter.result)) same c.of-prefilter.ensures.covers;
    }
