-- All hits of a text end after its start.
use Rattle.std.proofs.lemmas.Result.{IfOk-weaker}
use Rattle.lit_base.specs.Occurrences.{IsHits}
use Rattle.text_ends.specs.HitsAfter.{AreHitsAfter}
use Rattle.lit_plan.proofs.WholeTexts.{hits_from_start}
use Rattle.par_scan.proofs.parts.scan_parts.Goals as goal

pub returns-clause-ok : goal.returns-clause-ok
returns-clause-ok g c =
    let l = c.args.compiled.now.literals in
    let text = c.args.text.now in
    IfOk-weaker c.scan_parts_after.result (λ hits. AreHitsAfter l text 0 0 hits.items) (λ hits. IsHits l text hits.items)
    (λ hits are. hits_from_start l text hits.items c.carry-carry.ensures.bounds are) c.scan_parts_after.ensures.ok
