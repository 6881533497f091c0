-- All hits of a text end after its start.
use Rattle.lit_plan.proofs.WholeTexts.{hits_from_start}
use Rattle.flow_scan.proofs.scanning.scan_all.Goals as goal

pub returns-clause-ok : goal.returns-clause-ok
returns-clause-ok c =
    hits_from_start c.args.compiled.now.literals c.args.text.now c.in_ok-hits.hits.items c.carry-carry.ensures.bounds c.in_ok-hits.ensures.ok
