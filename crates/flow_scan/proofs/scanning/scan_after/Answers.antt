-- All hits after the position were added to an empty list.
use Rattle.std.proofs.Common.{◌<◌, length, arith}
use Rattle.std.proofs.lemmas.Bool.{false≢true}
use Rattle.text_ends.specs.HitsAfter.{AreHitsAfter}
use Rattle.text_ends.proofs.Stops.{all_searched, gained_all}
use Rattle.lit_plan.proofs.WholeTexts.{hits_continued}
use Rattle.flow_scan.proofs.scanning.scan_after.Goals as goal
use Rattle.flow_scan.proofs.scanning.scan_after.Goals.{In_ok-scan_until}
use Rattle.flow_scan.proofs.scanning.scan_after.Given.{Over}

found : (g : Over) (c : In_ok-scan_until g) → AreHitsAfter c.args.compiled.now.literals c.args.text.now c.args.from c.args.from c.scan_until.new.out.items
found g c =
    let l = c.args.compiled.now.literals in
    let text = c.args.text.now in
    let from = c.args.from in
    let new = c.scan_until.new.out in
    let small : length new.items < 18446744073709551615 = omega (arith, new.ok.0, new.ok.1, new.small) in
    gained_all l text from from c.new-hits.result.items new.items c.new-hits.ensures.items
    (all_searched l text from from _ c.in_ok-scan_until.field-0 c.new-hits.result.items new.items small c.in_ok-scan_until.ensures.hits.ok)

pub returns-clause-ok : goal.returns-clause-ok
returns-clause-ok g c = found g c

pub returns-clause-continues : goal.returns-clause-continues
returns-clause-continues g c =
    hits_continued c.args.compiled.now.literals c.args.text.now c.args.from c.scan_until.new.out.items c.carry-carry.ensures.bounds c.requires.inside (found g c)

pub returns-in_err-scan_until-clause-quiet : goal.returns-in_err-scan_until-clause-quiet
returns-in_err-scan_until-clause-quiet g c = λ none. absurd (false≢true (c.in_err-scan_until.ensures.hits.quiet none))
