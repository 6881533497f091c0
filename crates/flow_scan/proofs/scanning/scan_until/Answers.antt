-- Where memory is refused, a hit was found.
use Rattle.std.proofs.Common.{rules}
use Rattle.std.proofs.lemmas.Bool.{false≢true}
use Rattle.flow_scan.proofs.scanning.scan_until.Goals as goal

pub returns-in_err-add_spans-clause-hits : goal.returns-in_err-add_spans-clause-hits
returns-in_err-add_spans-clause-hits g c = record {
  ok = search rules;
  same_hits = search rules;
  quiet = λ none. absurd (false≢true (c.in_err-add_spans.ensures.hits.quiet none));
}
