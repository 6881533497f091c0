-- A prefix of the message is written, and no block; under -s there is no message.
use Rattle.std.proofs.Common.{[]}
use Rattle.std.proofs.lemmas.Bool.{false≢true}
use Rattle.std.proofs.lemmas.Result.{err_from_is_err_and}
use Rattle.grep_run.proofs.WriterLemmas.{WritesPrefix-none, apart}
use Rattle.grep_run.proofs.searcher.Searcher.pass_over.Goals as goal

pub returns-in_err-report-clause-answer : goal.returns-in_err-report-clause-answer
returns-in_err-report-clause-answer g c =
    let p = err_from_is_err_and c.from_residual.result c.from_residual.ensures.1 in
    rw p.1 (λ out. record {
      output = WritesPrefix-none out [];
      messages = c.in_err-report.ensures.err;
      quiet = λ clear set. apart out.has_failed set clear;
      starved = c.in_err-report.ensures.starved;
      loud = λ none silent. false≢true (c.in_err-report.ensures.silent silent);
    })
