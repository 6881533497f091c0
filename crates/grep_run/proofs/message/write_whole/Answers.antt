-- A write that fails leaves a prefix of the text.
use Rattle.byte_io.proofs.TransferLemmas.{OnErr-any}
use Rattle.grep_run.proofs.WriterLemmas.{WritesPrefix-part, Writes-ok}
use Rattle.grep_run.proofs.message.write_whole.Goals as goal

pub returns-in_err-write_all-clause-err : goal.returns-in_err-write_all-clause-err
returns-in_err-write_all-clause-err g c = OnErr-any c.from_residual.result (WritesPrefix-part _ _ _ c.in_err-write_all.ensures.err)

pub returns-clause-ok : goal.returns-clause-ok
returns-clause-ok g c = Writes-ok _ _ _ c.in_ok-write_all.ensures.ok c.in_ok-write_all.ensures.flag
