-- Where there is no memory for the text, nothing is written.
use Rattle.byte_io.proofs.TransferLemmas.{OnErr-any}
use Rattle.grep_run.specs.Writers.{writer}
use Rattle.grep_run.proofs.WriterLemmas.{Writes-clear, Writes-nil, WritesPrefix-none}
use Rattle.grep_run.proofs.message.say_refused.Goals as goal

pub returns-in_err-text-clause-err : goal.returns-in_err-text-clause-err
returns-in_err-text-clause-err g c = OnErr-any c.from_residual.result (WritesPrefix-none _ _)

pub returns-in_err-text-clause-starved : goal.returns-in_err-text-clause-starved
returns-in_err-text-clause-starved g c = OnErr-any c.from_residual.result (λ clear. Writes-nil _)

pub returns-clause-starved : goal.returns-clause-starved
returns-clause-starved g c =
    let w = writer g.E.ByteOut.written g.E.ByteOut.has_failed in
    Writes-clear c.write_whole.result (w c.args.err.now) (w c.write_whole.new.out) c.write_whole.ensures.fault c.write_whole.ensures.flag
