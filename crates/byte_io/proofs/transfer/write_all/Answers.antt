-- One call more, and the rest of the piece that a call which failed leaves.
use Rattle.std.proofs.Common.{rules}
use Rattle.std.proofs.lemmas.List.{take_rest}
use Rattle.byte_io.proofs.TransferLemmas.{WritesPrefix-more, WritesPrefix-part, OnErr-any}
use Rattle.byte_io.proofs.transfer.write_all.Goals as goal

pub returns-in_err-taken-clause-err : goal.returns-in_err-taken-clause-err
returns-in_err-taken-clause-err g c =
    OnErr-any c.from_residual.result (WritesPrefix-part _ c.loop-rest.invariant.prefix c.in_err-taken.ensures.bytes (search rules))

pub loop-rest-preserved : goal.loop-rest-preserved
loop-rest-preserved g c = record {
  prefix = rw (take_rest c.loop-rest.rest.now c.in_ok-taken.taken) (WritesPrefix-more _ c.in_ok-taken.taken c.loop-rest.invariant.prefix c.in_ok-taken.ensures.bytes);
  flag = search rules;
}
