-- A prefix of the parts was written.
use Rattle.std.proofs.Common.{◌++◌}
use Rattle.byte_io.proofs.TransferLemmas.{OnErr-any}
use Rattle.scan_run.proofs.LoadLemmas.{OnErr-then, prefix-after, prefix-longer}
use Rattle.scan_run.proofs.message.say.Goals as goal

pub returns-in_err-write_all-clause-err : goal.returns-in_err-write_all-clause-err
returns-in_err-write_all-clause-err g c = OnErr-any _ (prefix-longer (c.args.middle.now ++ c.args.end.now) c.in_err-write_all.ensures.err)

pub returns-in_err-write_all-2-clause-err : goal.returns-in_err-write_all-2-clause-err
returns-in_err-write_all-2-clause-err g c =
    OnErr-any _ (prefix-after (g.E.ByteOut.written c.args.err.now) (g.E.ByteOut.written c.write_all.new.out) (g.E.ByteOut.written c.write_all-2.new.out)
    c.args.prefix.now (c.args.middle.now ++ c.args.end.now) c.in_ok-write_all.ensures.ok (prefix-longer c.args.end.now c.in_err-write_all-2.ensures.err))

pub returns-clause-err : goal.returns-clause-err
returns-clause-err g c =
    OnErr-then c.write_all-3.result c.write_all-3.ensures.err (λ part.
    prefix-after (g.E.ByteOut.written c.args.err.now) (g.E.ByteOut.written c.write_all.new.out) (g.E.ByteOut.written c.write_all-3.new.out)
    c.args.prefix.now (c.args.middle.now ++ c.args.end.now) c.in_ok-write_all.ensures.ok
    (prefix-after (g.E.ByteOut.written c.write_all.new.out) (g.E.ByteOut.written c.write_all-2.new.out) (g.E.ByteOut.written c.write_all-3.new.out)
    c.args.middle.now c.args.end.now c.in_ok-write_all-2.ensures.ok part))
