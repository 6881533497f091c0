-- The lines show the migrated plans, or a message says why there are none.
use Rattle.plan_run.proofs.MigrateLemmas.{migrate-printed, migrate-unwritten}
use Rattle.plan_run.proofs.making.answer_migrate.Goals as goal

pub returns-in-Ok-clause-answer : goal.returns-in-Ok-clause-answer
returns-in-Ok-clause-answer g c =
    migrate-printed g.F.Output.ByteOut.written g.F.Output.ByteOut.has_failed c.args.input.now c.args.output.now _ _ c.in-Ok.lines c.in-Ok._made c.report_bytes.result _ _ c.in-Ok.ensures.flag c.in-Ok.ensures.migrated
    (rw c.as_slice.ensures.value at c.report_bytes.ensures.text) c.report_bytes.ensures.fed

pub returns-in-Err-clause-answer : goal.returns-in-Err-clause-answer
returns-in-Err-clause-answer g c =
    rw c.from.ensures.value (migrate-unwritten g.F.Output.ByteOut.written g.F.Output.ByteOut.has_failed c.args.input.now c.args.output.now _ _ c.in-Err.unmade c.stop_of.result _ c.stop_of.ensures c.in-Err.ensures.broken c.in-Err.ensures.migrated)
