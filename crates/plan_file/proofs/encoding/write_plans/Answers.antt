use Rattle.plan_file.specs.declared.version.Version.TheVariants.{Two}
use Rattle.plan_file.proofs.DeviceLemmas.{none_written}
use Rattle.plan_file.proofs.encoding.write_plans.Goals as goal

pub returns-in_err-text-clause-err : goal.returns-in_err-text-clause-err
returns-in_err-text-clause-err g c = none_written Two c.from_residual.result (g.W.ByteOut.written c.args.out.now) c.args.plans.now
