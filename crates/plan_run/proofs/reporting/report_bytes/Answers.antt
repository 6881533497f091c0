-- A write that fails leaves a prefix of the bytes.
use Rattle.plan_run.proofs.reporting.report_bytes.Goals as goal

pub returns-in-Err-clause-text : goal.returns-in-Err-clause-text
returns-in-Err-clause-text g c = c.in-Err.ensures.err
