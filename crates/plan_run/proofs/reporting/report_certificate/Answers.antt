-- A write that stops leaves a prefix of the text.
use Rattle.plan_run.proofs.reporting.report_certificate.Goals as goal

pub returns-in-Err-WriteFault-clause-text : goal.returns-in-Err-WriteFault-clause-text
returns-in-Err-WriteFault-clause-text g c = c.in-Err-WriteFault.ensures.err

pub returns-in-Err-OutOfMemory-clause-text : goal.returns-in-Err-OutOfMemory-clause-text
returns-in-Err-OutOfMemory-clause-text g c = c.in-Err-OutOfMemory.ensures.err
