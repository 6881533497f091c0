-- A file that was loaded, and a file that was not, and why.
use Rattle.scan_run.proofs.LoadLemmas.{loads-done, loads-refused}
use Rattle.scan_run.proofs.loading.load_tickets.Goals as goal

pub returns-in-Ok-clause-loads : goal.returns-in-Ok-clause-loads
returns-in-Ok-clause-loads g c = loads-done _ _ _ _ _ _ _ _ c.in-Ok.ensures.loads

pub returns-in-Err-clause-loads : goal.returns-in-Err-clause-loads
returns-in-Err-clause-loads g c = loads-refused _ _ _ _ _ _ _ _ _ c.in-Err.fault c.refused.result c.in-Err.ensures.loads c.refused.ensures.said
