-- Nothing is loaded.
use Rattle.scan_run.proofs.SeenLemmas.{ends_alone}
use Rattle.scan_run.proofs.serving.serve_session.Goals as goal

pub returns-clause-ends : goal.returns-clause-ends
returns-clause-ends g c = ends_alone _ _ _ _ _ _ _ _ _ c.serve_beside.ensures.ends
