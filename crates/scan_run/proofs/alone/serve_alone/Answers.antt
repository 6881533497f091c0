-- Only an unclean status belongs to a stream whose reading or writing failed.
use Rattle.scan_run.proofs.StatusLemmas.{unfailed}
use Rattle.scan_run.proofs.alone.serve_alone.Goals as goal

pub returns-clause-ends : goal.returns-clause-ends
returns-clause-ends g c = record {
  after = c.serve_loaded.ensures.ends.0;
  ended = c.serve_loaded.result;
  ends = c.serve_loaded.ensures.ends.1;
  unread = c.serve_loaded.ensures.read_fault;
  unwritten = c.serve_loaded.ensures.write_fault;
  reported = c.from.ensures;
}

pub returns-clause-unread : goal.returns-clause-unread
returns-clause-unread g c = λ other. c.serve_loaded.ensures.unread (unfailed c.serve_loaded.result c.from.result c.from.ensures other).0

pub returns-clause-unwritten : goal.returns-clause-unwritten
returns-clause-unwritten g c = λ other. c.serve_loaded.ensures.unwritten (unfailed c.serve_loaded.result c.from.result c.from.ensures other).1
