use Rattle.lit_cert.proofs.Received.{reads_only, refuses}
use Rattle.lit_cert.proofs.reading.read_cert.Goals as goal

pub returns-clause-only : goal.returns-clause-only
returns-clause-only g c =
    reads_only (g.R.ByteIn.coming c.args.input.now) (g.R.ByteIn.coming c.read_longest.new.input) c.read_longest.result (record {
      found = c.read_longest.ensures.found;
      bad_line = c.read_longest.ensures.bad_line;
      clean = c.read_longest.ensures.clean;
      faults = c.read_longest.ensures.faults;
    })

pub returns-clause-exact : goal.returns-clause-exact
returns-clause-exact g c =
    refuses (g.R.ByteIn.coming c.args.input.now) (g.R.ByteIn.coming c.read_longest.new.input) c.read_longest.result (record {
      found = c.read_longest.ensures.found;
      bad_line = c.read_longest.ensures.bad_line;
      clean = c.read_longest.ensures.clean;
      faults = c.read_longest.ensures.faults;
    })
