-- The number is the port.
use Rattle.scan_run.proofs.port.say_port.Goals as goal

pub returns-clause-ok : goal.returns-clause-ok
returns-clause-ok g c = rw c.from.ensures at c.say_number.ensures.ok

pub returns-clause-err : goal.returns-clause-err
returns-clause-err g c = rw c.from.ensures at c.say_number.ensures.err
