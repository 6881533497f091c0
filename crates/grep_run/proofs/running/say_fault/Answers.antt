-- For want of memory nothing is written.
use Rattle.grep_run.proofs.WriterLemmas.{Writes-nil, WritesPrefix-none}
use Rattle.grep_run.proofs.running.say_fault.Goals as goal

pub returns-in-OutOfMemory-clause-err : goal.returns-in-OutOfMemory-clause-err
returns-in-OutOfMemory-clause-err g c = WritesPrefix-none _ _

pub returns-in-OutOfMemory-clause-starved : goal.returns-in-OutOfMemory-clause-starved
returns-in-OutOfMemory-clause-starved g c = λ clear. Writes-nil _
