-- A message is written or a prefix of it, and for want of memory nothing.
use Rattle.grep_run.proofs.RefusalLemmas.{Refuses-file, Refuses-fault}
use Rattle.grep_run.proofs.running.say.Goals as goal

pub returns-in-Unreadable-clause-reported : goal.returns-in-Unreadable-clause-reported
returns-in-Unreadable-clause-reported g c = rw c.in-Unreadable.is (Refuses-file c.in-Unreadable.name _ _ _ c.say_unreadable.ensures.ok c.say_unreadable.ensures.err c.say_unreadable.ensures.starved)

pub returns-in-Refused-clause-reported : goal.returns-in-Refused-clause-reported
returns-in-Refused-clause-reported g c =
    rw c.in-Refused.is (Refuses-fault c.in-Refused.fault _ _ _ c.say_fault.ensures.other c.say_fault.ensures.ok c.say_fault.ensures.err c.say_fault.ensures.starved c.say_fault.ensures.unreported)
