use Rattle.std.proofs.Common.{[]}
use Rattle.lit_base.specs.declared.limits.TheConstants.{MAX_LIST_LEN}
use Rattle.plan_file.specs.Reading.{literals_at}
use Rattle.plan_file.proofs.LoopLemmas.{Left}
use Rattle.plan_file.proofs.literals.literals_of.Given as goal

abbrev pub invariant-loop : goal.invariant-loop
invariant-loop l = Left l.fold l.count l.counter l.room l.before l.rest l.list (literals_at l.fold l.count MAX_LIST_LEN [] l.bytes)
