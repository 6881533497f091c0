-- The last line is taken, or none stands there.
use Rattle.grep_run.proofs.ScanLemmas.{ended-any, ended-starved}
use Rattle.grep_run.proofs.scanning.end_lines.Goals as goal

pub returns-in-Ok-clause-answer : goal.returns-in-Ok-clause-answer
returns-in-Ok-clause-answer d = λ o test name c before out clean short s. ended-any c d.finish.new.self d.finish.new.sink d.in-Ok.field-0 clean short s (d.in-Ok.ensures.running s.fed.state)

pub returns-in-Err-clause-answer : goal.returns-in-Err-clause-answer
returns-in-Err-clause-answer d = λ o test name c before out clean short s. ended-starved c d.finish.new.self d.finish.new.sink clean short s
