use Rattle.fiolargu.proofs.StatusLemmas.{file_starved, memory_is_not_bad}
use Rattle.fiolargu.proofs.files.fiolargu_check.Goals as goal

pub returns-in-Err-clause-right : goal.returns-in-Err-clause-right
returns-in-Err-clause-right c = λ plans file is. memory_is_not_bad (c.in-Err.ensures.right plans file) is

pub returns-in-Err-clause-starved : goal.returns-in-Err-clause-starved
returns-in-Err-clause-starved c = λ is. c.in-Err.ensures.starved (file_starved c.in-Err.ensures.refused is)
