-- After the text written stands the message on want of memory.
use Rattle.grep_run.specs.Writers.{writer}
use Rattle.grep_run.proofs.AnswerLemmas.{ends-starved}
use Rattle.grep_run.proofs.running.run.Goals as goal

pub returns-in-Err-OutOfMemory-clause-ends : goal.returns-in-Err-OutOfMemory-clause-ends
returns-in-Err-OutOfMemory-clause-ends g c =
    ends-starved c.args.options.now _ _ c.in-Err-OutOfMemory.field-0 c.say_out_of_memory.result _ _ _ (writer g.E.ByteOut.written g.E.ByteOut.has_failed c.answer.new.err) _ c.in-Err-OutOfMemory.field-0-is
    c.in-Err-OutOfMemory.ensures.answer c.in-Err-OutOfMemory.ensures.flag c.say_out_of_memory.ensures.ok c.say_out_of_memory.ensures.err c.say_out_of_memory.ensures.fault c.say_out_of_memory.ensures.flag
