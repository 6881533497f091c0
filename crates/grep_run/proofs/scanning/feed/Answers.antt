-- Picker and block stand after one more piece.
use Rattle.std.proofs.lemmas.Result.{err_from_is_err_and}
use Rattle.grep_run.proofs.ScanLemmas.{fed-cut, fed-halted, fed-on, fed-starved, feeds-as, stands-tuned}
use Rattle.grep_run.proofs.scanning.feed.Goals as goal

pub returns-in_err-write-in-Ok-More-clause-answer : goal.returns-in_err-write-in-Ok-More-clause-answer
returns-in_err-write-in-Ok-More-clause-answer g c =
    let p = err_from_is_err_and c.from_residual.result c.from_residual.ensures.1 in
    rw p.1 (λ o test name text before s.
    let t = stands-tuned c.tune_if.ensures s in
    fed-cut c.args.piece.now c.feed.new.self c.feed.new.sink _ t _ (feeds-as c.in-Ok-More.field-0-is (c.in-Ok-More.ensures.running t.fed.state)) c.in_err-write-in-Ok-More.ensures.err)

pub returns-in_ok-write-in-Ok-More-clause-answer : goal.returns-in_ok-write-in-Ok-More-clause-answer
returns-in_ok-write-in-Ok-More-clause-answer g c = λ o test name text before s.
    let t = stands-tuned c.tune_if.ensures s in
    fed-on c.args.piece.now c.feed.new.self c.feed.new.sink _ t c.write.new.self _ (feeds-as c.in-Ok-More.field-0-is (c.in-Ok-More.ensures.running t.fed.state)) c.in_ok-write-in-Ok-More.ensures.ok c.in_ok-write-in-Ok-More.ensures.empty c.in_ok-write-in-Ok-More.ensures.same

pub returns-in-Ok-Stop-clause-answer : goal.returns-in-Ok-Stop-clause-answer
returns-in-Ok-Stop-clause-answer g c = λ o test name text before s.
    let t = stands-tuned c.tune_if.ensures s in
    fed-halted c.args.piece.now c.feed.new.self c.feed.new.sink _ t (feeds-as c.in-Ok-Stop.field-0-is (c.in-Ok-Stop.ensures.running t.fed.state))

pub returns-in-Err-clause-answer : goal.returns-in-Err-clause-answer
returns-in-Err-clause-answer g c = λ o test name text before s.
    fed-starved c.args.piece.now c.feed.new.self c.feed.new.sink _ (stands-tuned c.tune_if.ensures s)
