-- The block that was read, with its end and the message after it, and where one of them is cut.
use Rattle.std.proofs.Common.{ap}
use Rattle.std.specs.Prelude.{nat_lt}
use Rattle.std.proofs.lemmas.Result.{err_from_is_err_and}
use Rattle.grep_run.specs.Requests.{test_of}
use Rattle.grep_run.proofs.ScanLemmas.{begin-stands, finished-cut, message-cut, message-whole, search-cut}
use Rattle.grep_run.proofs.searcher.Searcher.search_input.Goals as goal

pub returns-in_err-end-clause-answer : goal.returns-in_err-end-clause-answer
returns-in_err-end-clause-answer g c =
    let p = err_from_is_err_and c.from_residual.result c.from_residual.ensures.1 in
    rw p.1 (λ d e short. search-cut c.args.self.now.request.options.now (test_of c.args.self.now.request) c.args.name.now d _ _ _
    (c.in_err-end.ensures.answer _ _ _ d _ (begin-stands _ c.picker_for-picker.ensures.fed c.picker_for-picker.ensures.numbers c.picker_for-picker.ensures.seen c.begin.ensures.options c.begin.ensures.name c.begin.ensures.count c.begin.ensures.text) e short))

pub returns-in_err-finish-clause-answer : goal.returns-in_err-finish-clause-answer
returns-in_err-finish-clause-answer g c =
    let p = err_from_is_err_and c.from_residual-in_err-finish.result c.from_residual-in_err-finish.ensures.1 in
    rw p.1 (λ d e short.
    let read = c.in_ok-end.ensures.answer _ _ _ d _ (begin-stands _ c.picker_for-picker.ensures.fed c.picker_for-picker.ensures.numbers c.picker_for-picker.ensures.seen c.begin.ensures.options c.begin.ensures.name c.begin.ensures.count c.begin.ensures.text) e short in
    finished-cut read _ _ c.in_err-finish.ensures.err)

pub returns-in_err-report-clause-answer : goal.returns-in_err-report-clause-answer
returns-in_err-report-clause-answer g c =
    let p = err_from_is_err_and c.from_residual-in_err-report.result c.from_residual-in_err-report.ensures.1 in
    rw p.1 (λ d e short.
    let read = c.in_ok-end.ensures.answer _ _ _ d _ (begin-stands _ c.picker_for-picker.ensures.fed c.picker_for-picker.ensures.numbers c.picker_for-picker.ensures.seen c.begin.ensures.options c.begin.ensures.name c.begin.ensures.count c.begin.ensures.text) e short in
    message-cut read _ (nat_lt 0 c.finish.new.self.count) c.is_fault.result _ _ c.in_ok-finish.ensures.ok (ap (nat_lt 0) c.in_ok-finish.ensures.count) c.is_fault.ensures c.in_err-report.ensures.err c.in_err-report.ensures.starved)

pub returns-clause-answer : goal.returns-clause-answer
returns-clause-answer g c = λ d e short.
    let read = c.in_ok-end.ensures.answer _ _ _ d _ (begin-stands _ c.picker_for-picker.ensures.fed c.picker_for-picker.ensures.numbers c.picker_for-picker.ensures.seen c.begin.ensures.options c.begin.ensures.name c.begin.ensures.count c.begin.ensures.text) e short in
    message-whole read _ (nat_lt 0 c.finish.new.self.count) c.is_fault.result _ _ c.in_ok-finish.ensures.ok (ap (nat_lt 0) c.in_ok-finish.ensures.count) c.is_fault.ensures c.in_ok-report.ensures.ok

-- the finder that is handed back is one by the same plan, and the memory is as long as before
pub invariant_of-self-2-clause-room : goal.invariant_of-self-2-clause-room
invariant_of-self-2-clause-room g c = c.args.self.now.room
