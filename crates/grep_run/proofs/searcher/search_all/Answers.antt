-- Standard input alone, or the operands.
use Rattle.std.proofs.Common.{◌≡◌, ◌<◌, [], map, string_bytes, length, eqb, ◌∙◌, ap, subst, sym}
use Rattle.byte_io.specs.Sources.{Standard, ask_of}
use Rattle.std.proofs.lemmas.Result.{err_from_is_err_and}
use Rattle.byte_io.specs.Devices.{IfKnown}
use Rattle.grep_run.specs.Options.{asks_or_standard, searched_of}
use Rattle.grep_run.specs.Requests.{test_of}
use Rattle.grep_run.specs.Searching.{SearchesAsks}
use Rattle.grep_run.specs.Writers.{writer}
use Rattle.grep_run.proofs.AllLemmas.{search-alone, search-none, asks-some, map-none, map-some}
use Rattle.grep_run.proofs.SearchLemmas.{at-request}
use Rattle.grep_run.proofs.searcher.search_all.Goals as goal

pub returns-in_err-searcher-clause-answer : goal.returns-in_err-searcher-clause-answer
returns-in_err-searcher-clause-answer g c =
    let p = err_from_is_err_and c.from_residual.result c.from_residual.ensures.1 in
    rw p.1 (search-none c.args.request.options.now (test_of c.args.request) (searched_of c.args.request.options.now) _ _ _)

pub returns-then-is_empty-clause-answer : goal.returns-then-is_empty-clause-answer
returns-then-is_empty-clause-answer g c =
    let w = writer g.W.ByteOut.written g.W.ByteOut.has_failed in
    let e = writer g.E.ByteOut.written g.E.ByteOut.has_failed in
    let r = c.args.request in
    let none : map string_bytes r.options.now.operands.items ≡ [] = map-none string_bytes r.options.now.operands.items (c.if-is_empty.ensures ∙ ap (λ xs. eqb (length xs) 0) c.as_slice.ensures.value) in
    subst (λ names. IfKnown (g.O.Opener.sources c.args.opener.now) (g.O.Opener.sources c.search_operand.new.opener)
    (SearchesAsks r (asks_or_standard names) c.search_operand.result (w c.args.out.now) (w c.search_operand.new.out) (e c.args.err.now) (e c.search_operand.new.err))) (sym none)
    (search-alone r.options.now (test_of r) Standard _ _ c.search_operand.result _ _ _ _
    (at-request (g.O.Opener.sources c.args.opener.now) (g.O.Opener.sources c.search_operand.new.opener) r c.in_ok-searcher.searcher.request Standard c.search_operand.result
    (w c.args.out.now) (w c.search_operand.new.out) (e c.args.err.now) (e c.search_operand.new.err) c.in_ok-searcher.ensures c.search_operand.ensures.answer))

pub returns-clause-answer : goal.returns-clause-answer
returns-clause-answer g c =
    let w = writer g.W.ByteOut.written g.W.ByteOut.has_failed in
    let e = writer g.E.ByteOut.written g.E.ByteOut.has_failed in
    let r = c.args.request in
    let some : 0 < length (map string_bytes r.options.now.operands.items) = map-some string_bytes r.options.now.operands.items (c.if-is_empty.ensures ∙ ap (λ xs. eqb (length xs) 0) c.as_slice.ensures.value) in
    subst (λ asks. IfKnown (g.O.Opener.sources c.args.opener.now) (g.O.Opener.sources c.search_operands.new.opener)
    (SearchesAsks r asks c.search_operands.result (w c.args.out.now) (w c.search_operands.new.out) (e c.args.err.now) (e c.search_operands.new.err))) (sym (asks-some (map string_bytes r.options.now.operands.items) some))
    (subst (λ q. IfKnown (g.O.Opener.sources c.args.opener.now) (g.O.Opener.sources c.search_operands.new.opener)
    (SearchesAsks q (map ask_of (map string_bytes q.options.now.operands.items)) c.search_operands.result (w c.args.out.now) (w c.search_operands.new.out) (e c.args.err.now) (e c.search_operands.new.err)))
    c.in_ok-searcher.ensures c.search_operands.ensures.answer)
