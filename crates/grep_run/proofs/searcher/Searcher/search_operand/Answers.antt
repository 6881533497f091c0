-- Facts on the content that was searched hold of the opener's known source.
use Rattle.std.proofs.Common.{◌≡◌, subst}
use Rattle.byte_io.specs.Sources.{AreShort, after, ask_of, taken_by}
use Rattle.byte_io.specs.Devices.{IfKnown}
use Rattle.grep_run.specs.Requests.{test_of}
use Rattle.grep_run.specs.Searching.{Searches}
use Rattle.grep_run.specs.Writers.{writer}
use Rattle.byte_io.proofs.OpenerLemmas.{missing, opened}
use Rattle.grep_run.proofs.searcher.Searcher.search_operand.Goals as goal

pub returns-in-Ok-clause-answer : goal.returns-in-Ok-clause-answer
returns-in-Ok-clause-answer g c =
    let w = writer g.W.ByteOut.written g.W.ByteOut.has_failed in
    let e = writer g.E.ByteOut.written g.E.ByteOut.has_failed in
    let r = c.args.self.now.request in
    let ask = ask_of c.args.operand.now in
    subst (λ name. IfKnown (g.O.Opener.sources c.args.opener.now) (g.O.Opener.sources c.open_operand.new.opener) (λ s left. AreShort s
    → (left ≡ after ask s) × Searches r.options.now (test_of r) name (taken_by ask s) c.search_input.result (w c.args.out.now) (w c.search_input.new.out) (e c.args.err.now) (e c.search_input.new.err)))
    c.shown_name-name.ensures
    (opened _ c.in-Ok.input _ _ ask (λ source. Searches r.options.now (test_of r) c.shown_name-name.result.now source c.search_input.result (w c.args.out.now) (w c.search_input.new.out) (e c.args.err.now) (e c.search_input.new.err))
    c.in-Ok.ensures.takes c.in-Ok.ensures.gives c.search_input.ensures.answer)

pub returns-in-Err-clause-answer : goal.returns-in-Err-clause-answer
returns-in-Err-clause-answer g c =
    let w = writer g.W.ByteOut.written g.W.ByteOut.has_failed in
    let e = writer g.E.ByteOut.written g.E.ByteOut.has_failed in
    let r = c.args.self.now.request in
    let ask = ask_of c.args.operand.now in
    subst (λ name. IfKnown (g.O.Opener.sources c.args.opener.now) (g.O.Opener.sources c.open_operand.new.opener) (λ s left. AreShort s
    → (left ≡ after ask s) × Searches r.options.now (test_of r) name (taken_by ask s) c.pass_over.result (w c.args.out.now) (w c.args.out.now) (e c.args.err.now) (e c.pass_over.new.err)))
    c.shown_name-name.ensures
    (missing _ c.in-Err.field-0 _ _ ask (λ source. Searches r.options.now (test_of r) c.shown_name-name.result.now source c.pass_over.result (w c.args.out.now) (w c.args.out.now) (e c.args.err.now) (e c.pass_over.new.err))
    c.in-Err.ensures.takes c.in-Err.ensures.gives (c.pass_over.ensures.answer (w c.args.out.now)))
