-- An operand more is searched; under -q a selected line makes it the last, and where a write fails it is.
use Rattle.std.proofs.Common.{◌≡◌, ◌&&◌, true, false, map, string_bytes, rules, arith, Ok, Err, ◌∙◌}
use Rattle.byte_io.specs.Sources.{ask_of}
use Rattle.std.proofs.lemmas.Result.{err_from_is_err_and}
use Rattle.grep_run.specs.Requests.{test_of}
use Rattle.grep_run.specs.Writers.{writer}
use Rattle.grep_run.proofs.SearchLemmas.{at-request, inputs-cut, inputs-last, inputs-more, inputs-none, operands-at}
use Rattle.grep_run.proofs.searcher.Searcher.search_operands.Goals as goal

pub loop-operand-init : goal.loop-operand-init
loop-operand-init g c = record {
  inputs = inputs-none c.args.self.now.request.options.now (test_of c.args.self.now.request) _ _ c.nothing-all.result _ _ c.nothing-all.ensures.selected c.nothing-all.ensures.error;
  same = search rules;
  flag = search rules;
}

pub returns-in_err-one-clause-answer : goal.returns-in_err-one-clause-answer
returns-in_err-one-clause-answer g c =
    let p = err_from_is_err_and c.from_residual.result c.from_residual.ensures.1 in
    let w = writer g.W.ByteOut.written g.W.ByteOut.has_failed in
    let e = writer g.E.ByteOut.written g.E.ByteOut.has_failed in
    let r = c.args.self.now.request in
    let operands = r.options.now.operands.items in
    rw p.1 (inputs-cut r.options.now (test_of r) _ _ _ (map ask_of (map string_bytes operands)) _ _ (ask_of c.as_str.result.now) c.loop-operand.all (w c.args.out.now) (w c.loop-operand.out) (w c.search_operand.new.out) (e c.args.err.now) (e c.loop-operand.err) (e c.search_operand.new.err)
    (operands-at operands c.as_slice-operand-items.result.now c.loop-operand.operand-index c.operand-item.result c.as_str.result.now c.as_slice-operand-items.ensures.value (omega arith) c.operand-item.is c.as_str.ensures.value) c.loop-operand.invariant.inputs
    (at-request (g.O.Opener.sources c.loop-operand.opener) (g.O.Opener.sources c.search_operand.new.opener) r c.loop-operand.self.request (ask_of c.as_str.result.now) (Err c.in_err-one.field-0.0) (w c.loop-operand.out) (w c.search_operand.new.out) (e c.loop-operand.err) (e c.search_operand.new.err) c.loop-operand.invariant.same c.in_err-one.ensures.answer))

pub returns-then-one-clause-answer : goal.returns-then-one-clause-answer
returns-then-one-clause-answer g c =
    let w = writer g.W.ByteOut.written g.W.ByteOut.has_failed in
    let e = writer g.E.ByteOut.written g.E.ByteOut.has_failed in
    let r = c.args.self.now.request in
    let operands = r.options.now.operands.items in
    let ends : (r.options.now.quiet && c.in_ok-one.one.is_selected) ≡ true = search rules in
    inputs-last r.options.now (test_of r) _ _ _ (map ask_of (map string_bytes operands)) _ _ (ask_of c.as_str.result.now) c.loop-operand.all (w c.args.out.now) (w c.loop-operand.out) (w c.search_operand.new.out) (e c.args.err.now) (e c.loop-operand.err) (e c.search_operand.new.err)
    (operands-at operands c.as_slice-operand-items.result.now c.loop-operand.operand-index c.operand-item.result c.as_str.result.now c.as_slice-operand-items.ensures.value (omega arith) c.operand-item.is c.as_str.ensures.value) c.loop-operand.invariant.inputs
    c.in_ok-one.one c.with-all.result (at-request (g.O.Opener.sources c.loop-operand.opener) (g.O.Opener.sources c.search_operand.new.opener) r c.loop-operand.self.request (ask_of c.as_str.result.now) (Ok c.in_ok-one.one) (w c.loop-operand.out) (w c.search_operand.new.out) (e c.loop-operand.err) (e c.search_operand.new.err) c.loop-operand.invariant.same c.in_ok-one.ensures.answer)
    ends c.with-all.ensures.selected c.with-all.ensures.error

pub loop-operand-preserved : goal.loop-operand-preserved
loop-operand-preserved g c =
    let w = writer g.W.ByteOut.written g.W.ByteOut.has_failed in
    let e = writer g.E.ByteOut.written g.E.ByteOut.has_failed in
    let r = c.args.self.now.request in
    let operands = r.options.now.operands.items in
    let goes : (r.options.now.quiet && c.in_ok-one.one.is_selected) ≡ false = search rules in
    record {
      inputs = inputs-more r.options.now (test_of r) _ _ _ (map ask_of (map string_bytes operands)) _ _ (ask_of c.as_str.result.now) c.loop-operand.all (w c.args.out.now) (w c.loop-operand.out) (w c.search_operand.new.out) (e c.args.err.now) (e c.loop-operand.err) (e c.search_operand.new.err)
          (operands-at operands c.as_slice-operand-items.result.now c.loop-operand.operand-index c.operand-item.result c.as_str.result.now c.as_slice-operand-items.ensures.value (omega arith) c.operand-item.is c.as_str.ensures.value) c.loop-operand.invariant.inputs
          c.in_ok-one.one c.with-all.result (at-request (g.O.Opener.sources c.loop-operand.opener) (g.O.Opener.sources c.search_operand.new.opener) r c.loop-operand.self.request (ask_of c.as_str.result.now) (Ok c.in_ok-one.one) (w c.loop-operand.out) (w c.search_operand.new.out) (e c.loop-operand.err) (e c.search_operand.new.err) c.loop-operand.invariant.same c.in_ok-one.ensures.answer)
          goes c.with-all.ensures.selected c.with-all.ensures.error;
      same = c.in_ok-one.ensures.same ∙ c.loop-operand.invariant.same;
      flag = search rules;
    }
