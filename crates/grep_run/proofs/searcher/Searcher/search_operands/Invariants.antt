use Rattle.std.proofs.Common.{◌≡◌, ◌||◌, map, string_bytes, drop}
use Rattle.byte_io.specs.Sources.{AreShort, ask_of}
use Rattle.byte_io.specs.Devices.{IfKnown}
use Rattle.grep_run.specs.Requests.{test_of}
use Rattle.grep_run.specs.Writers.{writer}
use Rattle.grep_run.proofs.SearchLemmas.{InputsSoFar}
use Rattle.grep_run.proofs.searcher.Searcher.search_operands.Given as goal

-- the operands so far are searched, and no write failed
abbrev pub invariant-loop-operand : goal.invariant-loop-operand
invariant-loop-operand g l = record {
  inputs : IfKnown (g.O.Opener.sources l.fn.opener) (g.O.Opener.sources l.opener) (λ s left. AreShort s
      → InputsSoFar l.fn.self.request.options.now (test_of l.fn.self.request) (map ask_of (map string_bytes l.fn.self.request.options.now.operands.items)) (map ask_of (map string_bytes (drop l.operand-index l.fn.self.request.options.now.operands.items))) s left l.all
      (writer g.W.ByteOut.written g.W.ByteOut.has_failed l.fn.out) (writer g.W.ByteOut.written g.W.ByteOut.has_failed l.out) (writer g.E.ByteOut.written g.E.ByteOut.has_failed l.fn.err) (writer g.E.ByteOut.written g.E.ByteOut.has_failed l.err));
  same : l.self.request ≡ l.fn.self.request;
  flag : (g.W.ByteOut.has_failed l.out || g.E.ByteOut.has_failed l.err) ≡ (g.W.ByteOut.has_failed l.fn.out || g.E.ByteOut.has_failed l.fn.err);
}
