use Rattle.std.proofs.Common.{◌∙◌, length, ap, sym, arith, rules}
use Rattle.std.proofs.lemmas.Bool.{eqb-false, eqb-true}
use Rattle.std.proofs.lemmas.List.{nil_from_length}
use Rattle.scan_serve.proofs.ServeLemmas.{ends_clean, ends_failed, ends_truncated}
use Rattle.scan_serve.proofs.serving.turn.Goals as goal

pub returns-in_default-clause-ends : goal.returns-in_default-clause-ends
returns-in_default-clause-ends g c = ends_failed g.S.Answer.step c.args.session.now (g.R.ByteIn.coming c.args.input.now) (g.R.ByteIn.coming c.read_from.new.input) (g.W.ByteOut.written c.args.out.now) c.args.window.now c.read_from.new.self c.in_default.ensures.bytes c.in_default.ensures.err c.requires.waits

pub returns-then-is_empty-clause-ends : goal.returns-then-is_empty-clause-ends
returns-then-is_empty-clause-ends g c =
    let none = nil_from_length c.bytes.result.now (eqb-true (length c.bytes.result.now) 0 (search rules)) in
    ends_clean g.S.Answer.step c.args.session.now (g.R.ByteIn.coming c.args.input.now) (g.R.ByteIn.coming c.read_from.new.input) (g.W.ByteOut.written c.args.out.now) c.args.window.now c.read_from.new.self c.in-Ok.ensures.bytes (c.in-Ok.ensures.end (cc)) (sym c.bytes.ensures.value ∙ none)

pub returns-else-is_empty-clause-ends : goal.returns-else-is_empty-clause-ends
returns-else-is_empty-clause-ends g c =
    ends_truncated g.S.Answer.step c.args.session.now (g.R.ByteIn.coming c.args.input.now) (g.R.ByteIn.coming c.read_from.new.input) (g.W.ByteOut.written c.args.out.now) c.args.window.now c.read_from.new.self c.in-Ok.ensures.bytes (c.in-Ok.ensures.end (cc)) (omega (arith, c.in-Ok.ensures.count, c.if-count-eq0.true)) c.requires.waits
    (λ e. eqb-false (length c.bytes.result.now) 0 (search rules) (ap length (c.bytes.ensures.value ∙ e)))
