use Rattle.std.proofs.Common.{◌∙◌, ℕ, List, subst}
use Rattle.byte_io.specs.Transfers.{AppendsPart}
use Rattle.scan_serve.proofs.SendLemmas.{less_failed}
use Rattle.scan_serve.proofs.outbox.Outbox.flush.Goals as goal

pub returns-in-Err-clause-err : goal.returns-in-Err-clause-err
returns-in-Err-clause-err g c =
    less_failed _ _ c.args.self.now (subst (λ (x : List ℕ). AppendsPart (g.W.ByteOut.written c.args.out.now) (g.W.ByteOut.written c.write_all.new.out) x) (c.deref.ensures.value ∙ c.self.view_is) c.in-Err.ensures.err)
