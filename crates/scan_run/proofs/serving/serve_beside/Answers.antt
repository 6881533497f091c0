-- The session returned is the session served.
use Rattle.std.proofs.Common.{◌∙◌, [], ap, subst, sym}
use Rattle.scan_serve.specs.Serving.{EndsAs}
use Rattle.scan_core.specs.Sessions.{Serving}
use Rattle.scan_run.specs.Beside.{Beside, IsEventBeside}
use Rattle.scan_run.proofs.SeenLemmas.{ends_alone, ends_beside, ends_store}
use Rattle.scan_run.proofs.serving.serve_beside.Goals as goal

pub returns-clause-ends : goal.returns-clause-ends
returns-clause-ends g c =
    subst (λ (s : Serving). EndsAs (IsEventBeside c.args.loaded.now) c.args.session s (g.I.ByteIn.coming c.args.input.now) (g.I.ByteIn.coming c.serve-ended.new.input) (g.O.ByteOut.written c.args.out.now) (g.O.ByteOut.written c.serve-ended.new.out) [] c.serve-ended.result)
    (sym (ap (λ (b : Beside). b.session) c.served.view_is))
    (ends_beside _ _ _ _ _ _ _ _ c.serve-ended.ensures.ends)

pub returns-clause-store : goal.returns-clause-store
returns-clause-store g c = λ written memory.
    ap (λ (b : Beside). b.session.store) c.served.view_is
    ∙ ends_store c.args.session _ _ _ _ _ _ _ (ends_alone _ _ _ _ _ _ _ _ _ (ends_beside _ _ _ _ _ _ _ _ c.serve-ended.ensures.ends)) written memory
