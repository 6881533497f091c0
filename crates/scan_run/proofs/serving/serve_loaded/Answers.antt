-- The session is a new one.
use Rattle.std.proofs.Common.{[], All, subst, sym}
use Rattle.plan_store.specs.Tickets.{IsOf}
use Rattle.scan_serve.specs.Serving.{EndsAs}
use Rattle.scan_core.specs.Sessions.{Serving}
use Rattle.scan_run.specs.Beside.{IsEventBeside}
use Rattle.scan_run.proofs.serving.serve_loaded.Goals as goal

pub serve_beside-ended-requires : goal.serve_beside-ended-requires
serve_beside-ended-requires g c = subst (λ (s : Serving). All (IsOf s.store) c.args.loaded.tickets.now) (sym c.new-session.ensures) c.args.loaded.here

pub returns-clause-ends : goal.returns-clause-ends
returns-clause-ends g c =
    (c.serve_beside-ended.result.1, subst (λ (s : Serving). EndsAs (IsEventBeside c.args.loaded.tickets.now) s c.serve_beside-ended.result.1 (g.I.ByteIn.coming c.args.input.now) (g.I.ByteIn.coming c.serve_beside-ended.new.input) (g.O.ByteOut.written c.args.out.now) (g.O.ByteOut.written c.serve_beside-ended.new.out) [] c.serve_beside-ended.result.0) c.new-session.ensures c.serve_beside-ended.ensures.ends)
