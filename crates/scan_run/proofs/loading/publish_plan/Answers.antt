-- No plan was published, or this one, and its line was written.
use Rattle.std.proofs.Common.{◌≡◌, [], ◌∷◌, ◌++◌, Err, rules}
use Rattle.plan_file.specs.declared.fault.Fault.TheVariants.{OutOfMemory}
use Rattle.scan_run.proofs.LoadLemmas.{published-not, published-reported, published-unsaid}
use Rattle.scan_run.proofs.loading.publish_plan.Goals as goal

pub returns-in_err-reserve-clause-prefix : goal.returns-in_err-reserve-clause-prefix
returns-in_err-reserve-clause-prefix g c =
    let e : c.from_residual.result ≡ Err OutOfMemory = search rules in
    rw (e, c.reserve.ensures.items) (published-not c.args.store.now c.args.plan c.args.tickets.now.items (g.E.ByteOut.written c.args.err.now))

pub returns-in_default-clause-prefix : goal.returns-in_default-clause-prefix
returns-in_default-clause-prefix g c =
    rw c.reserve.ensures.items (published-not c.args.store.now c.args.plan c.args.tickets.now.items (g.E.ByteOut.written c.args.err.now))

pub returns-in-Ok-say_number-clause-prefix : goal.returns-in-Ok-say_number-clause-prefix
returns-in-Ok-say_number-clause-prefix g c =
    let grown : c.push_reserved.new.self.items ≡ c.args.tickets.now.items ++ c.in-Ok.ticket ∷ [] = search rules in
    rw grown (published-reported c.args.store.now c.in-Ok.ticket c.args.plan c.args.tickets.now.items (g.E.ByteOut.written c.args.err.now) (g.E.ByteOut.written c.say_number.new.err)
    c.in-Ok.ensures.here c.in-Ok.ensures.plan (rw c.number-number.ensures at c.in-Ok-say_number.ensures.ok))

pub returns-in-Err-clause-prefix : goal.returns-in-Err-clause-prefix
returns-in-Err-clause-prefix g c =
    let grown : c.push_reserved.new.self.items ≡ c.args.tickets.now.items ++ c.in-Ok.ticket ∷ [] = search rules in
    rw grown (published-unsaid c.args.store.now c.in-Ok.ticket c.args.plan c.args.tickets.now.items (g.E.ByteOut.written c.args.err.now) (g.E.ByteOut.written c.say_number.new.err)
    c.in-Ok.ensures.here c.in-Ok.ensures.plan (rw c.number-number.ensures at c.in-Err.ensures.err))
