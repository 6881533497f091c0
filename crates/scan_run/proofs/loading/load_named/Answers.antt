-- A file that was opened, and a file that was not.
use Rattle.scan_run.specs.Loading.{IsUnopened}
use Rattle.scan_run.proofs.LoadLemmas.{missing-loads, named-loaded}
use Rattle.scan_run.proofs.loading.load_named.Goals as goal

pub returns-in-Ok-clause-loads : goal.returns-in-Ok-clause-loads
returns-in-Ok-clause-loads g c =
    let loads = c.load_tickets.ensures.loads in
    record {
      coming_old = g.F.Input.ByteIn.coming c.in-Ok.input;
      coming_new = g.F.Input.ByteIn.coming c.load_tickets.new.input;
      loads = loads;
      source = named-loaded g.F.Input.ByteIn.coming (g.F.Opener.sources c.args.files.now) c.args.name.now c.in-Ok.input
          (IsUnopened c.args.tickets.now.items c.load_tickets.new.tickets.items loads.answer c.load_tickets.result)
          c.load_tickets.result c.in-Ok.ensures.gives c.load_tickets.ensures.judged;
    }

pub returns-in-Err-clause-loads : goal.returns-in-Err-clause-loads
returns-in-Err-clause-loads g c =
    missing-loads g.F.Input.ByteIn.coming c.args.store.now c.args.name.now (g.F.Opener.sources c.args.files.now) c.args.tickets.now.items
    (g.E.ByteOut.written c.args.err.now) (g.E.ByteOut.written c.refused.new.err) c.in-Err.field-0 c.refused.result c.in-Err.ensures.gives c.refused.ensures.said
