-- There was no memory for a store, or it was served with the plans of the files, or a file was not loaded.
use Rattle.std.proofs.Common.{[], All, refl, subst, sym, arith}
use Rattle.std.proofs.KnownBytes.{Appends-nil}
use Rattle.plan_store.specs.Tickets.{IsOf}
use Rattle.scan_run.specs.LoadingFiles.{state}
use Rattle.scan_run.proofs.FilesLemmas.{each-here}
use Rattle.scand.specs.Commands.{Served, Starved, Unplanned}
use Rattle.scand.proofs.command.run.Goals as goal

pub returns-in_default-clause-runs : goal.returns-in_default-clause-runs
returns-in_default-clause-runs g c = Starved c.refuse.ensures.status refl refl (Appends-nil (g.O.ByteOut.written c.args.out.now)) c.refuse.ensures.said

pub invariant_of-loaded : goal.invariant_of-loaded
invariant_of-loaded g c = record {
  here = subst (All (IsOf c.in-Ok.store)) (sym c.as_slice.ensures.value)
      (each-here c.in-Ok.store _ (state (g.F.Opener.sources c.args.files.now) [] (g.E.ByteOut.written c.args.err.now)) _ (λ k d less. absurd (omega (arith, less)))
      (rw (c.deref.ensures.value, c.new-tickets.ensures.items) at c.in-Ok-load_files.ensures.ok));
}

pub returns-in-Ok-load_files-clause-runs : goal.returns-in-Ok-load_files-clause-runs
returns-in-Ok-load_files-clause-runs g c =
    Served c.in-Ok.store c.load_files.new.tickets.items (g.E.ByteOut.written c.load_files.new.err) (rw (c.deref.ensures.value, c.new-tickets.ensures.items) at c.in-Ok-load_files.ensures.ok)
    (rw c.as_slice.ensures.value at c.serve_over.ensures.serves)

pub returns-clause-runs : goal.returns-clause-runs
returns-clause-runs g c =
    Unplanned c.in-Ok.store c.load_files.new.tickets.items c.in-Err.field-0 refl refl
    (Appends-nil (g.O.ByteOut.written c.args.out.now)) (rw (c.deref.ensures.value, c.new-tickets.ensures.items) at c.in-Err.ensures.stops)
