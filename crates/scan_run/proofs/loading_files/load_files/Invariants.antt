use Rattle.std.proofs.Common.{◌≡◌, take}
use Rattle.scan_run.specs.LoadingFiles.{LoadsEach, names_of, state}
use Rattle.scan_run.proofs.loading_files.load_files.Given as goal

-- the files so far were loaded, and no write failed
abbrev pub invariant-loop-name : goal.invariant-loop-name
invariant-loop-name g l = record {
  loaded : LoadsEach l.store (names_of (take l.name-index l.names))
      (state (g.F.Opener.sources l.fn.files) l.fn.tickets.items (g.E.ByteOut.written l.fn.err))
      (state (g.F.Opener.sources l.files) l.tickets.items (g.E.ByteOut.written l.err));
  flag : g.E.ByteOut.has_failed l.err ≡ g.E.ByteOut.has_failed l.fn.err;
}
