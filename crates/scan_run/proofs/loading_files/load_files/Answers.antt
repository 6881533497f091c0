-- A file that is loaded is one more; one that is not is the last.
use Rattle.std.proofs.Common.{◌∙◌, ◌+◌, ◌<◌, ◌++◌, ◌∷◌, [], List, Global, length, take, drop, sym, ap, arith, rules}
use Rattle.std.specs.declared.string.String.{String}
use Rattle.std.proofs.lemmas.List.{drop_more, take-append-drop, take_more}
use Rattle.std.proofs.lemmas.Result.{err_from_is_err_and}
use Rattle.scan_run.specs.LoadingFiles.{state}
use Rattle.scan_run.proofs.FilesLemmas.{each-more, stops-at}
use Rattle.scan_run.proofs.loading_files.load_files.Goals as goal

pub loop-name-preserved : goal.loop-name-preserved
loop-name-preserved g c =
    let names = c.args.names.now in
    let i = c.loop-name.name-index in
    let item = c.name-item.result in
    let inside : i < length names = omega arith in
    record {
      loaded = each-more c.args.store.now (take i names) (take (i + 1) names) item c.as_str.result.now
          (state (g.F.Opener.sources c.args.files.now) c.args.tickets.now.items (g.E.ByteOut.written c.args.err.now))
          (state (g.F.Opener.sources c.loop-name.files) c.loop-name.tickets.items (g.E.ByteOut.written c.loop-name.err))
          (state (g.F.Opener.sources c.load_named.new.files) c.load_named.new.tickets.items (g.E.ByteOut.written c.load_named.new.err))
          (take_more names i item inside ∙ ap (λ (x : String Global). take i names ++ x ∷ []) (sym c.name-item.is)) c.as_str.ensures.value
          c.loop-name.invariant.loaded record { takes = c.in_ok-load_named.ensures.takes; loads = c.in_ok-load_named.ensures.loads };
      flag = search rules;
    }

pub returns-in_err-load_named-clause-stops : goal.returns-in_err-load_named-clause-stops
returns-in_err-load_named-clause-stops g c =
    let names = c.args.names.now in
    let i = c.loop-name.name-index in
    let item = c.name-item.result in
    let inside : i < length names = omega arith in
    let p = err_from_is_err_and c.from_residual.result c.from_residual.ensures.1 in
    rw (p.1, p.2) (stops-at c.args.store.now names (take i names) (drop (i + 1) names) item c.as_str.result.now
    (state (g.F.Opener.sources c.args.files.now) c.args.tickets.now.items (g.E.ByteOut.written c.args.err.now))
    (state (g.F.Opener.sources c.loop-name.files) c.loop-name.tickets.items (g.E.ByteOut.written c.loop-name.err))
    (state (g.F.Opener.sources c.load_named.new.files) c.load_named.new.tickets.items (g.E.ByteOut.written c.load_named.new.err))
    c.in_err-load_named.field-0.0
    (sym (take-append-drop i names) ∙ ap (λ (xs : List (String Global)). take i names ++ xs) (drop_more names i item inside) ∙ ap (λ (x : String Global). take i names ++ x ∷ drop (i + 1) names) (sym c.name-item.is))
    c.as_str.ensures.value c.loop-name.invariant.loaded record { takes = c.in_err-load_named.ensures.takes; loads = c.in_err-load_named.ensures.loads })
