-- A file that gives patterns is one more that is read; a file that gives none is the last.
use Rattle.std.proofs.Common.{map, string_bytes, arith}
use Rattle.std.proofs.lemmas.Result.{err_from_is_err_and}
use Rattle.grep_run.specs.Options.{asks_for}
use Rattle.grep_run.proofs.GatherLemmas.{asks-at, files-more, files-stop}
use Rattle.grep_run.proofs.patterns.add_files.Goals as goal

pub returns-in_err-add_file-clause-answer : goal.returns-in_err-add_file-clause-answer
returns-in_err-add_file-clause-answer g c =
    let p = err_from_is_err_and c.from_residual.result c.from_residual.ensures.1 in
    rw (p.1, p.2) (files-stop _ _ _ c.args.patterns.now c.loop-file.patterns c.as_str.result.now (asks_for (map string_bytes c.args.files.now)) c.in_err-add_file.field-0.0 (asks-at c.args.files.now c.loop-file.file-index c.file-item.result c.as_str.result.now (omega arith) c.file-item.is c.as_str.ensures.value) c.loop-file.invariant.files c.in_err-add_file.ensures.answer)

pub loop-file-preserved : goal.loop-file-preserved
loop-file-preserved g c =
    record {
      apart = λ all. c.in_ok-add_file.ensures.apart (c.loop-file.invariant.apart all);
      files = files-more _ _ _ c.args.patterns.now c.loop-file.patterns c.add_file.new.patterns c.as_str.result.now (asks_for (map string_bytes c.args.files.now)) (asks-at c.args.files.now c.loop-file.file-index c.file-item.result c.as_str.result.now (omega arith) c.file-item.is c.as_str.ensures.value) c.loop-file.invariant.files c.in_ok-add_file.ensures.answer;
    }
