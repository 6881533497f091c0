-- The entry that is found is the first of its name.
use Rattle.std.proofs.Common.{◌<◌, ap, length, map, sym, ◌∙◌, arith}
use Rattle.std.proofs.lemmas.Grind.{common_steps}
use Rattle.byte_io.specs.Sources.{source_of}
use Rattle.byte_io.proofs.SourceLemmas.{first-at}
use Rattle.byte_io.proofs.borrowed_files.take_first.Goals as goal

pub returns-then-eq-clause-value : goal.returns-then-eq-clause-value
returns-then-eq-clause-value g c =
    let inside : c.loop-place.place < length c.loop-place.entries.items = grind (arith, common_steps, ap length c.loop-place.invariant.same) in
    first-at (λ e. (e.0.now, e.1)) c.args.name.now c.loop-place.entries.items c.loop-place.place inside c.index.result.now c.remove.result c.index.ensures c.remove.ensures.value (sym c.if-eq.ensures) c.loop-place.invariant.first
    ∙ ap (λ xs. source_of c.args.name.now (map (λ e. (e.0.now, e.1)) xs)) c.loop-place.invariant.same
