-- In the end each literal has its entry.
use Rattle.std.proofs.Common.{◌≡◌, ◌<◌, [], length, subst, arith, below_more}
use Rattle.std.proofs.lemmas.List.{get_or_read}
use Rattle.lit_base.specs.Literals.{literal_at}
use Rattle.line_pick.specs.WholeLines.{HasStart}
use Rattle.line_pick.proofs.whole_lines.WholeLines.new.Goals as goal

pub loop-place-preserved : goal.loop-place-preserved
loop-place-preserved c =
    let inside : c.loop-place.place < length c.args.list.now.texts = omega (arith, c.loop-place-test.true) in
    let here : c.get.result.now ≡ literal_at c.args.list.now c.loop-place.place = get_or_read c.args.list.now.texts c.loop-place.place c.get.result.now inside c.get.ensures.value [] in
    below_more _ _ (λ place low. c.note.ensures.kept _ (c.loop-place.invariant place low)) (subst (HasStart c.note.new.starts) here c.note.ensures.here)

pub invariant_of-result : goal.invariant_of-result
invariant_of-result c = λ place inside. c.loop-place.invariant place (omega (arith, inside, c.loop-place-test.false))
