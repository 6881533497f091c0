-- Each turn takes one literal from the rest to the group, or passes it over.
use Rattle.std.proofs.Common.{◌≡◌, ◌+◌, ◌<◌, ◌≤◌, ◌∙◌, min, length, arith}
use Rattle.std.proofs.lemmas.List.{length-map}
use Rattle.lit_base.specs.Literals.{lengths}
use Rattle.lit_base.specs.Costs.{group_cost}
use Rattle.lit_base.specs.Assignments.{bucket}
use Rattle.lit_base.proofs.BucketLemmas.{joined_own, joined_other}
use Rattle.lit_base.proofs.costs.bucket_cost.Goals as goal
use Rattle.lit_base.proofs.costs.bucket_cost.Goals.{then-own-number, else-own-number}

pub loop-place-preserved : goal.loop-place-preserved
loop-place-preserved c =
    let ls = lengths c.args.list.now in
    let ns = c.args.numbers.now in
    let so = c.loop-place in
    let whole = group_cost (bucket c.args.number ls ns) in
    let within : so.place < length ls = omega (arith, length-map c.args.list.now.texts length, c.requires) in
    elim c.if-own-number.branch [
      | then-own-number w ↦
          let first : so.count ≡ 0 → length w.get.result.now ≤ so.shortest = λ none. omega (arith, so.invariant.2 none, w.get.type_inv.0) in
          let more = joined_own c.args.number ls ns so.place so.count so.shortest (length w.get.result.now) whole within c.loop-place-test.true w.if-own-number.true w.get.ensures.len first so.invariant.0 in
          let count : c.if-own-number.count ≡ so.count + 1 = w.count-is in
          let shortest : c.if-own-number.shortest ≡ min so.shortest (length w.get.result.now) = w.shortest-is ∙ w.min-shortest.ensures in
          (rw (count, shortest) more, omega (arith, so.invariant.1, w.get.ensures.nonempty), λ none. absurd (omega (arith, none)), omega (arith, so.invariant.3))
      | else-own-number w ↦
          let more = joined_other c.args.number ls ns so.place so.count so.shortest whole within c.loop-place-test.true w.if-own-number.false so.invariant.0 in
          (rw (w.count-is, w.shortest-is) more, omega (arith, so.invariant.1), λ none. w.shortest-is ∙ so.invariant.2 (omega arith), omega (arith, so.invariant.3))
    ]
