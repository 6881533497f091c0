-- The first literal is no longer than the others.
use Rattle.std.proofs.Common.{ℕ, ◌<◌, length, [], arith}
use Rattle.std.proofs.lemmas.List.{length-map}
use Rattle.lit_base.proofs.LengthLemmas.{length_at}
use Rattle.factor_search.proofs.widths.least_width.Goals as goal

pub returns : goal.returns
returns c =
    let texts = c.args.list.now.texts in
    let some : 0 < length texts = omega (arith, c.if-count-eq0.false, c.len-count.ensures.value) in
    let nonempty = c.normal_law.ensures.nonempty 0 [] some in
    record {
      some = omega (arith, nonempty, length_at texts 0 0 some, c.get.ensures.len, c.min.ensures);
      least = λ place inside.
          let longer = c.len-count.ensures.rising 0 place 0 (omega arith) (omega (arith, inside, length-map texts (length {A = ℕ}))) in
          omega (arith, longer, length_at texts place 0 inside, c.get.ensures.len, c.min.ensures);
    }
