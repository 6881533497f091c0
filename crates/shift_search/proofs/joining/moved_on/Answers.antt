-- Lane by lane.
use Rattle.std.proofs.Common.{◌*◌, ◌%◌, ◌^◌, get_or, replicate, ap, ◌∙◌, arith}
use Rattle.std.proofs.lemmas.List.{get_or-replicate}
use Rattle.std.proofs.lemmas.Simd.{get_or-zip2}
use Rattle.shift_search.proofs.joining.moved_on.Goals as goal

pub returns : goal.returns
returns c i below =
    let words = c.args.words in
    let count = c.args.count in
    get_or-zip2 (λ a b. a * 2 ^ b % 2 ^ 64) words (replicate 4 count) i 0 0 0 (omega (arith, below, c.fits-words.0)) (omega (arith, below))
    ∙ ap (λ n. get_or words i 0 * 2 ^ n % 2 ^ 64) (get_or-replicate 4 i count 0 below)
