-- A load reads the bytes in place.
use Rattle.std.proofs.Common.{◌≡◌, ◌+◌, ◌-◌, ap, take, drop, arith}
use Rattle.std.proofs.lemmas.Simd.{length-chunk}
use Rattle.text_lines.proofs.counting.load.Goals as goal

pub returns-clause-value : goal.returns-clause-value
returns-clause-value c =
    let size : 64 ≡ (c.args.at + 64) - c.args.at = omega arith in
    ap (λ n. take n (drop c.args.at c.args.text.now)) size

pub returns-clause-len : goal.returns-clause-len
returns-clause-len c = length-chunk c.args.at 64 c.args.text.now c.requires
