use Rattle.std.proofs.Common.{◌^◌, map}
use Rattle.lit_cert.proofs.Splits.{ReadsTo}
use Rattle.lit_cert.proofs.parsing.numbers_of.Given as goal

abbrev pub invariant-loop-word : goal.invariant-loop-word
invariant-loop-word l = ReadsTo (map (λ w. w.now) l.yielded) l.numbers.items l.most (2 ^ 64)
