use Rattle.std.proofs.Common.{◌^◌, map}
use Rattle.lit_base.specs.Profiles.{buckets}
use Rattle.lit_cert.proofs.Splits.{ReadsTo}
use Rattle.lit_cert.proofs.parsing.ends_of.Given as goal

abbrev pub invariant-loop-word : goal.invariant-loop-word
invariant-loop-word l = ReadsTo (map (λ w. w.now) l.yielded) l.ends.items (buckets l.profile) (2 ^ 16)
