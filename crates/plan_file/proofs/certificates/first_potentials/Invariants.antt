use Rattle.std.proofs.Common.{◌≡◌, ◌-◌}
use Rattle.std.specs.Int.{w64}
use Rattle.plan_file.specs.Reading.{numbers_at}
use Rattle.plan_file.proofs.LoopLemmas.{continued}
use Rattle.plan_file.proofs.certificates.first_potentials.Given as goal

abbrev pub invariant-loop : goal.invariant-loop
invariant-loop l = continued l.potentials.items (numbers_at w64 (l.count - l.counter) l.rest) ≡ numbers_at w64 l.count l.bytes
