use Rattle.std.proofs.Common.{◌≡◌, ◌-◌, length}
use Rattle.std.specs.Int.{w16}
use Rattle.plan_file.specs.Reading.{numbers_at}
use Rattle.plan_file.proofs.LoopLemmas.{continued}
use Rattle.plan_file.proofs.certificates.first_ends.Given as goal

abbrev pub invariant-loop : goal.invariant-loop
invariant-loop l = record {
  number : length l.ends.items ≡ l.counter;
  left : continued l.ends.items (numbers_at w16 (l.count - l.counter) l.rest) ≡ numbers_at w16 l.count l.bytes;
}
