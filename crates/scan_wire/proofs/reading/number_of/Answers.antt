use Rattle.std.proofs.Common.{◌≡◌, length, ap, arith, rules}
use Rattle.std.proofs.lemmas.Bool.{eqb-false}
use Rattle.std.proofs.lemmas.List.{length-append}
use Rattle.scan_wire.specs.Numbers.{u64_text}
use Rattle.scan_wire.proofs.NumberLemmas.{length-u64_text}
use Rattle.scan_wire.proofs.reading.number_of.Goals as goal

pub returns-in_err-number-clause-none : goal.returns-in_err-number-clause-none
returns-in_err-number-clause-none c = rw c.from_residual.ensures (λ number e. omega (arith, ap length e, length-u64_text number, c.in_err-number.ensures.none))

pub returns-else-is_empty-clause-none : goal.returns-else-is_empty-clause-none
returns-else-is_empty-clause-none c = λ number e.
    let short : length c.in_ok-number.rest.now ≡ 0 = omega (arith, ap length e, ap length c.in_ok-number.ensures.found.1, length-append (u64_text c.in_ok-number.number) c.in_ok-number.rest.now, length-u64_text number, length-u64_text c.in_ok-number.number) in
    eqb-false _ _ (search rules) short
