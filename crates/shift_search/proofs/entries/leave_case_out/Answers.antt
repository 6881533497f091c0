-- An entry is copied from its own place or a later one, which is not yet written.
use Rattle.std.proofs.Common.{◌≡◌, ◌<◌, bit_or, slice_index, inl, inr, sym, ap, ◌∙◌, arith, get_or-set_other, get_or-set_same}
use Rattle.std.proofs.lemmas.Bool.{cases_lt}
use Rattle.std.proofs.lemmas.Grind.{get_or_default_zero}
use Rattle.std.proofs.lemmas.Nat.{le_or_l, or_lt}
use Rattle.std.specs.Int.Bits.{or_zero_r}
use Rattle.shift_search.proofs.entries.leave_case_out.Goals as goal

pub loop-number-preserved : goal.loop-number-preserved
loop-number-preserved c =
    let items = c.loop-number.entries.items in
    let number = c.loop-number.number in
    let case = c.args.case_bits in
    let taken = c.index.result.now in
    let before = c.loop-number.invariant in
    let small : number < 65536 = c.loop-number-test.true in
    let further : bit_or number case < 65536 = or_lt 16 number case small c.requires.small in
    let read : taken ≡ slice_index c.args.entries.now.items (bit_or number case) =
    c.index.ensures ∙ get_or_default_zero items (bit_or number case) taken (omega (arith, further, before.len)) ∙ before.kept (bit_or number case) (le_or_l number case) in
    record {
      len = before.len;
      alike = λ other upto. elim (cases_lt other number) [
        | inl sooner ↦ get_or-set_other items number other taken 0 (λ same. omega (arith, same, sooner)) ∙ before.alike other sooner
        | inr past ↦
            let here : other ≡ number = omega (arith, upto, past) in
            ap (slice_index _) here ∙ get_or-set_same items number taken 0 (omega (arith, small, before.len)) ∙ read ∙ ap (λ n. slice_index c.args.entries.now.items (bit_or n case)) (sym here)
      ];
      kept = λ other past. get_or-set_other items number other taken 0 (λ same. omega (arith, same, past)) ∙ before.kept other (omega (arith, past));
    }

pub returns-else-case_bits-ne0-clause-alike : goal.returns-else-case_bits-ne0-clause-alike
returns-else-case_bits-ne0-clause-alike c = λ number small.
    let none : c.args.case_bits ≡ 0 = omega (arith, c.if-case_bits-ne0.false) in
    ap (slice_index c.args.entries.now.items) (sym (ap (bit_or number) none ∙ or_zero_r number))
