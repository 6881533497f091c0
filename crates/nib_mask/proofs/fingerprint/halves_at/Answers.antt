-- The half of the byte, and the half of its capital.
use Rattle.std.proofs.Common.{◌≡◌, ℕ, ◌+◌, ◌-◌, ◌||◌, ◌==◌, length, get_or, bit_or, refl, ap, ◌∙◌}
use Rattle.nib_mask.specs.FilterSet.{capital, half_of, has_half}
use Rattle.nib_mask.proofs.HalfLemmas.{has_half-long, sets-either, sets-same}
use Rattle.nib_mask.proofs.fingerprint.halves_at.Goals as goal

pub returns : goal.returns
returns c =
    let literal = c.args.literal.now in
    let byte : ℕ = get_or literal (length literal + c.args.position - 3) 0 in
    let own : c.half_of.result ≡ half_of c.args.half byte = c.half_of.ensures.value in
    let other : c.half_of-2.result ≡ half_of c.args.half (capital c.args.fold byte) = c.half_of-2.ensures.value ∙ ap (half_of c.args.half) c.capital.ensures in
    sets-same (bit_or c.bit_of.result c.bit_of-2.result)
    (λ value. (c.half_of.result == value) || (c.half_of-2.result == value))
    (λ value. has_half c.args.fold c.args.position c.args.half value literal)
    (λ value. (λ i. (own i == value) || (other i == value))
    ∙ has_half-long c.args.fold c.args.position c.args.half literal byte c.requires.reached refl value)
    (sets-either c.bit_of.result c.bit_of-2.result (λ value. c.half_of.result == value) (λ value. c.half_of-2.result == value) c.bit_of.ensures c.bit_of-2.ensures)
