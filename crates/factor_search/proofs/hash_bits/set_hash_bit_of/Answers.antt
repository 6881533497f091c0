-- The factor of the literal has the one new bit.
use Rattle.std.proofs.Common.{◌≡◌, ℕ, ◌-◌, ◌<◌, List, [], length, min, set, slice_index, sym, ap, ◌∙◌, subst, arith, below_more, get_or-set_other, get_or-set_same, length-set}
use Rattle.std.proofs.lemmas.List.{get_or_read}
use Rattle.lit_base.specs.Literals.{literal_at}
use Rattle.list_index.specs.HashBits.{HasBit}
use Rattle.list_index.specs.Suffixes.{hash_of, suffix_key}
use Rattle.factor_search.specs.declared.widths.TheConstants.{HASH_BITS}
use Rattle.list_index.proofs.HashBitLemmas.{more_key_bits}
use Rattle.factor_search.specs.Factors.{IsFactor, factor_key}
use Rattle.factor_search.proofs.hash_bits.set_hash_bit_of.Goals as goal

pub returns : goal.returns
returns c =
    let l = c.args.list.now in
    let place = c.args.place in
    let was = c.requires.marked in
    let offset = c.min-offset.result in
    let before : List ℕ = c.args.offsets.now.items in
    let after : List ℕ = set before place offset in
    let table = c.args.hash_bits.now.items in
    let here : c.get-literal.result.now ≡ literal_at l place = get_or_read l.texts place c.get-literal.result.now c.requires.within c.get-literal.ensures.value [] in
    let new : offset ≡ slice_index after place = sym (get_or-set_same before place offset 0 (omega (arith, c.requires.within, was.offsets_len))) in
    let stays : (other : ℕ) → other < place → slice_index before other ≡ slice_index after other =
    λ other sooner. sym (get_or-set_other before place other offset 0 (λ same. omega (arith, same, sooner))) in
    let key : c.suffix_key-key.result ≡ factor_key l place (slice_index after place) =
    c.suffix_key-key.ensures ∙ (λ i. suffix_key (c.fold.ensures i) (here i) (length (here i) - new i) ((c.min-width.ensures ∙ ap (λ (t : List ℕ). min 4 (length t)) here) i)) in
    record {
      offsets_len = omega (arith, length-set before place offset, was.offsets_len);
      factors = below_more _ _
          (λ other sooner. subst (IsFactor l other) (stays other sooner) (was.factors other sooner))
          (subst (IsFactor l place) new (record { near = omega (arith, c.min-offset.ensures); within = omega (arith, ap length here, c.min-offset.ensures, c.min-room.ensures, c.min-width.ensures, c.get-literal.ensures.nonempty); wide = omega (arith, ap length here, c.min-offset.ensures, c.min-room.ensures, c.min-width.ensures) }));
      bits = more_key_bits HASH_BITS (λ p. factor_key l p (slice_index after p)) (slice_index after) place c.suffix_key-key.result offset table c.set_hash_bit.new.table.items
          (record {
            room = was.bits.room;
            has = λ other sooner. subst (λ o. HasBit table (hash_of HASH_BITS (factor_key l other o)) o) (stays other sooner) (was.bits.has other sooner);
            only = λ number back now.
                let is = was.bits.only number back now in
                let same = stays is.place is.within in
                record { place = is.place; within = is.within; hash = is.hash ∙ ap (λ o. hash_of HASH_BITS (factor_key l is.place o)) same; is = is.is ∙ same };
          })
          key new (omega (arith, c.set_hash_bit.ensures.len)) c.set_hash_bit.ensures.set;
    }
