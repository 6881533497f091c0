-- There is a byte for each hash, and in the end every literal has its bit.
use Rattle.std.proofs.Common.{◌≡◌, ◌-◌, ◌<◌, [], length, ap, ◌∙◌, subst, arith}
use Rattle.std.proofs.lemmas.List.{get_or_read}
use Rattle.lit_base.specs.Literals.{literal_at}
use Rattle.list_index.specs.Chains.{key_width_at}
use Rattle.list_index.specs.Checks.{checked_key, checked_width, width_bit}
use Rattle.list_index.specs.HashBits.{AreKeyBits}
use Rattle.list_index.specs.Suffixes.{case_bits, key_width, suffix_key}
use Rattle.list_index.specs.declared.suffixes.checks.TheConstants.{CHECK_BITS}
use Rattle.list_index.proofs.HashBitLemmas.{more_key_bits, no_key_bits}
use Rattle.list_index.proofs.suffixes.checks.SuffixChecks.new.Goals as goal

pub loop-place-init : goal.loop-place-init
loop-place-init c = no_key_bits CHECK_BITS _ _ _ (c.in_ok-widths.ensures.items_if_clones_equal (λ y same. same))

pub loop-place-preserved : goal.loop-place-preserved
loop-place-preserved c =
    let l = c.args.list.now in
    let most = c.max-most.result in
    let place = c.loop-place.place in
    let inside : place < length l.texts = omega (arith, c.loop-place-test.true) in
    let here : c.get-literal.result.now ≡ literal_at l place = get_or_read l.texts place c.get-literal.result.now inside c.get-literal.ensures.value [] in
    let width : c.key_width-width.result ≡ key_width_at l place = c.key_width-width.ensures ∙ ap (λ t. key_width (length t)) here in
    let checked : c.checked_width.result ≡ checked_width most (key_width_at l place) = c.checked_width.ensures.value ∙ ap (checked_width most) width in
    let key : c.suffix_key-key.result ≡ checked_key l most place = c.suffix_key-key.ensures ∙ (λ i. suffix_key (c.fold-fold.ensures i) (here i) (length (here i)) (checked i)) in
    more_key_bits CHECK_BITS (checked_key l most) (width_bit l) place c.suffix_key-key.result (c.key_width-width.result - 1) c.loop-place.widths.items c.set_hash_bit.new.table.items c.loop-place.invariant key (ap (λ w. w - 1) width) (omega (arith, c.set_hash_bit.ensures.len)) c.set_hash_bit.ensures.set

pub returns : goal.returns
returns c =
    let l = c.args.list.now in
    let all : c.loop-place.place ≡ length l.texts = omega (arith, c.loop-place-test.false, c.loop-place.auto.place-end, c.len-place-end.ensures.value) in
    record {
      some = c.least_width-least.ensures.some;
      narrow = c.least_width-least.ensures.small;
      most = c.max-most.ensures;
      case = c.case_bits.ensures ∙ ap case_bits c.fold-fold.ensures;
      wide = c.least_width-least.ensures.shared;
      bits = subst (λ count. AreKeyBits CHECK_BITS (checked_key l c.max-most.result) (width_bit l) count c.loop-place.widths.items) all c.loop-place.invariant;
    }
