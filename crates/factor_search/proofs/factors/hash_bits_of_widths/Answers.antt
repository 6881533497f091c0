-- Each width from the least on is probed, by the bytes before the position.
use Rattle.std.proofs.Common.{◌≡◌, ◌-◌, inl, inr, sym, subst, arith}
use Rattle.std.proofs.lemmas.Bool.{cases_lt}
use Rattle.list_index.specs.HashBits.{HasBit}
use Rattle.list_index.specs.Suffixes.{hash_of, masked_key, suffix_key}
use Rattle.list_index.proofs.HashBitLemmas.{bit_of_left, bit_of_right}
use Rattle.list_index.proofs.SuffixLemmas.{are_bytes, word_key}
use Rattle.factor_search.specs.declared.widths.TheConstants.{HASH_BITS, WIDTH}
use Rattle.factor_search.proofs.FactorLemmas.{read_width}
use Rattle.factor_search.proofs.factors.hash_bits_of_widths.Goals as goal

pub loop-width-preserved : goal.loop-width-preserved
loop-width-preserved c = record {
  some = omega arith;
  found = λ width back enough less marked.
      let byte = c.hash_bits_of-short.result in
      elim (cases_lt width c.loop-width.width) [
        | inl before ↦ bit_of_left c.loop-width.found byte back (c.loop-width.invariant.found width back enough before marked)
        | inr last ↦ bit_of_right c.loop-width.found byte back
            (read_width c.args.hash_bits.now c.word_before-word.result c.case_bits-case_bits.result c.loop-width.width width byte back c.hash_bits_of-short.ensures (omega (arith, less, last)) marked)
      ];
}

pub returns : goal.returns
returns c = λ width back enough most begins marked.
    let hash_bits = c.args.hash_bits.now in
    let word = c.word_before-word.result in
    let case = c.case_bits-case_bits.result in
    let long = c.hash_bits_of-long.result in
    let key : masked_key word width case ≡ suffix_key c.args.fold c.args.text.now c.args.at width =
    word_key c.args.fold c.args.text.now c.args.at width (8 - c.args.at) word case (are_bytes c.args.text.now c.type_inv.text) (omega (arith, most, begins)) (omega arith) c.requires.inside c.word_before-word.ensures c.case_bits-case_bits.ensures in
    let there = subst (λ k. HasBit hash_bits (hash_of HASH_BITS k) back) (sym key) marked in
    elim (cases_lt width WIDTH) [
      | inl less ↦ bit_of_left c.loop-width.found long back (c.loop-width.invariant.found width back enough (omega (arith, less, c.loop-width-test.false)) there)
      | inr all ↦ bit_of_right c.loop-width.found long back (read_width hash_bits word case WIDTH width long back c.hash_bits_of-long.ensures (omega (arith, most, all)) there)
    ]
