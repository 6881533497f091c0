-- Each round hashes one byte more.
use Rattle.std.proofs.Common.{◌+◌, ◌-◌, ◌*◌, ◌%◌, ◌∙◌, sym, ap, arith}
use Rattle.std.specs.Int.RustNames.{bit_or}
use Rattle.std.specs.List.{slice_index_or}
use Rattle.list_index.specs.LongChains.{suffix_hash}
use Rattle.list_index.proofs.LongLemmas.{hash_longer}
use Rattle.list_index.proofs.suffixes.long_chains.longer_hash.Goals as goal

pub loop-back-preserved : goal.loop-back-preserved
loop-back-preserved c =
    let byte = slice_index_or c.args.text.now (c.args.end - 1 - c.loop-back.back) 0 in
    let case = c.case_bits-case_bits.ensures in
    let last = c.loop-back.invariant in
    (λ i. (last i * 11400714819323198485 % 18446744073709551616 + bit_or byte (case i)) % 18446744073709551616)
    ∙ sym (hash_longer c.args.fold c.args.text.now c.args.end c.loop-back.back)
    ∙ ap (suffix_hash c.args.fold c.args.text.now c.args.end) (omega arith)
