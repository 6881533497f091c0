-- The key is taken of the last of the eight bytes before the position.
use Rattle.std.proofs.Common.{◌-◌, ◌∙◌, arith}
use Rattle.list_index.proofs.SuffixLemmas.{are_bytes, word_key}
use Rattle.list_index.proofs.suffixes.key.suffix_key.Goals as goal

pub returns : goal.returns
returns c =
    c.masked_key.ensures
    ∙ word_key c.args.fold c.args.text.now c.args.end c.args.width (8 - c.args.end) c.word_before.result c.case_bits.result (are_bytes c.args.text.now c.type_inv.text) (omega (arith, c.requires.narrow, c.requires.room)) (omega arith) c.requires.inside c.word_before.ensures c.case_bits.ensures
