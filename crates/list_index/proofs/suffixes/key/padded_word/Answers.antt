-- The bytes stand after zeros.
use Rattle.std.proofs.Common.{◌∙◌}
use Rattle.list_index.proofs.SuffixLemmas.{padded}
use Rattle.list_index.proofs.suffixes.key.padded_word.Goals as goal

pub returns : goal.returns
returns c = c.last_word.ensures ∙ padded c.copy_from_slice.new.self c.args.bytes.now c.copy_from_slice.ensures.after c.requires
