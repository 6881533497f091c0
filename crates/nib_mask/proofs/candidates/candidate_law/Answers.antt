-- The law over plain variables: the array before the text has two bytes.
use Rattle.std.proofs.Common.{◌≡◌, length}
use Rattle.nib_mask.proofs.LawLemmas.{bit_at-occurs}
use Rattle.nib_mask.proofs.candidates.candidate_law.Goals as goal

pub returns : goal.returns
returns c =
    let prefix = c.well_formed.1.1.1.1.1.0 in
    let two : length c.args.before ≡ 2 = prefix.1.0.1 in
    bit_at-occurs c.args.list.now c.args.ends.now.items c.args.text.now c.args.before c.args.lit c.args.end_at c.requires.cut two c.requires.occurs
