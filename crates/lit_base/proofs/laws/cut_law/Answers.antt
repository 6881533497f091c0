use Rattle.lit_base.proofs.Cuts.{increases-from_cut, cut-from_increasing}
use Rattle.lit_base.proofs.laws.cut_law.Goals as goal

pub returns : goal.returns
returns c =
    (increases-from_cut c.args.most c.args.count c.args.ends.now, cut-from_increasing c.args.most c.args.count c.args.ends.now)
