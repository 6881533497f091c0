use Rattle.scan_core.proofs.TogetherLemmas.{fit}
use Rattle.scan_core.proofs.together.fit_law.Goals as goal

pub returns : goal.returns
returns c = fit c.args.one.now c.args.other.now c.agree_all.ensures c.agree_all-2.ensures c.agree_all-3.ensures c.show_sound.ensures c.show_sound-2.ensures
