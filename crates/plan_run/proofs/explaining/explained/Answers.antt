-- A cut for plans of the profile can be shown.
use Rattle.std.proofs.Common.{length}
use Rattle.plan_pack.proofs.MigrateLemmas.{wider}
use Rattle.plan_run.proofs.explaining.explained.Goals as goal

pub plan_svg-requires : goal.plan_svg-requires
plan_svg-requires c = wider c.args.profile (length c.args.list.now.texts) c.args.ends.now.items c.requires

pub plan_text-requires : goal.plan_text-requires
plan_text-requires c = wider c.args.profile (length c.args.list.now.texts) c.args.ends.now.items c.requires
