use Rattle.std.proofs.Common.{◌≡◌, ◌++◌, All, take}
use Rattle.std.specs.List.{flat_map}
use Rattle.plan_file.specs.declared.version.Version.TheVariants.{Two}
use Rattle.plan_file.specs.Spelling.{IsPlan, plan_text}
use Rattle.plan_file.proofs.encoding.push_plans.Given as goal

abbrev pub invariant-loop-plan : goal.invariant-loop-plan
invariant-loop-plan l = (l.out.items ≡ l.fn.out.items ++ flat_map plan_text (take l.plan-index l.plans)) × All (IsPlan Two) (take l.plan-index l.plans)
