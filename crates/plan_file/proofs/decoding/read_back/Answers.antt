use Rattle.std.proofs.Common.{List}
use Rattle.std.specs.Global.{Vec}
use Rattle.lit_plan.specs.Plans.{Plan}
use Rattle.lit_plan.specs.declared.compiled.Compiled.{Compiled}
use Rattle.plan_file.specs.Spelling.{IsFile}
use Rattle.plan_file.specs.declared.version.Version.TheVariants.{Two}
use Rattle.plan_file.proofs.ReadLemmas.{read_same, read_unless}
use Rattle.plan_file.proofs.decoding.read_back.Goals as goal

abbrev items : Vec Compiled → List Plan
items read = read.items

pub returns-clause-same : goal.returns-clause-same
returns-clause-same c =
    let file : IsFile c.in_ok-text.text.items c.args.plans.now = record { version = Two; file = record { are = c.in_ok-text.ensures.ok.0; spelled = c.in_ok-text.ensures.ok.1 } } in
    read_same items c.args.plans.now c.decode.result ((rw c.deref.ensures.value at c.decode.ensures.only) c.args.plans.now file)

pub returns-clause-refused : goal.returns-clause-refused
returns-clause-refused c =
    let file : IsFile c.in_ok-text.text.items c.args.plans.now = record { version = Two; file = record { are = c.in_ok-text.ensures.ok.0; spelled = c.in_ok-text.ensures.ok.1 } } in
    read_unless items c.args.plans.now c.decode.result ((rw c.deref.ensures.value at c.decode.ensures.only) c.args.plans.now file)
