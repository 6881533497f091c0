use Rattle.plan_file.proofs.DraftLemmas.{first_begun}
use Rattle.plan_file.proofs.LongLemmas.{first_stays, never_begins}
use Rattle.plan_file.proofs.OneWay.{none_first, same_fault}
use Rattle.plan_file.proofs.decoding.fault_law.Goals as goal

pub returns-clause-one : goal.returns-clause-one
returns-clause-one c = same_fault

pub returns-clause-none : goal.returns-clause-none
returns-clause-none c = none_first

pub returns-clause-begins : goal.returns-clause-begins
returns-clause-begins c = first_begun

pub returns-clause-stays : goal.returns-clause-stays
returns-clause-stays c = λ text more place cause first not_short. first_stays text more place cause not_short first

pub returns-clause-never : goal.returns-clause-never
returns-clause-never c = never_begins
