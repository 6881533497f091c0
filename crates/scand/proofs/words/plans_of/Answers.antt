-- The names are the texts of the option, as its copies are.
use Rattle.std.proofs.Common.{◌≡◌, ℕ, List, IfOk, subst}
use Rattle.scan_run.specs.LoadingFiles.{names_of}
use Rattle.scand.proofs.words.plans_of.Goals as goal

pub returns : goal.returns
returns c = subst (λ (texts : List (List ℕ)). IfOk c.strings.result (λ plans. names_of plans.items ≡ texts)) c.values.ensures c.strings.ensures
