-- A picker without numbers has been fed nothing either.
use Rattle.grep_run.proofs.ScanLemmas.{fed-bare}
use Rattle.grep_run.proofs.scanning.line_picker_for.Goals as goal

pub returns-else-request-clause-fed : goal.returns-else-request-clause-fed
returns-else-request-clause-fed c = rw c.without_numbers.ensures (fed-bare _ _ _ c.numbered_picker_for-picker.ensures.fed)
