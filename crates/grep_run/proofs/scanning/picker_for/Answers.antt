-- Nor has a picker without bytes.
use Rattle.grep_run.proofs.ScanLemmas.{fed-unseen}
use Rattle.grep_run.proofs.scanning.picker_for.Goals as goal

pub returns-else-shows_lines-clause-fed : goal.returns-else-shows_lines-clause-fed
returns-else-shows_lines-clause-fed c = rw c.without_bytes.ensures (fed-unseen _ _ c.line_picker_for-picker.ensures.seen c.line_picker_for-picker.ensures.fed)
