-- A lane is 1 more where the comparison holds.
use Rattle.text_lines.proofs.Counts.{marked_fit, most-marked, sum-marked}
use Rattle.text_lines.proofs.counting.add_newlines.Goals as goal

pub overflow_add-result : goal.overflow_add-result
overflow_add-result c = marked_fit c.args.lanes c.args.bytes c.requires

pub returns-clause-sum : goal.returns-clause-sum
returns-clause-sum c = sum-marked c.args.lanes c.args.bytes c.fits-lanes.0 c.fits-bytes.0

pub returns-clause-most : goal.returns-clause-most
returns-clause-most c most le = most-marked c.args.lanes c.args.bytes most le
