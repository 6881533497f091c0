-- Three lines were appended.
use Rattle.std.proofs.Common.{rules, ◌≡◌, ◌++◌, codes}
use Rattle.plan_view.specs.Rows.{percent, total_of}
use Rattle.plan_view.specs.Texts.{even_label, even_parts, single, sum_line}
use Rattle.plan_view.proofs.Appends.{three_appended}
use Rattle.plan_view.proofs.sums.push_sums.Goals as goal

pub returns : goal.returns
returns c =
    let l = c.args.view.list.now in
    let total = total_of l c.args.view.ends.now.items in
    let one : c.push_sum.new.text.items ≡ c.args.text.now.items ++ sum_line (codes "total                                    ") total 100 = search rules in
    let two : c.push_sum-2.new.text.items ≡ c.push_sum.new.text.items ++ sum_line (codes "one bucket for all                       ") (single l) (percent (single l) total) = search rules in
    let three : c.push_sum-3.new.text.items ≡ c.push_sum-2.new.text.items ++ sum_line (even_label c.args.view.profile) (even_parts c.args.view.profile l) (percent (even_parts c.args.view.profile l) total) = search rules in
    three_appended _ _ _ _ _ _ _ one two three
