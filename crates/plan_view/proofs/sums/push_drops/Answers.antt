-- Three parts were appended.
use Rattle.std.proofs.Common.{rules, ◌≡◌, ◌++◌, codes, flat_map, length, take, ap, ◌∙◌}
use Rattle.plan_view.specs.Repeats.{nulls, repeats}
use Rattle.plan_view.specs.Texts.{count_line, repeat_line}
use Rattle.plan_view.proofs.Appends.{three_appended}
use Rattle.plan_view.proofs.sums.push_drops.Goals as goal

pub returns : goal.returns
returns c =
    let places = c.args.places.now in
    let found = repeats places (length places) in
    let many : c.len.result ≡ length found = search rules in
    let one : c.push_count.new.text.items ≡ c.args.text.now.items ++ count_line (codes "equal to an earlier line: ") (length found) =
    c.in_ok-push_count.ensures ∙ ap (λ n. c.args.text.now.items ++ count_line (codes "equal to an earlier line: ") n) many in
    let two : c.push_repeats.new.text.items ≡ c.push_count.new.text.items ++ flat_map repeat_line (take 10 found) = search rules in
    let three : c.push_count-2.new.text.items ≡ c.push_repeats.new.text.items ++ count_line (codes "null patterns: ") (nulls places) =
    c.in_ok-push_count-2.ensures ∙ ap (λ n. c.push_repeats.new.text.items ++ count_line (codes "null patterns: ") n) c.nulls.ensures in
    three_appended _ _ _ _ _ _ _ one two three
