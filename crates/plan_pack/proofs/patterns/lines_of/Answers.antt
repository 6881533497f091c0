-- All lines were taken, or the first that is refused.
use Rattle.std.proofs.Common.{rules, [], ap}
use Rattle.std.specs.Option.{option_map}
use Rattle.lit_base.specs.Lines.{lines}
use Rattle.lit_base.specs.RawLists.{text_refusal}
use Rattle.plan_pack.specs.declared.patterns.Unlisted.TheVariants.{BadPatterns}
use Rattle.plan_pack.proofs.ListLemmas.{not-refused}
use Rattle.plan_pack.proofs.patterns.lines_of.Goals as goal

pub returns-clause-refusal : goal.returns-clause-refusal
returns-clause-refusal c =
    ap (option_map BadPatterns) (not-refused (text_refusal [] c.args.text.now (lines c.args.text.now)) c.add_file_bytes.result (search rules) c.in_ok-add_file_bytes.was)
