use Rattle.std.proofs.Common.{List, ℕ, ◌≡◌, ◌∙◌, ap, refl, drop, codes}
use Rattle.std.specs.Fmt.{decimal}
use Rattle.lit_cert.specs.Spelling.{cost_words}
use Rattle.lit_cert.proofs.Lines.{no_line_alone, line_is, plain_number, lacks_by_test}
use Rattle.lit_cert.proofs.parsing.cost_line.Goals as goal

pub returns-in_err-line-clause-none : goal.returns-in_err-line-clause-none
returns-in_err-line-clause-none c =
    rw c.from_residual.ensures (λ cost rest small. no_line_alone c.args.text.now (cost_words cost) rest c.in_err-line.ensures.none)

pub returns-in_err-cost-clause-none : goal.returns-in_err-cost-clause-none
returns-in_err-cost-clause-none c =
    rw c.from_residual-in_err-cost.ensures (λ cost rest small e.
    let found = c.in_ok-line.ensures.found in
    let same = line_is c.args.text.now c.in_ok-line.line.now c.in_ok-line.rest.now (cost_words cost) rest found.0 found.1 (plain_number (codes "cost") cost (lacks_by_test 10 (codes "cost") refl) small) e in
    let word : c.in_ok-strip_prefix.field-0.now ≡ decimal cost = c.in_ok-strip_prefix.ensures.cases.1 ∙ ap (λ (t : List ℕ). drop 5 t) same.0 in
    c.in_err-cost.ensures.none cost small word)
