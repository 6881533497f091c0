use Rattle.std.proofs.Common.{List, ℕ, ◌∙◌, ◌++◌, ap, sym, drop, codes}
use Rattle.lit_cert.specs.Spelling.{ends_words}
use Rattle.lit_cert.proofs.Lines.{line_is, is_line, after_prefix, plain_ends, ends_join}
use Rattle.lit_cert.proofs.parsing.ends_line.Goals as goal

pub returns-in_err-ends-clause-none : goal.returns-in_err-ends-clause-none
returns-in_err-ends-clause-none c =
    rw c.from_residual-in_err-ends.ensures (λ ends rest has e.
    let found = c.in_ok-line.ensures.found in
    let same = line_is c.args.text.now c.in_ok-line.line.now c.in_ok-line.rest.now (ends_words ends) rest found.0 found.1 (plain_ends ends has.small) e in
    let words = c.in_ok-strip_prefix.ensures.cases.1 ∙ ap (λ (t : List ℕ). drop 5 t) (same.0 ∙ ends_join ends has.some) in
    c.in_err-ends.ensures.none ends has words)

pub returns-clause-found : goal.returns-clause-found
returns-clause-found c =
    let found = c.in_ok-line.ensures.found in
    let prefix = c.in_ok-strip_prefix.ensures.cases in
    let read = c.in_ok-ends.ensures.found in
    let ends = c.in_ok-ends.ends.items in
    let line = after_prefix 5 c.in_ok-line.line.now (codes "ends ") c.in_ok-strip_prefix.field-0.now prefix.0 prefix.1 ∙ ap (λ (t : List ℕ). codes "ends " ++ t) read.1 ∙ sym (ends_join ends read.0.some) in
    (read.0, is_line c.args.text.now c.in_ok-line.line.now c.in_ok-line.rest.now (ends_words ends) found.0 line)
