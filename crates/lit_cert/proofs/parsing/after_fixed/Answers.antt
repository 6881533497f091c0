use Rattle.std.proofs.Common.{sym, ◌∙◌}
use Rattle.lit_cert.proofs.Lines.{lacks_not, same_cut, not_same}
use Rattle.lit_cert.proofs.parsing.after_fixed.Goals as goal

pub returns-in_err-line-clause-none : goal.returns-in_err-line-clause-none
returns-in_err-line-clause-none c = rw c.from_residual.ensures (λ rest e. lacks_not 10 c.args.text.now c.args.fixed.now rest c.in_err-line.ensures.none e)

pub returns-else-eq-clause-none : goal.returns-else-eq-clause-none
returns-else-eq-clause-none c rest e =
    let found = c.in_ok-line.ensures.found in
    let same = same_cut 10 c.in_ok-line.line.now c.in_ok-line.rest.now c.args.fixed.now rest found.1 c.requires (sym found.0 ∙ e) in
    not_same c.in_ok-line.line.now c.args.fixed.now c.if-eq.ensures same.0
