use Rattle.std.proofs.lemmas.Result.{err_from_is_err_and}
use Rattle.scan_wire.proofs.LiteralLemmas.{list_wrong}
use Rattle.scan_wire.proofs.reading.list_of.Goals as goal

pub returns-in_err-literals-clause-wrong : goal.returns-in_err-literals-clause-wrong
returns-in_err-literals-clause-wrong c =
    let p = err_from_is_err_and c.from_residual.result c.from_residual.ensures.1 in
    rw (p.1, p.2) (list_wrong c.args.payload.now c.in-Some.fold c.in-Some.profile c.in-Some.count c.in-Some.rest.now c.in_err-literals.field-0.0 c.in-Some.ensures.found.0 c.in-Some.ensures.found.1 c.in_err-literals.ensures.wrong)
