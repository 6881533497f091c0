-- Where the scan of a span is refused memory, something ends in it.
use Rattle.std.proofs.Common.{sym, subst, arith}
use Rattle.std.proofs.lemmas.Bool.{false≢true}
use Rattle.lit_base.specs.NextEnds.{NoEndAfter}
use Rattle.text_ends.proofs.HitLists.{none_in_prefix}
use Rattle.plan_run.proofs.spans.next_span.Goals as goal

pub returns-in-Err-OutOfMemory-clause-quiet : goal.returns-in-Err-OutOfMemory-clause-quiet
returns-in-Err-OutOfMemory-clause-quiet g c = λ _ none.
    let l = c.args.compiled.now.literals in
    let prefix = subst (λ xs. NoEndAfter l xs c.args.from) (sym c.split_at.ensures.front) (none_in_prefix l c.args.text.now c.args.from c.args.from _ (omega arith) none) in
    absurd (false≢true (c.in-Err-OutOfMemory.ensures.quiet prefix))
