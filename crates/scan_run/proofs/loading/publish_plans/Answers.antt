-- A plan after those before it.
use Rattle.std.proofs.Common.{◌≡◌, ◌∙◌, ◌∷◌, [], ◌++◌, Ok, Err, ap, append_assoc, arith, length, rules, subst}
use Rattle.std.proofs.lemmas.Result.{err_from_is_err_and}
use Rattle.std.specs.Vec.Iter.{into_iter_items}
use Rattle.scan_run.specs.Loading.{PublishesPrefix}
use Rattle.scan_run.proofs.LoadLemmas.{published-prefix, published-then}
use Rattle.scan_run.proofs.loading.publish_plans.Goals as goal

pub loop-plan-preserved : goal.loop-plan-preserved
loop-plan-preserved g c =
    let at = c.loop-plan in
    let steps : into_iter_items at.plan-iterator ≡ c.in-Some.plan ∷ into_iter_items c.next.new.self = c.in-Some.ensures.steps.0 in
    record {
      parts = append_assoc at.yielded (c.in-Some.plan ∷ []) _ ∙ rw (← steps) at.invariant.parts;
      left = let was = at.invariant.left in let gone = c.in-Some.ensures.steps.1 in let short = ap length steps in omega arith;
      prefix = published-then c.args.store.now at.yielded (c.in-Some.plan ∷ []) c.args.tickets.now.items at.tickets.items c.publish_plan.new.tickets.items
          (g.E.ByteOut.written c.args.err.now) (g.E.ByteOut.written at.err) (g.E.ByteOut.written c.publish_plan.new.err) (Ok tt) at.invariant.prefix c.in_ok-publish_plan.ensures.prefix;
      flag = search rules;
    }

pub returns-in_err-publish_plan-clause-prefix : goal.returns-in_err-publish_plan-clause-prefix
returns-in_err-publish_plan-clause-prefix g c =
    let at = c.loop-plan in
    let rest = into_iter_items c.next.new.self in
    let steps : into_iter_items at.plan-iterator ≡ c.in-Some.plan ∷ rest = c.in-Some.ensures.steps.0 in
    let all : (at.yielded ++ c.in-Some.plan ∷ []) ++ rest ≡ c.args.plans.items = append_assoc at.yielded (c.in-Some.plan ∷ []) rest ∙ rw (← steps) at.invariant.parts in
    let p = err_from_is_err_and c.from_residual.result c.from_residual.ensures.1 in
    rw (p.1, p.2) (subst (λ ps. PublishesPrefix c.args.store.now ps c.args.tickets.now.items c.publish_plan.new.tickets.items (g.E.ByteOut.written c.args.err.now) (g.E.ByteOut.written c.publish_plan.new.err) (Err c.in_err-publish_plan.field-0.0)) all
    (published-prefix c.args.store.now (at.yielded ++ c.in-Some.plan ∷ []) rest c.args.tickets.now.items c.publish_plan.new.tickets.items
    (g.E.ByteOut.written c.args.err.now) (g.E.ByteOut.written c.publish_plan.new.err) c.in_err-publish_plan.field-0.0
    (published-then c.args.store.now at.yielded (c.in-Some.plan ∷ []) c.args.tickets.now.items at.tickets.items c.publish_plan.new.tickets.items
    (g.E.ByteOut.written c.args.err.now) (g.E.ByteOut.written at.err) (g.E.ByteOut.written c.publish_plan.new.err) (Err c.in_err-publish_plan.field-0.0) at.invariant.prefix c.in_err-publish_plan.ensures.prefix)))
