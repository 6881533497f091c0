use Rattle.std.proofs.Common.{◌≡◌, ◌++◌, Ok, length}
use Rattle.std.specs.Vec.Iter.{into_iter_items, into_iter_len}
use Rattle.scan_run.specs.Loading.{PublishesPrefix}
use Rattle.scan_run.proofs.loading.publish_plans.Given as goal

-- the plans so far were all published, and no write failed
abbrev pub invariant-loop-plan : goal.invariant-loop-plan
invariant-loop-plan g l = record {
  parts : l.yielded ++ into_iter_items l.plan-iterator ≡ l.fn.plans.items;
  left : into_iter_len l.plan-iterator ≡ length (into_iter_items l.plan-iterator);
  prefix : PublishesPrefix l.store l.yielded l.fn.tickets.items l.tickets.items (g.E.ByteOut.written l.fn.err) (g.E.ByteOut.written l.err) (Ok tt);
  flag : g.E.ByteOut.has_failed l.err ≡ g.E.ByteOut.has_failed l.fn.err;
}
