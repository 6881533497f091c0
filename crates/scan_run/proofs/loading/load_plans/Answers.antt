-- The tickets are dropped.
use Rattle.scan_run.proofs.loading.load_plans.Goals as goal

pub returns-clause-loads : goal.returns-clause-loads
returns-clause-loads g c = (c.load_tickets.new.tickets.items, rw c.new-tickets.ensures.items at c.load_tickets.ensures.loads)
