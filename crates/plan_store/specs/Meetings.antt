-- What a thread meets of a plan that was published.
use Rattle.std.specs.Prelude.{◌≡◌, ℕ}
use Rattle.boxcar.specs.Table.{Shelves}
use Rattle.lit_plan.specs.Plans.{Plan}
use Rattle.plan_store.specs.Tickets.{IsOf, TicketParts}

-- the ticket is of this store, and shows this plan
pub record ShowsPlan (store : Shelves) (plan : Plan) (ticket : TicketParts) : Type 0 where
  pub here : IsOf store ticket
  pub shown : ticket.plan ≡ plan

-- the ticket is the store's, of this number and of this plan
pub record IsFound (store : Shelves) (number : ℕ) (plan : Plan) (ticket : TicketParts) : Type 0 where
  pub shows : ShowsPlan store plan ticket
  pub asked : ticket.number ≡ number
