-- What a contract sees of a `Ticket`, and which store it is of.
use Rattle.std.specs.Prelude.{◌≡◌, ℕ}
use Rattle.boxcar.specs.Table.{Shelves, id_at}
use Rattle.lit_plan.specs.Plans.{Plan}

-- the plan that was published and its number, and where it stands: the shelf, and the name that the shelf has in its
-- store
pub record TicketParts : Type 0 where
  pub number : ℕ
  pub plan : Plan
  pub shelf : ℕ
  pub name : ℕ

-- the ticket is of this store: its shelf has that name there
abbrev pub IsOf : Shelves → TicketParts → Type 0
IsOf store ticket = ticket.name ≡ id_at store.buckets ticket.shelf
