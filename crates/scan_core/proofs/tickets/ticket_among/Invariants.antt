use Rattle.std.proofs.Common.{◌≡◌, ◌≢◌, ℕ, ◌-◌, ◌<◌, length, Some}
use Rattle.std.specs.List.{slice_get}
use Rattle.plan_store.specs.Tickets.{TicketParts}
use Rattle.scan_core.proofs.tickets.ticket_among.Given as goal

-- none of the tickets so far has the number
abbrev pub invariant-loop-place : goal.invariant-loop-place
invariant-loop-place l = (i : ℕ) (other : TicketParts) → i < l.place → slice_get l.tickets i ≡ Some other → other.number ≢ l.number

abbrev pub decreases-loop-place : goal.decreases-loop-place
decreases-loop-place l = length l.tickets - l.place
