use Rattle.std.proofs.Common.{◌≡◌, ℕ, ◌-◌, ◌<◌, length, Some}
use Rattle.std.specs.List.{slice_get}
use Rattle.plan_store.specs.Tickets.{TicketParts}
use Rattle.scan_core.specs.Together.{AreAgreed, tickets_of}
use Rattle.scan_core.proofs.tickets.agrees_with.Given as goal

-- the ticket agrees with each so far
abbrev pub invariant-loop-place : goal.invariant-loop-place
invariant-loop-place l = (i : ℕ) (other : TicketParts) → i < l.place → slice_get (tickets_of l.session) i ≡ Some other → AreAgreed l.ticket other

abbrev pub decreases-loop-place : goal.decreases-loop-place
decreases-loop-place l = length (tickets_of l.session) - l.place
