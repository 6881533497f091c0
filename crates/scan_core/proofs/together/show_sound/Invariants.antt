use Rattle.std.proofs.Common.{◌≡◌, ℕ, ◌-◌, ◌<◌, length, Some}
use Rattle.std.specs.List.{slice_get}
use Rattle.plan_store.specs.Tickets.{TicketParts}
use Rattle.scan_core.specs.Steps.{IsSound}
use Rattle.scan_core.specs.Together.{tickets_of}
use Rattle.scan_core.proofs.together.show_sound.Given as goal

-- each ticket so far shows a plan that holds
abbrev pub invariant-loop-place : goal.invariant-loop-place
invariant-loop-place l = (i : ℕ) (ticket : TicketParts) → i < l.place → slice_get (tickets_of l.session) i ≡ Some ticket → IsSound ticket.plan

abbrev pub decreases-loop-place : goal.decreases-loop-place
decreases-loop-place l = length (tickets_of l.session) - l.place
