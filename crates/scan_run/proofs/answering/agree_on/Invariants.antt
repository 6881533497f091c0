use Rattle.std.proofs.Common.{◌≡◌, ℕ, ◌-◌, ◌<◌, length, Some}
use Rattle.std.specs.List.{slice_get}
use Rattle.plan_store.specs.Tickets.{TicketParts}
use Rattle.scan_core.specs.Together.{AgreesWith}
use Rattle.scan_run.proofs.answering.agree_on.Given as goal

-- each ticket of the number so far agrees with the session
abbrev pub invariant-loop-place : goal.invariant-loop-place
invariant-loop-place l = (i : ℕ) (ticket : TicketParts) → i < l.place → slice_get l.loaded i ≡ Some ticket → ticket.number ≡ l.number → AgreesWith ticket l.session

abbrev pub decreases-loop-place : goal.decreases-loop-place
decreases-loop-place l = length l.loaded - l.place
