use Rattle.std.proofs.Common.{◌≡◌, ℕ, ◌-◌, ◌<◌, length, Some}
use Rattle.std.specs.List.{slice_get}
use Rattle.plan_store.specs.Tickets.{TicketParts}
use Rattle.scan_core.specs.Together.{AgreesWith, tickets_of}
use Rattle.scan_core.proofs.together.agree_all.Given as goal

-- each ticket so far agrees with all of the other session
abbrev pub invariant-loop-place : goal.invariant-loop-place
invariant-loop-place l = (i : ℕ) (ticket : TicketParts) → i < l.place → slice_get (tickets_of l.one) i ≡ Some ticket → AgreesWith ticket l.other

abbrev pub decreases-loop-place : goal.decreases-loop-place
decreases-loop-place l = length (tickets_of l.one) - l.place
