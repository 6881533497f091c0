-- Numbers of tickets, and the entries that they show.
use Rattle.std.proofs.Common.{◌≡◌, ◌≢◌, ℕ, zero, suc, ◌<◌, List, [], ◌∷◌, length, get_or, map, Option, Some, None, Contains, refl, sym, ap, ◌∙◌, arith}
use Rattle.std.specs.Prelude.{option_map}
use Rattle.std.specs.List.{slice_get}
use Rattle.std.proofs.lemmas.Option.{none-some, same_Some, slice_get-get_or, slice_get-map}
use Rattle.plan_store.specs.Tickets.{TicketParts}
use Rattle.scan_core.specs.Sessions.{Serving, entry_of}
use Rattle.scan_core.specs.Steps.{AgreeWith, Entry}
use Rattle.scan_core.specs.Together.{AgreesWith, AreAgreed, known_to, tickets_of}

none_at : (tickets : List TicketParts) (n k : ℕ) → ((i : ℕ) (other : TicketParts) → i < length tickets → slice_get tickets i ≡ Some other → other.number ≢ n) → k < length (map (λ (t : TicketParts). t.number) tickets) → get_or (map (λ (t : TicketParts). t.number) tickets) k n ≡ n → ⊥
none_at [] n k none within at = omega arith
none_at (t ∷ tickets) n zero none within at = none 0 t (omega arith) refl at
none_at (t ∷ tickets) n (suc k) none within at =
    none_at tickets n k (λ i other inside stands. none (suc i) other (omega (arith, inside)) stands) (omega (arith, within)) at

-- where no ticket has a number, it is not among the numbers of the entries
pub number_stranger : (tickets : List TicketParts) (n : ℕ) → ((i : ℕ) (other : TicketParts) → i < length tickets → slice_get tickets i ≡ Some other → other.number ≢ n) → Contains (map (λ (t : TicketParts). t.number) tickets) n → ⊥
number_stranger tickets n none replied = none_at tickets n replied.0 none replied.1 replied.2

-- an entry belongs to one of the tickets
pub record IsShown (tickets : List TicketParts) (entry : Entry) : Type 0 where
  pub place : ℕ
  pub ticket : TicketParts
  pub at : slice_get tickets place ≡ Some ticket
  pub is : entry_of ticket ≡ entry

shown_at : (tickets : List TicketParts) (entry : Entry) (k : ℕ) (o : Option TicketParts) → slice_get tickets k ≡ o → option_map entry_of o ≡ Some entry → IsShown tickets entry
shown_at tickets entry k None at shows = absurd (none-some entry shows)
shown_at tickets entry k (Some ticket) at shows = record { place = k; ticket = ticket; at = at; is = same_Some (entry_of ticket) entry shows }

-- an entry among the entries of tickets belongs to one of them
pub shown_of : (tickets : List TicketParts) (entry : Entry) → Contains (map entry_of tickets) entry → IsShown tickets entry
shown_of tickets entry known =
    shown_at tickets entry known.0 (slice_get tickets known.0) refl
    (sym (slice_get-map entry_of tickets known.0)
    ∙ slice_get-get_or (map entry_of tickets) known.0 entry known.1
    ∙ ap Some known.2)

-- tickets that each agree with another show entries that do
pub entries_agree : (tickets : List TicketParts) (ticket : TicketParts) → ((i : ℕ) (other : TicketParts) → slice_get tickets i ≡ Some other → AreAgreed other ticket) → AgreeWith (map entry_of tickets) (entry_of ticket)
entries_agree tickets ticket agreed entry known same =
    let shown = shown_of tickets entry known in
    sym (ap (λ (e : Entry). e.plan) shown.is)
    ∙ agreed shown.place shown.ticket shown.at (ap (λ (e : Entry). e.number) shown.is ∙ same)

-- with a ticket that agrees with each of a session, all agree that the session knows
pub known_agree : (s : Serving) (ticket : TicketParts) → AgreesWith ticket s → AgreeWith (known_to s) (entry_of ticket)
known_agree s ticket agreed = entries_agree (tickets_of s) ticket (λ i other at same. sym (agreed i other at (sym same)))
