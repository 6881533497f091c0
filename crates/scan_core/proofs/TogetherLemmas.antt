-- Two sessions whose tickets agree fit into one world.
use Rattle.std.proofs.Common.{◌≡◌, ℕ, List, [], ◌∷◌, ◌++◌, Option, Some, None, Contains, inl, inr, refl, sym, ap, ◌∙◌, subst}
use Rattle.std.specs.Prelude.{Bool, true, false, IfSome}
use Rattle.std.proofs.lemmas.List.Elements.{Contains-append_cases}
use Rattle.scan_core.specs.Sessions.{Serving}
use Rattle.scan_core.specs.Steps.{Entry, IsSound, SessionParts}
use Rattle.scan_core.specs.Together.{AgreeAll, Meet, ShowSound, TogetherLaw, known_to, tickets_of, world_of}
use Rattle.scan_core.specs.Worlds.{Event, Happens, HasOnePlan, IsFirst, MeetsEntries, Runs, Streamed, World, is_publish}
use Rattle.scan_core.proofs.TicketLemmas.{IsShown, shown_of}
use Rattle.scan_core.proofs.WorldLemmas.{contains_cases, contains_more}

-- entries of two sessions whose tickets agree
agree_on : (s t : Serving) → AgreeAll s t → (first second : Entry) → IsShown (tickets_of s) first → IsShown (tickets_of t) second → first.number ≡ second.number → first.plan ≡ second.plan
agree_on s t agreed first second one other same =
    let numbers : one.ticket.number ≡ other.ticket.number =
    ap (λ (e : Entry). e.number) one.is ∙ same ∙ sym (ap (λ (e : Entry). e.number) other.is) in
    let plans = agreed one.place one.ticket one.at other.place other.ticket other.at numbers in
    sym (ap (λ (e : Entry). e.plan) one.is) ∙ plans ∙ ap (λ (e : Entry). e.plan) other.is

sound_of : (s : Serving) → ShowSound s → (entry : Entry) → IsShown (tickets_of s) entry → IsSound entry.plan
sound_of s sound entry shown = subst (λ (e : Entry). IsSound e.plan) shown.is (sound shown.place shown.ticket shown.at)

-- what two sessions know are the entries of one world, if all their tickets agree
pub fit : (s t : Serving) → AgreeAll s s → AgreeAll s t → AgreeAll t t → ShowSound s → ShowSound t → IsFirst (world_of (known_to s ++ known_to t))
fit s t ss st tt sound_s sound_t = record {
  sound = λ entry known. elim (Contains-append_cases (known_to s) (known_to t) entry known) [
    | inl in_s ↦ sound_of s sound_s entry (shown_of (tickets_of s) entry in_s)
    | inr in_t ↦ sound_of t sound_t entry (shown_of (tickets_of t) entry in_t)
  ];
  one_plan = λ first second in_first in_second same. elim (Contains-append_cases (known_to s) (known_to t) first in_first) [
    | inl one_s ↦ elim (Contains-append_cases (known_to s) (known_to t) second in_second) [
      | inl two_s ↦ agree_on s s ss first second (shown_of (tickets_of s) first one_s) (shown_of (tickets_of s) second two_s) same
      | inr two_t ↦ agree_on s t st first second (shown_of (tickets_of s) first one_s) (shown_of (tickets_of t) second two_t) same
    ]
    | inr one_t ↦ elim (Contains-append_cases (known_to s) (known_to t) second in_second) [
      | inl two_s ↦ sym (agree_on s t st second first (shown_of (tickets_of s) second two_s) (shown_of (tickets_of t) first one_t) (sym same))
      | inr two_t ↦ agree_on t t tt first second (shown_of (tickets_of t) first one_t) (shown_of (tickets_of t) second two_t) same
    ]
  ];
  sessions = λ name. refl;
}

-- the entries after an event
abbrev grown : Bool → Option Entry → List Entry → List Entry
grown publishes None entries = entries
grown true (Some entry) entries = entry ∷ entries
grown false (Some entry) entries = entries

module _ (entries : List Entry) (one_plan : HasOnePlan entries) where
  -- the same entries, some perhaps more than once
  record IsSame (current : List Entry) : Type 0 where
    all : (e : Entry) → Contains entries e → Contains current e
    no_others : (e : Entry) → Contains current e → Contains entries e

  -- an event that meets one of the entries is one of the world
  meets_grown : (publishes : Bool) (met : Option Entry) (current : List Entry) → IsSame current → IfSome met (Contains entries) → MeetsEntries publishes met current (grown publishes met current)
  meets_grown true None current same among = refl
  meets_grown false None current same among = refl
  meets_grown true (Some entry) current same among =
      (λ other there numbers. one_plan other entry (same.no_others other there) among numbers, refl)
  meets_grown false (Some entry) current same among = (same.all entry among, refl)

  same_grown : (publishes : Bool) (met : Option Entry) (current : List Entry) → IsSame current → IfSome met (Contains entries) → IsSame (grown publishes met current)
  same_grown true None current same among = same
  same_grown false None current same among = same
  same_grown false (Some entry) current same among = same
  same_grown true (Some entry) current same among = record {
    all = λ e there. contains_more entry e current (same.all e there);
    no_others = λ e there. elim (contains_cases entry e current there) [
      | inl first ↦ subst (Contains entries) first among
      | inr after ↦ same.no_others e after
    ];
  }

  -- the run of the world from the entries so far
  record IsRunFrom (current : List Entry) (old : ℕ → SessionParts Streamed) (events : List Event) (new : ℕ → SessionParts Streamed) : Type 0 where
    last : World
    runs : Runs record { entries = current; sessions = old } events last
    ends : last.sessions ≡ new
    no_others : (e : Entry) → Contains last.entries e → Contains entries e

  run_from : (events : List Event) (current : List Entry) (old new : ℕ → SessionParts Streamed) → IsSame current → Meet entries old events new → IsRunFrom current old events new
  run_from [] current old new same meet = record {
    last = record { entries = current; sessions = old };
    runs = refl;
    ends = sym meet;
    no_others = same.no_others;
  }
  run_from (event ∷ events) current old new same meet =
      let step = meet.1 in
      let publishes = is_publish event.request in
      let further = grown publishes step.met current in
      let next : World = record { entries = further; sessions = meet.0 } in
      let rest = run_from events further meet.0 new (same_grown publishes step.met current same step.among) meet.2 in
      let happens : Happens event record { entries = current; sessions = old } next = record {
        met = step.met;
        step = step.step;
        others = step.others;
        entries = meets_grown publishes step.met current same step.among;
      } in record {
        last = rest.last;
        runs = (next, happens, rest.runs);
        ends = rest.ends;
        no_others = rest.no_others;
      }

-- events that each meet entries of one set are a run of one world
pub together_law_lem : TogetherLaw
together_law_lem entries old new events one_plan meet =
    let run = run_from entries one_plan events entries old new record { all = λ e there. there; no_others = λ e there. there } meet in record {
      last = run.last;
      runs = run.runs;
      ends = run.ends;
      no_others = run.no_others;
    }
