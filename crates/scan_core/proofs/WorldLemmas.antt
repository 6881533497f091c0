-- What holds along every run of sessions over one set of entries.
use Rattle.std.proofs.Common.{◌≡◌, ℕ, zero, suc, ◌+◌, ◌<◌, Bool, true, false, cond, List, [], ◌∷◌, ◌++◌, drop, length, get_or, Option, Some, None, MatchOption, Contains, ◌⊎◌, inl, inr, refl, sym, ap, ◌∙◌, subst, arith, append_assoc, append-nil}
use Rattle.std.specs.Prelude.{fold, is_some, nat_eq, nat_le, option_map, ◌&&◌, if◌then◌else◌}
use Rattle.std.specs.List.{concat}
use Rattle.std.specs.Map.{lookup, remove_entry, set_value}
use Rattle.std.proofs.lemmas.Bool.{eq-eqb}
use Rattle.std.proofs.lemmas.Bool.Decides.{eqb_tells}
use Rattle.std.proofs.lemmas.Option.{none-some, same_Some}
use Rattle.lit_base.specs.Literals.{Literals}
use Rattle.lit_base.specs.Occurrences.{hit_cmp}
use Rattle.lit_base.proofs.SortedLists.{hit_total, same_elements}
use Rattle.lit_plan.specs.Plans as plans
use Rattle.flow_scan.proofs.TailSteps.{concat_push}
use Rattle.scan_wire.specs.Messages.{RequestParts, ReplyParts, Publish, Open, Feed, Close, ShowPlan, Opened}
use Rattle.scan_wire.specs.declared.message.TheConstants.{MAX_HITS}
use Rattle.scan_core.specs.Blocks.{AreBlocks}
use Rattle.scan_core.specs.declared.limits.TheConstants.{MAX_STREAMS}
use Rattle.scan_core.specs.declared.refusal.Refusal.{Refusal}
use Rattle.scan_core.specs.declared.refusal.Refusal.TheVariants.{StreamInUse, StreamQuota}
use Rattle.scan_core.specs.Steps.{Entry, IsAccepted, Outcome, SessionParts, closed, fed_replies, moved, opened, refusal_of, refused}
use Rattle.scan_core.specs.Worlds.{AnswersByPast, AreHitsPast, Event, Happens, HasOnePlan, IsFirst, MeetsEntries, Past, Runs, Streamed, World, WorldLaw, by_bytes, is_accepted, is_publish, past_after, past_event, past_of}
use Rattle.scan_core.proofs.StreamLists.{Apart, apart_none, apart_pushed, apart_removed, apart_set, lookup_pushed, lookup_removed, lookup_set, when_not, when_so}

-- Entries

-- one more entry
contains_head : (x : Entry) (es : List Entry) → Contains (x ∷ es) x
contains_head x es = (0, omega arith, refl)

pub contains_more : (x e : Entry) (es : List Entry) → Contains es e → Contains (x ∷ es) e
contains_more x e es h = (suc h.0, omega (arith, h.1), h.2)

cases_at : (x e : Entry) (es : List Entry) (k : ℕ) → k < length (x ∷ es) → get_or (x ∷ es) k e ≡ e → (x ≡ e) ⊎ Contains es e
cases_at x e es zero within at = inl at
cases_at x e es (suc k) within at = inr (k, omega (arith, within), at)

-- an entry is the first one, or stands after it
pub contains_cases : (x e : Entry) (es : List Entry) → Contains (x ∷ es) e → (x ≡ e) ⊎ Contains es e
contains_cases x e es h = cases_at x e es h.0 h.1 h.2

-- an entry stays
pub entries_stay : (publishes : Bool) (met : Option Entry) (old new : List Entry) (e : Entry) → MeetsEntries publishes met old new → Contains old e → Contains new e
entries_stay true None old new e meets there = subst (λ es. Contains es e) (sym meets) there
entries_stay false None old new e meets there = subst (λ es. Contains es e) (sym meets) there
entries_stay true (Some x) old new e meets there = subst (λ es. Contains es e) (sym meets.1) (contains_more x e old there)
entries_stay false (Some x) old new e meets there = subst (λ es. Contains es e) (sym meets.1) there

-- what an event met is an entry after it
met_stands : (publishes : Bool) (x : Entry) (old new : List Entry) → MeetsEntries publishes (Some x) old new → Contains new x
met_stands true x old new meets = subst (λ es. Contains es x) (sym meets.1) (contains_head x old)
met_stands false x old new meets = subst (λ es. Contains es x) (sym meets.1) meets.0

-- with one more entry that agrees with all entries of its number, each number has one plan
one_plan_grown : (x : Entry) (old : List Entry) → HasOnePlan old → ((other : Entry) → Contains old other → other.number ≡ x.number → other.plan ≡ x.plan) → HasOnePlan (x ∷ old)
one_plan_grown x old one agrees a b in_a in_b same = elim (contains_cases x a old in_a) [
  | inl xa ↦ elim (contains_cases x b old in_b) [
    | inl xb ↦ ap (λ (e : Entry). e.plan) (sym xa ∙ xb)
    | inr old_b ↦ sym (ap (λ (e : Entry). e.plan) xa) ∙ sym (agrees b old_b (sym same ∙ sym (ap (λ (e : Entry). e.number) xa)))
  ]
  | inr old_a ↦ elim (contains_cases x b old in_b) [
    | inl xb ↦ agrees a old_a (same ∙ sym (ap (λ (e : Entry). e.number) xb)) ∙ ap (λ (e : Entry). e.plan) xb
    | inr old_b ↦ one a b old_a old_b same
  ]
]

one_plan_kept : (publishes : Bool) (met : Option Entry) (old new : List Entry) → HasOnePlan old → MeetsEntries publishes met old new → HasOnePlan new
one_plan_kept true None old new one meets = subst HasOnePlan (sym meets) one
one_plan_kept false None old new one meets = subst HasOnePlan (sym meets) one
one_plan_kept true (Some x) old new one meets = subst HasOnePlan (sym meets.1) (one_plan_grown x old one meets.0)
one_plan_kept false (Some x) old new one meets = subst HasOnePlan (sym meets.1) one

-- Streams

-- the past of a stream: the entry that it was opened by, and the pieces since
record Known (past : Option Past) (entries : List Entry) (state : Streamed) : Type 0 where
  entry : Entry
  pieces : List (List ℕ)
  opened_by : past ≡ Some record { number = entry.number; pieces = pieces }
  stands : Contains entries entry
  plan : state.plan ≡ entry.plan
  bytes : state.bytes ≡ concat pieces

-- of each stream of a session
abbrev AllKnown : (ℕ → Option Past) → List Entry → List (ℕ × Streamed) → Type 0
AllKnown past entries streams = (n : ℕ) (state : Streamed) → lookup (nat_eq n) streams ≡ Some state → Known (past n) entries state

-- the past of a stream after a request
abbrev next_past : RequestParts → List ReplyParts → (ℕ → Option Past) → ℕ → Option Past
next_past request replies past n = cond (is_accepted replies) (past_after n request (past n)) (past n)

-- entries that stay, and an equal past and state
known_like : (past other : Option Past) (es more : List Entry) (state next : Streamed) → other ≡ past → next ≡ state → ((e : Entry) → Contains es e → Contains more e) → Known past es state → Known other more next
known_like past other es more state next same equal stay known = record {
  entry = known.entry;
  pieces = known.pieces;
  opened_by = same ∙ known.opened_by;
  stands = stay known.entry known.stands;
  plan = ap (λ (s : Streamed). s.plan) equal ∙ known.plan;
  bytes = ap (λ (s : Streamed). s.bytes) equal ∙ known.bytes;
}

-- what an outcome keeps
abbrev Keeps : (ℕ → Option Past) → List Entry → RequestParts → Outcome Streamed → Type 0
Keeps past more request outcome = AllKnown (next_past request outcome.replies past) more outcome.after.streams × Apart outcome.after.streams

-- hits in blocks and a place are no refusal
accepted_fed : (stream : ℕ) (blocks : List (List (ℕ × ℕ))) (place : ℕ) → is_accepted (fed_replies stream blocks place) ≡ true
accepted_fed stream [] place = refl
accepted_fed stream (block ∷ blocks) place = refl

-- an Open that meets no refusal, whatever its number, is of a stream that is not open
not_open : (o : Option Streamed) (full : Bool) → (if is_some o then Some StreamInUse else if full then Some StreamQuota else None) ≡ None → o ≡ None
not_open None full none = refl
not_open (Some state) full none = absurd (none-some StreamInUse (sym none))

module _ (past : ℕ → Option Past) (es more : List Entry) (stay : (e : Entry) → Contains es e → Contains more e) (before : SessionParts Streamed) (apart : Apart before.streams) (known : AllKnown past es before.streams) where
  -- nothing has changed
  keeps_same : AllKnown past more before.streams
  keeps_same n state at = known_like (past n) (past n) es more state state refl refl stay (known n state at)

  keeps_opened : (stream number : ℕ) (entry : Entry) (state : Streamed) → lookup (nat_eq stream) before.streams ≡ None → entry.number ≡ number → state ≡ record { number = entry.number; plan = entry.plan; bytes = [] } → Contains more entry → Keeps past more (Open stream number) (opened before stream entry state)
  keeps_opened stream number entry state free asked begins stands = (
    (λ n found at. elim (eqb_tells stream n) [
      | inl t ↦
          let here : lookup (nat_eq n) (before.streams ++ (stream, state) ∷ []) ≡ Some state =
          lookup_pushed n stream before.streams state free ∙ when_so (nat_eq stream n) (Some state) (lookup (nat_eq n) before.streams) t.0 in
          let is : found ≡ record { number = entry.number; plan = entry.plan; bytes = [] } = same_Some found state (sym at ∙ here) ∙ begins in
          record {
            entry = entry;
            pieces = [];
            opened_by = when_so (nat_eq stream n) (Some record { number = number; pieces = [] }) (past n) t.0 ∙ ap (λ m. Some record { number = m; pieces = [] }) (sym asked);
            stands = stands;
            plan = ap (λ (s : Streamed). s.plan) is;
            bytes = ap (λ (s : Streamed). s.bytes) is;
          }
      | inr f ↦
          let old : lookup (nat_eq n) before.streams ≡ Some found =
          sym (lookup_pushed n stream before.streams state free ∙ when_not (nat_eq stream n) (Some state) (lookup (nat_eq n) before.streams) f.0) ∙ at in
          known_like (past n) (next_past (Open stream number) (Opened stream ∷ []) past n) es more found found
          (when_not (nat_eq stream n) (Some record { number = number; pieces = [] }) (past n) f.0) refl stay (known n found old)
    ]),
    apart_pushed stream before.streams state free apart,
  )

  keeps_moved : (stream place : ℕ) (piece : List ℕ) (blocks : List (List (ℕ × ℕ))) (state next : Streamed) → lookup (nat_eq stream) before.streams ≡ Some state → next ≡ record state { bytes = state.bytes ++ piece } → Keeps past more (Feed stream piece) (moved before stream blocks place next)
  keeps_moved stream place piece blocks state next at_old moves = (
    (λ n found at.
        let taken : next_past (Feed stream piece) (fed_replies stream blocks place) past n ≡ past_after n (Feed stream piece) (past n) =
        when_so (is_accepted (fed_replies stream blocks place)) (past_after n (Feed stream piece) (past n)) (past n) (accepted_fed stream blocks place) in
        elim (eqb_tells stream n) [
          | inl t ↦
              let here : lookup (nat_eq n) (set_value (nat_eq stream) before.streams next) ≡ Some next =
              lookup_set n stream before.streams state next at_old ∙ when_so (nat_eq stream n) (Some next) (lookup (nat_eq n) before.streams) t.0 in
              let is : found ≡ record state { bytes = state.bytes ++ piece } = same_Some found next (sym at ∙ here) ∙ moves in
              let old = known stream state at_old in
              let grown = option_map {T = Past} (λ (p : Past). record p { pieces = p.pieces ++ piece ∷ [] }) in
              record {
                entry = old.entry;
                pieces = old.pieces ++ piece ∷ [];
                opened_by = taken ∙ when_so (nat_eq stream n) (grown (past n)) (past n) t.0 ∙ ap (λ m. grown (past m)) (sym t.1) ∙ ap grown old.opened_by;
                stands = stay old.entry old.stands;
                plan = ap (λ (s : Streamed). s.plan) is ∙ old.plan;
                bytes = ap (λ (s : Streamed). s.bytes) is ∙ ap (λ bs. bs ++ piece) old.bytes ∙ sym (concat_push old.pieces piece);
              }
          | inr f ↦
              let old : lookup (nat_eq n) before.streams ≡ Some found =
              sym (lookup_set n stream before.streams state next at_old ∙ when_not (nat_eq stream n) (Some next) (lookup (nat_eq n) before.streams) f.0) ∙ at in
              known_like (past n) (next_past (Feed stream piece) (fed_replies stream blocks place) past n) es more found found
              (taken ∙ when_not (nat_eq stream n) (option_map {T = Past} (λ (p : Past). record p { pieces = p.pieces ++ piece ∷ [] }) (past n)) (past n) f.0) refl stay (known n found old)
        ]),
    apart_set stream before.streams next apart,
  )

  keeps_closed : (stream : ℕ) → Keeps past more (Close stream) (closed before stream)
  keeps_closed stream = (
    (λ n found at. elim (eqb_tells stream n) [
      | inl t ↦
          let gone : lookup (nat_eq n) (remove_entry (nat_eq stream) before.streams) ≡ None =
          lookup_removed n stream before.streams apart ∙ when_so (nat_eq stream n) None (lookup (nat_eq n) before.streams) t.0 in
          absurd (none-some found (sym gone ∙ at))
      | inr f ↦ keeps_same n found (sym (lookup_removed n stream before.streams apart ∙ when_not (nat_eq stream n) None (lookup (nat_eq n) before.streams) f.0) ∙ at)
    ]),
    apart_removed stream before.streams apart,
  )

  -- an accepted request, whatever it is
  keeps_accepted : (request : RequestParts) (outcome : Outcome Streamed) → refusal_of by_bytes before request ≡ None → ((e : Entry) → outcome.met ≡ Some e → Contains more e) → IsAccepted by_bytes before request outcome → Keeps past more request outcome
  keeps_accepted (Publish folding profile literals) outcome none met a = subst (Keeps past more (Publish folding profile literals)) (sym a.is) (keeps_same, apart)
  keeps_accepted (Open stream number) outcome none met a = elim a [
    | inl o ↦ subst (Keeps past more (Open stream number)) (sym o.is)
        (keeps_opened stream number o.entry o.state (not_open (lookup (nat_eq stream) before.streams) (nat_le MAX_STREAMS (length before.streams)) none) o.asked o.begins (met o.entry (ap (λ (out : Outcome Streamed). out.met) o.is)))
    | inr o ↦ subst (Keeps past more (Open stream number)) (sym o.is) (keeps_same, apart)
  ]
  keeps_accepted (Feed stream piece) outcome none met a =
      subst (Keeps past more (Feed stream piece)) (sym a.2.is) (keeps_moved stream (length a.0.bytes + length piece) piece a.2.blocks a.0 a.2.next a.1 a.2.moves.0)
  keeps_accepted (Close stream) outcome none met a = subst (Keeps past more (Close stream)) (sym a) (keeps_closed stream)
  keeps_accepted (ShowPlan stream) outcome none met a = subst (Keeps past more (ShowPlan stream)) (sym a.2) (keeps_same, apart)

  -- a step
  keeps_step : (request : RequestParts) (outcome : Outcome Streamed) (o : Option Refusal) → refusal_of by_bytes before request ≡ o → MatchOption o (IsAccepted by_bytes before request outcome) (λ refusal. outcome ≡ refused before request refusal) → ((e : Entry) → outcome.met ≡ Some e → Contains more e) → Keeps past more request outcome
  keeps_step request outcome None none step met = keeps_accepted request outcome none met step
  keeps_step request outcome (Some refusal) some step met = subst (Keeps past more request) (sym step) (keeps_same, apart)

-- Runs

-- a world after events: one plan a number, and the past of each stream
record IsAfter (events : List Event) (world : World) : Type 0 where
  one : HasOnePlan world.entries
  known : (who : ℕ) → AllKnown (λ n. past_of who n events) world.entries (world.sessions who).streams
  apart : (who : ℕ) → Apart (world.sessions who).streams

-- one event more
past_push : (who n : ℕ) (past : Option Past) (events : List Event) (event : Event) → fold (past_event who n) past (events ++ event ∷ []) ≡ past_event who n (fold (past_event who n) past events) event
past_push who n past [] event = refl
past_push who n past (e ∷ events) event = past_push who n (past_event who n past e) events event

first_after : (world : World) → IsFirst world → IsAfter [] world
first_after world first = record {
  one = first.one_plan;
  known = λ who n state at. absurd (none-some state (sym (ap (λ (s : SessionParts Streamed). lookup (nat_eq n) s.streams) (first.sessions who)) ∙ at));
  apart = λ who. subst (λ (s : SessionParts Streamed). Apart s.streams) (sym (first.sessions who)) (apart_none Streamed);
}

-- the session of an event
own_after : (events : List Event) (event : Event) (old new : World) → IsAfter events old → (h : Happens event old new) → AllKnown (λ n. past_of event.who n (events ++ event ∷ [])) new.entries (new.sessions event.who).streams × Apart (new.sessions event.who).streams
own_after events event old new after h =
    let who = event.who in
    let before = old.sessions who in
    let outcome : Outcome Streamed = record { replies = event.replies; met = h.met; after = new.sessions who } in
    let stay : (e : Entry) → Contains old.entries e → Contains new.entries e = λ e. entries_stay (is_publish event.request) h.met old.entries new.entries e h.entries in
    let met : (e : Entry) → h.met ≡ Some e → Contains new.entries e =
    λ e is. met_stands (is_publish event.request) e old.entries new.entries (subst (λ m. MeetsEntries (is_publish event.request) m old.entries new.entries) is h.entries) in
    let kept : Keeps (λ n. past_of who n events) new.entries event.request outcome =
    keeps_step (λ n. past_of who n events) old.entries new.entries stay before (after.apart who) (after.known who) event.request outcome
    (refusal_of by_bytes before event.request) refl h.step met in (
      (λ n state at.
          let replied : past_of who n (events ++ event ∷ []) ≡ next_past event.request event.replies (λ m. past_of who m events) n =
          past_push who n None events event ∙ ap (λ b. cond (b && is_accepted event.replies) (past_after n event.request (past_of who n events)) (past_of who n events)) (eq-eqb who who refl) in
          subst (λ p. Known p new.entries state) (sym replied) (kept.0 n state at)),
      kept.1,
    )

happens_after : (events : List Event) (event : Event) (old new : World) → IsAfter events old → Happens event old new → IsAfter (events ++ event ∷ []) new
happens_after events event old new after h = record {
  one = one_plan_kept (is_publish event.request) h.met old.entries new.entries after.one h.entries;
  known = λ who n state at. elim (eqb_tells event.who who) [
    | inl t ↦
        let own = own_after events event old new after h in
        subst (λ w. Known (past_of w n (events ++ event ∷ [])) new.entries state) t.1
        (own.0 n state (ap (λ w. lookup (nat_eq n) (new.sessions w).streams) t.1 ∙ at))
    | inr f ↦
        let same : new.sessions who ≡ old.sessions who = h.others who (λ e. f.1 (sym e)) in
        let stay : (e : Entry) → Contains old.entries e → Contains new.entries e = λ e. entries_stay (is_publish event.request) h.met old.entries new.entries e h.entries in
        known_like (past_of who n events) (past_of who n (events ++ event ∷ [])) old.entries new.entries state state
        (past_push who n None events event ∙ ap (λ b. cond (b && is_accepted event.replies) (past_after n event.request (past_of who n events)) (past_of who n events)) f.0)
        refl stay (after.known who n state (ap (λ (s : SessionParts Streamed). lookup (nat_eq n) s.streams) (sym same) ∙ at))
  ];
  apart = λ who. elim (eqb_tells event.who who) [
    | inl t ↦ let own = own_after events event old new after h in subst (λ w. Apart (new.sessions w).streams) t.1 own.1
    | inr f ↦ subst (λ (s : SessionParts Streamed). Apart s.streams) (sym (h.others who (λ e. f.1 (sym e)))) (after.apart who)
  ];
}

runs_after : (before events : List Event) (old new : World) → IsAfter before old → Runs old events new → IsAfter (before ++ events) new
runs_after before [] old new after same =
    subst (λ (w : World). IsAfter (before ++ []) w) (sym same) (subst (λ es. IsAfter es old) (sym (append-nil before)) after)
runs_after before (event ∷ events) old new after runs =
    subst (λ es. IsAfter es new) (append_assoc before (event ∷ []) events)
    (runs_after (before ++ event ∷ []) events runs.0 new (happens_after before event old runs.0 after runs.1) runs.2)

runs_from_first : (first last : World) (events : List Event) → IsFirst first → Runs first events last → IsAfter events last
runs_from_first first last events is runs = runs_after [] events first last (first_after first is) runs

-- Answers

-- an accepted Feed is answered by what its stream has had
answered : (events : List Event) (world : World) (who stream : ℕ) (piece : List ℕ) (outcome : Outcome Streamed) (o : Option Refusal) → IsAfter events world → is_accepted outcome.replies ≡ true → MatchOption o (IsAccepted by_bytes (world.sessions who) (Feed stream piece) outcome) (λ refusal. outcome ≡ refused (world.sessions who) (Feed stream piece) refusal) → AnswersByPast events world.entries who stream piece outcome.replies
answered events world who stream piece outcome (Some refusal) after accepted step =
    absurd (let wrong : false ≡ true = sym (ap (λ (out : Outcome Streamed). is_accepted out.replies) step) ∙ accepted in cc)
answered events world who stream piece outcome None after accepted a =
    let state = a.0 in
    let feeds = a.2 in
    let known = after.known who stream state a.1 in
    let place = length state.bytes + length piece in
    let past : AreHitsPast known.entry.plan.literals (concat known.pieces ++ piece) (length (concat known.pieces)) feeds.hits =
    subst (λ bs. AreHitsPast known.entry.plan.literals (bs ++ piece) (length bs) feeds.hits) known.bytes
    (subst (λ (p : plans.Plan). AreHitsPast p.literals (state.bytes ++ piece) (length state.bytes) feeds.hits) known.plan feeds.moves.1) in
    record {
      entry = known.entry;
      pieces = known.pieces;
      opened = known.opened_by;
      published = known.stands;
      answer = record { blocks = feeds.blocks; place = place };
      replied = ap (λ (out : Outcome Streamed). out.replies) feeds.is;
      right = record { hits = feeds.hits; past = past; cut = feeds.cut; reached = ap (λ bs. length bs + length piece) known.bytes };
    }

-- hits past a place are one list
hits_past_one : (l : Literals) (text : List ℕ) (from : ℕ) (hits others : List (ℕ × ℕ)) → AreHitsPast l text from hits → AreHitsPast l text from others → hits ≡ others
hits_past_one l text from hits others one other =
    same_elements hit_cmp hit_total hits others one.rising other.rising
    (λ h there. (other.members h.0 h.1).1 ((one.members h.0 h.1).0 there)) (λ h there. (one.members h.0 h.1).1 ((other.members h.0 h.1).0 there))

-- the blocks of a list are one list
pub blocks_one : {X : Type 0} (most : ℕ) (xs : List X) (blocks others : List (List X)) → AreBlocks most xs blocks → AreBlocks most xs others → blocks ≡ others
blocks_one most xs [] [] one other = refl
blocks_one most xs [] (b ∷ bs) one other = absurd (other.0 one)
blocks_one most xs (b ∷ bs) [] one other = absurd (one.0 other)
blocks_one most xs (b ∷ bs) (c ∷ cs) one other =
    let first : b ≡ c = one.1 ∙ sym other.1 in
    let rest : bs ≡ cs = blocks_one most (drop most xs) bs cs one.2 other.2 in
    λ i. first i ∷ rest i

pub world_law_lem : WorldLaw
world_law_lem = record {
  one_plan = λ first last events is runs. (runs_from_first first last events is runs).one;
  stays = run_stays;
  answers = λ first old new events who stream piece replies is runs h accepted.
      answered events old who stream piece record { replies = replies; met = h.met; after = new.sessions who }
      (refusal_of by_bytes (old.sessions who) (Feed stream piece)) (runs_from_first first old events is runs) accepted h.step;
  one_answer = λ plan pieces piece one other is also.
      let hits : is.hits ≡ also.hits = hits_past_one plan.literals (concat pieces ++ piece) (length (concat pieces)) is.hits also.hits is.past also.past in
      let blocks : one.blocks ≡ other.blocks = blocks_one MAX_HITS also.hits one.blocks other.blocks (subst (λ hs. AreBlocks MAX_HITS hs one.blocks) hits is.cut) also.cut in
      let place : one.place ≡ other.place = is.reached ∙ sym also.reached in
      λ i. record { blocks = blocks i; place = place i };
}
  where
    run_stays : (old new : World) (events : List Event) (entry : Entry) → Runs old events new → Contains old.entries entry → Contains new.entries entry
    run_stays old new [] entry same there = subst (λ (w : World). Contains w.entries entry) (sym same) there
    run_stays old new (event ∷ events) entry runs there =
        run_stays runs.0 new events entry runs.2 (entries_stay (is_publish event.request) runs.1.met old.entries runs.0.entries entry runs.1.entries there)
