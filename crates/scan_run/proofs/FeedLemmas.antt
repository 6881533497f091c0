-- A Feed answered as its hits are found is a Feed answered.
use Rattle.std.proofs.Common.{◌≡◌, ◌≢◌, ℕ, zero, suc, ◌-◌, ◌<◌, List, [], ◌∷◌, ◌++◌, length, map, take, drop, Option, inl, inr, refl, sym, ap, subst, ◌∙◌, append_assoc, arith, Contains}
use Rattle.std.proofs.lemmas.Bool.{cases_lt}
use Rattle.std.proofs.lemmas.List.{append-nil, length-append, take-append-drop}
use Rattle.lit_base.specs.Literals.{Literals}
use Rattle.flow_scan.specs.Tails.{AreAdded}
use Rattle.plan_store.specs.Tickets.{TicketParts}
use Rattle.scan_wire.specs.Frames.{replies_text, reply_text}
use Rattle.scan_wire.specs.Messages.{Feed, Hits, ReplyParts, RequestParts}
use Rattle.scan_wire.specs.declared.message.TheConstants.{MAX_HITS}
use Rattle.scan_serve.specs.Answering.{Answered, Step, Stopped}
use Rattle.scan_serve.specs.Sending.{Sends, SendsPrefix, SendsLess}
use Rattle.scan_serve.proofs.SendLemmas.{prefix_is, less_is, less_of_more, sends_is, sends_none, sends_then, sends_then_prefix, sends_then_less}
use Rattle.scan_core.specs.Blocks.{AreFull, joined}
use Rattle.scan_core.specs.Prefixes.{IsFeeding, MayFeed}
use Rattle.scan_core.specs.Sessions.{IsEvent, Serving}
use Rattle.scan_core.specs.Steps.{fed_replies}
use Rattle.scan_core.proofs.BlockLemmas.{blocks_after, blocks_exist, full-append, joined-append}
use Rattle.scan_core.proofs.PrefixLemmas.{feeding_completes, feeding_ends, feeding_more, feeding_none}
use Rattle.scan_run.specs.Beside.{IsEventBeside, IsStepBeside}
use Rattle.scan_run.specs.Feeding.{FeedsOn, HasFed, StopsFeeding, last_block}
use Rattle.scan_run.proofs.SendingLemmas.{last_is, last_some, one_text, sent_both, sent_last}

-- one reply is the answer
pub answered_one : {S : Type 0} (step : Step S) (s t : S) (request : RequestParts) (reply : ReplyParts) (v w : Option (List ℕ)) (a b : List ℕ) → step s request (reply ∷ []) t → Sends v w a b (reply_text reply) → Answered step s t request v w a b
answered_one step s t request reply v w a b event sent = record { replies = reply ∷ []; is_step = event; sent = sends_is v w a b _ _ (one_text reply) sent }

-- of the one reply a prefix is written
pub stopped_one : {S : Type 0} (step : Step S) (s t : S) (request : RequestParts) (reply : ReplyParts) (v w : Option (List ℕ)) (a : List ℕ) → step s request (reply ∷ []) t → SendsLess v w a (reply_text reply) → Stopped step s request v w a
stopped_one step s t request reply v w a event sent = inr (record { replies = reply ∷ []; new = t; is_step = event; sent = less_is v w a _ _ (one_text reply) sent })

-- no hits end in no bytes
no_hits : (l : Literals) (tail : List ℕ) (at : ℕ) (found : List (ℕ × ℕ)) → AreAdded l tail [] at found → length found ≡ 0
no_hits l tail at [] added = refl
no_hits l tail at (hit ∷ found) added =
    let first : Contains (hit ∷ found) hit = (0, omega arith, refl) in
    let w = (added.members hit.0 hit.1).0 first in
    absurd (omega (arith, w.0, w.1.ends, length-append tail []))

-- a prefix of a piece that is not empty has a byte
pub feeds_some : (s t : Serving) (stream : ℕ) (piece : List ℕ) (count : ℕ) (old new : List (ℕ × ℕ)) (v w : Option (List ℕ)) (a b : List ℕ) → length old < MAX_HITS → length piece ≢ 0 → FeedsOn s stream piece count old new t v w a b → 0 < count
feeds_some s t stream piece zero old new v w a b few any on =
    let stops = on.fed.stops in
    let none : length stops.gained.found ≡ 0 = no_hits _ on.fed.state.scan.tail _ stops.gained.found stops.gained.added in
    let same : length on.gained ≡ length old = ap length stops.gained.grown ∙ length-append old stops.gained.found ∙ omega (arith, none) in
    elim (cases_lt 0 (length piece)) [
      | inl some ↦ absurd (omega (arith, stops.enough some, same, few))
      | inr empty ↦ absurd (any (omega (arith, empty)))
    ]
feeds_some s t stream piece (suc count) old new v w a b few any on = omega arith

-- nothing was fed yet
pub fed_none : (s : Serving) (stream : ℕ) (piece : List ℕ) (place : ℕ) (hits : List (ℕ × ℕ)) (v : Option (List ℕ)) (b : List ℕ) → MayFeed s stream piece place → hits ≡ [] → HasFed s stream piece piece hits s v v b b
fed_none s stream piece place hits v b may none = subst (λ hs. HasFed s stream piece piece hs s v v b b) (sym none) record {
  bytes = [];
  blocks = [];
  text_is = refl;
  few = omega arith;
  full = tt;
  feeding = feeding_none s stream piece place may;
  sent = sends_none v b;
}

-- full blocks, others, and the rest
both_cut : (blocks more : List (List (ℕ × ℕ))) (gained left : List (ℕ × ℕ)) → gained ≡ joined more ++ left → joined blocks ++ gained ≡ joined (blocks ++ more) ++ left
both_cut blocks more gained left cut =
    ap (λ hs. joined blocks ++ hs) cut
    ∙ sym (append_assoc (joined blocks) (joined more) left)
    ∙ ap (λ hs. hs ++ left) (sym (joined-append blocks more))

-- a prefix more
pub fed_on : (s t u : Serving) (stream : ℕ) (piece rest others : List ℕ) (count : ℕ) (old new : List (ℕ × ℕ)) (v w x : Option (List ℕ)) (a b c : List ℕ) → HasFed s stream piece rest old t v w a b → FeedsOn t stream rest count old new u w x b c → others ≡ drop count rest → HasFed s stream piece others new u v x a c
fed_on s t u stream piece rest others count old new v w x a b c so on after = record {
  bytes = so.bytes ++ take count rest;
  blocks = so.blocks ++ on.sent_full.blocks;
  text_is = so.text_is ∙ ap (λ bs. so.bytes ++ bs) (sym (take-append-drop count rest))
      ∙ sym (append_assoc so.bytes (take count rest) (drop count rest)) ∙ ap (λ bs. (so.bytes ++ take count rest) ++ bs) (sym after);
  few = on.few;
  full = full-append MAX_HITS so.blocks on.sent_full.blocks so.full on.sent_full.full;
  feeding = subst (λ hs. IsFeeding s stream (so.bytes ++ take count rest) hs u) (both_cut so.blocks on.sent_full.blocks on.gained new on.sent_full.cut)
      (feeding_more s t u stream so.bytes rest (MAX_HITS - length old) count (joined so.blocks) old on.gained so.feeding on.fed);
  sent = sends_is v x a c _ _ (sent_both stream so.blocks on.sent_full.blocks)
      (sends_then v w x a b c (replies_text (map (Hits stream) so.blocks)) (replies_text (map (Hits stream) on.sent_full.blocks)) so.sent on.sent_full.sent);
}

-- a list of no elements
empty : (xs : List ℕ) → length xs ≡ 0 → xs ≡ []
empty [] none = refl
empty (x ∷ xs) none = absurd (omega (arith, none))

-- the whole piece was fed: the event of it all
event_of : (s t : Serving) (stream : ℕ) (piece rest : List ℕ) (place : ℕ) (hits : List (ℕ × ℕ)) (v w : Option (List ℕ)) (a b : List ℕ) → MayFeed s stream piece place → length rest ≡ 0 → (so : HasFed s stream piece rest hits t v w a b) → IsEvent s (Feed stream piece) (fed_replies stream (so.blocks ++ last_block hits) place) t
event_of s t stream piece rest place hits v w a b may none so =
    let all : so.bytes ≡ piece = sym (append-nil so.bytes) ∙ ap (λ bs. so.bytes ++ bs) (sym (empty rest none)) ∙ sym so.text_is in
    feeding_ends s t stream piece (joined so.blocks ++ hits) (so.blocks ++ last_block hits) place may
    (subst (λ bs. IsFeeding s stream bs (joined so.blocks ++ hits) t) all so.feeding)
    (blocks_after MAX_HITS so.blocks (last_block hits) hits (omega arith) so.full (last_is MAX_HITS hits so.few))

-- the answer is complete
pub answered_whole : (s t : Serving) (stream : ℕ) (piece rest : List ℕ) (place : ℕ) (hits : List (ℕ × ℕ)) (v w x : Option (List ℕ)) (a b c : List ℕ) → MayFeed s stream piece place → length rest ≡ 0 → HasFed s stream piece rest hits t v w a b → Sends w x b c (replies_text (fed_replies stream (last_block hits) place)) → Answered IsEvent s t (Feed stream piece) v x a c
answered_whole s t stream piece rest place hits v w x a b c may none so sent = record {
  replies = fed_replies stream (so.blocks ++ last_block hits) place;
  is_step = event_of s t stream piece rest place hits v w a b may none so;
  sent = sends_is v x a c _ _ (sent_last stream so.blocks (last_block hits) place)
      (sends_then v w x a b c (replies_text (map (Hits stream) so.blocks)) (replies_text (fed_replies stream (last_block hits) place)) so.sent sent);
}

-- it stops at its last replies
pub stopped_last : (s t : Serving) (stream : ℕ) (piece rest : List ℕ) (place : ℕ) (hits : List (ℕ × ℕ)) (v w x : Option (List ℕ)) (a b : List ℕ) → MayFeed s stream piece place → length rest ≡ 0 → HasFed s stream piece rest hits t v w a b → SendsLess w x b (replies_text (fed_replies stream (last_block hits) place)) → Stopped IsEvent s (Feed stream piece) v x a
stopped_last s t stream piece rest place hits v w x a b may none so sent = inr (record {
  replies = fed_replies stream (so.blocks ++ last_block hits) place;
  new = t;
  is_step = event_of s t stream piece rest place hits v w a b may none so;
  sent = less_is v x a _ _ (sent_last stream so.blocks (last_block hits) place)
      (sends_then_less v w x a b (replies_text (map (Hits stream) so.blocks)) (replies_text (fed_replies stream (last_block hits) place)) so.sent sent);
})

-- it stops once some full replies were sent: for any rest there is an answer that they begin
stopped_within : (s t : Serving) (stream : ℕ) (piece bytes rest : List ℕ) (place : ℕ) (full : List (List (ℕ × ℕ))) (left : List (ℕ × ℕ)) (v w : Option (List ℕ)) (a : List ℕ) → MayFeed s stream piece place → piece ≡ bytes ++ rest → AreFull MAX_HITS full → IsFeeding s stream bytes (joined full ++ left) t → SendsPrefix v w a (replies_text (map (Hits stream) full)) → Stopped IsEvent s (Feed stream piece) v w a
stopped_within s t stream piece bytes rest place full left v w a may is are feeding sent =
    let done = feeding_completes s t stream bytes rest (joined full ++ left) feeding in
    let more : List (ℕ × ℕ) = done.0 in
    let last = blocks_exist MAX_HITS (left ++ more) (omega arith) in
    let fed : IsFeeding s stream piece (joined full ++ (left ++ more)) done.1 =
    subst (λ hs. IsFeeding s stream piece hs done.1) (append_assoc (joined full) left more)
    (subst (λ bs. IsFeeding s stream bs ((joined full ++ left) ++ more) done.1) (sym is) done.2) in
    inr (record {
      replies = fed_replies stream (full ++ last.0) place;
      new = done.1;
      is_step = feeding_ends s done.1 stream piece (joined full ++ (left ++ more)) (full ++ last.0) place may fed (blocks_after MAX_HITS full last.0 (left ++ more) (omega arith) are last.1);
      sent = less_is v w a _ _ (sent_last stream full last.0 place) (less_of_more v w a (replies_text (map (Hits stream) full)) (replies_text (fed_replies stream last.0 place)) (last_some stream last.0 place) sent);
    })

-- it stops while a prefix is fed
pub stopped_feeding : (s t : Serving) (stream : ℕ) (piece rest : List ℕ) (place : ℕ) (hits : List (ℕ × ℕ)) (v w x : Option (List ℕ)) (a b : List ℕ) → MayFeed s stream piece place → HasFed s stream piece rest hits t v w a b → StopsFeeding t stream rest hits w x b → Stopped IsEvent s (Feed stream piece) v x a
stopped_feeding s t stream piece rest place hits v w x a b may so (inl sent) =
    stopped_within s t stream piece so.bytes rest place so.blocks hits v x a may so.text_is so.full so.feeding
    (prefix_is v x a _ _ (append-nil (replies_text (map (Hits stream) so.blocks))) (sends_then_prefix v w x a b (replies_text (map (Hits stream) so.blocks)) [] so.sent sent))
stopped_feeding s t stream piece rest place hits v w x a b may so (inr (count, gained, u, fed, sent_full)) =
    stopped_within s u stream piece (so.bytes ++ take count rest) (drop count rest) place (so.blocks ++ sent_full.blocks) sent_full.left v x a may
    (so.text_is ∙ ap (λ bs. so.bytes ++ bs) (sym (take-append-drop count rest)) ∙ sym (append_assoc so.bytes (take count rest) (drop count rest)))
    (full-append MAX_HITS so.blocks sent_full.blocks so.full sent_full.full)
    (subst (λ hs. IsFeeding s stream (so.bytes ++ take count rest) hs u) (both_cut so.blocks sent_full.blocks gained sent_full.left sent_full.cut)
    (feeding_more s t u stream so.bytes rest (MAX_HITS - length hits) count (joined so.blocks) hits gained so.feeding fed))
    (prefix_is v x a _ _ (sent_both stream so.blocks sent_full.blocks)
    (sends_then_prefix v w x a b (replies_text (map (Hits stream) so.blocks)) (replies_text (map (Hits stream) sent_full.blocks)) so.sent sent_full.sent))

-- ---- beside loaded plans

-- where answering stops, it stops with the tickets that the session keeps
pub stopped_with : (loaded : List TicketParts) (s : Serving) (request : RequestParts) (v w : Option (List ℕ)) (a : List ℕ) → Stopped (IsEventBeside loaded) s request v w a → Stopped IsStepBeside record { session = s; loaded = loaded } request v w a
stopped_with loaded s request v w a (inl nothing) = inl nothing
stopped_with loaded s request v w a (inr cut) = inr (record {
  replies = cut.replies;
  new = record { session = cut.new; loaded = loaded };
  is_step = record { event = cut.is_step; kept = refl };
  sent = cut.sent;
})
