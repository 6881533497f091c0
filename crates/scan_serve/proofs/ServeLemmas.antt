-- Turns of serving, one after the other, and how they end.
use Rattle.std.proofs.Common.{◌≡◌, ◌≢◌, ℕ, List, [], ◌++◌, length, Option, None, Some, Result, Ok, refl, sym, ap, subst, ◌∙◌, inr, append_assoc, arith}
use Rattle.std.proofs.lemmas.List.{append-nil, length-append, nil_from_length}
use Rattle.std.proofs.lemmas.List.Elements.{All-append, All-nil}
use Rattle.std.proofs.lemmas.List.Concat.{flat_map-append}
use Rattle.std.specs.Io.KnownBytes.{Appends}
use Rattle.std.proofs.KnownBytes.{Appends-nil, Appends-trans}
use Rattle.byte_io.specs.Devices.{Coming, EndsHere, Gives, IfKnown}
use Rattle.byte_io.specs.Transfers.{ReadsInto}
use Rattle.byte_io.proofs.KnownLemmas.{IfKnown-then}
use Rattle.byte_io.proofs.TransferLemmas.{ReadsInto-none}
use Rattle.scan_wire.proofs.FrameLemmas.{waits_short}
use Rattle.scan_wire.specs.Causes.{Waits}
use Rattle.scan_wire.specs.Frames.{IsRequest, replies_text, request_text, requests_text}
use Rattle.scan_wire.specs.Messages.{ReplyParts}
use Rattle.scan_serve.specs.declared.ended.Ended.{Ended}
use Rattle.scan_serve.specs.declared.ended.Ended.TheVariants.{Clean, Truncated, Bad, ReadFault, WriteFault, OutOfMemory}
use Rattle.scan_serve.specs.declared.stop.Stop.{Stop}
use Rattle.scan_serve.specs.Answering.{AnswersText, Step}
use Rattle.scan_serve.specs.Sending.{SendsPrefix}
use Rattle.scan_serve.specs.Serving.{AtEnd, EndsAs, GoesOnServing, IsServed, IsServedPrefix}
use Rattle.scan_serve.proofs.RunLemmas.{replies_text-append, run_then}

-- nothing is answered, and nothing is written
nothing_answered : {S : Type 0} (step : Step S) (s : S) (v : Option (List ℕ)) (text : List ℕ) → AnswersText step s s v v text text []
nothing_answered step s v text = record { requests = []; replies = []; are_requests = All-nil IsRequest; text_is = refl; run = (refl, refl); written = Appends-nil v }

-- bytes were read, and the requests among those held then were answered
pub served_from : {S : Type 0} (step : Step S) (s t : S) (c d : Option Coming) (v w : Option (List ℕ)) (held mid rest : List ℕ) (last : List ReplyParts) → ReadsInto c d held mid → AnswersText step s t v w mid rest last → IsServed step s t c d v w held rest last
served_from step s t c d v w held mid rest last r a = record {
  bytes = r.bytes;
  read = r.given;
  answers = subst (λ (x : List ℕ). AnswersText step s t v w x rest last) r.text a;
}

-- before the first turn
pub served_none : {S : Type 0} (step : Step S) (s : S) (c d : Option Coming) (v : Option (List ℕ)) (held mid : List ℕ) → ReadsInto c d held mid → IsServed step s s c d v v held mid []
served_none step s c d v held mid r = served_from step s s c d v v held mid mid [] r (nothing_answered step s v mid)

-- bytes given, and then others
gives_then : (bs cs : List ℕ) (x y z : Coming) → Gives x y bs → Gives y z cs → Gives x z (bs ++ cs)
gives_then bs cs x y z p q = record { text = p.text ∙ ap (λ (l : List ℕ). bs ++ l) q.text ∙ sym (append_assoc bs cs z.text); ending = q.ending ∙ p.ending }

known_gives : (a b c : Option Coming) (bs cs : List ℕ) → IfKnown a b (λ x y. Gives x y bs) → IfKnown b c (λ x y. Gives x y cs) → IfKnown a c (λ x y. Gives x y (bs ++ cs))
known_gives a b c bs cs p q = IfKnown-then a b c (λ x y. Gives x y bs) (λ x y. Gives x y cs) (λ x y. Gives x y (bs ++ cs)) p q (gives_then bs cs)

-- requests and a rest, and after them other requests and a rest
texts_then : (held b1 mid b2 rest rt1 rt2 : List ℕ) → held ++ b1 ≡ rt1 ++ mid → mid ++ b2 ≡ rt2 ++ rest → held ++ (b1 ++ b2) ≡ (rt1 ++ rt2) ++ rest
texts_then held b1 mid b2 rest rt1 rt2 p q =
    sym (append_assoc held b1 b2) ∙ ap (λ (x : List ℕ). x ++ b2) p ∙ append_assoc rt1 mid b2 ∙ ap (λ (x : List ℕ). rt1 ++ x) q ∙ sym (append_assoc rt1 rt2 rest)

-- two turns are one
pub served_then : {S : Type 0} (step : Step S) (s t u : S) (a b c : Option Coming) (x y z : Option (List ℕ)) (held mid rest : List ℕ) (last : List ReplyParts) → IsServed step s t a b x y held mid [] → IsServed step t u b c y z mid rest last → IsServed step s u a c x z held rest last
served_then step s t u a b c x y z held mid rest last p q = record {
  bytes = p.bytes ++ q.bytes;
  read = known_gives a b c p.bytes q.bytes p.read q.read;
  answers = record {
    requests = p.answers.requests ++ q.answers.requests;
    replies = p.answers.replies ++ q.answers.replies;
    are_requests = All-append IsRequest p.answers.requests q.answers.requests p.answers.are_requests q.answers.are_requests;
    text_is = texts_then held p.bytes mid q.bytes rest (requests_text p.answers.requests) (requests_text q.answers.requests) p.answers.text_is q.answers.text_is
        ∙ ap (λ (w : List ℕ). w ++ rest) (sym (flat_map-append request_text p.answers.requests q.answers.requests));
    run = run_then step s t u p.answers.requests q.answers.requests p.answers.replies q.answers.replies p.answers.run q.answers.run;
    written = subst (λ (w : List ℕ). Appends x z w) (joined p.answers.replies q.answers.replies last) (Appends-trans x y z (replies_text (p.answers.replies ++ [])) (replies_text (q.answers.replies ++ last)) p.answers.written q.answers.written);
  };
}
  where
    joined : (xs ys zs : List ReplyParts) → replies_text (xs ++ []) ++ replies_text (ys ++ zs) ≡ replies_text ((xs ++ ys) ++ zs)
    joined xs ys zs = ap (λ (l : List ReplyParts). replies_text l ++ replies_text (ys ++ zs)) (append-nil xs) ∙ sym (replies_text-append xs (ys ++ zs)) ∙ ap (λ (l : List ReplyParts). replies_text l) (sym (append_assoc xs ys zs))

-- what was written before a prefix
abbrev prefix_after : (u v w : Option (List ℕ)) (one two all : List ℕ) → one ++ two ≡ all → Appends u v one → SendsPrefix v w [] two → SendsPrefix u w [] all
prefix_after u v w one two all e p f = record {
  done = one ++ f.done;
  lost = f.lost;
  written = Appends-trans u v w one f.done p f.written;
  text_is = sym e ∙ ap (λ (l : List ℕ). one ++ l) f.text_is ∙ sym (append_assoc one f.done f.lost);
}

-- turns, and then a turn that stops
pub served_then_prefix : {S : Type 0} (step : Step S) (s t : S) (a b c : Option Coming) (x y z : Option (List ℕ)) (held mid : List ℕ) → IsServed step s t a b x y held mid [] → IsServedPrefix step t b c y z mid → IsServedPrefix step s a c x z held
served_then_prefix step s t a b c x y z held mid p q = record {
  bytes = p.bytes ++ q.bytes;
  read = known_gives a b c p.bytes q.bytes p.read q.read;
  answers = record {
    requests = p.answers.requests ++ q.answers.requests;
    replies = p.answers.replies ++ q.answers.replies;
    last = q.answers.last;
    rest = q.answers.rest;
    new = q.answers.new;
    are_requests = All-append IsRequest p.answers.requests q.answers.requests p.answers.are_requests q.answers.are_requests;
    text_is = texts_then held p.bytes mid q.bytes q.answers.rest (requests_text p.answers.requests) (requests_text q.answers.requests) p.answers.text_is q.answers.text_is
        ∙ ap (λ (w : List ℕ). w ++ q.answers.rest) (sym (flat_map-append request_text p.answers.requests q.answers.requests));
    run = run_then step s t q.answers.new p.answers.requests q.answers.requests p.answers.replies q.answers.replies p.answers.run q.answers.run;
    is_last = q.answers.is_last;
    written = prefix_after x y z (replies_text (p.answers.replies ++ [])) (replies_text (q.answers.replies ++ q.answers.last)) _ (joined p.answers.replies q.answers.replies q.answers.last) p.answers.written q.answers.written;
    missed = q.answers.missed;
  };
}
  where
    joined : (xs ys zs : List ReplyParts) → replies_text (xs ++ []) ++ replies_text (ys ++ zs) ≡ replies_text ((xs ++ ys) ++ zs)
    joined xs ys zs = ap (λ (l : List ReplyParts). replies_text l ++ replies_text (ys ++ zs)) (append-nil xs) ∙ sym (replies_text-append xs (ys ++ zs)) ∙ ap (λ (l : List ReplyParts). replies_text l) (sym (append_assoc xs ys zs))

-- a clean end after known bytes
at_end_then : (a b c : Option Coming) (bs : List ℕ) → IfKnown a b (λ x y. Gives x y bs) → AtEnd b c → AtEnd a c
at_end_then a b c bs p q = IfKnown-then a b c (λ x y. Gives x y bs) (λ _ y. EndsHere y) (λ _ y. EndsHere y) p q (λ x y z g e. e)

-- turns, and then an ending
pub served_then_ends : {S : Type 0} (step : Step S) (s t u : S) (a b c : Option Coming) (x y z : Option (List ℕ)) (held mid : List ℕ) (e : Ended) → e ≢ OutOfMemory → IsServed step s t a b x y held mid [] → EndsAs step t u b c y z mid e → EndsAs step s u a c x z held e
served_then_ends step s t u a b c x y z held mid Clean mem p q = (served_then step s t u a b c x y z held mid [] [] p q.0, at_end_then a b c p.bytes p.read q.1)
served_then_ends step s t u a b c x y z held mid Truncated mem p (rest, some, waits, q, end) = (rest, some, waits, served_then step s t u a b c x y z held mid rest [] p q, at_end_then a b c p.bytes p.read end)
served_then_ends step s t u a b c x y z held mid Bad mem p (rest, cause, has, q) = (rest, cause, has, served_then step s t u a b c x y z held mid rest _ p q)
served_then_ends step s t u a b c x y z held mid ReadFault mem p (rest, waits, q) = (rest, waits, served_then step s t u a b c x y z held mid rest [] p q)
served_then_ends step s t u a b c x y z held mid WriteFault mem p q = served_then_prefix step s t a b c x y z held mid p q
served_then_ends step s t u a b c x y z held mid OutOfMemory mem p q = absurd (mem refl)

-- the held bytes stay the same where a read gave nothing
reads_none : (c d : Option Coming) (old new : List ℕ) → ReadsInto c d old new → length new ≡ length old → new ≡ old
reads_none c d old new r len = r.text ∙ ap (λ (x : List ℕ). old ++ x) (nil_from_length r.bytes (omega (arith, ap length r.text, length-append old r.bytes))) ∙ append-nil old

-- a read gave nothing, and nothing is held
pub ends_clean : {S : Type 0} (step : Step S) (s : S) (c d : Option Coming) (v : Option (List ℕ)) (old new : List ℕ) → ReadsInto c d old new → AtEnd c d → new ≡ [] → EndsAs step s s c d v v old Clean
ends_clean step s c d v old new r end none = (subst (λ (x : List ℕ). IsServed step s s c d v v old x []) none (served_none step s c d v old new r), end)

-- a read gave nothing, and something is held
pub ends_truncated : {S : Type 0} (step : Step S) (s : S) (c d : Option Coming) (v : Option (List ℕ)) (old new : List ℕ) → ReadsInto c d old new → AtEnd c d → length new ≡ length old → Waits old → (new ≡ [] → ⊥) → EndsAs step s s c d v v old Truncated
ends_truncated step s c d v old new r end len waits some = (new, some, subst (λ (x : List ℕ). Waits x) (sym (reads_none c d old new r len)) waits, served_none step s c d v old new r, end)

-- a read failed
pub ends_failed : {S : Type 0} (step : Step S) (s : S) (c d : Option Coming) (v : Option (List ℕ)) (old new : List ℕ) → ReadsInto c d old new → new ≡ old → Waits old → EndsAs step s s c d v v old ReadFault
ends_failed step s c d v old new r same waits = (new, subst (λ (x : List ℕ). Waits x) (sym same) waits, served_none step s c d v old new r)

-- turns in which the stream goes on
pub serving_then : {S : Type 0} (step : Step S) (s t u : S) (a b c : Option Coming) (x y z : Option (List ℕ)) (held mid rest : List ℕ) → IsServed step s t a b x y held mid [] → GoesOnServing step t u b c y z mid rest → GoesOnServing step s u a c x z held rest
serving_then step s t u a b c x y z held mid rest p q = record { waits = q.waits; short = q.short; served = served_then step s t u a b c x y z held mid rest [] p q.served }

-- before the first turn nothing is held
pub serving_none : {S : Type 0} (step : Step S) (s : S) (c : Option Coming) (v : Option (List ℕ)) (held : List ℕ) → held ≡ [] → GoesOnServing step s s c c v v held held
serving_none step s c v held none = record {
  waits = subst (λ (x : List ℕ). Waits x) (sym none) (waits_short [] (omega arith));
  short = omega (arith, ap length none);
  served = served_none step s c c v held held (ReadsInto-none c held);
}

-- what a turn answers
abbrev turned : Option Ended → Result (Option Ended) Stop
turned ended = Ok ended

-- a stream that goes on has not ended
pub has_no_end : (now : Option Ended) (ended : Ended) → now ≡ None → turned now ≢ turned (Some ended)
has_no_end now ended on = λ e. cc

-- nothing is read
known_none : (c : Option Coming) → IfKnown c c (λ x y. Gives x y [])
known_none None = tt
known_none (Some x) = record { text = refl; ending = refl }

-- serving stops before the first turn
pub stops_first : {S : Type 0} (step : Step S) (s : S) (c : Option Coming) (v : Option (List ℕ)) → EndsAs step s s c c v v [] OutOfMemory
stops_first step s c v = inr (record { read = known_none c; written = Appends-nil v })
