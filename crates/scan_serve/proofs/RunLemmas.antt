-- Requests answered one after the other.
use Rattle.std.proofs.Common.{◌≡◌, ℕ, ◌+◌, ◌≤◌, List, [], ◌∷◌, ◌++◌, length, drop, Option, refl, sym, ap, subst, ◌∙◌, inl, inr, append_assoc, arith}
use Rattle.std.proofs.lemmas.List.{append-nil, drop-drop, length-drop}
use Rattle.std.proofs.lemmas.List.Elements.{All-append, All-cons, All-nil}
use Rattle.std.proofs.lemmas.List.Concat.{flat_map-append}
use Rattle.std.specs.Io.KnownBytes.{Appends}
use Rattle.std.proofs.KnownBytes.{Appends-nil}
use Rattle.scan_wire.specs.Causes.{BeginsWithFrame, HasCause}
use Rattle.scan_wire.specs.Frames.{IsRequest, reply_text, replies_text, request_frame, request_text, requests_text}
use Rattle.scan_wire.specs.Messages.{ReplyParts, RequestParts}
use Rattle.scan_wire.specs.Reading.{StartsWith}
use Rattle.scan_serve.specs.declared.stop.Halt.{Halt}
use Rattle.scan_serve.specs.declared.stop.Halt.TheVariants as halt
use Rattle.scan_serve.specs.Answering.{Answered, AnswersAll, AnswersPrefix, Run, Step, Stopped}
use Rattle.scan_serve.specs.Stops.{OnHalt}
use Rattle.scan_serve.proofs.SendLemmas.{prefix_is, sends_is, sends_none, sends_then, sends_then_prefix}

-- two runs are one
pub run_then : {S : Type 0} (step : Step S) (s t u : S) (rs qs : List RequestParts) (xs ys : List ReplyParts) → Run step s rs xs t → Run step t qs ys u → Run step s (rs ++ qs) (xs ++ ys) u
run_then {S} step s t u [] qs xs ys p q = subst (λ (z : List ReplyParts). Run step s qs z u) (ap (λ (w : List ReplyParts). w ++ ys) (sym p.0)) (subst (λ (z : S). Run step z qs ys u) p.1 q)
run_then {S} step s t u (r ∷ rs) qs xs ys (first, others, mid, is, one, more) q =
    (first, others ++ ys, mid, ap (λ (w : List ReplyParts). w ++ ys) is ∙ append_assoc first others ys, one, run_then step mid t u rs qs others ys more q)

-- the texts of replies, one list after the other
pub replies_text-append : (xs ys : List ReplyParts) → replies_text (xs ++ ys) ≡ replies_text xs ++ replies_text ys
replies_text-append xs ys = flat_map-append reply_text xs ys

-- nothing is answered
pub answers_none : {S : Type 0} (step : Step S) (s : S) (text : List ℕ) (place : ℕ) (v : Option (List ℕ)) (b : List ℕ) → place ≤ length text → AnswersAll step s s text place place v v b b
answers_none step s text place v b le = record {
  requests = [];
  replies = [];
  are_requests = All-nil IsRequest;
  within = le;
  text_is = refl;
  run = (refl, refl);
  sent = sends_none v b;
}

-- one request is answered
pub answers_one : {S : Type 0} (step : Step S) (s t : S) (text : List ℕ) (place len : ℕ) (r : RequestParts) (v w : Option (List ℕ)) (b c : List ℕ) → place ≤ length text → StartsWith (drop place text) r len → Answered step s t r v w b c → AnswersAll step s t text place (place + len) v w b c
answers_one step s t text place len r v w b c le st a = record {
  requests = r ∷ [];
  replies = a.replies;
  are_requests = All-cons IsRequest r [] st.is_request (All-nil IsRequest);
  within = omega (arith, st.within, length-drop place text);
  text_is = st.text_is ∙ ap (λ (x : List ℕ). x ++ drop len (drop place text)) (sym (append-nil (request_text r))) ∙ ap (λ (x : List ℕ). requests_text (r ∷ []) ++ x) (drop-drop len place text);
  run = (a.replies, [], t, sym (append-nil a.replies), a.is_step, (refl, refl));
  sent = a.sent;
}

-- then more are
pub answers_then : {S : Type 0} (step : Step S) (s t u : S) (text : List ℕ) (i j k : ℕ) (x y z : Option (List ℕ)) (a b c : List ℕ) → AnswersAll step s t text i j x y a b → AnswersAll step t u text j k y z b c → AnswersAll step s u text i k x z a c
answers_then step s t u text i j k x y z a b c p q = record {
  requests = p.requests ++ q.requests;
  replies = p.replies ++ q.replies;
  are_requests = All-append IsRequest p.requests q.requests p.are_requests q.are_requests;
  within = q.within;
  text_is = p.text_is ∙ ap (λ (w : List ℕ). requests_text p.requests ++ w) q.text_is ∙ sym (append_assoc (requests_text p.requests) (requests_text q.requests) (drop k text))
      ∙ ap (λ (w : List ℕ). w ++ drop k text) (sym (flat_map-append request_text p.requests q.requests));
  run = run_then step s t u p.requests q.requests p.replies q.replies p.run q.run;
  sent = sends_is x z a c _ _ (sym (replies_text-append p.replies q.replies)) (sends_then x y z a b c (replies_text p.replies) (replies_text q.replies) p.sent q.sent);
}

-- a request's frame at the start is a frame
starts_frame : (text : List ℕ) (r : RequestParts) (len : ℕ) → StartsWith text r len → BeginsWithFrame text
starts_frame text r len st = record { frame = request_frame r; rest = drop len text; is_frame = st.is_request.frame; text_is = st.text_is }

-- no frame from the place on is answered, and nothing is written
stops_at : {S : Type 0} (step : Step S) (s : S) (text : List ℕ) (place : ℕ) (v w : Option (List ℕ)) (b : List ℕ) → BeginsWithFrame (drop place text) → Appends v w [] → AnswersPrefix step s text place v w b
stops_at step s text place v w b frame nothing = record {
  requests = [];
  replies = [];
  rest = drop place text;
  new = s;
  are_requests = All-nil IsRequest;
  text_is = refl;
  run = (refl, refl);
  sent = record { done = []; lost = b; written = nothing; text_is = append-nil b };
  missed = inr frame;
}

-- the request at the place is not answered in full
pub stops_in : {S : Type 0} (step : Step S) (s : S) (text : List ℕ) (place len : ℕ) (r : RequestParts) (v w : Option (List ℕ)) (b : List ℕ) → StartsWith (drop place text) r len → Stopped step s r v w b → AnswersPrefix step s text place v w b
stops_in step s text place len r v w b st (inl nothing) = stops_at step s text place v w b (starts_frame (drop place text) r len st) nothing
stops_in step s text place len r v w b st (inr cut) = record {
  requests = r ∷ [];
  replies = cut.replies;
  rest = drop len (drop place text);
  new = cut.new;
  are_requests = All-cons IsRequest r [] st.is_request (All-nil IsRequest);
  text_is = st.text_is ∙ ap (λ (x : List ℕ). x ++ drop len (drop place text)) (sym (append-nil (request_text r)));
  run = (cut.replies, [], cut.new, sym (append-nil cut.replies), cut.is_step, (refl, refl));
  sent = cut.sent.prefix;
  missed = inl cut.sent.missed;
}

-- after requests that were answered, one is not answered in full
pub answers_then_prefix : {S : Type 0} (step : Step S) (s t : S) (text : List ℕ) (i j : ℕ) (x y z : Option (List ℕ)) (a b : List ℕ) → AnswersAll step s t text i j x y a b → AnswersPrefix step t text j y z b → AnswersPrefix step s text i x z a
answers_then_prefix step s t text i j x y z a b p q = record {
  requests = p.requests ++ q.requests;
  replies = p.replies ++ q.replies;
  rest = q.rest;
  new = q.new;
  are_requests = All-append IsRequest p.requests q.requests p.are_requests q.are_requests;
  text_is = p.text_is ∙ ap (λ (w : List ℕ). requests_text p.requests ++ w) q.text_is ∙ sym (append_assoc (requests_text p.requests) (requests_text q.requests) q.rest)
      ∙ ap (λ (w : List ℕ). w ++ q.rest) (sym (flat_map-append request_text p.requests q.requests));
  run = run_then step s t q.new p.requests q.requests p.replies q.replies p.run q.run;
  sent = prefix_is x z a _ _ (sym (replies_text-append p.replies q.replies)) (sends_then_prefix x y z a b (replies_text p.replies) (replies_text q.replies) p.sent q.sent);
  missed = q.missed;
}

-- what halts before the first request is answered
pub halts_first : {S : Type 0} (step : Step S) (s : S) (text rest : List ℕ) (place : ℕ) (v : Option (List ℕ)) (b : List ℕ) (h : Halt) → place ≤ length text → rest ≡ drop place text → OnHalt (λ cause. HasCause cause rest) (BeginsWithFrame rest) h
    → OnHalt (λ cause. HasCause cause (drop place text) × AnswersAll step s s text place place v v b b) (AnswersPrefix step s text place v v b) h
halts_first step s text rest place v b (halt.Bad cause) le is h = (subst (λ (x : List ℕ). HasCause cause x) is h, answers_none step s text place v b le)
halts_first step s text rest place v b (halt.Stopped stop) le is h = stops_at step s text place v v b (subst (λ (x : List ℕ). BeginsWithFrame x) is h) (Appends-nil v)

-- what halts after requests that were answered
pub halts_after : {S : Type 0} (step : Step S) (s t u : S) (text : List ℕ) (i j : ℕ) (x y z : Option (List ℕ)) (a b c : List ℕ) (h : Halt) → AnswersAll step s t text i j x y a b
    → OnHalt (λ cause. HasCause cause (drop j text) × AnswersAll step t u text j j y z b c) (AnswersPrefix step t text j y z b) h
    → OnHalt (λ cause. HasCause cause (drop j text) × AnswersAll step s u text i j x z a c) (AnswersPrefix step s text i x z a) h
halts_after step s t u text i j x y z a b c (halt.Bad cause) p q = (q.0, answers_then step s t u text i j j x y z a b c p q.1)
halts_after step s t u text i j x y z a b c (halt.Stopped stop) p q = answers_then_prefix step s t text i j x y z a b p q
