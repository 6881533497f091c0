-- The answers to all frames that were read, once they are written.
use Rattle.std.proofs.Common.{◌≡◌, ℕ, ◌<◌, List, [], ◌∷◌, ◌++◌, length, drop, Option, refl, sym, ap, subst, ◌∙◌, inl, inr}
use Rattle.std.proofs.lemmas.List.{append-nil}
use Rattle.scan_wire.specs.declared.fault.Cause.{Cause}
use Rattle.scan_wire.specs.Causes.{HasCause, Waits}
use Rattle.scan_wire.specs.Frames.{replies_text, reply_text, requests_text}
use Rattle.scan_wire.specs.Messages.{ReplyParts}
use Rattle.scan_serve.specs.Answering.{AnswersAll, AnswersPrefix, AnswersTextPrefix, GoesOn, Step, bad_frame}
use Rattle.scan_serve.specs.Sending.{Sends, SendsLess}
use Rattle.scan_serve.proofs.RunLemmas.{replies_text-append}
use Rattle.scan_serve.proofs.SendLemmas.{prefix_is, sends_all, sends_is, sends_then, sends_then_prefix}

-- no reply after the others
no_last : (replies : List ReplyParts) → replies_text replies ≡ replies_text (replies ++ [])
no_last replies = ap (λ (x : List ReplyParts). replies_text x) (sym (append-nil replies))

-- one reply after the others
one_last : (replies : List ReplyParts) (last : ReplyParts) → replies_text replies ++ reply_text last ≡ replies_text (replies ++ last ∷ [])
one_last replies last = ap (λ (x : List ℕ). replies_text replies ++ x) (sym (append-nil (reply_text last))) ∙ sym (replies_text-append replies (last ∷ []))

-- all that waits is written, and nothing is after the replies
pub goes_on : {S : Type 0} (step : Step S) (s t : S) (text rest : List ℕ) (place : ℕ) (u v w : Option (List ℕ)) (b c : List ℕ) → AnswersAll step s t text 0 place u v [] b → Waits (drop place text) → length (drop place text) < 65545 → Sends v w b c [] → c ≡ [] → rest ≡ drop place text → GoesOn step s t u w text rest
goes_on step s t text rest place u v w b c a waits short sent none is = record {
  waits = subst (λ (x : List ℕ). Waits x) (sym is) waits;
  short = subst (λ (x : List ℕ). length x < 65545) (sym is) short;
  answers = record {
    requests = a.requests;
    replies = a.replies;
    are_requests = a.are_requests;
    run = a.run;
    text_is = a.text_is ∙ ap (λ (x : List ℕ). requests_text a.requests ++ x) (sym is);
    written = sends_all u w _ (sends_is u w [] [] _ _ (append-nil (replies_text a.replies) ∙ no_last a.replies) (subst (λ (x : List ℕ). Sends u w [] x (replies_text a.replies ++ [])) none (sends_then u v w [] b c (replies_text a.replies) [] a.sent sent)));
  };
}

-- what waits cannot be written
pub stops_flushing : {S : Type 0} (step : Step S) (s t : S) (text : List ℕ) (place : ℕ) (u v w : Option (List ℕ)) (b : List ℕ) → AnswersAll step s t text 0 place u v [] b → SendsLess v w b [] → AnswersTextPrefix step s u w text
stops_flushing step s t text place u v w b a sent = record {
  requests = a.requests;
  replies = a.replies;
  last = [];
  rest = drop place text;
  new = t;
  are_requests = a.are_requests;
  text_is = a.text_is;
  run = a.run;
  is_last = inl refl;
  written = prefix_is u w [] _ _ (append-nil (replies_text a.replies) ∙ no_last a.replies) (sends_then_prefix u v w [] b (replies_text a.replies) [] a.sent sent.prefix);
  missed = inl sent.missed;
}

-- the refusal of a bad frame cannot be written
pub stops_refusing : {S : Type 0} (step : Step S) (s t : S) (text : List ℕ) (place : ℕ) (cause : Cause) (u v w : Option (List ℕ)) (b : List ℕ) → AnswersAll step s t text 0 place u v [] b → HasCause cause (drop place text) → SendsLess v w b (reply_text (bad_frame cause)) → AnswersTextPrefix step s u w text
stops_refusing step s t text place cause u v w b a has sent = record {
  requests = a.requests;
  replies = a.replies;
  last = bad_frame cause ∷ [];
  rest = drop place text;
  new = t;
  are_requests = a.are_requests;
  text_is = a.text_is;
  run = a.run;
  is_last = inr (cause, has, refl);
  written = prefix_is u w [] _ _ (one_last a.replies (bad_frame cause)) (sends_then_prefix u v w [] b (replies_text a.replies) (reply_text (bad_frame cause)) a.sent sent.prefix);
  missed = inl sent.missed;
}

-- a request is not answered in full
pub stops_answering : {S : Type 0} (step : Step S) (s : S) (text : List ℕ) (u v : Option (List ℕ)) → AnswersPrefix step s text 0 u v [] → AnswersTextPrefix step s u v text
stops_answering step s text u v a = record {
  requests = a.requests;
  replies = a.replies;
  last = [];
  rest = a.rest;
  new = a.new;
  are_requests = a.are_requests;
  text_is = a.text_is;
  run = a.run;
  is_last = inl refl;
  written = prefix_is u v [] _ _ (no_last a.replies) a.sent;
  missed = elim a.missed [
    | inl lost ↦ inl lost
    | inr frame ↦ inr (refl, frame)
  ];
}
