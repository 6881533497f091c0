-- Requests read one after the other from a text.
use Rattle.std.proofs.Common.{ℕ, List, ◌++◌, drop, map, sym, ap, ◌∙◌, append_assoc}
use Rattle.std.proofs.lemmas.List.{map-append}
use Rattle.std.proofs.lemmas.List.Elements.{All-append}
use Rattle.std.proofs.lemmas.List.Concat.{flat_map-append}
use Rattle.scan_wire.specs.declared.message.Request.{Request}
use Rattle.scan_wire.specs.Frames.{IsRequest, request_text, requests_text}
use Rattle.scan_wire.specs.Messages.{RequestParts, request_parts}
use Rattle.scan_wire.specs.Reading.{GainsRequests}

-- what can be asked in one frame, of a request that owns its bytes
abbrev IsAsked : Request → Type 0
IsAsked r = IsRequest (request_parts r)

-- more requests are read after those
pub gains_then : (text : List ℕ) (a b c : ℕ) (x y z : List Request) → GainsRequests text a b x y → GainsRequests text b c y z → GainsRequests text a c x z
gains_then text a b c x y z p q = record {
  gained = p.gained ++ q.gained;
  list = q.list ∙ ap (λ (w : List Request). w ++ q.gained) p.list ∙ append_assoc x p.gained q.gained;
  are_requests = All-append IsAsked p.gained q.gained p.are_requests q.are_requests;
  within = q.within;
  text_is = p.text_is ∙ ap (λ (w : List ℕ). requests_text (map request_parts p.gained) ++ w) q.text_is
      ∙ sym (append_assoc (requests_text (map request_parts p.gained)) (requests_text (map request_parts q.gained)) (drop c text))
      ∙ ap (λ (w : List ℕ). w ++ drop c text) (sym (flat_map-append request_text (map request_parts p.gained) (map request_parts q.gained)))
      ∙ ap (λ (w : List RequestParts). requests_text w ++ drop c text) (sym (map-append request_parts p.gained q.gained));
}
