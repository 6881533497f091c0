-- What stands at the start of a text: a frame, a bad length, or too few bytes.
use Rattle.std.proofs.Common.{◌≡◌, ◌≢◌, ℕ, ◌+◌, ◌^◌, ◌<◌, ◌≤◌, List, ◌∷◌, ◌++◌, length, take, drop, sym, ap, ◌∙◌, Option, Some, None, append_assoc, arith}
use Rattle.std.specs.Prelude.{IfNone, IfSome, MatchOption}
use Rattle.std.proofs.lemmas.List.{length-append, length-take, take-append-drop, drop_at}
use Rattle.scan_wire.specs.declared.fault.Cause.{Cause}
use Rattle.scan_wire.specs.declared.fault.Cause.TheVariants.{Length, Kind, Stream, Payload}
use Rattle.scan_wire.specs.Causes.{HasBadLength, HasCause, Waits}
use Rattle.scan_wire.specs.Frames.{FrameParts, IsFrame, frame_text, request_frame}
use Rattle.scan_wire.specs.Numbers.{u32_text}
use Rattle.scan_wire.specs.Reading.{StartsWithFrame, parts_of}
use Rattle.scan_wire.specs.declared.frames.Frame.{Frame}
use Rattle.scan_wire.proofs.NumberLemmas.{SameFirst, length-u32_text, u32_same}

-- what stands after the length of a frame
abbrev pub body_of : FrameParts → List ℕ
body_of f = f.kind ∷ (u32_text f.stream ++ f.payload)

pub length-body_of : (f : FrameParts) → length (body_of f) ≡ 5 + length f.payload
length-body_of f = omega (arith, length-append (u32_text f.stream) f.payload, length-u32_text f.stream)

pub length-frame_text : (f : FrameParts) → length (frame_text f) ≡ 9 + length f.payload
length-frame_text f = omega (arith, length-append (u32_text (5 + length f.payload)) (body_of f), length-body_of f, length-u32_text (5 + length f.payload))

-- a text begins with the length of the frame that it begins with
begins_same : (text : List ℕ) (n : ℕ) (rest : List ℕ) (f : FrameParts) (later : List ℕ) → n < 2 ^ 32 → text ≡ u32_text n ++ rest → IsFrame f → text ≡ frame_text f ++ later → SameFirst n (5 + length f.payload) rest (body_of f ++ later)
begins_same text n rest f later ln is frame e =
    u32_same n (5 + length f.payload) rest (body_of f ++ later) ln (omega (arith, frame.payload)) (sym is ∙ e ∙ append_assoc (u32_text (5 + length f.payload)) (body_of f) later)

-- no frame stands at the start
abbrev pub NoFrame : List ℕ → Type 0
NoFrame text = (f : FrameParts) (later : List ℕ) → IsFrame f → text ≢ frame_text f ++ later

-- no frame has fewer than four bytes
none_short : (text : List ℕ) → length text < 4 → NoFrame text
none_short text short f later frame e = omega (arith, ap length e, length-append (frame_text f) later, length-frame_text f)

-- a frame with bytes missing is not whole
none_cut : (text : List ℕ) (n : ℕ) (rest : List ℕ) → n < 2 ^ 32 → text ≡ u32_text n ++ rest → length rest < n → NoFrame text
none_cut text n rest ln is few f later frame e =
    let same = begins_same text n rest f later ln is frame e in
    omega (arith, same.number, ap length same.rest, length-append (body_of f) later, length-body_of f)

-- a text at whose prefix no frame stands, and no bad length, waits
waits_from : (text : List ℕ) → NoFrame text → (HasBadLength text → ⊥) → Waits text
waits_from text none good = record {
  no_request = λ b. none (request_frame b.request) b.rest b.is_request.frame b.text_is;
  no_cause = no_cause_of;
}
  where
    no_cause_of : (cause : Cause) → HasCause cause text → ⊥
    no_cause_of Length h = good h
    no_cause_of Kind h = none h.frame h.rest h.is_frame h.text_is
    no_cause_of Stream h = none h.frame h.rest h.is_frame h.text_is
    no_cause_of Payload h = none h.frame h.rest h.is_frame h.text_is

-- fewer than four bytes wait
pub waits_short : (text : List ℕ) → length text < 4 → Waits text
waits_short text short = waits_from text (none_short text short) (λ bad. omega (arith, ap length bad.text_is, length-append (u32_text bad.len) bad.rest, length-u32_text bad.len))

-- a length in its range with too few bytes after it waits
pub waits_cut : (text : List ℕ) (n : ℕ) (rest : List ℕ) → n < 2 ^ 32 → text ≡ u32_text n ++ rest → 5 ≤ n → n ≤ 65541 → length rest < n → Waits text
waits_cut text n rest ln is least most few = waits_from text (none_cut text n rest ln is few) good
  where
    good : HasBadLength text → ⊥
    good bad =
        let same = u32_same n bad.len rest bad.rest ln bad.four_bytes (sym is ∙ bad.text_is) in
        bad.out_of_range (record { least = omega (arith, same.number); most = omega (arith, same.number) })

-- a length and as many bytes after it are a frame
pub starts_with : (text : List ℕ) (n : ℕ) (rest prefix : List ℕ) (f : FrameParts) → f.kind < 2 ^ 8 → f.stream < 2 ^ 32 → text ≡ u32_text n ++ rest → n ≤ 65541 → n ≤ length rest → prefix ≡ take n rest → prefix ≡ body_of f → StartsWithFrame text f
starts_with text n rest prefix f kind stream is most long prefix_is body =
    let len : n ≡ 5 + length f.payload = omega (arith, ap length prefix_is, ap length body, length-take n rest, length-body_of f) in
    let rest-is : rest ≡ body_of f ++ drop n rest = sym (take-append-drop n rest) ∙ ap (λ (x : List ℕ). x ++ drop n rest) (sym prefix_is ∙ body) in
    let text-is : text ≡ frame_text f ++ drop n rest = is ∙ ap (λ (x : List ℕ). u32_text n ++ x) rest-is ∙ sym (append_assoc (u32_text n) (body_of f) (drop n rest)) ∙ ap (λ (k : ℕ). (u32_text k ++ body_of f) ++ drop n rest) len in
    let after : drop (9 + length f.payload) text ≡ drop n rest = ap (λ (x : List ℕ). drop (9 + length f.payload) x) text-is ∙ drop_at (frame_text f) (drop n rest) (9 + length f.payload) (length-frame_text f) in
    record {
      is_frame = record { kind = kind; stream = stream; payload = omega (arith, len, most) };
      within = omega (arith, ap length text-is, length-append (frame_text f) (drop n rest), length-frame_text f);
      text_is = text-is ∙ ap (λ (x : List ℕ). frame_text f ++ x) (sym after);
    }

-- a frame read from the bytes after a length in its range is the frame at the start
pub starts_or_waits : (text : List ℕ) (n : ℕ) (rest prefix : List ℕ) (o : Option Frame) → text ≡ u32_text n ++ rest → 5 ≤ n → n ≤ 65541 → n ≤ length rest → prefix ≡ take n rest → IfSome o (λ f. (f.kind < 2 ^ 8) × (f.stream < 2 ^ 32) × (prefix ≡ f.kind ∷ (u32_text f.stream ++ f.payload.now))) → IfNone o (length prefix < 5) → MatchOption o (Waits text) (λ f. StartsWithFrame text (parts_of f))
starts_or_waits text n rest prefix None is least most long prefix_is some none = absurd (omega (arith, none, ap length prefix_is, length-take n rest))
starts_or_waits text n rest prefix (Some f) is least most long prefix_is some none = starts_with text n rest prefix (parts_of f) some.0 some.1 is most long prefix_is some.2

-- as many bytes as kind and stream have are a frame
pub not_short : (P : Type 0) (o : Option Frame) (prefix : List ℕ) → 5 ≤ length prefix → IfNone o (length prefix < 5) → IfNone o P
not_short P None prefix long none = absurd (omega arith)
not_short P (Some f) prefix long none = tt

-- a text that begins with a length in its range, and has not all of its bytes, is short
pub cut_short : (text : List ℕ) (n : ℕ) (rest : List ℕ) → text ≡ u32_text n ++ rest → n ≤ 65541 → length rest < n → length text < 65545
cut_short text n rest is most few = omega (arith, ap length is, length-append (u32_text n) rest, length-u32_text n)
