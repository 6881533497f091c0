-- The lengths of payloads of replies, and a frame written part by part.
use Rattle.std.proofs.Common.{◌≡◌, ℕ, ◌+◌, ◌*◌, List, [], ◌∷◌, ◌++◌, length, refl, sym, ap, ◌∙◌, append_assoc, arith}
use Rattle.std.specs.List.{flat_map}
use Rattle.std.proofs.lemmas.List.{length-append}
use Rattle.scan_wire.specs.Frames.{frame_text, hit_text}
use Rattle.scan_wire.specs.Numbers.{u16_text, u32_text, u64_text}
use Rattle.scan_wire.proofs.NumberLemmas.{length-u16_text, length-u64_text}

-- a hit has ten bytes
pub length-hits : (hits : List (ℕ × ℕ)) → length (flat_map hit_text hits) ≡ 10 * length hits
length-hits [] = refl
length-hits (h ∷ hs) = omega (arith, length-append (hit_text h) (flat_map hit_text hs), length-append (u16_text h.0) (u64_text h.1), length-u16_text h.0, length-u64_text h.1, length-hits hs)

-- an end has two bytes
pub length-ends : (ends : List ℕ) → length (flat_map u16_text ends) ≡ 2 * length ends
length-ends [] = refl
length-ends (e ∷ es) = omega (arith, length-append (u16_text e) (flat_map u16_text es), length-u16_text e, length-ends es)

-- the head of a frame and a payload of its length are the frame
pub frame_done : (out payload : List ℕ) (kind stream len : ℕ) → length payload ≡ len → (out ++ (u32_text (5 + len) ++ (kind ∷ u32_text stream))) ++ payload ≡ out ++ frame_text (record { kind = kind; stream = stream; payload = payload })
frame_done out payload kind stream len is =
    append_assoc out (u32_text (5 + len) ++ (kind ∷ u32_text stream)) payload
    ∙ ap (λ (x : List ℕ). out ++ x) (append_assoc (u32_text (5 + len)) (kind ∷ u32_text stream) payload)
    ∙ ap (λ (n : ℕ). out ++ (u32_text (5 + n) ++ (kind ∷ (u32_text stream ++ payload)))) (sym is)

-- a frame whose head and whose payload were appended was appended
pub frame_from : (out head all payload : List ℕ) (kind stream len : ℕ) → head ≡ out ++ (u32_text (5 + len) ++ (kind ∷ u32_text stream)) → length payload ≡ len → all ≡ head ++ payload → all ≡ out ++ frame_text (record { kind = kind; stream = stream; payload = payload })
frame_from out head all payload kind stream len h is e = e ∙ ap (λ (x : List ℕ). x ++ payload) h ∙ frame_done out payload kind stream len is

-- two parts appended one after the other
pub two_parts : (h x y a b : List ℕ) → x ≡ h ++ a → y ≡ x ++ b → y ≡ h ++ (a ++ b)
two_parts h x y a b p q = q ∙ ap (λ (w : List ℕ). w ++ b) p ∙ append_assoc h a b

-- the bytes of a Plan's payload
pub length-plan : (flag count cost : ℕ) (ends : List ℕ) → length (flag ∷ (u16_text count ++ (u64_text cost ++ (length ends ∷ flat_map u16_text ends)))) ≡ 12 + 2 * length ends
length-plan flag count cost ends =
    omega (arith, length-append (u16_text count) (u64_text cost ++ (length ends ∷ flat_map u16_text ends)), length-append (u64_text cost) (length ends ∷ flat_map u16_text ends), length-u16_text count, length-u64_text cost, length-ends ends)

-- the parts of a Plan's payload, appended one after the other
pub plan_parts : (h x1 x2 x3 x4 x5 b c e : List ℕ) (a d : ℕ) → x1 ≡ h ++ a ∷ [] → x2 ≡ x1 ++ b → x3 ≡ x2 ++ c → x4 ≡ x3 ++ d ∷ [] → x5 ≡ x4 ++ e → x5 ≡ h ++ (a ∷ (b ++ (c ++ (d ∷ e))))
plan_parts h x1 x2 x3 x4 x5 b c e a d p1 p2 p3 p4 p5 =
    p5 ∙ ap (λ (w : List ℕ). w ++ e) (p4 ∙ ap (λ (w : List ℕ). w ++ d ∷ []) (p3 ∙ ap (λ (w : List ℕ). w ++ c) (p2 ∙ ap (λ (w : List ℕ). w ++ b) p1))) ∙ simp append_assoc
