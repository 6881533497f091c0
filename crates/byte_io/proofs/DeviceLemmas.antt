-- Lemmas on the known bytes of devices: one call after another, and the bytes that a device of the tests gives.
use Rattle.std.proofs.Common.{◌≡◌, ◌≢◌, ℕ, ◌<◌, false, List, ◌++◌, Option, None, Some, Result, Ok, Err, refl, sym, ap, ◌∙◌, length, take, drop, take-append-drop, rules, tests}
use Rattle.std.proofs.lemmas.List.{nil_from_length}
use Rattle.std.specs.Io.KnownBytes.{ReadConsumes}
use Rattle.byte_io.specs.declared.device.Failed.{Failed}
use Rattle.byte_io.specs.declared.cut_device.Cut.{Cut}
use Rattle.byte_io.specs.declared.cut_device.Cut.TheVariants.{Never, AtEnd, InCalls, Past}
use Rattle.byte_io.specs.CutDevices.{cut_after, fails_now, known_by}
use Rattle.byte_io.specs.Devices.{Clean, Faulty, Unsure, Ending, Gives, ReadGives, IfKnown, unsure}

unsure-Clean : Unsure ≢ Clean
unsure-Clean e = cc

unsure-Faulty : Unsure ≢ Faulty
unsure-Faulty e = cc

-- a read of known bytes gives the next bytes of a text whose end is unsure
pub unsure-reads : (a b : Option (List ℕ)) (r : Result ℕ Failed) (buf : List ℕ) → ReadConsumes a b r buf → IfKnown (unsure a) (unsure b) (λ old new. ReadGives old new r buf)
unsure-reads None b r buf p = tt
unsure-reads (Some x) None (Ok n) buf p = absurd p.0
unsure-reads (Some x) None (Err e) buf p = absurd p
unsure-reads (Some x) (Some y) (Ok n) buf p =
    (record { text = p.0; ending = refl }, λ none room. record { text = p.0 ∙ ap (λ k. take k buf ++ y) none ∙ p.1 none room; ending = unsure-Faulty })
unsure-reads (Some x) (Some y) (Err e) buf p =
    ((unsure-Clean, λ fault. absurd (unsure-Faulty fault)), ap (λ text. record { text = text; ending = Unsure }) p)

clean-Faulty : Clean ≢ Faulty
clean-Faulty e = cc

-- bytes from the start of a text are the next bytes
gives_prefix : (text buf : List ℕ) (n : ℕ) (e : Ending) → take n buf ≡ take n text → Gives (record { text = text; ending = e }) (record { text = drop n text; ending = e }) (take n buf)
gives_prefix text buf n e p = record { text = sym (take-append-drop n text) ∙ ap (λ l. l ++ drop n text) (sym p); ending = refl }

-- a read that is not cut gives the next bytes, if they are known
pub cut-reads : (cut : Cut) (text buf : List ℕ) (n : ℕ) → fails_now cut (length text) ≡ false → take n buf ≡ take n text → (n ≡ 0 → 0 < length buf → length text ≡ 0)
    → IfKnown (known_by cut text) (known_by (cut_after cut) (drop n text)) (λ old new. ReadGives old new (Ok n) buf)
cut-reads Never text buf n live prefix none =
    (gives_prefix text buf n Clean prefix, λ zero room. record { text = nil_from_length text (none zero room); ending = clean-Faulty })
cut-reads AtEnd text buf n live prefix none =
    (gives_prefix text buf n Faulty prefix, λ zero room. let empty : length text ≡ 0 = none zero room in absurd (search (rules, tests)))
cut-reads (InCalls calls) text buf n live prefix none = tt
cut-reads Past text buf n live prefix none = tt
