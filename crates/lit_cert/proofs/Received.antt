-- The bytes that a device gave, and the answer made of them.
use Rattle.std.proofs.Common.{◌≡◌, ◌≢◌, ℕ, ◌^◌, ◌<◌, List, [], ◌++◌, length, Option, Some, None, Result, Ok, Err, refl, sym, ap, subst, ◌∙◌, append_assoc, arith}
use Rattle.std.specs.Option.{IfSome}
use Rattle.std.specs.Result.{IfOk, IfErr, OnOk}
use Rattle.std.proofs.lemmas.Result.{IfErr-at_err}
use Rattle.byte_io.specs.Devices.{Coming, Clean, Faulty, EndsHere, IfKnown}
use Rattle.byte_io.specs.Transfers.{ReadsInto, ReadsAll}
use Rattle.lit_cert.specs.declared.fault.Fault.{Fault}
use Rattle.lit_cert.specs.declared.fault.Fault.TheVariants.{OutOfMemory, BadCertText, ReadFault, WriteFault}
use Rattle.lit_cert.specs.Certificates.{CertificateParts}
use Rattle.lit_cert.specs.Faults.{IsReadersFault}
use Rattle.lit_cert.specs.Spelling.{HasText, spelling}
use Rattle.lit_cert.specs.Reading.{IsFirstBad, IsBadText}
use Rattle.lit_cert.proofs.ProfileTexts.{bad_in_prefix, none_of_long, one_bad, one_text, text-le, text_not_bad}
use Rattle.lit_cert.proofs.TooLong.{IsLong}

abbrev Answer : Type 0
Answer = Result CertificateParts Fault

abbrev ok : CertificateParts → Answer
ok c = Ok c

abbrev bad_at : ℕ → Answer
bad_at line = Err (BadCertText line)

-- a certificate whose text this is
abbrev pub Spells : List ℕ → Answer → Type 0
Spells text r = IfOk r (λ c. HasText c × (text ≡ spelling c))

-- the bad line of a fault
bad_line_of : (text : List ℕ) (r : Answer) (line : ℕ) → IfErr r (IsBadText text) → r ≡ Err (BadCertText line) → IsFirstBad text line
bad_line_of text r line wrong is = IfErr-at_err (IsBadText text) is wrong

-- no fault follows a text that was read to its end
pub ending_whole : (limit : ℕ) (old : Option Coming) (before text : List ℕ) (r : Answer) → IfSome old (ReadsAll limit before text) → IfSome old (λ x. OnOk r (x.ending ≢ Faulty))
ending_whole limit None before text r all = tt
ending_whole limit (Some x) before text (Ok c) all = all.ending
ending_whole limit (Some x) before text (Err e) all = tt

-- the prefix of too many bytes is no certificate's text
pub found_long : (old new : Option Coming) (before text : List ℕ) (r : Answer) → IsLong 16 text → ReadsInto old new before text → Spells text r → IfKnown old new (λ x y. IfOk r (λ c. HasText c × (x.text ≡ spelling c) × EndsHere y))
found_long None new before text r long reads found = tt
found_long (Some x) None before text r long reads found = absurd reads.given
found_long (Some x) (Some y) before text (Ok c) long reads found = absurd (none_of_long text c long found.0 found.1)
found_long (Some x) (Some y) before text (Err e) long reads found = tt

pub ending_long : (old : Option Coming) (text : List ℕ) (r : Answer) → IsLong 16 text → Spells text r → IfSome old (λ x. OnOk r (x.ending ≢ Faulty))
ending_long None text r long found = tt
ending_long (Some x) text (Ok c) long found = absurd (none_of_long text c long found.0 found.1)
ending_long (Some x) text (Err e) long found = tt

-- and its first bad line is the first bad line of all bytes
pub bad_long : (old new : Option Coming) (before text : List ℕ) (r : Answer) → before ≡ [] → IsLong 16 text → ReadsInto old new before text → IfErr r (IsBadText text) → IfSome old (λ x. (line : ℕ) → r ≡ Err (BadCertText line) → IsFirstBad x.text line)
bad_long None new before text r empty long reads wrong = tt
bad_long (Some x) None before text r empty long reads wrong = absurd reads.given
bad_long (Some x) (Some y) before text r empty long reads wrong =
    λ line is.
    let bytes : text ≡ reads.bytes = subst (λ (b : List ℕ). text ≡ b ++ reads.bytes) empty reads.text in
    bad_in_prefix line x.text text y.text long (reads.given.text ∙ ap (λ (t : List ℕ). t ++ y.text) (sym bytes)) (bad_line_of text r line wrong is)

-- and whatever would have followed them
pub shown_long : (old new : Option Coming) (before text : List ℕ) (r : Answer) → before ≡ [] → IsLong 16 text → ReadsInto old new before text → IfErr r (IsBadText text)
    → IfSome old (λ x. x.ending ≡ Faulty → (line : ℕ) → r ≡ Err (BadCertText line) → (more : List ℕ) → IsFirstBad (x.text ++ more) line)
shown_long None new before text r empty long reads wrong = tt
shown_long (Some x) None before text r empty long reads wrong = absurd reads.given
shown_long (Some x) (Some y) before text r empty long reads wrong =
    λ faulty line is more.
    let bytes : text ≡ reads.bytes = subst (λ (b : List ℕ). text ≡ b ++ reads.bytes) empty reads.text in
    let came : x.text ≡ text ++ y.text = reads.given.text ∙ ap (λ (t : List ℕ). t ++ y.text) (sym bytes) in
    let all : x.text ++ more ≡ text ++ (y.text ++ more) = ap (λ (t : List ℕ). t ++ more) came ∙ append_assoc text y.text more in
    bad_in_prefix line (x.text ++ more) text (y.text ++ more) long all (bad_line_of text r line wrong is)

-- ---- the promises on each text, from the promises on each answer

-- the promises of a call on its answer, by the known bytes of the device before and after
pub record Promises (old new : Option Coming) (r : Answer) : Type 0 where
  pub found : IfKnown old new (λ x y. IfOk r (λ c. HasText c × (x.text ≡ spelling c) × EndsHere y))
  pub bad_line : IfSome old (λ x. (line : ℕ) → r ≡ Err (BadCertText line) → IsFirstBad x.text line)
  pub clean : IfSome old (λ x. x.ending ≡ Clean → length x.text < 2 ^ 40 → r ≢ Err ReadFault)
  pub faults : IfErr r IsReadersFault

-- a certificate's text is read
pub reads_only : (old new : Option Coming) (r : Answer) → Promises old new r → IfSome old (λ x. x.ending ≡ Clean → (c : CertificateParts) → HasText c → x.text ≡ spelling c → r ≢ Err OutOfMemory → r ≡ Ok c)
reads_only None new r p = tt
reads_only (Some x) None r p = absurd p.found
reads_only (Some x) (Some y) (Ok d) p = λ clean c has e memory. ap ok (one_text d c p.found.0 has (sym p.found.1 ∙ e))
reads_only (Some x) (Some y) (Err OutOfMemory) p = λ clean c has e memory. absurd (memory refl)
reads_only (Some x) (Some y) (Err (BadCertText k)) p = λ clean c has e memory. absurd (text_not_bad k x.text c has e (p.bad_line k refl))
reads_only (Some x) (Some y) (Err ReadFault) p = λ clean c has e memory. absurd (p.clean clean (omega (arith, text-le c has, ap length e)) refl)
reads_only (Some x) (Some y) (Err WriteFault) p = λ clean c has e memory. absurd p.faults

-- any other is refused with its first bad line
pub refuses : (old new : Option Coming) (r : Answer) → Promises old new r → IfSome old (λ x. x.ending ≡ Clean → length x.text < 2 ^ 40 → (line : ℕ) → IsFirstBad x.text line → r ≢ Err OutOfMemory → r ≡ Err (BadCertText line))
refuses None new r p = tt
refuses (Some x) None r p = absurd p.found
refuses (Some x) (Some y) (Ok d) p = λ clean short line bad memory. absurd (text_not_bad line x.text d p.found.0 p.found.1 bad)
refuses (Some x) (Some y) (Err OutOfMemory) p = λ clean short line bad memory. absurd (memory refl)
refuses (Some x) (Some y) (Err (BadCertText k)) p = λ clean short line bad memory. ap bad_at (one_bad k line x.text (p.bad_line k refl) bad)
refuses (Some x) (Some y) (Err ReadFault) p = λ clean short line bad memory. absurd (p.clean clean short refl)
refuses (Some x) (Some y) (Err WriteFault) p = λ clean short line bad memory. absurd p.faults
