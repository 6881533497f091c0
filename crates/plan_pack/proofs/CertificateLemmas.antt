-- What a certificate's file gives: its certificate, or the first wrong line.
use Rattle.std.proofs.Common.{◌≡◌, ◌≢◌, ℕ, ◌^◌, ◌<◌, cond, List, ◌++◌, length, Option, None, Some, IfSome, Result, Err, refl, sym, ap, ◌∙◌, subst}
use Rattle.std.specs.Borrow.{Bor}
use Rattle.byte_io.specs.Devices.{Clean, Coming, EndsHere, Faulty, IfKnown}
use Rattle.byte_io.specs.Sources.{Content, IsShort, coming_of}
use Rattle.lit_cert.specs.Certificates.{CertificateParts}
use Rattle.lit_cert.specs.Reading.{IsFirstBad}
use Rattle.lit_cert.specs.Spelling.{HasText, spelling}
use Rattle.lit_cert.specs.declared.fault.Fault.{Fault}
use Rattle.lit_cert.specs.declared.fault.Fault.TheVariants.{BadCertText, ReadFault}
use Rattle.plan_pack.specs.Certificates.{BadLine, IsCertificateIn, IsNoCertificate, Unread}
use Rattle.plan_pack.specs.declared.stop.Refusal.TheVariants.{NoCertificate, Unusable}
use Rattle.plan_pack.proofs.MigrateLemmas.{false-if, true-if}

-- the certificate that was read is the file's
pub certificate-read : (certificate : CertificateParts) (known left : Option Coming) (c : Content) → IfKnown known left (λ x y. HasText certificate × (x.text ≡ spelling certificate) × EndsHere y)
    → IfSome known (λ x. x.ending ≢ Faulty) → known ≡ Some (coming_of c) → IsCertificateIn (Some c) certificate
certificate-read certificate None left c found clean e = (cc)
certificate-read certificate (Some x) None c found clean e = absurd found
certificate-read certificate (Some x) (Some y) c found clean e =
    let same : x ≡ coming_of c = (cc) in (
      false-if c.is_faulty (λ set. subst (λ z. z.ending ≢ Faulty) same clean (ap (λ b. cond b Faulty Clean) set)),
      found.0,
      ap (λ z. z.text) (sym same) ∙ found.1,
    )

-- a wrong line in it: it is the first wrong one of the file, whatever would have followed where reading failed
pub certificate-wrong : (name : List ℕ) (known : Option Coming) (r : Result CertificateParts Fault) (line : ℕ) (c : Content) → IfSome known (λ x. (k : ℕ) → r ≡ Err (BadCertText k) → IsFirstBad x.text k)
    → IfSome known (λ x. x.ending ≡ Faulty → (k : ℕ) → r ≡ Err (BadCertText k) → (more : List ℕ) → IsFirstBad (x.text ++ more) k)
    → r ≡ Err (BadCertText line) → known ≡ Some (coming_of c) → IsNoCertificate name (Some c) (NoCertificate line)
certificate-wrong name known r line c bad shown is e =
    let here : (k : ℕ) → r ≡ Err (BadCertText k) → IsFirstBad c.text k = subst (λ k. IfSome k (λ x. (n : ℕ) → r ≡ Err (BadCertText n) → IsFirstBad x.text n)) e bad in
    let whatever : (coming_of c).ending ≡ Faulty → (k : ℕ) → r ≡ Err (BadCertText k) → (more : List ℕ) → IsFirstBad (c.text ++ more) k =
    subst (λ k. IfSome k (λ x. x.ending ≡ Faulty → (n : ℕ) → r ≡ Err (BadCertText n) → (more : List ℕ) → IsFirstBad (x.text ++ more) n)) e shown in
    BadLine c line refl (here line is) (λ set. whatever (ap (λ b. cond b Faulty Clean) set) line is) refl

-- a fault in reading it: one follows its bytes
pub certificate-unread : (name : Bor (List ℕ)) (known : Option Coming) (r : Result CertificateParts Fault) (c : Content)
    → IfSome known (λ x. x.ending ≡ Clean → length x.text < 2 ^ 40 → r ≢ Err ReadFault) → r ≡ Err ReadFault → known ≡ Some (coming_of c) → IsShort c
    → IsNoCertificate name.now (Some c) (Unusable name)
certificate-unread name known r c clean fault e short =
    let here : (coming_of c).ending ≡ Clean → length c.text < 2 ^ 40 → r ≢ Err ReadFault =
    subst (λ k. IfSome k (λ x. x.ending ≡ Clean → length x.text < 2 ^ 40 → r ≢ Err ReadFault)) e clean in
    Unread c refl (true-if c.is_faulty (λ unset. here (ap (λ b. cond b Faulty Clean) unset) short fault)) refl
