-- Which certificate a content spells, or why it spells none.
use Rattle.std.specs.Prelude.{◌≡◌, true, false, ℕ, List, ◌++◌, Option, Some, None}
use Rattle.byte_io.specs.Sources.{Content}
use Rattle.lit_cert.specs.Certificates.{CertificateParts}
use Rattle.lit_cert.specs.Reading.{IsFirstBad}
use Rattle.lit_cert.specs.Spelling.{HasText, spelling}
use Rattle.plan_pack.specs.Migrated.{IsUnusable}
use Rattle.plan_pack.specs.declared.stop.Refusal.{Refusal}
use Rattle.plan_pack.specs.declared.stop.Refusal.TheVariants.{NoCertificate}

-- the content is the text of this certificate
abbrev pub IsCertificateIn : Option Content → CertificateParts → Type 0
IsCertificateIn None certificate = ⊥
IsCertificateIn (Some c) certificate = (c.is_faulty ≡ false) × HasText certificate × (c.text ≡ spelling certificate)

-- The refusal of a content that is no certificate's text: it cannot be opened, or not be read to its end, or a line is
-- wrong. If reading fails, a line is wrong only if it is wrong whatever would have followed; then either refusal is
-- right.
pub data IsNoCertificate (name : List ℕ) (source : Option Content) (refusal : Refusal) : Type 0 where
  Missing : source ≡ None → IsUnusable name refusal → IsNoCertificate name source refusal
  Unread : (c : Content) → source ≡ Some c → c.is_faulty ≡ true → IsUnusable name refusal → IsNoCertificate name source refusal
  BadLine : (c : Content) (line : ℕ) → source ≡ Some c → IsFirstBad c.text line
      → (c.is_faulty ≡ true → (more : List ℕ) → IsFirstBad (c.text ++ more) line) → refusal ≡ NoCertificate line → IsNoCertificate name source refusal
