-- The bytes that were read are the bytes of the file.
use Rattle.std.proofs.Common.{Result, Err, ap}
use Rattle.lit_cert.specs.Certificates.{CertificateParts}
use Rattle.lit_cert.specs.declared.fault.Fault.{Fault}
use Rattle.plan_pack.proofs.CertificateLemmas.{certificate-read, certificate-unread, certificate-wrong}
use Rattle.plan_pack.proofs.reading.certificate_from.Goals as goal

abbrev failed : Fault → Result CertificateParts Fault
failed fault = Err fault

pub returns-in-Ok-clause-certificate : goal.returns-in-Ok-clause-certificate
returns-in-Ok-clause-certificate g c = λ content e short.
    certificate-read c.in-Ok.certificate (g.I.ByteIn.coming c.args.input.now) (g.I.ByteIn.coming c.read_cert.new.input) content c.in-Ok.ensures.found c.in-Ok.ensures.ending e

pub returns-in-Err-BadCertText-clause-certificate : goal.returns-in-Err-BadCertText-clause-certificate
returns-in-Err-BadCertText-clause-certificate g c = λ content e short.
    certificate-wrong c.args.name.now (g.I.ByteIn.coming c.args.input.now) (failed c.in-Err-BadCertText.field-0) c.in-Err-BadCertText.line content
    c.in-Err-BadCertText.ensures.bad_line c.in-Err-BadCertText.ensures.shown (ap failed c.in-Err-BadCertText.field-0-is) e

pub returns-in-Err-ReadFault-clause-certificate : goal.returns-in-Err-ReadFault-clause-certificate
returns-in-Err-ReadFault-clause-certificate g c = λ content e short.
    certificate-unread c.args.name (g.I.ByteIn.coming c.args.input.now) (failed c.in-Err-ReadFault.field-0) content
    c.in-Err-ReadFault.ensures.clean (ap failed c.in-Err-ReadFault.field-0-is) e short
