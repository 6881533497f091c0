use Rattle.std.proofs.Common.{◌≡◌, ◌++◌, ◌*◌, ◌+◌, ◌-◌, ◌/◌, length, take, drop, ap, ◌∙◌, string_bytes, arith}
use Rattle.std.specs.List.{flat_map}
use Rattle.std.proofs.lemmas.Grind.{common_steps}
use Rattle.lit_cert.specs.Certificates.{CertificateParts, numbers_of}
use Rattle.lit_base.specs.Profiles.{buckets}
use Rattle.lit_cert.specs.Spelling.{line_text, head_lines, row_words, rows_of}
use Rattle.lit_cert.proofs.Rows.{writes_row, writes_end}
use Rattle.lit_cert.proofs.writing.text_of.Goals as goal

pub loop-r-init : goal.loop-r-init
unfolding rows_of
loop-r-init c = grind (arith, common_steps)

pub loop-r-preserved : goal.loop-r-preserved
loop-r-preserved c =
    let n = c.len.result / c.buckets-most.result in
    let r = c.loop-r.r in
    let hs = c.args.certificate.now.potentials in
    let seen : c.deref.result.now ≡ hs = c.deref.ensures.value ∙ ap (λ (p : CertificateParts). p.potentials) c.certificate.view_is in
    let width : (r + 1) * n - r * n ≡ n = grind arith in
    let one : string_bytes c.push_row.new.text ≡ string_bytes c.loop-r.text ++ line_text (row_words (r + 1) (take ((r + 1) * n - r * n) (drop (r * n) c.deref.result.now))) = c.in_ok-push_row.ensures in
    let row : string_bytes c.push_row.new.text ≡ string_bytes c.loop-r.text ++ line_text (row_words (r + 1) (take n (drop (r * n) hs))) = rw (width, seen) at one in
    writes_row (flat_map line_text (head_lines (buckets c.args.certificate.now.profile) n c.args.certificate.now.ends c.args.certificate.now.cost)) (string_bytes c.loop-r.text) (string_bytes c.push_row.new.text) r n hs c.loop-r.invariant row

pub returns : goal.returns
returns c =
    let most = buckets c.args.certificate.now.profile in
    let many : c.buckets-most.result ≡ most = c.buckets-most.ensures.value ∙ ap (λ (p : CertificateParts). buckets p.profile) c.certificate.view_is in
    let h = c.in_ok-push_str.ensures.bytes in
    let seen : c.len.result ≡ length c.args.certificate.now.potentials = omega (arith, c.certificate.inside.potentials.ok.0, ap (λ (p : CertificateParts). length p.potentials) c.certificate.view_is) in
    writes_end (buckets c.args.certificate.now.profile) (c.len.result / c.buckets-most.result) c.loop-r.r (numbers_of c.args.certificate.now) (string_bytes c.loop-r.text) (string_bytes c.push_str.new.self) (λ i. seen i / many i) (omega (arith, many)) (c.loop-r.invariant) h
