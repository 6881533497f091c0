use Rattle.std.proofs.Common.{◌≡◌, ◌∙◌, ℕ, true, List, refl, rules, subst}
use Rattle.std.proofs.KnownBytes.{Appends-nil}
use Rattle.std.specs.Io.KnownBytes.{Appends}
use Rattle.byte_io.specs.Transfers.{AppendsPart}
use Rattle.scan_run.specs.Reports.{Broken, Faulty, Starved, lines_from}
use Rattle.scan_run.proofs.report.report.Goals as goal

pub returns-in_default-clause-reported : goal.returns-in_default-clause-reported
returns-in_default-clause-reported g c = Starved c.in_default.ensures.starved refl (Appends-nil (g.O.ByteOut.written c.args.out.now)) c.say_text.ensures.exact

pub returns-in_default-write_all-clause-reported : goal.returns-in_default-write_all-clause-reported
returns-in_default-write_all-clause-reported g c =
    let text : c.as_bytes.result.now ≡ lines_from 1 c.args.endings.now = c.as_bytes.ensures.value ∙ c.in-Ok.ensures.text in
    let failed : g.O.ByteOut.has_failed c.write_all.new.out ≡ true = search rules in
    Broken failed refl
    (subst (λ (t : List ℕ). AppendsPart (g.O.ByteOut.written c.args.out.now) (g.O.ByteOut.written c.write_all.new.out) t) text c.in_default-write_all.ensures.err)
    (Appends-nil (g.E.ByteOut.written c.args.err.now))

pub returns-then-accept_failed-clause-reported : goal.returns-then-accept_failed-clause-reported
returns-then-accept_failed-clause-reported g c =
    let text : c.as_bytes.result.now ≡ lines_from 1 c.args.endings.now = c.as_bytes.ensures.value ∙ c.in-Ok.ensures.text in
    Faulty c.if-accept_failed.true refl
    (subst (λ (t : List ℕ). Appends (g.O.ByteOut.written c.args.out.now) (g.O.ByteOut.written c.write_all.new.out) t) text c.in-Ok-write_all.ensures.ok)
    c.say_text-then-accept_failed.ensures.exact
