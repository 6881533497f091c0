-- The digits are those of the number.
use Rattle.std.proofs.Common.{◌≡◌, ◌∙◌, ◌++◌, ℕ, List, OnErr, OnOk, codes, decimal, subst}
use Rattle.std.specs.Io.KnownBytes.{Appends}
use Rattle.byte_io.specs.Transfers.{AppendsPart}
use Rattle.scan_run.proofs.message.say_number.Goals as goal

pub returns-clause-ok : goal.returns-clause-ok
returns-clause-ok g c =
    let text : c.as_bytes.result.now ≡ decimal c.args.number = c.as_bytes.ensures.value ∙ c.format.ensures.text in
    subst (λ (t : List ℕ). OnOk c.say.result (Appends (g.E.ByteOut.written c.args.err.now) (g.E.ByteOut.written c.say.new.err) (c.args.prefix.now ++ (t ++ codes "\n")))) text c.say.ensures.ok

pub returns-clause-err : goal.returns-clause-err
returns-clause-err g c =
    let text : c.as_bytes.result.now ≡ decimal c.args.number = c.as_bytes.ensures.value ∙ c.format.ensures.text in
    subst (λ (t : List ℕ). OnErr c.say.result (AppendsPart (g.E.ByteOut.written c.args.err.now) (g.E.ByteOut.written c.say.new.err) (c.args.prefix.now ++ (t ++ codes "\n")))) text c.say.ensures.err
