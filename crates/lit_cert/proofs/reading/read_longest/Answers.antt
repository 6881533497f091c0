use Rattle.std.proofs.Common.{◌+◌, ◌*◌, ◌<◌, length, ap, Result, Err, arith}
use Rattle.byte_io.specs.declared.transfer.ReadError.{ReadError}
use Rattle.byte_io.proofs.TransferLemmas.{no_fault}
use Rattle.lit_cert.proofs.Received.{bad_long, ending_long, ending_whole, found_long, shown_long}
use Rattle.lit_cert.proofs.reading.read_longest.Goals as goal

abbrev too_long : ReadError → Result (Unit {0}) ReadError
too_long e = Err e

pub returns-in-Err-TooLong-clause-found : goal.returns-in-Err-TooLong-clause-found
returns-in-Err-TooLong-clause-found g c =
    let text = c.read_to_end.new.text.items in
    let long : 200 + 16 * 86200 < length text = omega (arith, c.read_to_end.new.text.ok.0, c.in-Err-TooLong.ensures.one_more (ap too_long c.in-Err-TooLong.field-0-is)) in
    let found = rw c.deref-in-Err-TooLong.ensures.value at c.certificate_of-in-Err-TooLong.ensures.found in
    found_long (g.R.ByteIn.coming c.args.input.now) (g.R.ByteIn.coming c.read_to_end.new.input) c.new-text.result.items text c.certificate_of-in-Err-TooLong.result long c.read_to_end.ensures.bytes found

pub returns-in-Ok-clause-ending : goal.returns-in-Ok-clause-ending
returns-in-Ok-clause-ending g c = ending_whole _ (g.R.ByteIn.coming c.args.input.now) _ _ c.certificate_of.result c.in-Ok.ensures.ok

pub returns-in-Err-TooLong-clause-ending : goal.returns-in-Err-TooLong-clause-ending
returns-in-Err-TooLong-clause-ending g c =
    let text = c.read_to_end.new.text.items in
    let long : 200 + 16 * 86200 < length text = omega (arith, c.read_to_end.new.text.ok.0, c.in-Err-TooLong.ensures.one_more (ap too_long c.in-Err-TooLong.field-0-is)) in
    let found = rw c.deref-in-Err-TooLong.ensures.value at c.certificate_of-in-Err-TooLong.ensures.found in
    ending_long (g.R.ByteIn.coming c.args.input.now) text c.certificate_of-in-Err-TooLong.result long found

pub returns-in-Err-TooLong-clause-bad_line : goal.returns-in-Err-TooLong-clause-bad_line
returns-in-Err-TooLong-clause-bad_line g c =
    let text = c.read_to_end.new.text.items in
    let long : 200 + 16 * 86200 < length text = omega (arith, c.read_to_end.new.text.ok.0, c.in-Err-TooLong.ensures.one_more (ap too_long c.in-Err-TooLong.field-0-is)) in
    let wrong = rw c.deref-in-Err-TooLong.ensures.value at c.certificate_of-in-Err-TooLong.ensures.wrong in
    bad_long (g.R.ByteIn.coming c.args.input.now) (g.R.ByteIn.coming c.read_to_end.new.input) c.new-text.result.items text c.certificate_of-in-Err-TooLong.result c.new-text.ensures.items long c.read_to_end.ensures.bytes wrong

pub returns-in-Ok-clause-shown : goal.returns-in-Ok-clause-shown
returns-in-Ok-clause-shown g c = no_fault _ _ (g.R.ByteIn.coming c.args.input.now) _ _ c.in-Ok.ensures.ok

pub returns-in-Err-TooLong-clause-shown : goal.returns-in-Err-TooLong-clause-shown
returns-in-Err-TooLong-clause-shown g c =
    let text = c.read_to_end.new.text.items in
    let long : 200 + 16 * 86200 < length text = omega (arith, c.read_to_end.new.text.ok.0, c.in-Err-TooLong.ensures.one_more (ap too_long c.in-Err-TooLong.field-0-is)) in
    let wrong = rw c.deref-in-Err-TooLong.ensures.value at c.certificate_of-in-Err-TooLong.ensures.wrong in
    shown_long (g.R.ByteIn.coming c.args.input.now) (g.R.ByteIn.coming c.read_to_end.new.input) c.new-text.result.items text c.certificate_of-in-Err-TooLong.result c.new-text.ensures.items long c.read_to_end.ensures.bytes wrong
