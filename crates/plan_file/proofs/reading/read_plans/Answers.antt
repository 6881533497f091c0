use Rattle.std.proofs.Common.{◌≡◌, ◌≢◌, ◌<◌, ℕ, List, ap, length, arith, Result, Err}
use Rattle.std.specs.Global.{Vec}
use Rattle.byte_io.specs.declared.transfer.ReadError.{ReadError}
use Rattle.byte_io.proofs.TransferLemmas.{no_fault}
use Rattle.lit_plan.specs.declared.compiled.Compiled.{Compiled}
use Rattle.plan_file.specs.declared.fault.Cause.{Cause}
use Rattle.plan_file.specs.declared.fault.Fault.{Fault}
use Rattle.plan_file.specs.declared.fault.Fault.TheVariants.{BadPlanFile, OutOfMemory}
use Rattle.plan_file.specs.FirstFaults.{IsFirstFault}
use Rattle.plan_file.proofs.DeviceLemmas.{no_failure, of_all}
use Rattle.plan_file.proofs.ReadLemmas.{ending_long, exact_long, found_long, only_failed, only_long, shown_long, wrong_long}
use Rattle.plan_file.proofs.reading.read_plans.Goals as goal

abbrev failed : ReadError → Result (Unit {0}) ReadError
failed e = Err e

abbrev refused : Fault → Result (Vec Compiled) Fault
refused e = Err e

abbrev items : Vec Compiled → List Compiled
items v = v.items

pub returns-in-Ok-clause-exact : goal.returns-in-Ok-clause-exact
returns-in-Ok-clause-exact g c =
    let text = c.read_to_end.new.text.items in
    let exact = rw c.deref.ensures.value at c.decode.ensures.exact in
    of_all (λ (t : List ℕ). (place : ℕ) (cause : Cause) → IsFirstFault t place cause → c.decode.result ≢ refused OutOfMemory → c.decode.result ≡ refused (BadPlanFile place cause)) _ (g.R.ByteIn.coming c.args.input.now) c.new-text.result.items text c.new-text.ensures.items c.in-Ok.ensures.ok exact

pub returns-in-Err-Failed-clause-only : goal.returns-in-Err-Failed-clause-only
returns-in-Err-Failed-clause-only g c = only_failed _ _ (g.R.ByteIn.coming c.args.input.now) c.new-text.result.items c.read_to_end.new.text.items (c.in-Err-Failed.ensures.failed (ap failed c.in-Err-Failed.field-0-is))

pub returns-in-Err-Failed-clause-exact : goal.returns-in-Err-Failed-clause-exact
returns-in-Err-Failed-clause-exact g c = no_failure _ _ (g.R.ByteIn.coming c.args.input.now) c.new-text.result.items c.read_to_end.new.text.items (c.in-Err-Failed.ensures.failed (ap failed c.in-Err-Failed.field-0-is))

pub returns-in-Err-TooLong-clause-found : goal.returns-in-Err-TooLong-clause-found
returns-in-Err-TooLong-clause-found g c =
    let text = c.read_to_end.new.text.items in
    let long : 101190408 < length text = omega (arith, c.read_to_end.new.text.ok.0, c.in-Err-TooLong.ensures.one_more (ap failed c.in-Err-TooLong.field-0-is)) in
    found_long items (g.R.ByteIn.coming c.args.input.now) (g.R.ByteIn.coming c.read_to_end.new.input) c.new-text.result.items text c.decode-in-Err-TooLong.result long c.read_to_end.ensures.bytes (rw c.deref-in-Err-TooLong.ensures.value at c.decode-in-Err-TooLong.ensures.found)

pub returns-in-Err-TooLong-clause-ending : goal.returns-in-Err-TooLong-clause-ending
returns-in-Err-TooLong-clause-ending g c =
    let text = c.read_to_end.new.text.items in
    let long : 101190408 < length text = omega (arith, c.read_to_end.new.text.ok.0, c.in-Err-TooLong.ensures.one_more (ap failed c.in-Err-TooLong.field-0-is)) in
    ending_long items (g.R.ByteIn.coming c.args.input.now) text c.decode-in-Err-TooLong.result long (rw c.deref-in-Err-TooLong.ensures.value at c.decode-in-Err-TooLong.ensures.found)

pub returns-in-Err-TooLong-clause-only : goal.returns-in-Err-TooLong-clause-only
returns-in-Err-TooLong-clause-only g c =
    let text = c.read_to_end.new.text.items in
    let long : 101190408 < length text = omega (arith, c.read_to_end.new.text.ok.0, c.in-Err-TooLong.ensures.one_more (ap failed c.in-Err-TooLong.field-0-is)) in
    only_long _ (g.R.ByteIn.coming c.args.input.now) (g.R.ByteIn.coming c.read_to_end.new.input) c.new-text.result.items text c.new-text.ensures.items long c.read_to_end.ensures.bytes

pub returns-in-Err-TooLong-clause-wrong : goal.returns-in-Err-TooLong-clause-wrong
returns-in-Err-TooLong-clause-wrong g c =
    let text = c.read_to_end.new.text.items in
    let long : 101190408 < length text = omega (arith, c.read_to_end.new.text.ok.0, c.in-Err-TooLong.ensures.one_more (ap failed c.in-Err-TooLong.field-0-is)) in
    wrong_long (g.R.ByteIn.coming c.args.input.now) (g.R.ByteIn.coming c.read_to_end.new.input) c.new-text.result.items text c.decode-in-Err-TooLong.result c.new-text.ensures.items long c.read_to_end.ensures.bytes (rw c.deref-in-Err-TooLong.ensures.value at c.decode-in-Err-TooLong.ensures.wrong)

pub returns-in-Err-TooLong-clause-exact : goal.returns-in-Err-TooLong-clause-exact
returns-in-Err-TooLong-clause-exact g c =
    let text = c.read_to_end.new.text.items in
    let long : 101190408 < length text = omega (arith, c.read_to_end.new.text.ok.0, c.in-Err-TooLong.ensures.one_more (ap failed c.in-Err-TooLong.field-0-is)) in
    exact_long items (g.R.ByteIn.coming c.args.input.now) (g.R.ByteIn.coming c.read_to_end.new.input) c.new-text.result.items text c.decode-in-Err-TooLong.result c.new-text.ensures.items long c.read_to_end.ensures.bytes
    (rw c.deref-in-Err-TooLong.ensures.value at c.decode-in-Err-TooLong.ensures.found) (rw c.deref-in-Err-TooLong.ensures.value at c.decode-in-Err-TooLong.ensures.wrong)

pub returns-in-Ok-clause-shown : goal.returns-in-Ok-clause-shown
returns-in-Ok-clause-shown g c = no_fault _ _ (g.R.ByteIn.coming c.args.input.now) c.new-text.result.items c.read_to_end.new.text.items c.in-Ok.ensures.ok

pub returns-in-Err-TooLong-clause-shown : goal.returns-in-Err-TooLong-clause-shown
returns-in-Err-TooLong-clause-shown g c =
    let text = c.read_to_end.new.text.items in
    let long : 101190408 < length text = omega (arith, c.read_to_end.new.text.ok.0, c.in-Err-TooLong.ensures.one_more (ap failed c.in-Err-TooLong.field-0-is)) in
    shown_long (g.R.ByteIn.coming c.args.input.now) (g.R.ByteIn.coming c.read_to_end.new.input) c.new-text.result.items text c.decode-in-Err-TooLong.result c.new-text.ensures.items long c.read_to_end.ensures.bytes (rw c.deref-in-Err-TooLong.ensures.value at c.decode-in-Err-TooLong.ensures.wrong)
