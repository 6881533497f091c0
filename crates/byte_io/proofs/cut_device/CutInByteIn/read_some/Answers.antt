-- A read that is not cut gives the next bytes, since a step is at least one byte.
use Rattle.std.proofs.Common.{◌≡◌, ℕ, false, length, drop, arith, rules, ap}
use Rattle.std.proofs.lemmas.List.{drop-drop, length-append, length-drop, length-take}
use Rattle.std.proofs.lemmas.Grind.{common_steps}
use Rattle.byte_io.specs.CutDevices.{fails_now}
use Rattle.byte_io.proofs.DeviceLemmas.{cut-reads}
use Rattle.byte_io.proofs.cut_device.CutInByteIn.read_some.Goals as goal

pub returns-clause-bytes : goal.returns-clause-bytes
returns-clause-bytes c =
    let text = drop c.self.inside.place c.self.inside.bytes.now in
    let live : fails_now c.self.inside.cut (length text) ≡ false = search rules in
    rw (← c.self.view_is, c.after_call-self-inside.ensures, ← drop-drop c.min-count.result c.self.inside.place c.self.inside.bytes.now)
    (cut-reads c.self.inside.cut text _ c.min-count.result live (grind (arith, common_steps)) (λ zero room. omega (arith, length-append {A = ℕ}, length-drop {A = ℕ}, length-take {A = ℕ}, ap length c.copy_from_slice.ensures.after, ap length c.split_at.ensures.back)))
