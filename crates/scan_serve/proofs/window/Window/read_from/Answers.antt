use borrow.Rule.Slice.PartMut.{post_of}
use Rattle.std.proofs.Common.{◌≡◌, ◌-◌, ◌∙◌, ℕ, List, length, take, ap, refl, arith}
use Rattle.std.proofs.lemmas.Grind.{common_steps}
use Rattle.std.proofs.lemmas.List.{length-take}
use Rattle.byte_io.proofs.TransferLemmas.{ReadsInto-read}
use Rattle.scan_serve.proofs.window.Window.read_from.Goals as goal

pub returns-else-self-len-clause-bytes : goal.returns-else-self-len-clause-bytes
returns-else-self-len-clause-bytes g c =
    let w = c.self.inside in
    let start : w.len ≡ length c.args.self.now = omega (arith, ap length c.self.view_is, length-take w.len w.buffer.items, c.self.invariant.0) in
    ReadsInto-read _ _ c.args.self.now _ c.read_some.new.buf c.deref_mut.result.now (post_of w.len (length c.deref_mut.result.now - w.len) c.deref_mut.result.now) _ w.len w.buffer.len c.in-Ok.count c.in-Ok.ensures.bytes refl start (ap (λ (x : List ℕ). take w.len x) c.deref_mut.ensures.value ∙ c.self.view_is) c.in-Ok.ensures.within (grind (arith, common_steps))
