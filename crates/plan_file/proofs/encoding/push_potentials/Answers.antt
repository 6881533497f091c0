-- One more potential is appended.
use Rattle.std.proofs.Common.{◌≡◌, ◌<◌, ◌++◌, length, get_or, refl, rules}
use Rattle.std.specs.Int.{w64, to_be_bytes}
use Rattle.plan_file.proofs.StreamLemmas.{texts_more}
use Rattle.plan_file.proofs.encoding.push_potentials.Goals as goal

pub loop-potential-preserved : goal.loop-potential-preserved
loop-potential-preserved c =
    let potentials = c.args.potentials.now in
    let i = c.loop-potential.potential-index in
    let within : i < length potentials = search rules in
    let one : c.extend_from_slice.new.self.items ≡ c.loop-potential.out.items ++ to_be_bytes w64 (get_or potentials i 0) = search rules in
    texts_more (to_be_bytes w64) c.args.out.now.items c.loop-potential.out.items _ potentials i 0 (get_or potentials i 0) within refl c.loop-potential.invariant one
