-- A cheapest run from the middle place bounds the ends of both halves.
use Rattle.std.proofs.Common.{◌+◌, ◌-◌, ◌/◌, ◌≤◌, length, subst, arith}
use Rattle.lit_cert.specs.Steps.{IsLeastRun}
use Rattle.lit_cert.proofs.LeastRuns.{suffice_before, suffice_after}
use Rattle.lit_cert.proofs.dividing.+places_hold.Goals as goal

pub places_hold-requires : goal.places_hold-requires
places_hold-requires t c =
    let l = c.args.list.now in
    let here = c.args.here.now in
    let before = c.args.before.now in
    let m = c.args.low + (c.args.high - c.args.low) / 2 in
    let q = c.least_run-q.result.0 in
    let within : c.args.end ≤ length l.texts = omega (arith, c.requires.within, c.requires.before) in
    let least = subst (λ first. IsLeastRun l before m first c.args.end q c.least_run-q.result.1) c.max.ensures c.least_run-q.ensures in
    let suffice = suffice_before l here before c.args.low c.args.high c.args.first c.args.end m q c.least_run-q.result.1 c.requires.quadrangle c.requires.suffice within (omega arith) (omega arith) least in
    (omega arith, (c.requires.quadrangle, (c.requires.small, (omega (arith, least.low), (omega (arith, least.high, c.requires.within), (c.requires.before, (c.requires.here, (omega (arith, least.low), suffice))))))))

pub places_hold-requires-then-places_hold : goal.places_hold-requires-then-places_hold
places_hold-requires-then-places_hold t c =
    let l = c.args.list.now in
    let here = c.args.here.now in
    let before = c.args.before.now in
    let m = c.args.low + (c.args.high - c.args.low) / 2 in
    let q = c.least_run-q.result.0 in
    let within : c.args.end ≤ length l.texts = omega (arith, c.requires.within, c.requires.before) in
    let least = subst (λ first. IsLeastRun l before m first c.args.end q c.least_run-q.result.1) c.max.ensures c.least_run-q.ensures in
    let suffice = suffice_after l here before c.args.low c.args.high c.args.first c.args.end m q c.least_run-q.result.1 c.requires.quadrangle c.requires.suffice within (omega arith) (omega arith) least in
    (omega arith, (c.requires.quadrangle, (c.requires.small, (omega (arith, c.requires.after), (c.requires.within, (c.requires.before, (c.requires.here, (omega (arith, least.high), suffice))))))))
