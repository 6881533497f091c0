-- The rows are rows of the potentials, which the end rows keep small.
use Rattle.std.proofs.Common.{◌≡◌, ◌-◌, ◌*◌, ◌^◌, ◌<◌, sym, subst, arith}
use Rattle.std.specs.Prelude.{All}
use Rattle.std.specs.List.{slice_range}
use Rattle.lit_cert.proofs.LeastRuns.{RowFits, row_small, steps-from_fit, fit-from_steps}
use Rattle.lit_cert.proofs.dividing.row_holds.Goals as goal

pub places_hold-requires-clause-small : goal.places_hold-requires-clause-small
places_hold-requires-clause-small c =
    let l = c.args.list.now in
    let hs = c.args.potentials.now in
    let two : (c.args.r - 1) - 1 ≡ c.args.r - 2 = omega arith in
    let small = row_small l hs (c.args.r - 1) c.args.r (omega (arith, c.requires.from_two)) (omega (arith, c.requires.from_two)) (omega (arith, c.len-n.ensures.value, c.len-n.ensures.few)) c.requires.ends in
    let counted = subst (λ n. All (λ h. h < 2 ^ 40) (slice_range hs (((c.args.r - 1) - 1) * n) ((c.args.r - 1) * n))) (sym c.len-n.ensures.value) small in
    subst (λ k. All (λ h. h < 2 ^ 40) (slice_range hs (k * c.len-n.result) ((c.args.r - 1) * c.len-n.result))) two counted

pub returns : goal.returns
returns c =
    let l = c.args.list.now in
    let hs = c.args.potentials.now in
    let n = c.len-n.ensures.value in
    (λ holds. steps-from_fit l hs c.args.r c.requires.from_two (subst (RowFits l hs c.args.r) n (c.places_hold.ensures.0 holds)), λ steps. c.places_hold.ensures.1 (subst (RowFits l hs c.args.r) (sym n) (fit-from_steps l hs c.args.r c.requires.from_two steps)))
