use Rattle.std.proofs.Common.{◌+◌, ◌++◌, ℕ, List, ap, ◌∙◌}
use Rattle.lit_cert.proofs.RowsRead.{starts_none, starts_more, after_number}
use Rattle.lit_cert.proofs.parsing.rows.Goals as goal

pub loop-r-init : goal.loop-r-init
loop-r-init c = rw c.new-potentials.ensures.items (starts_none c.args.n c.args.text.now)

pub loop-r-preserved : goal.loop-r-preserved
loop-r-preserved c =
    let found = c.in_ok-numbers.ensures.found in
    let row = after_number c.deref.result.now c.in_ok-numbers.numbers.items found.0 (c.loop-r.r + 1) c.deref.ensures.value found.2 in
    let items = c.in_ok-extend_from_slice.ensures.items ∙ ap (λ (t : List ℕ). c.loop-r.potentials.items ++ t) row in
    rw items (starts_more c.loop-r.r c.args.n c.args.text.now c.loop-r.potentials.items c.loop-r.left.now found.0 c.in_ok-numbers.rest.now c.loop-r.invariant found.1 found.3)
