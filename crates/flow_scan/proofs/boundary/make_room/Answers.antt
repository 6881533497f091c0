-- The tail is moved, since more bytes are held.
use Rattle.std.proofs.Common.{ℕ, List, take, ap, ◌∙◌, arith}
use Rattle.flow_scan.specs.Tails.{last_bytes}
use Rattle.flow_scan.proofs.BoundaryLemmas.{tail_moved}
use Rattle.flow_scan.proofs.boundary.make_room.Goals as goal

pub returns-clause-tail : goal.returns-clause-tail
returns-clause-tail c =
    ap (λ (xs : List ℕ). last_bytes c.args.carry (take c.args.carry xs)) c.copy_within.ensures.items
    ∙ tail_moved c.args.carry c.args.held c.args.room.now.items (omega (arith, c.requires.room, c.len.ensures, c.if-held-more.false)) (omega (arith, c.requires.held, c.args.room.now.ok.0))
