use Rattle.std.proofs.Common.{ℕ, ◌+◌, ◌-◌, List, length, take, drop, ap, ◌∙◌, arith}
use Rattle.std.proofs.lemmas.List.{take_rest}
use Rattle.flow_scan.specs.Tails.{last_bytes}
use Rattle.flow_scan.proofs.BoundaryLemmas.{kept_long, kept_short}
use Rattle.flow_scan.proofs.boundary.keep_last.Goals as goal

-- a piece that was offered whole is held whole
pub returns-then-piece-ahead-clause-tail : goal.returns-then-piece-ahead-clause-tail
returns-then-piece-ahead-clause-tail c =
    ap (last_bytes c.args.carry) (kept_short c.args.held c.args.room.now.items c.args.piece.now (c.requires.prefix c.if-piece-ahead.true))

-- of a longer piece the last bytes are enough
pub returns-clause-tail : goal.returns-clause-tail
returns-clause-tail c =
    ap (λ (xs : List ℕ). last_bytes c.args.carry (take c.args.carry xs)) c.write.ensures.items
    ∙ rw (take_rest c.args.piece.now (length c.args.piece.now - c.args.carry))
    (kept_long c.args.carry (take c.args.held c.args.room.now.items) (drop (0 + length (last_bytes c.args.carry c.args.piece.now)) c.args.room.now.items) c.args.piece.now (c.requires.long (omega (arith, c.if-piece-ahead.false))))
