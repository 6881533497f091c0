use Rattle.std.proofs.Common.{◌≡◌, ◌<◌, ◌^◌, length, take}
use Rattle.std.specs.List.{concat}
use Rattle.text_ends.specs.HitsAfter.{AreHitsAfter}
use Rattle.flow_scan.specs.Tails.{bytes_of, last_bytes}
use Rattle.lit_plan.specs.Bounds.{carry_of}
use Rattle.flow_scan.proofs.scanning.scan_pieces.Given as goal

-- the hits are those of the pieces fed, the scanner has their last bytes, and there are not too many
abbrev pub invariant-loop-piece : goal.invariant-loop-piece
invariant-loop-piece l = record {
  plan : l.scanner.plan ≡ l.compiled;
  small : length (concat (bytes_of (take l.piece-index l.pieces))) < 2 ^ 64;
  place : l.scanner.place ≡ length (concat (bytes_of (take l.piece-index l.pieces)));
  tail : l.scanner.tail ≡ last_bytes (carry_of l.compiled.literals) (concat (bytes_of (take l.piece-index l.pieces)));
  found : AreHitsAfter l.compiled.literals (concat (bytes_of (take l.piece-index l.pieces))) 0 0 l.hits.items;
}
