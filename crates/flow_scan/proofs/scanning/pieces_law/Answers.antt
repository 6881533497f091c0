use Rattle.lit_plan.proofs.WholeTexts.{hits_from_start}
use Rattle.flow_scan.proofs.TailSteps.{steps_are_hits}
use Rattle.flow_scan.specs.Tails.{bytes_of}
use Rattle.std.specs.List.{concat}
use Rattle.flow_scan.proofs.scanning.pieces_law.Goals as goal

pub returns : goal.returns
returns c =
    let l = c.args.list.now in
    let pieces = bytes_of c.args.pieces.now in
    let bounds = c.carry-carry.ensures.bounds in
    record {
      counted = λ base hits steps. steps_are_hits l base pieces hits bounds steps;
      hits = λ hits steps. hits_from_start l (concat pieces) hits bounds (steps_are_hits l 0 pieces hits bounds steps);
    }
