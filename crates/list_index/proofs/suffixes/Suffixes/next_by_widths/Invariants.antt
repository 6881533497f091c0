use Rattle.list_index.specs.Chains.{HaveWidths}
use Rattle.list_index.proofs.suffixes.Suffixes.next_by_widths.Given as goal

-- each literal that ends there has the bit of its width yet
abbrev pub invariant-loop-left : goal.invariant-loop-left
invariant-loop-left l = HaveWidths l.literals l.text l.from l.end l.left

abbrev pub decreases-loop-left : goal.decreases-loop-left
decreases-loop-left l = l.left
