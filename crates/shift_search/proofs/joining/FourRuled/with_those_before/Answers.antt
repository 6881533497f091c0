-- Each word is combined with the ends that the word before it rules out after its own positions.
use Rattle.shift_search.proofs.ShiftOrLemmas.{words_joined, words_next}
use Rattle.shift_search.proofs.joining.FourRuled.with_those_before.Goals as goal

pub returns : goal.returns
returns c = λ b text at ruled before.
    words_joined b text at c.args.self.here c.next_of.result c.joined.result c.joined.ensures ruled.here
    (words_next b text at c.args.before c.args.self.after c.next_of.result c.next_of.ensures.first c.next_of.ensures.others before ruled.after)
