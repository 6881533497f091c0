-- Memory runs out only where the stream that was taken out has an end to find.
use Rattle.std.proofs.Common.{Option, ◌++◌, length, sym, subst}
use Rattle.std.specs.Prelude.{IfSome}
use Rattle.c_handle.specs.declared.states.OpenStream.{OpenStream}
use Rattle.lit_base.specs.NextEnds.{NoEndAfter}
use Rattle.fiolargu.specs.Found.{stream_of}
use Rattle.fiolargu.proofs.StatusLemmas.{feed_starved}
use Rattle.fiolargu.proofs.streams.fiolargu_stream_feed.Goals as goal

pub returns-clause-quiet : goal.returns-clause-quiet
returns-clause-quiet c = λ memory.
    subst (λ (held : Option OpenStream). IfSome (stream_of held) (λ s. NoEndAfter s.plan.literals (s.tail ++ c.args.piece.now) (length s.tail) → ⊥))
    (sym c.in-Some.ensures.taken) (rw c.deref_mut.ensures.value at (c.feed_held-status.ensures.quiet (feed_starved c.feed_held-status.ensures.refused memory)))
