use Rattle.std.proofs.Common.{◌≡◌, ℕ, ◌+◌, ◌++◌, ◌^◌, ◌<◌, length, set, IfSome, IsOk, None, refl, sym, ◌∙◌, subst}
use Rattle.std.proofs.lemmas.Option.{get_or_from_slice_get}
use Rattle.lit_base.specs.NextEnds.{NoEndAfter}
use Rattle.scan_wire.specs.Messages.{Feed}
use Rattle.scan_core.specs.Prefixes.{FeedsPrefix, MovesUpTo}
use Rattle.scan_core.specs.Sessions.{Bound, Serving, by_tails, parts_of}
use Rattle.scan_core.specs.Steps.{refusal_of, stream_at}
use Rattle.scan_core.proofs.PrefixLemmas.{feed_room, prefix_fed}
use Rattle.scan_core.proofs.StreamLemmas.{lookup_at}
use Rattle.scan_core.proofs.session.Session.feed_prefix.Goals as goal

pub feed_prefix-requires-clause-room : goal.feed_prefix-requires-clause-room
feed_prefix-requires-clause-room c =
    let piece = c.args.piece.now in
    let s : Serving = record { store = c.self.inside.store.now; published_plans = c.self.inside.published_plans; streams = c.self.inside.streams } in
    let at = c.in-Some.ensures in
    let now = c.get_mut-bound.result.now in
    let got : now ≡ (c.args.stream, at.state) = c.get_mut-bound.ensures.value ∙ get_or_from_slice_get s.streams c.in-Some.place (c.args.stream, at.state) now at.here in
    let none = subst (λ (t : Serving). refusal_of by_tails (parts_of t) (Feed c.args.stream piece) ≡ None) (sym c.self.view_is) c.requires in
    subst (λ (n : ℕ × Bound). n.1.scan.place + length piece < 2 ^ 64) (sym got) (feed_room s c.args.stream c.in-Some.place piece at none)

pub returns-clause-ok : goal.returns-clause-ok
returns-clause-ok c =
    let piece = c.args.piece.now in
    let s : Serving = record { store = c.self.inside.store.now; published_plans = c.self.inside.published_plans; streams = c.self.inside.streams } in
    let at = c.in-Some.ensures in
    let now = c.get_mut-bound.result.now in
    let next = c.feed_prefix.new.self in
    let count = c.in_ok-count.count in
    let old = c.args.out.now.items in
    let hits = c.feed_prefix.new.out.items in
    let got : now ≡ (c.args.stream, at.state) = c.get_mut-bound.ensures.value ∙ get_or_from_slice_get s.streams c.in-Some.place (c.args.stream, at.state) now at.here in
    let moves : MovesUpTo (c.args.stream, at.state) piece c.args.most count old hits next =
    subst (λ (n : ℕ × Bound). MovesUpTo n piece c.args.most count old hits next) got c.in_ok-count.ensures.ok in
    let new : Serving = record s { streams = set s.streams c.in-Some.place next } in
    subst (λ (t : Serving). FeedsPrefix t c.args.stream piece c.args.most count old hits new) c.self.view_is
    (prefix_fed s new c.args.stream c.in-Some.place piece c.args.most count old hits next at moves refl)

pub returns-in_err-count-clause-quiet : goal.returns-in_err-count-clause-quiet
returns-in_err-count-clause-quiet c =
    let piece = c.args.piece.now in
    let s : Serving = record { store = c.self.inside.store.now; published_plans = c.self.inside.published_plans; streams = c.self.inside.streams } in
    let at = c.in-Some.ensures in
    let now = c.get_mut-bound.result.now in
    let got : now ≡ (c.args.stream, at.state) = c.get_mut-bound.ensures.value ∙ get_or_from_slice_get s.streams c.in-Some.place (c.args.stream, at.state) now at.here in
    let Ends : ℕ × Bound → Type 0 = λ n. NoEndAfter n.1.scan.plan.literals (n.1.scan.tail ++ piece) (length n.1.scan.tail) → ⊥ in
    let ends : Ends now = λ none. let ok = c.in_err-count.ensures.quiet none in absurd (cc) in
    subst (λ (t : Serving). IfSome (stream_at c.args.stream (parts_of t)) (λ state. NoEndAfter state.scan.plan.literals (state.scan.tail ++ piece) (length state.scan.tail) → IsOk c.from_residual.result)) c.self.view_is
    (subst (λ o. IfSome o (λ state. NoEndAfter state.scan.plan.literals (state.scan.tail ++ piece) (length state.scan.tail) → IsOk c.from_residual.result)) (sym (lookup_at c.args.stream s.streams c.in-Some.place at))
    (λ none. absurd (subst Ends got ends none)))
