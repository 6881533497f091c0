use Rattle.std.proofs.Common.{◌≡◌, ℕ, ◌+◌, ◌^◌, ◌≤◌, ◌<◌, length, IfErr, IfOk, MatchOption, Some, ◌∙◌, subst}
use Rattle.std.specs.Option.{ok_or}
use Rattle.std.proofs.lemmas.Option.{get_or_from_slice_get}
use Rattle.scan_wire.specs.Messages.{Feed}
use Rattle.scan_core.specs.declared.refusal.Refusal.TheVariants.{StreamTooLong}
use Rattle.scan_core.specs.Prefixes.{IsKept, MayFeed}
use Rattle.scan_core.specs.Sessions.{Bound, Serving, by_tails, parts_of}
use Rattle.scan_core.specs.Steps.{refusal_of}
use Rattle.scan_core.proofs.PrefixLemmas.{place_fits, place_refused}
use Rattle.scan_core.proofs.session.Session.place_after.Goals as goal

pub returns-clause-ok : goal.returns-clause-ok
returns-clause-ok c =
    let piece = c.args.piece.now in
    let s : Serving = record { store = c.self.inside.store.now; published_plans = c.self.inside.published_plans; streams = c.self.inside.streams } in
    let at = c.in-Some.ensures in
    let now = c.get.result.now in
    let got : now ≡ (c.args.stream, at.state) = c.get.ensures ∙ get_or_from_slice_get s.streams c.in-Some.place (c.args.stream, at.state) now at.here in
    let after = c.place_after.ensures in
    rw c.ok_or.ensures.value (subst (λ (t : Serving). IfOk (ok_or c.place_after.result StreamTooLong) (λ place. MayFeed t c.args.stream piece place)) c.self.view_is
    (place_fits s c.args.stream c.in-Some.place piece at c.place_after.result
    (subst (λ (n : ℕ × Bound). IsKept n.1.scan) got after.kept)
    (subst (λ (n : ℕ × Bound). MatchOption c.place_after.result (2 ^ 64 ≤ n.1.scan.place + length piece) (λ place. (place ≡ n.1.scan.place + length piece) × (place < 2 ^ 64))) got after.place)))

pub returns-clause-refused : goal.returns-clause-refused
returns-clause-refused c =
    let piece = c.args.piece.now in
    let s : Serving = record { store = c.self.inside.store.now; published_plans = c.self.inside.published_plans; streams = c.self.inside.streams } in
    let at = c.in-Some.ensures in
    let now = c.get.result.now in
    let got : now ≡ (c.args.stream, at.state) = c.get.ensures ∙ get_or_from_slice_get s.streams c.in-Some.place (c.args.stream, at.state) now at.here in
    rw c.ok_or.ensures.value (subst (λ (t : Serving). IfErr (ok_or c.place_after.result StreamTooLong) (λ refusal. refusal_of by_tails (parts_of t) (Feed c.args.stream piece) ≡ Some refusal)) c.self.view_is
    (place_refused s c.args.stream c.in-Some.place piece at c.place_after.result
    (subst (λ (n : ℕ × Bound). MatchOption c.place_after.result (2 ^ 64 ≤ n.1.scan.place + length piece) (λ place. (place ≡ n.1.scan.place + length piece) × (place < 2 ^ 64))) got c.place_after.ensures.place)))
