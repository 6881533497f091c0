-- The last bytes of the tail and the piece are those of the held bytes and the piece.
use Rattle.std.proofs.Common.{◌≡◌, ◌++◌, drop, take, length, refl, sym, ap, ◌∙◌, ⊎_elim, arith}
use Rattle.std.proofs.lemmas.List.{length-drop, length-take}
use Rattle.flow_scan.specs.Boundaries.{Joining}
use Rattle.flow_scan.specs.Tails.{last_bytes}
use Rattle.flow_scan.proofs.BoundaryLemmas.{offered_prefix, same_joining}
use Rattle.flow_scan.proofs.TailSteps.{last_of_last}
use Rattle.flow_scan.proofs.boundary.Boundary.commit.Goals as goal

pub keep_last-self-inside-requires-clause-prefix : goal.keep_last-self-inside-requires-clause-prefix
keep_last-self-inside-requires-clause-prefix c = λ few.
    let s = c.self.inside in
    let piece = c.args.piece.now in
    let after = drop s.held s.room.items in
    let ahead : length c.args.self.now.prefix ≡ s.ahead =
    sym (ap (λ (v : Joining). length v.prefix) c.self.view_is) ∙ omega (arith, length-take s.ahead after, length-drop s.held s.room.items, c.self.invariant.within) in
    let offered : take s.ahead after ≡ take s.ahead piece =
    ap (λ (v : Joining). v.prefix) c.self.view_is ∙ c.requires.offered.first ∙ ap (λ n. take n piece) ahead in
    offered_prefix (length c.split_at.result.0.now) s.ahead after piece offered few
    ∙ ap (λ n. take n piece) c.split_at.ensures.front_len ∙ sym c.split_at.ensures.front

pub keep_last-self-inside-requires-clause-long : goal.keep_last-self-inside-requires-clause-long
keep_last-self-inside-requires-clause-long c = λ more.
    let s = c.self.inside in
    let after = drop s.held s.room.items in
    let carry : s.carry ≡ c.args.self.now.carry = ap (λ (v : Joining). v.carry) c.self.view_is in
    let ahead : length c.args.self.now.prefix ≡ s.ahead =
    sym (ap (λ (v : Joining). length v.prefix) c.self.view_is) ∙ omega (arith, length-take s.ahead after, length-drop s.held s.room.items, c.self.invariant.within) in
    ⊎_elim (λ whole. absurd (omega (arith, whole, ahead, more, c.split_at.ensures.front_len, c.requires.within)))
    (λ carried. omega (arith, carried, ahead, carry, more)) c.requires.offered.enough

pub returns : goal.returns
returns c =
    let s = c.self.inside in
    let piece = take c.args.count c.args.piece.now in
    same_joining _ _ (ap (λ (v : Joining). v.carry) c.self.view_is)
    (c.keep_last-self-inside.ensures.tail ∙ ap (λ p. last_bytes s.carry (take s.held s.room.items ++ p)) c.split_at.ensures.front ∙ sym (last_of_last s.carry (take s.held s.room.items) piece) ∙ ap (λ (v : Joining). last_bytes v.carry (v.tail ++ piece)) c.self.view_is)
    refl
