-- The slice begins where the tail does.
use Rattle.std.proofs.Common.{ℕ, ◌+◌, ◌-◌, ◌++◌, List, length, take, drop, sym, ap, ◌∙◌, arith}
use Rattle.flow_scan.specs.Boundaries.{Joining}
use Rattle.flow_scan.proofs.BoundaryLemmas.{text_of}
use Rattle.flow_scan.proofs.boundary.Boundary.text.Goals as goal

pub returns : goal.returns
returns c =
    let s = c.self.inside in
    let start = s.held - c.tail_len.result in
    let len = c.tail_len.ensures ∙ sym (ap (λ (v : Joining). length v.tail) c.self.view_is) in
    ap (λ (xs : List ℕ). take (s.held + s.ahead - start) (drop start xs)) c.deref.ensures.value
    ∙ text_of s.carry s.held s.ahead c.tail_len.result s.room.items (omega (arith, s.room.ok.0, c.self.invariant.within)) len
    ∙ ap (λ (v : Joining). v.tail ++ v.prefix) c.self.view_is
