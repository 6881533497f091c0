use Rattle.std.proofs.Common.{◌≤◌, ◌-◌, ◌∙◌, ℕ, List, length, take, drop, ap, arith}
use Rattle.std.proofs.lemmas.List.{length-take}
use Rattle.scan_serve.proofs.WindowLemmas.{skipped}
use Rattle.scan_serve.proofs.window.Window.skip.Goals as goal

pub returns : goal.returns
returns c =
    let w = c.self.inside in
    let le : c.args.count ≤ w.len = omega (arith, c.requires, ap length c.self.view_is, length-take w.len w.buffer.items) in
    ap (λ (x : List ℕ). take (w.len - c.args.count) x) c.copy_within.ensures.items ∙ skipped w.buffer.items c.args.count w.len le c.self.invariant.0 ∙ ap (λ (x : List ℕ). drop c.args.count x) c.self.view_is
