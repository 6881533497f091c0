-- The line is the held bytes and its last bytes.
use Rattle.std.proofs.Common.{◌≡◌, Bool, List, ℕ, ◌++◌, ◌∷◌, [], Err, ap, ◌∙◌}
use Rattle.std.proofs.lemmas.Result.{err_from_is_err_and}
use Rattle.line_pick.specs.Emitting.{Begun, numbered}
use Rattle.line_pick.specs.Matching.{picks}
use Rattle.line_pick.proofs.EmittedLemmas.{Emitted-lines, OrNone-starved}
use Rattle.line_pick.proofs.progress.Progress.end_line.Goals as goal

-- one line under two names
one_line : (test : List ℕ → Bool) {before before' : ℕ} {line line' : List ℕ} → before ≡ before' → line ≡ line' → numbered test before (line ∷ []) ≡ numbered test before' (line' ∷ [])
one_line test {before' = before'} {line = line} e e' = ap (λ n. numbered test n (line ∷ [])) e ∙ ap (λ l. numbered test before' (l ∷ [])) e'

pub returns-in_err-hold-clause-emitted : goal.returns-in_err-hold-clause-emitted
returns-in_err-hold-clause-emitted g c =
    let p = err_from_is_err_and c.from_residual.result c.from_residual.ensures.1 in
    OrNone-starved (numbered (picks c.args.search.now.matcher) c.args.self.now.lines ((c.args.self.now.held.items ++ c.args.prefix.now) ∷ [])) c.from_residual.result
    (p.1 ∙ ap (λ h. Err h) p.2 ∙ c.in_err-hold.ensures.starved)

pub returns-in_err-emit_joined-clause-emitted : goal.returns-in_err-emit_joined-clause-emitted
returns-in_err-emit_joined-clause-emitted g c =
    let p = err_from_is_err_and c.from_residual-in_err-emit_joined.result c.from_residual-in_err-emit_joined.ensures.1 in
    let whole : c.as_slice.result.now ≡ c.args.self.now.held.items ++ c.args.prefix.now = c.as_slice.ensures.value ∙ c.in_ok-hold.ensures.ok in
    rw (p.1, p.2) (Begun (Emitted-lines (one_line (picks c.args.search.now.matcher) c.in_ok-hold.ensures.lines whole) c.in_err-emit_joined.ensures.emitted))

pub returns-clause-emitted : goal.returns-clause-emitted
returns-clause-emitted g c =
    let whole : c.as_slice.result.now ≡ c.args.self.now.held.items ++ c.args.prefix.now = c.as_slice.ensures.value ∙ c.in_ok-hold.ensures.ok in
    Begun (Emitted-lines (one_line (picks c.args.search.now.matcher) c.in_ok-hold.ensures.lines whole) c.in_ok-emit_joined.ensures.emitted)
