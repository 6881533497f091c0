-- All lists and all files gave their patterns.
use Rattle.std.proofs.Common.{◌≡◌, ◌∙◌, [], None, ap, map, string_bytes, subst}
use Rattle.byte_io.specs.Devices.{IfKnown}
use Rattle.byte_io.specs.Sources.{AreShort}
use Rattle.grep_run.specs.Gathering.{TakesAllFiles}
use Rattle.grep_run.specs.Options.{asks_for}
use Rattle.grep_run.specs.Patterns.{lists_refusal, patterns_in}
use Rattle.grep_run.specs.Sources.{found}
use Rattle.grep_run.proofs.GatherLemmas.{had-all}
use Rattle.grep_run.proofs.patterns.gathered.Goals as goal

pub returns : goal.returns
returns g c =
    had-all c.args.options.now _ _ c.in_ok-patterns.patterns c.add_files.new.patterns c.in_ok-new.field-0
    (subst (λ xs. lists_refusal [] (map string_bytes xs) ≡ None) c.as_slice.ensures.value c.in_ok-patterns.ensures.refusal)
    (c.in_ok-patterns.ensures.ok ∙ ap (λ xs. patterns_in (map string_bytes xs)) c.as_slice.ensures.value)
    (subst (λ xs. IfKnown (g.O.Opener.sources c.args.opener.now) (g.O.Opener.sources c.add_files.new.opener) (λ s left. AreShort s → TakesAllFiles c.in_ok-patterns.patterns c.add_files.new.patterns s left (found (asks_for (map string_bytes xs)) s)))
    c.as_slice-2.ensures.value c.in_ok-add_files.ensures.answer)
    c.in_ok-new.ensures.ok
