-- A fault of a text stands within it.
use Rattle.std.proofs.Common.{ℕ, zero, suc, ◌≤◌, List, length, inl, inr, ap, arith}
use Rattle.std.specs.List.{flat_map}
use Rattle.std.proofs.lemmas.List.{length-append}
use Rattle.plan_file.specs.declared.fault.Wrong.{Wrong}
use Rattle.plan_file.specs.declared.version.Version.{Version}
use Rattle.plan_file.specs.FirstBad.{FitsHead, head_fields}
use Rattle.plan_file.specs.FirstFaults.{IsWrong, IsWrongNext}
use Rattle.plan_file.specs.Spelling.{head_text, plan_text}
use Rattle.plan_file.proofs.EntryParts.{entry_within}
use Rattle.plan_file.proofs.PartLemmas.{bad_within}

next_within : (version : Version) (missing : ℕ) (rest : List ℕ) (w : Wrong) → IsWrongNext version missing rest w → w.left ≤ length rest
next_within version zero rest w wrong = omega (arith, ap (λ (v : Wrong). v.left) wrong.1)
next_within version (suc missing) rest w wrong = entry_within version rest w wrong

-- a fault of a text stands within it
pub wrong_within : (text : List ℕ) (w : Wrong) → IsWrong text w → w.left ≤ length text
wrong_within text w (inl bad) = bad_within FitsHead head_fields text w bad
wrong_within text w (inr h) =
    let after = h.wrong in
    omega (arith, next_within h.version _ after.rest w after.wrong, ap length h.text_is, length-append (head_text h.version h.count) h.rest, ap length after.text_is, length-append (flat_map plan_text after.plans) after.rest)
