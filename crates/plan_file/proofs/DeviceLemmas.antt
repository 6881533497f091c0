-- The bytes that a device gave, and the answer made of them.
use Rattle.std.proofs.Common.{◌≡◌, ℕ, ◌^◌, ◌<◌, List, [], ◌++◌, length, Option, Some, None, Result, Ok, Err, refl, sym, ap, subst, ◌∙◌, arith}
use Rattle.std.specs.Option.{IfSome}
use Rattle.std.specs.Result.{OnErr}
use Rattle.std.specs.Io.KnownBytes.{Appends}
use Rattle.std.proofs.lemmas.List.{append-nil, length-append}
use Rattle.byte_io.specs.Devices.{Coming, Clean}
use Rattle.byte_io.specs.Transfers.{AppendsPart, FaultFollows, ReadsAll}
use Rattle.lit_plan.specs.Plans.{Plan}
use Rattle.plan_file.specs.declared.version.Version.{Version}
use Rattle.plan_file.specs.Spelling.{head_text, spelling, plan_text}
use Rattle.std.specs.List.{flat_map}

-- a file has bytes
pub length-head_text : (version : Version) (count : ℕ) → length (head_text version count) ≡ 8
unfolding head_text
length-head_text version count = refl

-- nothing written is a prefix of a file
nothing_written : (written : Option (List ℕ)) → Appends written written []
nothing_written None = tt
nothing_written (Some text) = sym (append-nil text)

-- nothing written is a prefix of a file, whatever refused
pub none_written : {T E : Type 0} (version : Version) (r : Result T E) (written : Option (List ℕ)) (plans : List Plan) → OnErr r (AppendsPart written written (spelling version plans))
none_written version (Ok x) written plans = tt
none_written version (Err e) written plans = record {
  count = 0;
  fewer = omega (arith, length-append (head_text version (length plans)) (flat_map plan_text plans), length-head_text version (length plans));
  text = nothing_written written;
}

-- what holds of a text that was read to its end holds of what came
pub of_all : (Q : List ℕ → Type 0) (limit : ℕ) (old : Option Coming) (before text : List ℕ) → before ≡ [] → IfSome old (ReadsAll limit before text) → Q text → IfSome old (λ x. x.ending ≡ Clean → length x.text < 2 ^ 40 → Q x.text)
of_all Q limit None before text empty all holds = tt
of_all Q limit (Some x) before text empty all holds = λ clean short. subst Q (all.text ∙ ap (λ (b : List ℕ). b ++ x.text) empty) holds

-- no read fails where a clean end comes in time
pub no_failure : (Q : Coming → Type 0) (limit : ℕ) (old : Option Coming) (before text : List ℕ) → IfSome old (λ x. length x.text < 2 ^ 40 → FaultFollows limit before text x) → IfSome old (λ x. x.ending ≡ Clean → length x.text < 2 ^ 40 → Q x)
no_failure Q limit None before text failed = tt
no_failure Q limit (Some x) before text failed = λ clean short. absurd ((failed short).ending clean)
