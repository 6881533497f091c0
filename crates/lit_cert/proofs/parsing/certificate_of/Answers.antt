use Rattle.std.proofs.Common.{arith, ◌≡◌, ◌∙◌, ◌++◌, ◌∷◌, ◌+◌, ℕ, List, Bor, length, sym, ap, subst, codes}
use Rattle.std.proofs.lemmas.Bool.{eqb-true, eqb-false}
use Rattle.std.proofs.lemmas.List.{nil_from_length, append-nil}
use Rattle.lit_cert.specs.Spelling.{spelling_for}
use Rattle.lit_cert.specs.declared.fault.Fault.TheVariants.{BadCertText}
use Rattle.lit_cert.specs.Reading.{IsBadText, IsFirstBad}
use Rattle.lit_cert.proofs.Plain.{is_most}
use Rattle.lit_cert.proofs.FirstBad.{bad_end}
use Rattle.lit_base.specs.Profiles.{buckets}
use Rattle.lit_cert.proofs.ProfileTexts.{bad_after_head, bad_rows}
use Rattle.lit_cert.proofs.Exits.{bad_last, all_read}
use Rattle.lit_cert.proofs.Results.{from_none, at_none, from_some, from_same}
use Rattle.lit_cert.proofs.parsing.certificate_of.Goals as goal

pub returns-in_err-potentials-clause-wrong : goal.returns-in_err-potentials-clause-wrong
returns-in_err-potentials-clause-wrong c =
    let p = c.in_ok-head.head.profile in
    let most = buckets p in
    from_same c.from_residual-in_err-potentials.result c.in_err-potentials.field-0.0 (IsBadText c.args.text.now) c.from_residual-in_err-potentials.ensures.1
    (bad_rows c.in_ok-head.head.profile c.in_ok-head.head.literals c.in_ok-head.head.cost c.in_ok-head.head.ends.items c.args.text.now c.in_ok-head.rest.now c.in_err-potentials.field-0.0 c.in_ok-head.ensures.found c.in_err-potentials.ensures.wrong)

pub returns-in_err-rest-clause-wrong : goal.returns-in_err-rest-clause-wrong
returns-in_err-rest-clause-wrong c =
    let p = c.in_ok-head.head.profile in
    let most = buckets p in
    from_none c.from_residual-in_err-rest.result c.after_fixed.result c.in_err-rest.field-0.0 (BadCertText (c.buckets.result + 5)) (IsBadText c.args.text.now) c.from_residual-in_err-rest.ensures.1 c.in_err-rest.ensures.value
    (λ none. subst (λ (m : ℕ). IsFirstBad c.args.text.now (m + 5)) (sym c.buckets.ensures.value) (bad_after_head p c.in_ok-head.head.literals c.in_ok-head.head.cost c.in_ok-head.head.ends.items c.args.text.now c.in_ok-head.rest.now (most + 5) c.in_ok-head.ensures.found (bad_last most c.in_ok-head.head.literals c.in_ok-head.head.cost c.in_ok-head.head.ends.items c.args.text.now c.in_ok-head.rest.now c.in_ok-potentials.potentials.items c.in_ok-potentials.rest.now (is_most p) c.in_ok-head.ensures.found c.in_ok-potentials.ensures.found (at_none c.after_fixed.result _ none c.after_fixed.ensures.none))))

pub returns-then-not-is_empty-clause-wrong : goal.returns-then-not-is_empty-clause-wrong
returns-then-not-is_empty-clause-wrong c =
    let p = c.in_ok-head.head.profile in
    let most = buckets p in
    let last = from_some (λ (rest : Bor (List ℕ)). c.in_ok-potentials.rest.now ≡ codes "end" ++ 10 ∷ rest.now) c.after_fixed.result c.in_ok-rest.rest (BadCertText (c.buckets.result + 5)) c.in_ok-rest.ensures.value c.after_fixed.ensures.found in
    let six : most + 6 ≡ most + 5 + 1 = omega arith in
    let read = all_read most c.in_ok-head.head.literals c.in_ok-head.head.cost c.in_ok-head.head.ends.items c.args.text.now c.in_ok-head.rest.now c.in_ok-potentials.potentials.items c.in_ok-potentials.rest.now c.in_ok-rest.rest.now (is_most p) c.in_ok-head.ensures.found c.in_ok-potentials.ensures.found last in
    subst (λ (m : ℕ). IsFirstBad c.args.text.now (m + 5 + 1)) (sym c.buckets.ensures.value) (subst (IsFirstBad c.args.text.now) six (bad_after_head p c.in_ok-head.head.literals c.in_ok-head.head.cost c.in_ok-head.head.ends.items c.args.text.now c.in_ok-head.rest.now (most + 6) c.in_ok-head.ensures.found (bad_end most c.args.text.now c.in_ok-rest.rest.now _ (is_most p) read.0 read.1 (λ empty. eqb-false (length c.in_ok-rest.rest.now) 0 (sym c.if-not-is_empty.ensures) (ap length empty)))))

pub returns-clause-found : goal.returns-clause-found
returns-clause-found c =
    let p = c.in_ok-head.head.profile in
    let most = buckets p in
    let last = from_some (λ (rest : Bor (List ℕ)). c.in_ok-potentials.rest.now ≡ codes "end" ++ 10 ∷ rest.now) c.after_fixed.result c.in_ok-rest.rest (BadCertText (c.buckets.result + 5)) c.in_ok-rest.ensures.value c.after_fixed.ensures.found in
    let read = all_read most c.in_ok-head.head.literals c.in_ok-head.head.cost c.in_ok-head.head.ends.items c.args.text.now c.in_ok-head.rest.now c.in_ok-potentials.potentials.items c.in_ok-potentials.rest.now c.in_ok-rest.rest.now (is_most p) c.in_ok-head.ensures.found c.in_ok-potentials.ensures.found last in
    let empty = nil_from_length c.in_ok-rest.rest.now (eqb-true (length c.in_ok-rest.rest.now) 0 (sym c.if-not-is_empty.ensures)) in
    (read.0, subst (λ (after : List ℕ). c.args.text.now ≡ spelling_for most (record { ends = c.in_ok-head.head.ends.items; cost = c.in_ok-head.head.cost; potentials = c.in_ok-potentials.potentials.items }) ++ after) empty read.1 ∙ append-nil _)
