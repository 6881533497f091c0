-- The places of the patterns are those among the literals of the plan that is made.
use Rattle.std.proofs.Common.{◌≡◌, ◌≤◌, ◌∙◌, ℕ, List, ap, arith, drop, length, map, subst, take}
use Rattle.std.proofs.lemmas.Slice.Zip.{AllZip-long}
use Rattle.std.specs.List.{AllZip}
use Rattle.std.proofs.lemmas.List.{length-map}
use Rattle.lit_base.specs.Flags.{fold_of}
use Rattle.lit_base.specs.NormalForm.{IsPlaceOf}
use Rattle.fiolargu.specs.Made.{IsPlanOf, bytes_of, number_at}
use Rattle.fiolargu.specs.declared.views.Bytes.{Bytes}
use Rattle.fiolargu.proofs.NumberLemmas.{numbered}
use Rattle.fiolargu.proofs.plans.fiolargu_plan_new.Goals as goal

pub returns-in-Ok-plan_of-clause-numbers : goal.returns-in-Ok-plan_of-clause-numbers
returns-in-Ok-plan_of-clause-numbers c = λ _ room.
    let made = c.in-Ok-plan_of.made in
    let places = c.in-Ok-plan_of.places.items in
    let raw : c.in-Ok.raw ≡ bytes_of c.args.patterns.now = c.in-Ok.ensures.ok in
    let wrote : length places ≤ length c.args.literal_of.now → take (length places) c.write_numbers.new.numbers ≡ map number_at places = rw c.deref.ensures.value at c.write_numbers.ensures.written in
    numbered c.args.flags (length c.args.patterns.now) (bytes_of c.args.patterns.now) made places c.write_numbers.new.numbers
    (length-map c.args.patterns.now (λ (p : Bytes). p.bytes.now))
    (subst (λ (list : List (List ℕ)). IsPlanOf c.args.flags list made) raw c.in-Ok-plan_of.ensures.made)
    (subst (λ (list : List (List ℕ)). AllZip (IsPlaceOf (fold_of c.args.flags) made.literals.texts) list places) raw c.in-Ok-plan_of.ensures.places)
    (λ long. wrote (omega (arith, long, room)))

-- After the numbers of the patterns the buffer is as it was.
pub returns-in-Ok-plan_of-clause-after : goal.returns-in-Ok-plan_of-clause-after
returns-in-Ok-plan_of-clause-after c =
    let made = c.in-Ok-plan_of.made in
    let places = c.in-Ok-plan_of.places.items in
    let raw : c.in-Ok.raw ≡ bytes_of c.args.patterns.now = c.in-Ok.ensures.ok in
    let kept : drop (length places) c.write_numbers.new.numbers ≡ drop (length places) c.args.literal_of.now = rw c.deref.ensures.value at c.write_numbers.ensures.after in
    subst (λ (n : ℕ). drop n c.write_numbers.new.numbers ≡ drop n c.args.literal_of.now)
    (AllZip-long (IsPlaceOf (fold_of c.args.flags) made.literals.texts) c.in-Ok.raw places c.in-Ok-plan_of.ensures.places ∙ ap (λ (list : List (List ℕ)). length list) raw ∙ length-map c.args.patterns.now (λ (p : Bytes). p.bytes.now))
    kept
