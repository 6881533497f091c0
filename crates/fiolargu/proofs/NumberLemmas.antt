-- The numbers of a plan's patterns, as C gets them.
use Rattle.std.proofs.Common.{◌≡◌, ℕ, List, length, map, take, Option, ap, ◌∙◌, subst}
use Rattle.std.specs.List.{AllZip}
use Rattle.std.proofs.lemmas.Slice.Zip.{AllZip-long}
use Rattle.lit_base.specs.Flags.{fold_of}
use Rattle.lit_base.specs.Literals.{Literals}
use Rattle.lit_base.specs.NormalForm.{IsPlaceOf, normal_form}
use Rattle.lit_plan.specs.Plans.{Plan}
use Rattle.fiolargu.specs.Made.{AreNumbersOf, IsPlanOf, number_at}

-- places among the literals of a plan, written as numbers, are the numbers of its patterns
pub numbered : (flags count : ℕ) (patterns : List (List ℕ)) (p : Plan) (places : List (Option ℕ)) (numbers : List ℕ)
    → length patterns ≡ count → IsPlanOf flags patterns p → AllZip (IsPlaceOf (fold_of flags) p.literals.texts) patterns places
    → (length places ≡ count → take (length places) numbers ≡ map number_at places) → AreNumbersOf flags patterns (take count numbers)
numbered flags count patterns p places numbers counted made zip written =
    let texts : p.literals.texts ≡ normal_form (fold_of flags) patterns = ap (λ (l : Literals). l.texts) made.literals in
    let long : length places ≡ count = AllZip-long (IsPlaceOf (fold_of flags) p.literals.texts) patterns places zip ∙ counted in
    record {
      places = places;
      are = subst (λ (ts : List (List ℕ)). AllZip (IsPlaceOf (fold_of flags) ts) patterns places) texts zip;
      written = subst (λ (n : ℕ). take n numbers ≡ map number_at places) long (written long);
    }
