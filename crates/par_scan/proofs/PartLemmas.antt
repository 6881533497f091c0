-- Texts without hits after a position.
use Rattle.std.proofs.Common.{◌≡◌, ℕ, ◌-◌, ◌+◌, List, [], ◌∷◌, Result, Err, refl, sym, ap, ◌∙◌, arith, true≢false}
use Rattle.std.specs.Prelude.{IsOk, is_ok}
use Rattle.lit_base.specs.Literals.{Literals}
use Rattle.lit_base.specs.NextEnds.{NoEndAfter}
use Rattle.text_ends.specs.HitsAfter.{AreHitsAfter}

-- where nothing ends there are no hits
pub no_hits : (l : Literals) (text : List ℕ) (from : ℕ) (hits : List (ℕ × ℕ)) → NoEndAfter l text from → AreHitsAfter l text from from hits → hits ≡ []
no_hits l text from [] none all = refl
no_hits l text from (h ∷ rest) none all =
    let here = (all.members h.0 h.1).0 (0, omega arith, refl) in
    absurd (none (from + (h.1 - from)) (omega (arith, here.0)) (h.0, here.1))

-- a result that is fine is no error
pub fine_or_err : {T E : Type 0} (r : Result T E) (e : E) → r ≡ Err e → IsOk r → ⊥
fine_or_err r e failed fine = true≢false (sym fine ∙ ap is_ok failed)
