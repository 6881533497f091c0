-- The bounds of literals in normal form.
use Rattle.std.proofs.Common.{◌≡◌, ◌-◌, ◌<◌, length, get_or, refl, ap, ◌∙◌, arith}
use Rattle.std.proofs.lemmas.List.{get_or-map, length-map}
use Rattle.std.proofs.lemmas.Option.{get_or_from_slice_get, slice_get_within}
use Rattle.lit_base.specs.Literals.{IsNormal, Literals, lengths}
use Rattle.lit_base.proofs.LengthLemmas.{last_greatest}
use Rattle.list_index.proofs.AloneLemmas.{of_literal}
use Rattle.lit_plan.specs.Bounds.{HasBounds}

-- none is null, and the last is the longest
pub bounds_of_normal : (l : Literals) → IsNormal l → HasBounds l
bounds_of_normal l normal = record {
  some = λ place literal stands. of_literal (λ t. 0 < length t) l.texts place literal normal.nonempty stands;
  fits = λ place literal stands.
      let within : place < length l.texts = slice_get_within l.texts place literal stands in
      let len : get_or (lengths l) place 0 ≡ length literal =
      get_or-map length l.texts place literal 0 within ∙ ap length (get_or_from_slice_get l.texts place literal literal stands) in
      let least = last_greatest l normal (get_or (lengths l) (length l.texts - 1) 0) refl place 0 (omega (arith, within, length-map l.texts length)) in
      omega (arith, len, least);
}
