-- The first refused literal, one literal further.
use Rattle.std.proofs.Common.{◌≡◌, ℕ, ◌+◌, ◌<◌, true, false, List, drop, length, get_or, Option, Some, None, refl, sym, ap, ◌∙◌}
use Rattle.std.specs.Prelude.{is_some}
use Rattle.std.specs.Global.{Vec}
use Rattle.std.proofs.lemmas.Bool.{false≢true}
use Rattle.std.proofs.lemmas.List.{drop_more}
use Rattle.std.specs.Option.{option_or}
use Rattle.scan_wire.specs.Messages.{texts_of}
use Rattle.scan_core.specs.declared.refusal.Refusal.{Refusal}
use Rattle.scan_core.specs.Refusals.{first_refusal, literal_refusal}

-- the refusal of the literal at a place, or else of the later literals
pub refusal_from : (literals : List (Vec ℕ)) (i : ℕ) (v : Vec ℕ) → i < length literals → v ≡ get_or literals i v → first_refusal i (texts_of (drop i literals)) ≡ option_or (literal_refusal i v.items) (first_refusal (i + 1) (texts_of (drop (i + 1) literals)))
refusal_from literals i v within at =
    ap (λ (ls : List (Vec ℕ)). first_refusal i (texts_of ls)) (drop_more literals i v within)
    ∙ ap (λ (w : Vec ℕ). option_or (literal_refusal i w.items) (first_refusal (i + 1) (texts_of (drop (i + 1) literals)))) (sym at)

-- a refusal goes first
pub earlier_some : (o rest : Option Refusal) → is_some o ≡ true → option_or o rest ≡ o
earlier_some (Some refusal) rest some = refl
earlier_some None rest some = absurd (false≢true some)

-- where there is none, the other does
pub earlier_none : (o rest : Option Refusal) → is_some o ≡ false → option_or o rest ≡ rest
earlier_none (Some refusal) rest none = absurd (false≢true (sym none))
earlier_none None rest none = refl
