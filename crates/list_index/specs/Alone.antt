-- Literals that end alone.
use Rattle.std.specs.Prelude.{◌≡◌, ℕ, Bool, true, false, ◌+◌, ◌<◌, ◌↔◌, List, length, slice_index_or}
use Rattle.lit_base.specs.Literals.{Literals}
use Rattle.lit_base.specs.Occurrences.{IsFirstEnding, NoneEnds}

-- in no text does another literal end where the literal at a place of the list is the first to end
abbrev pub IsAlone : Literals → ℕ → Type 0
IsAlone l place = (text : List ℕ) (end : ℕ) → IsFirstEnding l text 0 end place → NoneEnds l text (place + 1) end

-- each literal has a flag that says whether it ends alone
pub record SayAlone (l : Literals) (flags : List Bool) : Type 0 where
  pub all : length flags ≡ length l.texts
  pub said : (place : ℕ) → place < length l.texts → (slice_index_or flags place false ≡ true) ↔ IsAlone l place
