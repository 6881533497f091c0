-- The bytes of a slice.
use Rattle.std.proofs.Common.{ℕ, ◌<◌, List, All, Fits, w8, get_or}
use Rattle.std.proofs.Math.Facts.{Fits-lt-pow}
use Rattle.std.proofs.lemmas.List.Elements.{All-from_get_or}

-- the bytes of a slice are bytes
pub all_bytes : (text : List ℕ) → ((i : ℕ) → Fits w8 (get_or text i 0)) → All (λ b. b < 256) text
all_bytes text fits = All-from_get_or (λ b. b < 256) text 0 (λ i _. Fits-lt-pow (fits i))
