-- What a short list ends as, where a `&mut` to an element is returned.
use Rattle.std.specs.Prelude.{ℕ, List, slice_set}
use Rattle.std.specs.Borrow.{Lends, Fml, RattleType, MutBor}
use Rattle.scan_core.specs.contracts.bounded_vec.BoundedVec.{the_row}

-- once the borrow r ends, the place has the last value written through r
abbrev pub lends_at : (T : RattleType) → MutBor (List T.Denot) → ℕ → MutBor T.Denot → Fml
lends_at T s i r = Lends (the_row T) T s r (slice_set s.now i)
