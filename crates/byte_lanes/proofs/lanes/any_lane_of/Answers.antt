-- Where a lane of one vector is not zero, neither is the lane of all joined.
use Rattle.std.proofs.Common.{◌≡◌, ◌≢◌, ℕ, bit_or, arith}
use Rattle.std.proofs.lemmas.Nat.{le_or_l, le_or_r}
use Rattle.byte_lanes.proofs.lanes.any_lane_of.Goals as goal

-- a number is not zero if its bits include those in a number that is not zero
set_left : (a b c : ℕ) → c ≡ bit_or a b → a ≢ 0 → c ≢ 0
set_left a b c is set none = let le = le_or_l a b in set (omega (arith, is, none, le))

set_right : (a b c : ℕ) → c ≡ bit_or a b → b ≢ 0 → c ≢ 0
set_right a b c is set none = let le = le_or_r a b in set (omega (arith, is, none, le))

pub returns-clause-first : goal.returns-clause-first
returns-clause-first c k l set = c.any_lane.ensures k l (set_left _ _ _ (c.either-3.ensures.each k l) (set_left _ _ _ (c.either.ensures.each k l) set))

pub returns-clause-second : goal.returns-clause-second
returns-clause-second c k l set = c.any_lane.ensures k l (set_left _ _ _ (c.either-3.ensures.each k l) (set_right _ _ _ (c.either.ensures.each k l) set))

pub returns-clause-third : goal.returns-clause-third
returns-clause-third c k l set = c.any_lane.ensures k l (set_right _ _ _ (c.either-3.ensures.each k l) (set_left _ _ _ (c.either-2.ensures.each k l) set))

pub returns-clause-fourth : goal.returns-clause-fourth
returns-clause-fourth c k l set = c.any_lane.ensures k l (set_right _ _ _ (c.either-3.ensures.each k l) (set_right _ _ _ (c.either-2.ensures.each k l) set))
