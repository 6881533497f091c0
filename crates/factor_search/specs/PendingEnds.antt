-- The pending ends of a search by factors.
use Rattle.std.specs.Prelude.{◌≡◌, ℕ, ◌+◌, ◌-◌, ◌<◌, ◌≤◌, List, length}
use Rattle.std.specs.Int.{bit_at}
use Rattle.lit_base.specs.Occurrences.{Occurs}
use Rattle.factor_search.specs.declared.probing.TheConstants.{BLOCK}
use Rattle.factor_search.specs.declared.factor_ends.Pending.{Pending}
use Rattle.factor_search.specs.Factors.{Factored, offset_at}

-- the ends after `from` and `seen` whose factor ends before `next` are pending: bit k stands for the end k + 1
-- positions after `seen`
abbrev pub ArePending : Factored → List ℕ → ℕ → ℕ → ℕ → ℕ → Type 0
ArePending w text from seen next hash_bits = (place end : ℕ) → Occurs w.literals text place end → from < end → seen < end → end < next + offset_at w place → bit_at hash_bits (end - (seen + 1)) ≡ 1

-- the positions of a block that pass: each where the factor of a literal ends. Bit k stands for the position k + 1
-- after `seen`
pub record ArePassing (w : Factored) (text : List ℕ) (seen passing : ℕ) : Type 0 where
  pub inside : (k : ℕ) → k < BLOCK → bit_at passing k ≡ 1 → seen + k < length text
  pub all : (place end : ℕ) → Occurs w.literals text place end → seen < end - offset_at w place → end - offset_at w place ≤ seen + BLOCK → bit_at passing (end - offset_at w place - (seen + 1)) ≡ 1

-- the state of a search after `from`: the next `count` ends of the text are pending by probes at all positions up to
-- the last of them
pub record ArePendingEnds (w : Factored) (text : List ℕ) (from : ℕ) (c : Pending) : Type 0 where
  pub pending : ArePending w text from c.seen (c.seen + c.count + 1) c.hash_bits
  pub inside : c.seen + c.count ≤ length text
  pub few : c.count ≤ BLOCK
