-- What vectors of 32 bytes hold, lane by lane, and what a mask of bits says of the positions from some place on.
use Rattle.std.specs.Prelude.{◌≡◌, ◌≢◌, ◌↔◌, ℕ, ◌+◌, ◌%◌, ◌<◌, List, length, slice_index}
use Rattle.std.specs.Int.{bit_at}

-- the vector has 32 lanes, and lane k holds f k
pub record HasLanes (vector : List ℕ) (f : ℕ → ℕ) : Type 0 where
  pub long : length vector ≡ 32
  pub each : (k : ℕ) → k < 32 → slice_index vector k ≡ f k

-- below n, the list holds f k at place k
abbrev pub HoldsBelow : (ℕ → ℕ) → ℕ → List ℕ → Type 0
HoldsBelow f n list = (k : ℕ) → k < n → slice_index list k ≡ f k

-- the vector holds a table of 16 entries twice
abbrev pub HoldsTwice : List ℕ → List ℕ → Type 0
HoldsTwice vector table = HasLanes vector (λ k. slice_index table (k % 16))

-- lane k is 255 if P holds at place + k
abbrev pub SetsLanes : (ℕ → Type 0) → ℕ → List ℕ → Type 0
SetsLanes P place lanes = (k : ℕ) → k < 32 → P (place + k) → slice_index lanes k ≡ 255

-- a lane that is not zero gives the answer
abbrev pub SeesLanes : List ℕ → Type 0 → Type 0
SeesLanes lanes answer = (k : ℕ) → k < 32 → slice_index lanes k ≢ 0 → answer

-- bit k of the mask is set if and only if P holds at place + k, for k below count, and no other bit is
abbrev pub IsMaskOf : (ℕ → Type 0) → ℕ → ℕ → ℕ → Type 0
IsMaskOf P place count mask = (k : ℕ) → (bit_at mask k ≡ 1) ↔ ((k < count) × P (place + k))
