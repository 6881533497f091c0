-- What a contract sees of a `Scanner` or a `Stream`, and what a piece makes of it.
use Rattle.std.specs.Prelude.{◌≡◌, ℕ, ◌+◌, ◌^◌, ◌<◌, ◌≤◌, ◌↔◌, ◌⊎◌, List, [], ◌++◌, length, min, take, IfErr, IfOk, IsErrOf, IsOkUnless, OnErr, Result}
use Rattle.lit_base.specs.NextEnds.{NoEndAfter}
use Rattle.lit_plan.specs.Plans.{Plan}
use Rattle.lit_plan.specs.declared.fault.Fault.{Fault}
use Rattle.lit_plan.specs.declared.fault.Fault.TheVariants.{OutOfMemory, StreamTooLong}
use Rattle.flow_scan.specs.Boundaries.{Joining}
use Rattle.flow_scan.specs.Tails.{StopsIn, tail_after}

-- a plan, the base, the position reached, and the last bytes fed, as many as a hit in the next piece may need
pub record Scanning : Type 0 where
  pub plan : Plan
  pub base : ℕ
  pub place : ℕ
  pub tail : List ℕ

-- nothing was fed yet
abbrev pub started : Plan → ℕ → Scanning
started plan base = record { plan = plan; base = base; place = base; tail = [] }

-- one more piece was fed
abbrev pub fed : Scanning → List ℕ → Scanning
fed s piece = record s { place = s.place + length piece; tail = tail_after s.plan.literals s.tail piece }

-- a piece may be refused: exactly if the position would pass 2^64 - 1 with the whole piece, and for want of memory, but
-- only if a literal ends in it. The scan and the hits are then unchanged
pub record MayRefuse {T : Type 0} (old new : Scanning) (piece : List ℕ) (before after : List (ℕ × ℕ)) (result : Result T Fault) : Type 0 where
  pub too_long : IsErrOf result StreamTooLong ↔ (2 ^ 64 ≤ old.place + length piece)
  pub faults : IfErr result (λ fault. (fault ≡ StreamTooLong) ⊎ (fault ≡ OutOfMemory))
  pub same : OnErr result (new ≡ old)
  pub same_hits : OnErr result (after ≡ before)
  pub quiet : NoEndAfter old.plan.literals (old.tail ++ piece) (length old.tail) → IsOkUnless result StreamTooLong

-- a piece is fed up to the first end by which a list of hits gained `most`, or whole: as many bytes of it as the result
-- says
pub record FeedsUpTo (old new : Scanning) (piece : List ℕ) (most : ℕ) (before after : List (ℕ × ℕ)) (result : Result ℕ Fault) : Type 0 where
  pub ok : IfOk result (λ count. new ≡ fed old (take count piece))
  pub hits : IfOk result (λ count. StopsIn old.plan.literals old.tail piece old.place most count before after)
  pub refusals : MayRefuse old new piece before after result

-- ---- inside the crate: the state of a scan without its plan

-- the base, the position reached, how many of the last bytes are kept, and these bytes
pub record Reached : Type 0 where
  pub base : ℕ
  pub place : ℕ
  pub carry : ℕ
  pub tail : List ℕ

-- nothing was fed yet
abbrev pub started_at : ℕ → ℕ → Reached
started_at carry base = record { base = base; place = base; carry = carry; tail = [] }

-- a scan by a plan
abbrev pub scanning : Plan → Reached → Scanning
scanning plan r = record { plan = plan; base = r.base; place = r.place; tail = r.tail }

-- the invariant of the fields: the tail has as many bytes as were fed, up to the overlap, and the position is a u64
pub record IsProgress (base count : ℕ) (boundary : Joining) : Type 0 where
  pub tail : length boundary.tail ≡ min count boundary.carry
  pub place : base + count < 2 ^ 64
