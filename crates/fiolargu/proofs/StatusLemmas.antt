-- A status that a call returns is one of those that it names.
use Rattle.std.proofs.Common.{◌≡◌, ◌≤◌, ◌<◌, ◌⊎◌, ◌↔◌, ℕ, zero, suc, ℤ, arith, of_z, subst, to_z, w32, ⊎_elim}
use Rattle.fiolargu.specs.declared.statuses.TheConstants.{BAD_PLAN_FILE, NO_SUCH_PLAN, OK, OUT_OF_MEMORY, OUT_OF_RANGE, SMALL_BUFFER, STREAM_TOO_LONG}

-- the status for want of memory is not that for a bad plan file
pub memory_is_not_bad : {status : ℤ} → status ≡ OUT_OF_MEMORY → to_z w32 (of_z w32 status) ≡ BAD_PLAN_FILE → ⊥
memory_is_not_bad memory bad =
    let same : to_z w32 (of_z w32 OUT_OF_MEMORY) ≡ BAD_PLAN_FILE = subst (λ (s : ℤ). to_z w32 (of_z w32 s) ≡ BAD_PLAN_FILE) memory bad in
    absurd cc

-- nor that for success, a small buffer, a place out of range or a long stream
ok_is_not_memory : {status : ℤ} → status ≡ OK → to_z w32 (of_z w32 status) ≡ OUT_OF_MEMORY → ⊥
ok_is_not_memory is memory =
    let same : to_z w32 (of_z w32 OK) ≡ OUT_OF_MEMORY = subst (λ (s : ℤ). to_z w32 (of_z w32 s) ≡ OUT_OF_MEMORY) is memory in
    absurd cc

small_is_not_memory : {status : ℤ} → status ≡ SMALL_BUFFER → to_z w32 (of_z w32 status) ≡ OUT_OF_MEMORY → ⊥
small_is_not_memory is memory =
    let same : to_z w32 (of_z w32 SMALL_BUFFER) ≡ OUT_OF_MEMORY = subst (λ (s : ℤ). to_z w32 (of_z w32 s) ≡ OUT_OF_MEMORY) is memory in
    absurd cc

range_is_not_memory : {status : ℤ} → status ≡ OUT_OF_RANGE → to_z w32 (of_z w32 status) ≡ OUT_OF_MEMORY → ⊥
range_is_not_memory is memory =
    let same : to_z w32 (of_z w32 OUT_OF_RANGE) ≡ OUT_OF_MEMORY = subst (λ (s : ℤ). to_z w32 (of_z w32 s) ≡ OUT_OF_MEMORY) is memory in
    absurd cc

long_is_not_memory : {status : ℤ} → status ≡ STREAM_TOO_LONG → to_z w32 (of_z w32 status) ≡ OUT_OF_MEMORY → ⊥
long_is_not_memory is memory =
    let same : to_z w32 (of_z w32 STREAM_TOO_LONG) ≡ OUT_OF_MEMORY = subst (λ (s : ℤ). to_z w32 (of_z w32 s) ≡ OUT_OF_MEMORY) is memory in
    absurd cc

bad_is_not_memory : {status : ℤ} → status ≡ BAD_PLAN_FILE → to_z w32 (of_z w32 status) ≡ OUT_OF_MEMORY → ⊥
bad_is_not_memory is memory =
    let same : to_z w32 (of_z w32 BAD_PLAN_FILE) ≡ OUT_OF_MEMORY = subst (λ (s : ℤ). to_z w32 (of_z w32 s) ≡ OUT_OF_MEMORY) is memory in
    absurd cc

-- a file that C sees as out of memory is that
pub file_starved : {status : ℤ} {A B : Type 0} → ((status ≡ OUT_OF_MEMORY) × A) ⊎ ((status ≡ BAD_PLAN_FILE) × B) → to_z w32 (of_z w32 status) ≡ OUT_OF_MEMORY → status ≡ OUT_OF_MEMORY
file_starved refused memory = ⊎_elim (λ is. is.0) (λ is. absurd (bad_is_not_memory is.0 memory)) refused

-- where memory ran out over one of some plans, there is one
pub some_plans : (count which : ℕ) (status : ℤ) → (status ≡ NO_SUCH_PLAN ↔ (count ≤ which)) → status ≡ OUT_OF_MEMORY → 0 < count
some_plans zero which status missing memory =
    let none : status ≡ NO_SUCH_PLAN = missing.1 (omega arith) in
    let same : OUT_OF_MEMORY ≡ NO_SUCH_PLAN = subst (λ (s : ℤ). s ≡ NO_SUCH_PLAN) memory none in
    absurd cc
some_plans (suc count) which status missing memory = omega arith

-- a scan that C sees as out of memory is that
pub scan_starved : {status : ℤ} → (status ≡ OK) ⊎ ((status ≡ SMALL_BUFFER) ⊎ ((status ≡ OUT_OF_RANGE) ⊎ (status ≡ OUT_OF_MEMORY)))
    → to_z w32 (of_z w32 status) ≡ OUT_OF_MEMORY → status ≡ OUT_OF_MEMORY
scan_starved refused memory =
    ⊎_elim (λ is. absurd (ok_is_not_memory is memory)) (⊎_elim (λ is. absurd (small_is_not_memory is memory)) (⊎_elim (λ is. absurd (range_is_not_memory is memory)) (λ is. is))) refused

-- and so is a feed
pub feed_starved : {status : ℤ} → (status ≡ OK) ⊎ ((status ≡ SMALL_BUFFER) ⊎ ((status ≡ STREAM_TOO_LONG) ⊎ (status ≡ OUT_OF_MEMORY)))
    → to_z w32 (of_z w32 status) ≡ OUT_OF_MEMORY → status ≡ OUT_OF_MEMORY
feed_starved refused memory =
    ⊎_elim (λ is. absurd (ok_is_not_memory is memory)) (⊎_elim (λ is. absurd (small_is_not_memory is memory)) (⊎_elim (λ is. absurd (long_is_not_memory is memory)) (λ is. is))) refused
