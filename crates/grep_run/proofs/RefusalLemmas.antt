-- The message where there are no patterns.
use Rattle.std.proofs.Common.{◌≡◌, ◌≢◌, ℕ, false, List, [], Result, Ok, Err, OnOk, OnErr}
use Rattle.std.specs.Borrow.{Bor}
use Rattle.lit_base.specs.declared.fault.Fault.{Fault}
use Rattle.lit_base.specs.declared.fault.Fault.TheVariants.{OutOfMemory}
use Rattle.grep_run.specs.declared.patterns.NoPatterns.TheVariants.{Unreadable, Refused}
use Rattle.grep_run.specs.declared.status.Stop.{Stop}
use Rattle.grep_run.specs.Gathering.{Refuses}
use Rattle.grep_run.specs.Messages.{patterns_refused, unreadable}
use Rattle.grep_run.specs.Writers.{Writer, Writes, WritesPrefix}

-- a message was written, or a prefix of it
pub Refuses-file : {T : Type 0} (name : Bor (List ℕ)) (r : Result T Stop) (err_old err_new : Writer)
    → OnOk r (Writes err_old err_new (unreadable name.now)) → OnErr r (WritesPrefix err_old err_new (unreadable name.now))
    → OnErr r (err_new.has_failed ≡ false → Writes err_old err_new []) → Refuses (Unreadable name) r err_old err_new
Refuses-file name (Ok x) a b whole prefix starved = record { memory = λ e. (cc); reported = whole }
Refuses-file name (Err e) a b whole prefix starved = record { prefix = prefix; unreported = λ same. (cc); starved = starved }

fault-same : (fault other : Fault) → Refused fault ≡ Refused other → fault ≡ other
fault-same fault other e = (cc)

-- for want of memory nothing was
pub Refuses-fault : {T : Type 0} (fault : Fault) (r : Result T Stop) (err_old err_new : Writer) → OnOk r (fault ≢ OutOfMemory)
    → OnOk r (Writes err_old err_new (patterns_refused fault)) → OnErr r (WritesPrefix err_old err_new (patterns_refused fault))
    → OnErr r (err_new.has_failed ≡ false → Writes err_old err_new []) → (fault ≡ OutOfMemory → Writes err_old err_new [])
    → Refuses (Refused fault) r err_old err_new
Refuses-fault fault (Ok x) a b other whole prefix starved nothing = record { memory = λ e. other (fault-same fault OutOfMemory e); reported = whole }
Refuses-fault fault (Err e) a b other whole prefix starved nothing = record { prefix = prefix; unreported = λ e. nothing (fault-same fault OutOfMemory e); starved = starved }
