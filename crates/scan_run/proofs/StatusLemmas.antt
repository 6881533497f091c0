-- How a stream ended, by the status.
use Rattle.std.proofs.Common.{◌≡◌, ◌≢◌}
use Rattle.scan_serve.specs.declared.ended.Ended.{Ended}
use Rattle.scan_serve.specs.declared.ended.Ended.TheVariants as ended
use Rattle.scan_run.specs.declared.status.Status.{Status}
use Rattle.scan_run.specs.declared.status.Status.TheVariants.{Unclean}
use Rattle.scan_run.specs.Statuses.{status_of}

-- another status than an unclean one means that no read and no write failed
pub unfailed : (e : Ended) (status : Status) → status ≡ status_of e → status ≢ Unclean → (e ≢ ended.ReadFault) × (e ≢ ended.WriteFault)
unfailed ended.Clean status is other = (λ same. (cc), λ same. (cc))
unfailed ended.Truncated status is other = absurd (other is)
unfailed ended.Bad status is other = absurd (other is)
unfailed ended.ReadFault status is other = absurd (other is)
unfailed ended.WriteFault status is other = absurd (other is)
unfailed ended.OutOfMemory status is other = (λ same. (cc), λ same. (cc))
