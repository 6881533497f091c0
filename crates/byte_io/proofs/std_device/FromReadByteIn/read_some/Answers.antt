-- The device's known bytes change as the reader's do.
use Rattle.byte_io.proofs.DeviceLemmas.{unsure-reads}
use Rattle.byte_io.proofs.std_device.FromReadByteIn.read_some.Goals as goal

pub returns-clause-bytes : goal.returns-clause-bytes
returns-clause-bytes g c = unsure-reads _ _ c.read_counted-given.result _ c.read_counted-given.ensures.bytes
