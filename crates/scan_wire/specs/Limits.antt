-- The limits of frames, by their numbers.
use Rattle.std.specs.Prelude.{◌≡◌}
use Rattle.scan_wire.specs.declared.message.TheConstants.{MAX_HITS, MAX_PAYLOAD}

-- 65,536 bytes of a payload, and 4,096 hits in one reply
pub record LimitsLaw : Type 0 where
  pub payload : MAX_PAYLOAD ≡ 65536
  pub hits : MAX_HITS ≡ 4096
