-- The limits of one session, by their numbers.
use Rattle.std.specs.Prelude.{◌≡◌}
use Rattle.scan_core.specs.declared.limits.TheConstants.{MAX_PLANS, MAX_STREAMS}

-- 64 plans published, and 64 streams open
pub record LimitsLaw : Type 0 where
  pub plans : MAX_PLANS ≡ 64
  pub streams : MAX_STREAMS ≡ 64
