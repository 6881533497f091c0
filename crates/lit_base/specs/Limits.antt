-- The limits of lists and plans, by their numbers.
use Rattle.std.specs.Prelude.{◌≡◌}
use Rattle.lit_base.specs.declared.limits.TheConstants.{MAX_BUCKETS, MAX_LIST_LEN, MAX_LITERAL_LEN, MAX_LITERALS, MAX_PATTERNS, MAX_TEXT_LEN}

-- 4,096 patterns of at most 4,095 bytes, 1,048,576 bytes in all, 4,096 literals, 1,052,672 bytes in one text, and
-- sixteen buckets
pub record LimitsLaw : Type 0 where
  pub patterns : MAX_PATTERNS ≡ 4096
  pub literal_len : MAX_LITERAL_LEN ≡ 4095
  pub list_len : MAX_LIST_LEN ≡ 1048576
  pub literals : MAX_LITERALS ≡ 4096
  pub text_len : MAX_TEXT_LEN ≡ 1052672
  pub buckets : MAX_BUCKETS ≡ 16
