-- How many buckets a plan may have.
use Rattle.std.specs.Prelude.{ℕ}
use Rattle.lit_base.specs.declared.profile.Profile.{Profile}
use Rattle.lit_base.specs.declared.profile.Profile.TheVariants.{Eight, Sixteen}

-- the number of buckets of a profile
abbrev pub buckets : Profile → ℕ
buckets Eight = 8
buckets Sixteen = 16
