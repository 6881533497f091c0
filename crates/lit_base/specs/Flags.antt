-- The flags by which plan files, frames and the C library name a fold and a profile.
use Rattle.std.specs.Prelude.{ℕ, ◌%◌, ◌==◌, if◌then◌else◌, nat_lt}
use Rattle.lit_base.specs.declared.fold.Fold.{Fold}
use Rattle.lit_base.specs.declared.fold.Fold.TheVariants.{No, Ascii}
use Rattle.lit_base.specs.declared.profile.Profile.{Profile}
use Rattle.lit_base.specs.declared.profile.Profile.TheVariants.{Eight, Sixteen}

-- the flags of a fold, bit 0, and a profile, bit 1
abbrev pub flags_of : Fold → Profile → ℕ
flags_of No Eight = 0
flags_of Ascii Eight = 1
flags_of No Sixteen = 2
flags_of Ascii Sixteen = 3

-- the fold in the flags: bit 0
abbrev pub fold_of : ℕ → Fold
fold_of flags = if flags % 2 == 0 then No else Ascii

-- the profile in the flags: bit 1
abbrev pub profile_of : ℕ → Profile
profile_of flags = if nat_lt flags 2 then Eight else Sixteen
