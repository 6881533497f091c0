-- Byte tables for the buckets below eight, or for the buckets from eight on.
use Rattle.std.specs.Prelude.{◌≡◌, ℕ, ◌<◌}
use Rattle.nib_mask.specs.declared.masks.Masks.{Masks}
use Rattle.nib_mask.specs.declared.byte_masks.ByteMasks.{ByteMasks}
use Rattle.nib_mask.specs.Tables.{table_value}

-- the same tables, with room for more buckets
abbrev pub widened : ByteMasks → Masks
widened bytes = record { low = bytes.low; high = bytes.high }

-- the byte tables give three bytes a part of what the full tables give them
abbrev pub GivesPart : (ℕ → ℕ) → Masks → ByteMasks → Type 0
GivesPart part masks half =
    (a b c : ℕ) → a < 256 → b < 256 → c < 256 → table_value (widened half) a b c ≡ part (table_value masks a b c)
