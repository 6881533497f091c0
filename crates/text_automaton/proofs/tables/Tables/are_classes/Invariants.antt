use Rattle.std.proofs.Common.{◌≡◌, ℕ, ◌<◌, slice_index}
use Rattle.text_automaton.specs.declared.tables.TheConstants.{CLASSES}
use Rattle.lit_base.specs.Folding.{folded}
use Rattle.text_automaton.proofs.tables.Tables.are_classes.Given as goal

-- the bytes passed are in the right classes
abbrev pub invariant-loop-byte : goal.invariant-loop-byte
invariant-loop-byte l = (byte : ℕ) → byte < l.byte → (slice_index l.self.classes byte < CLASSES) × (slice_index l.self.classes byte ≡ slice_index l.self.classes (folded l.fold byte))
    × (0 < slice_index l.self.classes byte → slice_index l.self.bytes (slice_index l.self.classes byte) ≡ folded l.fold byte)
