use Rattle.std.proofs.Common.{◌≡◌, ◌++◌, string_bytes}
use Rattle.std.specs.List.{flat_map}
use Rattle.lit_base.specs.Profiles.{buckets}
use Rattle.lit_cert.specs.Spelling.{line_text, head_lines, rows_of}
use Rattle.lit_cert.proofs.writing.text_of.Given as goal

abbrev pub invariant-loop-r : goal.invariant-loop-r
invariant-loop-r l = string_bytes l.text ≡ flat_map line_text (head_lines (buckets l.certificate.profile) l.n l.certificate.ends l.certificate.cost) ++ flat_map line_text (rows_of l.r l.n l.certificate.potentials)
