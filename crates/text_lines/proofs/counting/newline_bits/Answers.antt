-- A mask has a bit for each lane that is a newline.
use Rattle.std.proofs.Common.{eqb, arith, w8}
use Rattle.std.proofs.lemmas.Simd.{bitmask_splat}
use Rattle.text_lines.proofs.counting.newline_bits.Goals as goal

pub returns : goal.returns
returns c = bitmask_splat w8 eqb c.args.bytes 64 10 c.fits-bytes.0 (omega arith)
