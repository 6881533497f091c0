-- One bit is set, and the others stay.
use Rattle.std.proofs.Common.{◌*◌, ◌%◌, ◌^◌, ◌<◌, length, set, subst, arith}
use Rattle.std.specs.Int.RustNames.{bit_or}
use Rattle.std.proofs.lemmas.List.{get_or_read}
use Rattle.list_index.specs.HashBits.{IsSet}
use Rattle.list_index.proofs.HashBitLemmas.{bit_is_set}
use Rattle.list_index.proofs.suffixes.hash_bits.set_hash_bit.Goals as goal

pub returns-clause-set : goal.returns-clause-set
returns-clause-set c =
    let table = c.args.table.now.items in
    let number = c.hash_of.result in
    let byte = c.index_mut.result.now in
    let room : number < length table = omega (arith, c.hash_of.ensures.below, c.requires.room) in
    subst (λ n. IsSet table (set table number (bit_or byte (1 * 2 ^ c.args.bit % 256))) n c.args.bit) c.hash_of.ensures.value
    (bit_is_set table number byte c.args.bit room (get_or_read table number byte room c.index_mut.ensures.value 0) c.requires.bit)
