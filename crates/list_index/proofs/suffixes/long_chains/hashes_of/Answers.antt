-- The hash of no byte.
use Rattle.std.proofs.Common.{length, sym}
use Rattle.list_index.proofs.LongLemmas.{hash_none}
use Rattle.list_index.proofs.suffixes.long_chains.hashes_of.Goals as goal

pub longer_hash-requires-clause-hash : goal.longer_hash-requires-clause-hash
longer_hash-requires-clause-hash c = sym (hash_none c.fold.result c.get-literal.result.now (length c.get-literal.result.now))
