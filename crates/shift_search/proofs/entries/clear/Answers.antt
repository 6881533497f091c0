-- Each entry loses the bit alone.
use Rattle.std.proofs.Common.{◌<◌, length, sym, arith}
use Rattle.std.proofs.lemmas.List.{get_or_read, length-set}
use Rattle.shift_search.proofs.EntryLemmas.{entry_cleared, more_cleared, more_entries}
use Rattle.shift_search.proofs.entries.clear.Goals as goal

pub loop-number-preserved : goal.loop-number-preserved
loop-number-preserved c =
    let items = c.loop-number.entries.items in
    let number = c.loop-number.number in
    let before = c.loop-number.invariant in
    let room : number < length items = omega (arith, c.requires.room, before.len, c.loop-number-test.true) in
    record {
      len = omega (arith, length-set items number c.without.result, before.len);
      cleared = λ other place small. more_cleared (before.cleared other place small)
          (entry_cleared items number c.index.result.now c.without.result c.args.bit room (sym (get_or_read items number c.index.result.now room c.index.ensures 0)) c.without.ensures other place small)
          (more_entries c.args.first number other place c.args.bit c.loop-number.auto.number);
    }
