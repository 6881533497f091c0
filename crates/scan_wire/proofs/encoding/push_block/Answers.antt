use Rattle.std.proofs.Common.{◌+◌, ◌*◌, ◌++◌, length, arith}
use Rattle.std.specs.List.{flat_map}
use Rattle.std.proofs.lemmas.List.{length-append}
use Rattle.std.proofs.lemmas.Result.{on_ok_weaker}
use Rattle.scan_wire.specs.Frames.{hit_text}
use Rattle.scan_wire.specs.Numbers.{u16_text}
use Rattle.scan_wire.proofs.NumberLemmas.{length-u16_text}
use Rattle.scan_wire.proofs.ReplyLemmas.{frame_from, length-hits, two_parts}
use Rattle.scan_wire.proofs.encoding.push_block.Goals as goal

pub returns-clause-ok : goal.returns-clause-ok
returns-clause-ok c =
    let hits = c.args.hits.now in
    on_ok_weaker c.push_hits.result (λ e. frame_from c.args.out.now.items c.push_head.new.out.items c.push_hits.new.out.items (u16_text (length hits) ++ flat_map hit_text hits) 0x13 c.args.stream (2 + 10 * length hits) c.in_ok-push_head.ensures.ok
    (omega (arith, length-append (u16_text (length hits)) (flat_map hit_text hits), length-u16_text (length hits), length-hits hits))
    (two_parts c.push_head.new.out.items c.push_u16.new.out.items c.push_hits.new.out.items (u16_text (length hits)) (flat_map hit_text hits) c.in_ok-push_u16.ensures.ok e)) c.push_hits.ensures.ok
