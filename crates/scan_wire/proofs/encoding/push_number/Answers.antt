use Rattle.std.proofs.lemmas.Result.{on_ok_weaker}
use Rattle.scan_wire.specs.Numbers.{u64_text}
use Rattle.scan_wire.proofs.NumberLemmas.{length-u64_text}
use Rattle.scan_wire.proofs.ReplyLemmas.{frame_from}
use Rattle.scan_wire.proofs.encoding.push_number.Goals as goal

pub returns-clause-ok : goal.returns-clause-ok
returns-clause-ok c = on_ok_weaker c.push_u64.result (λ e. frame_from c.args.out.now.items c.push_head.new.out.items c.push_u64.new.out.items (u64_text c.args.number) c.args.kind c.args.stream 8 c.in_ok-push_head.ensures.ok (length-u64_text c.args.number) e) c.push_u64.ensures.ok
