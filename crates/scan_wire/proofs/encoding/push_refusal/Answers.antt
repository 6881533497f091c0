use Rattle.std.proofs.Common.{◌∷◌, [], arith}
use Rattle.std.proofs.lemmas.Result.{on_ok_weaker}
use Rattle.scan_wire.specs.Numbers.{u16_text}
use Rattle.scan_wire.proofs.NumberLemmas.{length-u16_text}
use Rattle.scan_wire.proofs.ReplyLemmas.{frame_from, two_parts}
use Rattle.scan_wire.proofs.encoding.push_refusal.Goals as goal

pub returns-clause-ok : goal.returns-clause-ok
returns-clause-ok c = on_ok_weaker c.push_u16.result (λ e. frame_from c.args.out.now.items c.push_head.new.out.items c.push_u16.new.out.items (c.args.code ∷ u16_text c.args.detail) 0x17 c.args.stream 3 c.in_ok-push_head.ensures.ok (omega (arith, length-u16_text c.args.detail))
    (two_parts c.push_head.new.out.items c.push.new.self.items c.push_u16.new.out.items (c.args.code ∷ []) (u16_text c.args.detail) c.in_ok-push.ensures.items e)) c.push_u16.ensures.ok
