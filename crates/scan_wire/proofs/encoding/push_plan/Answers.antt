use Rattle.std.proofs.Common.{◌+◌, ◌*◌, ◌∷◌, ◌++◌, [], ℕ, length, ap, ◌∙◌, arith}
use Rattle.std.specs.List.{flat_map}
use Rattle.std.proofs.lemmas.Result.{on_ok_weaker}
use Rattle.lit_base.specs.Flags.{flags_of}
use Rattle.scan_wire.specs.Numbers.{u16_text, u64_text}
use Rattle.scan_wire.proofs.ReplyLemmas.{frame_from, length-plan, plan_parts}
use Rattle.scan_wire.proofs.encoding.push_plan.Goals as goal

pub returns-clause-ok : goal.returns-clause-ok
returns-clause-ok c =
    let ends = c.args.ends.now in
    let head = c.push_head.new.out.items in
    let flags = flags_of c.args.fold c.args.profile in
    on_ok_weaker c.push_ends.result (λ e. frame_from c.args.out.now.items head c.push_ends.new.out.items (flags ∷ (u16_text c.args.count ++ (u64_text c.args.cost ++ (length ends ∷ flat_map u16_text ends)))) 0x16 c.args.stream (12 + 2 * c.from.result) c.in_ok-push_head.ensures.ok
    (omega (arith, length-plan flags c.args.count c.args.cost ends, c.from.ensures))
    (plan_parts head c.push.new.self.items c.push_u16.new.out.items c.push_u64.new.out.items c.push-2.new.self.items c.push_ends.new.out.items (u16_text c.args.count) (u64_text c.args.cost) (flat_map u16_text ends) flags (length ends)
    (c.in_ok-push.ensures.items ∙ ap (λ (x : ℕ). head ++ x ∷ []) c.flags_of.ensures) c.in_ok-push_u16.ensures.ok c.in_ok-push_u64.ensures.ok c.in_ok-push-2.ensures.items e)) c.push_ends.ensures.ok
