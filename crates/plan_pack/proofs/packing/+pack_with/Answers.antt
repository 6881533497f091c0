-- The plan file of the plans so far is made, or that of one plan more, or the next patterns have no plan.
use Rattle.std.proofs.Common.{◌-◌, List, None, Err, ℕ, drop, length, map, string_bytes, subst, take}
use Rattle.byte_io.specs.Devices.{IfKnown}
use Rattle.byte_io.specs.Sources.{AreShort}
use Rattle.plan_pack.specs.declared.stop.Stop.TheVariants.{OutOfMemory}
use Rattle.plan_pack.proofs.PackLemmas.{AsksAndMakes, names-first, names-none, pack-made, pack-named-made, pack-named-next, pack-named-starved, pack-named-stopped, pack-next, pack-starved, pack-stopped, packs-of}
use Rattle.plan_pack.proofs.packing.+pack_with.Goals as goal

pub returns-in-empty-clause-packed : goal.returns-in-empty-clause-packed
returns-in-empty-clause-packed g t c =
    packs-of g.F.Output.ByteOut.written c.args.reading c.args.profile c.args.plans.items _ _ c.args.output.now _ _ c.make.result (names-none c.args.names.now c.in-empty.len_below)
    (pack-made g.F.Output.ByteOut.written c.args.reading c.args.profile c.args.plans.items c.args.output.now _ _ c.make.result
    (rw c.as_slice.ensures.value at c.make.ensures.made))

pub returns-in-Ok-with_plan-clause-packed : goal.returns-in-Ok-with_plan-clause-packed
returns-in-Ok-with_plan-clause-packed g t c =
    let names = c.args.names.now in
    let rest : List (List ℕ) = map string_bytes (take (length names - 1) (drop 1 names)) in
    let r = c.pack_with.result in
    packs-of g.F.Output.ByteOut.written c.args.reading c.args.profile c.args.plans.items _ _ c.args.output.now _ _ r
    (names-first names c.name-item.result _ c.as_str.result.now c.in-len1-up.len_at_least c.name-item.is c.as_str.ensures.value)
    (pack-next g.F.Output.ByteOut.written c.args.reading c.args.profile c.args.plans.items c.as_str.result.now rest c.args.output.now _ _ _ c.in-Ok.plan r c.in-Ok.ensures.plan
    (subst (λ ps. IfKnown (g.F.Opener.sources c.plan_of.new.files) (g.F.Opener.sources c.pack_with.new.files)
    (λ s l. AreShort s → AsksAndMakes g.F.Output.ByteOut.written c.args.reading c.args.profile ps rest c.args.output.now s l r))
    c.in-Ok-with_plan.ensures c.pack_with.ensures.packed))

pub returns-in-Ok-clause-packed : goal.returns-in-Ok-clause-packed
returns-in-Ok-clause-packed g t c =
    let names = c.args.names.now in
    packs-of g.F.Output.ByteOut.written c.args.reading c.args.profile c.args.plans.items _ _ c.args.output.now _ _ (Err (OutOfMemory, None))
    (names-first names c.name-item.result _ c.as_str.result.now c.in-len1-up.len_at_least c.name-item.is c.as_str.ensures.value)
    (pack-starved g.F.Output.ByteOut.written c.args.reading c.args.profile c.args.plans.items c.as_str.result.now (map string_bytes (take (length names - 1) (drop 1 names))) c.args.output.now _ _ c.in-Ok.plan c.in-Ok.ensures.plan)

pub returns-clause-packed : goal.returns-clause-packed
returns-clause-packed g t c =
    let names = c.args.names.now in
    packs-of g.F.Output.ByteOut.written c.args.reading c.args.profile c.args.plans.items _ _ c.args.output.now _ _ (Err (c.in-Err.stop, None))
    (names-first names c.name-item.result _ c.as_str.result.now c.in-len1-up.len_at_least c.name-item.is c.as_str.ensures.value)
    (pack-stopped g.F.Output.ByteOut.written c.args.reading c.args.profile c.args.plans.items c.as_str.result.now (map string_bytes (take (length names - 1) (drop 1 names))) c.args.output.now _ _ c.in-Err.stop c.in-Err.ensures.plan)

pub returns-in-empty-clause-named : goal.returns-in-empty-clause-named
returns-in-empty-clause-named g t c =
    pack-named-made c.args.reading _ (g.F.Opener.sources c.args.files.now) (g.F.Opener.sources c.make.new.files) _ c.make.result (names-none c.args.names.now c.in-empty.len_below) c.make.ensures.made

pub returns-in-Ok-with_plan-clause-named : goal.returns-in-Ok-with_plan-clause-named
returns-in-Ok-with_plan-clause-named g t c =
    let names = c.args.names.now in
    let rest : List (List ℕ) = map string_bytes (take (length names - 1) (drop 1 names)) in
    pack-named-next c.args.reading c.args.profile _ c.as_str.result.now rest (g.F.Opener.sources c.args.files.now) (g.F.Opener.sources c.plan_of.new.files) (g.F.Opener.sources c.pack_with.new.files) c.in-Ok.plan c.pack_with.result
    (names-first names c.name-item.result _ c.as_str.result.now c.in-len1-up.len_at_least c.name-item.is c.as_str.ensures.value) c.in-Ok.ensures.plan c.pack_with.ensures.named

pub returns-in-Ok-clause-named : goal.returns-in-Ok-clause-named
returns-in-Ok-clause-named g t c =
    pack-named-starved c.args.reading (map string_bytes c.args.names.now) (g.F.Opener.sources c.args.files.now) (g.F.Opener.sources c.plan_of.new.files) _ c.in-Ok.ensures.plan

pub returns-clause-named : goal.returns-clause-named
returns-clause-named g t c =
    let names = c.args.names.now in
    pack-named-stopped c.args.reading c.args.profile _ c.as_str.result.now (map string_bytes (take (length names - 1) (drop 1 names))) (g.F.Opener.sources c.args.files.now) (g.F.Opener.sources c.plan_of.new.files) c.in-Err.stop
    (names-first names c.name-item.result _ c.as_str.result.now c.in-len1-up.len_at_least c.name-item.is c.as_str.ensures.value) c.in-Err.ensures.plan c.in-Err.ensures.named
