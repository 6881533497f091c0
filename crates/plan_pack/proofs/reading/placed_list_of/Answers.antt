-- Facts on the content that was read hold of the files' known source.
use Rattle.std.proofs.Common.{IfErr}
use Rattle.byte_io.specs.Sources.{ask_of}
use Rattle.byte_io.proofs.OpenerLemmas.{opened}
use Rattle.plan_pack.specs.Taken.{NamesStop, TakesPlaces}
use Rattle.plan_pack.proofs.ListLemmas.{named-reported, opened-before-memory}
use Rattle.plan_pack.proofs.reading.placed_list_of.Goals as goal

pub returns-in-Ok-clause-list : goal.returns-in-Ok-clause-list
returns-in-Ok-clause-list g c =
    opened _ c.in-Ok.input _ _ (ask_of c.args.file.now) (λ source. TakesPlaces c.args.reading c.args.file.now source c.list_from.result)
    c.in-Ok.ensures.takes c.in-Ok.ensures.gives c.list_from.ensures.list

pub returns-in-Ok-clause-named : goal.returns-in-Ok-clause-named
returns-in-Ok-clause-named g c =
    named-reported c.args.reading c.args.file.now _ _ c.list_from.result
    (opened _ c.in-Ok.input _ _ (ask_of c.args.file.now) (λ source. IfErr c.list_from.result (NamesStop c.args.reading source))
    c.in-Ok.ensures.takes c.in-Ok.ensures.gives c.list_from.ensures.named)

pub returns-in-Ok-clause-starved : goal.returns-in-Ok-clause-starved
returns-in-Ok-clause-starved g c = opened-before-memory _ c.in-Ok.input (g.F.Opener.sources c.args.files.now) (ask_of c.args.file.now) c.list_from.result c.in-Ok.ensures.gives
