-- A plan file that is one of the files of patterns is refused before any is read.
use Rattle.std.proofs.Common.{map, string_bytes, refl, sym, ◌∙◌}
use Rattle.plan_pack.specs.declared.stop.Refusal.TheVariants.{Unusable}
use Rattle.plan_pack.specs.declared.stop.Stop.TheVariants.{Refused}
use Rattle.plan_pack.proofs.PackLemmas.{pack-named-own, pack-own}
use Rattle.plan_pack.proofs.packing.pack.Goals as goal

pub returns-then-reads_file-clause-packed : goal.returns-then-reads_file-clause-packed
returns-then-reads_file-clause-packed g c =
    pack-own g.F.Output.ByteOut.written c.args.reading c.args.profile (map string_bytes c.args.names.now) c.args.output.now (g.F.Opener.sources c.args.files.now)
    (Refused (Unusable c.args.output)) (sym c.reads_file.ensures ∙ c.if-reads_file.true) refl refl

pub returns-then-reads_file-clause-named : goal.returns-then-reads_file-clause-named
returns-then-reads_file-clause-named g c =
    pack-named-own c.args.reading (map string_bytes c.args.names.now) (g.F.Opener.sources c.args.files.now) (Refused (Unusable c.args.output)) (λ source. tt)
