-- They are as many as their text spells.
use Rattle.std.proofs.Common.{Some, codes}
use Rattle.program_words.specs.Matches.{IsNumber}
use Rattle.program_words.proofs.NumberLemmas.{counted, number_read}
use Rattle.scan_run.specs.declared.connections.Connections.{Connections}
use Rattle.scand.proofs.words.connections_of.Goals as goal

pub returns : goal.returns
returns c =
    let m = c.args.matches.now in
    let id = codes "connections" in
    counted (λ (x : Connections). x.count) _ (IsNumber m id) c.in_ok-get_one.field-0 c.new.result c.new.ensures
    (number_read 64 m id (Some c.in_ok-get_one.field-0) c.in_ok-get_one.ensures.none c.in_ok-get_one.ensures.value)
