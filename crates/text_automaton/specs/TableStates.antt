-- How far the tables of an automaton are.
use Rattle.std.specs.Prelude.{Bool, true, false}
use Rattle.text_automaton.specs.declared.table_state.TableState.{TableState}
use Rattle.text_automaton.specs.declared.table_state.TableState.TheVariants.{Missing, Made, Refused}

-- whether they were made
abbrev pub has_tables : TableState → Bool
has_tables Missing = false
has_tables Made = true
has_tables Refused = false
