-- Plans published from several plan files, one file after the other.
use Rattle.std.specs.Prelude.{◌≡◌, ℕ, List, [], ◌∷◌, ◌++◌, Option, Ok, Err, Result, map, string_bytes}
use Rattle.std.specs.Global.{Global}
use Rattle.std.specs.declared.string.String.{String}
use Rattle.boxcar.specs.Table.{Shelves}
use Rattle.byte_io.specs.Devices as devices
use Rattle.byte_io.specs.Sources.{Named, Sources, after}
use Rattle.plan_file.specs.declared.fault.Fault.{Fault}
use Rattle.plan_store.specs.Tickets.{TicketParts}
use Rattle.scan_run.specs.Loading.{LoadsNamed}

-- the names of the files, as bytes
abbrev pub names_of : List (String Global) → List (List ℕ)
names_of names = map string_bytes names

-- what loading changes: the files still to be opened, the tickets gained, and what was written on standard error
pub record Loading : Type 0 where
  pub files : Option Sources
  pub tickets : List TicketParts
  pub said : Option (List ℕ)

-- the three as one state
abbrev pub state : Option Sources → List TicketParts → Option (List ℕ) → Loading
state files tickets said = record { files = files; tickets = tickets; said = said }

-- the file of this name was asked for, and no other
abbrev pub AsksFor : List ℕ → Option Sources → Option Sources → Type 0
AsksFor name old new = devices.IfKnown old new (λ x y. y ≡ after (Named name) x)

-- one file was loaded, or not, by the result
pub record LoadsOne (store : Shelves) (name : List ℕ) (old new : Loading) (result : Result (Unit {0}) Fault) : Type 0 where
  pub takes : AsksFor name old.files new.files
  pub loads : LoadsNamed store name old.files old.tickets new.tickets old.said new.said result

-- all files were loaded, in order
abbrev pub LoadsEach : Shelves → List (List ℕ) → Loading → Loading → Type 0
LoadsEach store [] old new = new ≡ old
LoadsEach store (name ∷ names) old new = (next : Loading) × LoadsOne store name old next (Ok tt) × LoadsEach store names next new

-- files were loaded up to the first that was not, for this fault; none after it was opened
pub record StopsLoading (store : Shelves) (names : List (List ℕ)) (old new : Loading) (fault : Fault) : Type 0 where
  pub before : List (List ℕ)
  pub name : List ℕ
  pub others : List (List ℕ)
  pub parts : names ≡ before ++ name ∷ others
  pub at : Loading
  pub loaded : LoadsEach store before old at
  pub stops : LoadsOne store name at new (Err fault)
