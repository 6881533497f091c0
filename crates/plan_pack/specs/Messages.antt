-- The messages on standard error, each a line after the program's name.
use Rattle.std.specs.Prelude.{ℕ, List, ◌++◌, codes, decimal}
use Rattle.lit_base.specs.Faults.{number_of}
use Rattle.plan_pack.specs.declared.stop.Refusal.{Refusal}
use Rattle.plan_pack.specs.declared.stop.Refusal.TheVariants.{NoCertificate, NoLiterals, NoPlan, NoPlanFile, NotHex, Patterns, Unusable}

-- on a file that cannot be opened, made, read or written
abbrev pub unusable : List ℕ → List ℕ
unusable name = codes "litplan: " ++ (name ++ codes ": cannot be used\n")

-- on a plan file that has no plan of this number
abbrev pub no_plan : List ℕ → ℕ → List ℕ
no_plan name place = codes "litplan: " ++ (name ++ (codes ": no plan " ++ (decimal place ++ codes "\n")))

-- on a file of patterns whose line of this number should be hexadecimal
abbrev pub not_hex : List ℕ → ℕ → List ℕ
not_hex name line = codes "litplan: " ++ (name ++ (codes ": line " ++ (decimal line ++ codes " is not hexadecimal\n")))

-- on any other refusal, by its number
abbrev pub refused : ℕ → List ℕ
refused number = codes "litplan: refused (" ++ (decimal number ++ codes ")\n")

-- on a refusal
abbrev pub message_on : Refusal → List ℕ
message_on (Unusable name) = unusable name.now
message_on (Patterns fault) = refused (number_of fault)
message_on (NotHex name line) = not_hex name.now line
message_on NoLiterals = refused 5
message_on (NoCertificate line) = refused 9
message_on (NoPlanFile place cause) = refused 10
message_on (NoPlan name place) = no_plan name.now place
