-- The known bytes to come of a file or standard input, as one reader.
use Rattle.std.specs.Prelude.{ℕ, List, Option}
use Rattle.byte_io.specs.declared.std_device.FileOrInput.{FileOrInput}
use Rattle.byte_io.specs.declared.std_device.FileOrInput.TheVariants.{File, Input}

-- the known bytes of the file, or of standard input
abbrev pub remaining_in : {F S : Type 0} → (F → Option (List ℕ)) → (S → Option (List ℕ)) → FileOrInput F S → Option (List ℕ)
remaining_in of_file of_input (File file) = of_file file
remaining_in of_file of_input (Input input) = of_input input
