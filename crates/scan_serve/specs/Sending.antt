-- Bytes that wait to be written after those that were.
use Rattle.std.specs.Prelude.{◌≡◌, ◌≢◌, ℕ, ◌++◌, List, [], Option}
use Rattle.std.specs.Io.KnownBytes.{Appends}

-- a text was added after the bytes that waited, and a prefix of all was written: the new bytes wait
pub record Sends (written_old written_new : Option (List ℕ)) (old new text : List ℕ) : Type 0 where
  pub done : List ℕ
  pub written : Appends written_old written_new done
  pub text_is : old ++ text ≡ done ++ new

-- a prefix of the bytes that waited and of a text after them was written, and no more
pub record SendsPrefix (written_old written_new : Option (List ℕ)) (old text : List ℕ) : Type 0 where
  pub done : List ℕ
  pub lost : List ℕ
  pub written : Appends written_old written_new done
  pub text_is : old ++ text ≡ done ++ lost

-- and not all of them
pub record SendsLess (written_old written_new : Option (List ℕ)) (old text : List ℕ) : Type 0 where
  pub prefix : SendsPrefix written_old written_new old text
  pub missed : prefix.lost ≢ []
