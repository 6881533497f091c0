-- Readers and writers of bytes as contracts see them: the bytes to come and how they end, and the flag of a failed
-- call.
use Rattle.std.specs.Prelude.{◌≡◌, ◌≢◌, ℕ, ◌<◌, ◌++◌, List, [], length, take, ⊤, Option, Some, None, Result, Ok, Err, MatchResult}
use Rattle.std.specs.Option.{option_map}
use Rattle.byte_io.specs.declared.device.Failed.{Failed}

-- how the bytes of a reader end: cleanly, in a failed call, or either way
pub data Ending : Type 0 where
  Clean : Ending
  Faulty : Ending
  Unsure : Ending

-- the bytes to come, and how they end
pub record Coming : Type 0 where
  pub text : List ℕ
  pub ending : Ending

-- the bytes were next, and the rest is as before
pub record Gives (old new : Coming) (bytes : List ℕ) : Type 0 where
  pub text : old.text ≡ bytes ++ new.text
  pub ending : new.ending ≡ old.ending

-- a clean end stands here: nothing is to come, and no fault
pub record EndsHere (c : Coming) : Type 0 where
  pub text : c.text ≡ []
  pub ending : c.ending ≢ Faulty

-- a call may fail here: a fault comes after all bytes, and never before a clean end
abbrev pub MayFail : Coming → Type 0
MayFail c = (c.ending ≢ Clean) × (c.ending ≡ Faulty → c.text ≡ [])

-- a read at known bytes gave the next bytes, 0 into a nonempty buffer only at a clean end; where it failed, nothing is
-- lost
abbrev pub ReadGives : Coming → Coming → Result ℕ Failed → List ℕ → Type 0
ReadGives old new r buf =
    MatchResult r (λ n. Gives old new (take n buf) × (n ≡ 0 → 0 < length buf → EndsHere old)) (λ _. MayFail old × (new ≡ old))

-- a known value stays known, and the old and the new value are related by P; where the old value is unknown, nothing is
-- said
abbrev pub IfKnown : {T : Type 0} → Option T → Option T → (T → T → Type 0) → Type 0
IfKnown None new P = ⊤
IfKnown (Some x) None P = ⊥
IfKnown (Some x) (Some y) P = P x y

-- how many bytes a read gave
abbrev pub count_of : Result ℕ Failed → ℕ
count_of (Ok n) = n
count_of (Err _) = 0

-- bytes to come, where they are known, but not how they end
abbrev pub unsure : Option (List ℕ) → Option Coming
unsure known = option_map (λ text. record { text = text; ending = Unsure }) known
