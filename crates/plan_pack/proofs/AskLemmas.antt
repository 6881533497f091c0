-- The asks that were made.
use Rattle.std.proofs.Common.{◌≡◌, ℕ, true, false, Bool, cond, List, [], ◌∷◌, ◌++◌, Option, None, Some, is_some, refl, sym, ap, append-nil}
use Rattle.byte_io.specs.Sources.{Ask, AsksPrefix, Sources, after, after_all, ask_of}
use Rattle.plan_pack.specs.Asking.{Asks, AsksAfterReads}
use Rattle.plan_pack.specs.Stops.{Explains, is_starved}
use Rattle.plan_pack.specs.declared.stop.Stop.{Stop}
use Rattle.plan_pack.specs.declared.stop.Stop.TheVariants.{OutOfMemory, Refused}

-- all asks were made
pub asks-all : (starved : Bool) (all : List Ask) (s left : Sources) → left ≡ after_all all s → Asks starved all s left
asks-all false all s left e = e
asks-all true all s left e = record { made = all; rest = []; parts = sym (append-nil all); after = e }

-- of no reads, none was asked for
none-made : (made rest : List Ask) (s left : Sources) → [] ≡ made ++ rest → left ≡ after_all made s → left ≡ s
none-made [] rest s left parts after = after
none-made (a ∷ made) rest s left parts after = absurd (cc)

pub none-asked : (s left : Sources) → AsksPrefix [] s left → left ≡ s
none-asked s left asks = none-made asks.made asks.rest s left asks.parts asks.after

-- behind one read, more asks were made
pub asks-more : (starved : Bool) (a : Ask) (more reads : List Ask) (s left : Sources) → AsksAfterReads starved more reads (after a s) left → AsksAfterReads starved (a ∷ more) (a ∷ reads) s left
asks-more false a more reads s left e = e
asks-more true a more reads s left e = record { made = a ∷ e.made; rest = e.rest; parts = ap (λ xs. a ∷ xs) e.parts; after = e.after }

-- where there is no message, they follow
pub same-asks : (starved : Bool) (a : Ask) (more reads : List Ask) (message : Option (List ℕ)) (s left : Sources) → message ≡ None
    → AsksAfterReads starved (a ∷ more) (a ∷ reads) s left → AsksAfterReads starved (a ∷ cond (is_some message) [] more) (a ∷ cond (is_some message) [] reads) s left
same-asks starved a more reads None s left e asks = asks
same-asks starved a more reads (Some text) s left e asks = absurd (cc)

-- where there is one, none does
pub asks-stopped : (file : List ℕ) (more reads : List Ask) (message : Option (List ℕ)) (stop : Stop) (s left : Sources) → Explains stop message → left ≡ after (ask_of file) s
    → AsksAfterReads (is_starved stop) (ask_of file ∷ cond (is_some message) [] more) (ask_of file ∷ cond (is_some message) [] reads) s left
asks-stopped file more reads None (Refused refusal) s left e after = (cc)
asks-stopped file more reads (Some text) (Refused refusal) s left e after = after
asks-stopped file more reads message OutOfMemory s left e after =
    record { made = ask_of file ∷ []; rest = cond (is_some message) [] reads; parts = refl; after = after }
