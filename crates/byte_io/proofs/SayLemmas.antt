-- A text that is written, whole or from its start.
use Rattle.std.proofs.Common.{◌≡◌, ℕ, Bool, true, false, ◌||◌, List, [], Option, Result, Ok, Err, OnOk, OnErr, is_err, refl, sym, ◌∙◌, append-nil, take, drop, take-append-drop}
use Rattle.std.specs.Io.KnownBytes.{Appends}
use Rattle.std.proofs.KnownBytes.{Appends-nil}
use Rattle.byte_io.specs.Transfers.{AppendsPrefix, AppendsPart, SaidAll, SaidPart, Says, SaysOrFails}
use Rattle.byte_io.specs.declared.device.Failed.{Failed}

-- all of a text is a prefix of it
abbrev pub prefix-all : {old new : Option (List ℕ)} {text : List ℕ} → Appends old new text → AppendsPrefix old new text
prefix-all {old} {new} {text} grown = record { prefix = text; rest = []; parts = sym (append-nil text); grown = grown }

-- and so is a part of it
abbrev pub prefix-part : {old new : Option (List ℕ)} {text : List ℕ} → AppendsPart old new text → AppendsPrefix old new text
prefix-part {old} {new} {text} p = record {
  prefix = take p.count text;
  rest = drop p.count text;
  parts = sym (take-append-drop p.count text);
  grown = p.text;
}

or-true : (b : Bool) → (b || true) ≡ true
or-true true = refl
or-true false = refl

or-false : (b : Bool) → (b || false) ≡ b
or-false true = refl
or-false false = refl

-- a text was written, or a prefix of it where the write failed
pub says : (has_failed failed : Bool) (r : Result (Unit {0}) Failed) (old new : Option (List ℕ)) (text : List ℕ)
    → OnOk r (Appends old new text) → OnErr r (AppendsPart old new text) → has_failed ≡ (failed || is_err r) → Says has_failed old new text
says has_failed failed (Ok u) old new text whole part flag = record { said = prefix-all whole; whole = λ clear. refl }
says has_failed failed (Err e) old new text whole part flag = record {
  said = prefix-part part;
  whole = λ clear. let bad : false ≡ true = sym clear ∙ (flag ∙ or-true failed) in (cc);
}

-- and exactly so, by the flag before
pub says-or-fails : (has_failed failed : Bool) (r : Result (Unit {0}) Failed) (old new : Option (List ℕ)) (text : List ℕ)
    → OnOk r (Appends old new text) → OnErr r (AppendsPart old new text) → has_failed ≡ (failed || is_err r) → SaysOrFails failed has_failed old new text
says-or-fails has_failed failed (Ok u) old new text whole part flag = SaidAll (flag ∙ or-false failed) whole
says-or-fails has_failed failed (Err e) old new text whole part flag = SaidPart (flag ∙ or-true failed) part

-- nothing is to be said, and nothing was
pub says-nothing : (has_failed : Bool) (known : Option (List ℕ)) (text : List ℕ) → text ≡ [] → Says has_failed known known text
says-nothing has_failed known text none = record {
  said = record { prefix = []; rest = []; parts = none; grown = Appends-nil known };
  whole = λ clear. refl;
}
