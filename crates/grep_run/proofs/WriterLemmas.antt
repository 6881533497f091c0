-- Texts written in parts: one after another, and prefixes of texts.
use Rattle.std.proofs.Common.{◌≡◌, ℕ, ◌||◌, Bool, true, false, List, [], ◌++◌, Result, Err, Ok, OnErr, refl, sym, ap, ◌∙◌, append_assoc, append-nil, length-append, length-drop, take, drop, take-append-drop, arith}
use Rattle.std.proofs.Math.Bool.{or-false, or-true}
use Rattle.std.specs.Io.KnownBytes.{Appends}
use Rattle.std.proofs.KnownBytes.{Appends-nil, Appends-trans}
use Rattle.byte_io.specs.Transfers.{AppendsPart}
use Rattle.grep_run.specs.Writers.{Writer, Writes, WritesPrefix, is_write_fault}
use Rattle.grep_run.specs.declared.status.Stop.{Stop}
use Rattle.grep_run.specs.declared.status.Stop.TheVariants.{WriteFault}

-- no text is written
pub Writes-nil : (a : Writer) → Writes a a []
Writes-nil a = record { grown = Appends-nil a.written; flag = refl }

-- one text after another
pub Writes-trans : (a b c : Writer) (s t : List ℕ) → Writes a b s → Writes b c t → Writes a c (s ++ t)
Writes-trans a b c s t p q = record { grown = Appends-trans a.written b.written c.written s t p.grown q.grown; flag = q.flag ∙ p.flag }

-- what a call that did not fail wrote
pub Writes-ok : (a b : Writer) (text : List ℕ) → Appends a.written b.written text → b.has_failed ≡ (a.has_failed || false) → Writes a b text
Writes-ok a b text grown flag = record { grown = grown; flag = flag ∙ or-false a.has_failed }

-- a flag is not both set and clear
pub apart : {X : Type 0} (flag : Bool) → flag ≡ true → flag ≡ false → X
apart flag set clear = let both : true ≡ false = sym set ∙ clear in (cc)

-- where nothing is written, a prefix is
pub WritesPrefix-none : (a : Writer) (text : List ℕ) → WritesPrefix a a text
WritesPrefix-none a text = record { prefix = []; rest = text; parts = refl; grown = Appends-nil a.written; strict = λ clear set. apart a.has_failed set clear }

-- where all is written, a prefix is
pub WritesPrefix-all : (a b : Writer) (text : List ℕ) → Writes a b text → WritesPrefix a b text
WritesPrefix-all a b text p = record {
  prefix = text;
  rest = [];
  parts = sym (append-nil text);
  grown = p.grown;
  strict = λ clear set. apart b.has_failed set (p.flag ∙ clear);
}

-- a part of the piece is a prefix of it
pub WritesPrefix-part : (a b : Writer) (piece : List ℕ) → AppendsPart a.written b.written piece → WritesPrefix a b piece
WritesPrefix-part a b piece p = record {
  prefix = take p.count piece;
  rest = drop p.count piece;
  parts = sym (take-append-drop p.count piece);
  grown = p.text;
  strict = λ clear set. omega (arith, p.fewer, length-drop p.count piece);
}

-- a prefix after a text is one of both
pub WritesPrefix-after : (a b c : Writer) (s t : List ℕ) → Writes a b s → WritesPrefix b c t → WritesPrefix a c (s ++ t)
WritesPrefix-after a b c s t p q = record {
  prefix = s ++ q.prefix;
  rest = q.rest;
  parts = ap (λ x. s ++ x) q.parts ∙ sym (append_assoc s q.prefix q.rest);
  grown = Appends-trans a.written b.written c.written s q.prefix p.grown q.grown;
  strict = λ clear set. q.strict (p.flag ∙ clear) set;
}

-- a prefix of a part is one of all
pub WritesPrefix-more : (a b : Writer) (part more : List ℕ) → WritesPrefix a b part → WritesPrefix a b (part ++ more)
WritesPrefix-more a b part more q = record {
  prefix = q.prefix;
  rest = q.rest ++ more;
  parts = ap (λ t. t ++ more) q.parts ∙ append_assoc q.prefix q.rest more;
  grown = q.grown;
  strict = λ clear set. omega (arith, q.strict clear set, length-append q.rest more);
}

-- where no text is written, a prefix of any is
pub WritesPrefix-nothing : (a b : Writer) (text : List ℕ) → Writes a b [] → WritesPrefix a b text
WritesPrefix-nothing a b text p = WritesPrefix-more a b [] text (WritesPrefix-all a b [] p)

-- where a call failed at a write, the flag is set; so where it is clear, nothing was written
pub Writes-clear : {T : Type 0} (r : Result T Stop) (a b : Writer) → OnErr r (r ≡ Err WriteFault) → b.has_failed ≡ (a.has_failed || is_write_fault r) → OnErr r (b.has_failed ≡ false → Writes a b [])
Writes-clear (Ok x) a b fault flag = tt
Writes-clear (Err e) a b fault flag = λ clear. apart b.has_failed (flag ∙ ap (λ x. a.has_failed || is_write_fault x) fault ∙ or-true a.has_failed) clear
