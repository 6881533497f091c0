-- Bytes that wait to be written, in more than one step.
use Rattle.std.proofs.Common.{◌≡◌, ◌≢◌, ℕ, ◌+◌, List, [], ◌∷◌, ◌++◌, Option, Result, Ok, Err, OnErr, refl, sym, ap, subst, ◌∙◌, append_assoc, length, take, drop, arith}
use Rattle.std.proofs.lemmas.List.{append-nil, length-append, length-drop, take-append-drop}
use Rattle.std.specs.Io.KnownBytes.{Appends}
use Rattle.std.proofs.KnownBytes.{Appends-nil, Appends-trans}
use Rattle.byte_io.specs.Transfers.{AppendsPart}
use Rattle.scan_wire.specs.Frames.{FrameParts, frame_text, reply_frame, reply_text}
use Rattle.scan_wire.specs.Messages.{ReplyParts}
use Rattle.scan_wire.specs.Numbers.{u32_text}
use Rattle.scan_serve.specs.declared.stop.Stop.{Stop}
use Rattle.scan_serve.specs.declared.stop.Stop.TheVariants.{WriteFault, OutOfMemory}
use Rattle.scan_serve.specs.Sending.{Sends, SendsPrefix, SendsLess}

-- a text waits, and nothing is written
pub sends_added : (v : Option (List ℕ)) (a text b : List ℕ) → b ≡ a ++ text → Sends v v a b text
sends_added v a text b is = record { done = []; written = Appends-nil v; text_is = sym is }

-- nothing happens
pub sends_none : (v : Option (List ℕ)) (a : List ℕ) → Sends v v a a []
sends_none v a = sends_added v a [] a (sym (append-nil a))

-- one after the other
pub sends_then : (u v w : Option (List ℕ)) (a b c x y : List ℕ) → Sends u v a b x → Sends v w b c y → Sends u w a c (x ++ y)
sends_then u v w a b c x y p q = record {
  done = p.done ++ q.done;
  written = Appends-trans u v w p.done q.done p.written q.written;
  text_is = sym (append_assoc a x y) ∙ ap (λ (z : List ℕ). z ++ y) p.text_is ∙ append_assoc p.done b y
      ∙ ap (λ (z : List ℕ). p.done ++ z) q.text_is ∙ sym (append_assoc p.done q.done c);
}

-- then a prefix
abbrev pub sends_then_prefix : (u v w : Option (List ℕ)) (a b x y : List ℕ) → Sends u v a b x → SendsPrefix v w b y → SendsPrefix u w a (x ++ y)
sends_then_prefix u v w a b x y p q = record {
  done = p.done ++ q.done;
  lost = q.lost;
  written = Appends-trans u v w p.done q.done p.written q.written;
  text_is = sym (append_assoc a x y) ∙ ap (λ (z : List ℕ). z ++ y) p.text_is ∙ append_assoc p.done b y
      ∙ ap (λ (z : List ℕ). p.done ++ z) q.text_is ∙ sym (append_assoc p.done q.done q.lost);
}

-- then less than all
pub sends_then_less : (u v w : Option (List ℕ)) (a b x y : List ℕ) → Sends u v a b x → SendsLess v w b y → SendsLess u w a (x ++ y)
sends_then_less u v w a b x y p q = record { prefix = sends_then_prefix u v w a b x y p q.prefix; missed = q.missed }

-- what two parts are nothing of, the second is nothing of
pub after_none : (a text : List ℕ) → a ++ text ≡ [] → text ≡ []
after_none [] text e = e
after_none (x ∷ a) text e = absurd (omega (arith, ap length e))

-- nothing is written of a text
abbrev pub prefix_none : (v : Option (List ℕ)) (a text : List ℕ) → SendsPrefix v v a text
prefix_none v a text = record { done = []; lost = a ++ text; written = Appends-nil v; text_is = refl }

-- nothing is written of a text that is not empty
pub less_none : (v : Option (List ℕ)) (a text : List ℕ) → text ≢ [] → SendsLess v v a text
less_none v a text some = record { prefix = prefix_none v a text; missed = λ e. some (after_none a text e) }

-- the write of all that waits failed
pub less_failed : (v w : Option (List ℕ)) (a : List ℕ) → AppendsPart v w a → SendsLess v w a []
less_failed v w a p = record {
  prefix = record { done = take p.count a; lost = drop p.count a; written = p.text; text_is = append-nil a ∙ sym (take-append-drop p.count a) };
  missed = λ e. omega (arith, p.fewer, ap length e, length-drop p.count a);
}

-- another text that is the same
pub sends_is : (v w : Option (List ℕ)) (a b x y : List ℕ) → x ≡ y → Sends v w a b x → Sends v w a b y
sends_is v w a b x y e s = subst (λ (z : List ℕ). Sends v w a b z) e s

abbrev pub prefix_is : (v w : Option (List ℕ)) (a x y : List ℕ) → x ≡ y → SendsPrefix v w a x → SendsPrefix v w a y
prefix_is v w a x y e s = record { done = s.done; lost = s.lost; written = s.written; text_is = ap (λ (z : List ℕ). a ++ z) (sym e) ∙ s.text_is }

pub less_is : (v w : Option (List ℕ)) (a x y : List ℕ) → x ≡ y → SendsLess v w a x → SendsLess v w a y
less_is v w a x y e s = record { prefix = prefix_is v w a x y e s.prefix; missed = s.missed }

-- where nothing waited and nothing waits, the text is written
pub sends_all : (v w : Option (List ℕ)) (x : List ℕ) → Sends v w [] [] x → Appends v w x
sends_all v w x s = subst (λ (z : List ℕ). Appends v w z) (sym (append-nil s.done) ∙ sym s.text_is) s.written

-- a text, and then what waits is written
pub sends_then_flushed : (u v w : Option (List ℕ)) (a b c x : List ℕ) → Sends u v a b x → Sends v w b c [] → Sends u w a c x
sends_then_flushed u v w a b c x p q = sends_is u w a c _ _ (append-nil x) (sends_then u v w a b c x [] p q)

-- a text, and then a prefix of what waits is written
pub sends_then_failed : (u v w : Option (List ℕ)) (a b x : List ℕ) → Sends u v a b x → SendsLess v w b [] → SendsLess u w a x
sends_then_failed u v w a b x p q = less_is u w a _ _ (append-nil x) (sends_then_less u v w a b x [] p q)

-- a text was added, and then a prefix of what waits is written
pub added_failed : (v w : Option (List ℕ)) (a text b : List ℕ) → b ≡ a ++ text → SendsLess v w b [] → SendsLess v w a text
added_failed v w a text b is failed = sends_then_failed v v w a b text (sends_added v a text b is) failed

-- of a text and more after it not all is written, if it is none of the more
pub less_of_more : (v w : Option (List ℕ)) (a x y : List ℕ) → y ≢ [] → SendsPrefix v w a x → SendsLess v w a (x ++ y)
less_of_more v w a x y some s = record {
  prefix = record {
    done = s.done;
    lost = s.lost ++ y;
    written = s.written;
    text_is = sym (append_assoc a x y) ∙ ap (λ (t : List ℕ). t ++ y) s.text_is ∙ append_assoc s.done s.lost y;
  };
  missed = λ e. some (after_none s.lost y e);
}

-- no reply is without bytes
pub reply_some : (reply : ReplyParts) → reply_text reply ≢ []
reply_some reply e = frame_some (reply_frame reply) e
  where
    frame_some : (f : FrameParts) → frame_text f ≢ []
    frame_some f e = omega (arith, ap length e, length-append (u32_text (5 + length f.payload)) (f.kind ∷ (u32_text f.stream ++ f.payload)))

-- what fails at writes alone never wants memory
pub no_starving : {T : Type 0} (r : Result T Stop) → OnErr r (r ≡ Err WriteFault) → r ≢ Err OutOfMemory
no_starving (Ok x) stopped e = (cc)
no_starving (Err stop) stopped e = (cc)

-- what holds where a call failed, holds where it failed so
pub err_holds : {T E P : Type 0} (r : Result T E) (error : E) → r ≡ Err error → OnErr r P → P
err_holds (Ok x) error e p = absurd (cc)
err_holds (Err other) error e p = p

-- what holds where a call failed, said of more
pub err_weaker : {T E P Q : Type 0} (r : Result T E) → (P → Q) → OnErr r P → OnErr r Q
err_weaker (Ok x) f p = tt
err_weaker (Err e) f p = f p
