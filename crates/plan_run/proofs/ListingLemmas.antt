-- Lines of hits, written some at a time.
use Rattle.std.proofs.Common.{◌≡◌, ℕ, ◌+◌, ◌-◌, ◌<◌, ◌≤◌, List, [], ◌∷◌, ◌++◌, length, take, decimal, Option, None, Some, Result, Err, refl, sym, ap, ◌∙◌, subst, arith, length-append}
use Rattle.std.specs.List.{slice_get}
use Rattle.std.specs.Io.KnownBytes.{Appends}
use Rattle.std.proofs.KnownBytes.{Appends-nil, Appends-trans}
use Rattle.std.proofs.Math.Seq.{take-append-add}
use Rattle.std.proofs.lemmas.List.{take_at, take-append-le}
use Rattle.std.proofs.lemmas.List.Concat.{flat_map-append}
use Rattle.lit_base.specs.Literals.{Literals}
use Rattle.byte_io.specs.Transfers.{AppendsPart}
use Rattle.plan_run.specs.declared.stop.Stop.{Stop}
use Rattle.plan_run.specs.declared.stop.Stop.TheVariants.{OutOfMemory, Refused, WriteFault}
use Rattle.plan_view.specs.Quotes.{whole}
use Rattle.plan_run.specs.Listings.{hit_line, hit_lines, hits_text, line_of, literal_line}
use Rattle.plan_run.specs.Running.{Writes}
use Rattle.plan_run.specs.declared.request.HitLine.{HitLine}
use Rattle.plan_run.specs.declared.request.HitLine.TheVariants.{End, Literal}
use Rattle.plan_run.specs.declared.request.Listing.TheVariants.{Count}
use Rattle.plan_run.specs.declared.status.Status.{Status}

-- ---- each line has a byte

some-behind : (before : List ℕ) (byte : ℕ) (behind : List ℕ) → 0 < length (before ++ byte ∷ behind)
some-behind before byte behind = omega (arith, length-append before (byte ∷ behind))

hit-some : (hit : ℕ × ℕ) → 0 < length (hit_line hit)
hit-some hit = some-behind (decimal hit.0) 32 (decimal hit.1 ++ 10 ∷ [])

literal-some : (literal : Option (List ℕ)) (hit : ℕ × ℕ) → 0 < length (literal_line literal hit)
literal-some None hit = hit-some hit
literal-some (Some literal) hit = some-behind (decimal hit.0) 32 (decimal (hit.1 - length literal) ++ 32 ∷ (whole literal ++ 10 ∷ []))

line-some : (line : HitLine) (l : Literals) (hit : ℕ × ℕ) → 0 < length (line_of line l hit)
line-some End l hit = hit-some hit
line-some Literal l hit = literal-some (slice_get l.texts hit.0) hit

-- and so have the lines of some hits, and their number
lines-some : (line : HitLine) (l : Literals) (hits : List (ℕ × ℕ)) → 0 < length hits → 0 < length (hit_lines line l hits)
lines-some line l [] some = absurd (omega arith)
lines-some line l (hit ∷ hits) some = omega (arith, length-append (line_of line l hit) (hit_lines line l hits), line-some line l hit)

pub count-some : (l : Literals) (hits : List (ℕ × ℕ)) → 0 < length (hits_text Count l hits)
count-some l hits = some-behind (decimal (length hits)) 10 []

-- ---- lines that were written

-- nothing of a text was written before memory ran out
pub none-written : (text : List ℕ) (status : Status) (r : Result Status Stop) (known : Option (List ℕ)) → 0 < length text → r ≡ Err OutOfMemory → Writes text status r known known
none-written text status r known some is =
    subst (λ x. Writes text status x known known) (sym is) (record { count = 0; fewer = some; text = Appends-nil known })

-- the lines of some hits and of others are the lines of both
lines-both : (line : HitLine) (l : Literals) (done part : List (ℕ × ℕ)) → hit_lines line l (done ++ part) ≡ hit_lines line l done ++ hit_lines line l part
lines-both line l done part = flat_map-append (line_of line l) done part

-- more lines were written
pub wrote-more : (line : HitLine) (l : Literals) (old mid new : Option (List ℕ)) (done part : List (ℕ × ℕ)) (text : List ℕ) → text ≡ hit_lines line l part
    → Appends old mid (hit_lines line l done) → Appends mid new text → Appends old new (hit_lines line l (done ++ part))
wrote-more line l old mid new done part text is first second =
    subst (Appends old new) (sym (lines-both line l done part)) (Appends-trans old mid new (hit_lines line l done) (hit_lines line l part) first (subst (Appends mid new) is second))

-- a part of more lines is a part of all of them
part-more : (line : HitLine) (l : Literals) (old mid new : Option (List ℕ)) (all done part after : List (ℕ × ℕ)) (text : List ℕ) → all ≡ done ++ (part ++ after) → text ≡ hit_lines line l part
    → Appends old mid (hit_lines line l done) → AppendsPart mid new text → AppendsPart old new (hit_lines line l all)
part-more line l old mid new all done part after text parts is first p =
    let before : List ℕ = hit_lines line l done in
    let behind : List ℕ = hit_lines line l after in
    let whole_text : hit_lines line l all ≡ before ++ (text ++ behind) =
    ap (hit_lines line l) parts ∙ (lines-both line l done (part ++ after) ∙ ap (λ (t : List ℕ). before ++ t) (lines-both line l part after ∙ ap (λ (t : List ℕ). t ++ behind) (sym is))) in
    let within : p.count ≤ length text = omega (arith, p.fewer) in
    let taken : take (length before + p.count) (hit_lines line l all) ≡ before ++ take p.count text =
    ap (take (length before + p.count)) whole_text ∙ (take-append-add before (text ++ behind) p.count ∙ ap (λ (t : List ℕ). before ++ t) (take-append-le p.count text behind within)) in
    record {
      count = length before + p.count;
      fewer = omega (arith, p.fewer, ap length whole_text, length-append before (text ++ behind), length-append text behind);
      text = subst (Appends old new) (sym taken) (Appends-trans old mid new before (take p.count text) first p.text);
    }

-- a write of more lines that stopped
pub stopped-more : (line : HitLine) (l : Literals) (old mid new : Option (List ℕ)) (all done part after : List (ℕ × ℕ)) (text : List ℕ) (status : Status) (stop : Stop) → all ≡ done ++ (part ++ after) → text ≡ hit_lines line l part
    → Appends old mid (hit_lines line l done) → Writes text status (Err stop) mid new → Writes (hit_lines line l all) status (Err stop) old new
stopped-more line l old mid new all done part after text status (Refused refusal) parts is first w = absurd w
stopped-more line l old mid new all done part after text status WriteFault parts is first w = part-more line l old mid new all done part after text parts is first w
stopped-more line l old mid new all done part after text status OutOfMemory parts is first w = part-more line l old mid new all done part after text parts is first w

-- memory ran out over the lines of further hits
pub starved-more : (line : HitLine) (l : Literals) (old new : Option (List ℕ)) (all done rest : List (ℕ × ℕ)) (status : Status) (r : Result Status Stop) → r ≡ Err OutOfMemory → all ≡ done ++ rest → 0 < length rest
    → Appends old new (hit_lines line l done) → Writes (hit_lines line l all) status r old new
starved-more line l old new all done rest status r is parts some first =
    let before : List ℕ = hit_lines line l done in
    let behind : List ℕ = hit_lines line l rest in
    let whole_text : hit_lines line l all ≡ before ++ behind = ap (hit_lines line l) parts ∙ lines-both line l done rest in
    subst (λ x. Writes (hit_lines line l all) status x old new) (sym is)
    (record {
      count = length before;
      fewer = omega (arith, ap length whole_text, length-append before behind, lines-some line l rest some);
      text = subst (Appends old new) (sym (ap (take (length before)) whole_text ∙ take_at before behind (length before) refl)) first;
    })
