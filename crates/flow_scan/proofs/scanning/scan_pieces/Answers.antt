-- Piece by piece, the scanner adds the hits of the joined pieces.
use Rattle.std.proofs.Common.{◌≡◌, ℕ, ◌+◌, ◌^◌, ◌<◌, ◌≤◌, Ok, Err, inl, inr, List, [], ◌∷◌, ◌++◌, length, get_or, take, drop, sym, ap, ◌∙◌, subst, arith}
use Rattle.std.specs.Global.{Vec}
use Rattle.std.specs.List.{concat}
use Rattle.std.proofs.lemmas.List.{length-append, map_more, take-append-drop, map-append, take_all}
use Rattle.std.proofs.lemmas.Bool.{cases_lt}
use Rattle.std.proofs.lemmas.List.Folds.{concat-append}
use Rattle.std.proofs.lemmas.Result.{err_from_is_err_and}
use Rattle.lit_plan.specs.declared.fault.Fault.TheVariants.{StreamTooLong}
use Rattle.lit_plan.specs.Plans.{Plan}
use Rattle.flow_scan.specs.Scanners.{Scanning, fed}
use Rattle.text_ends.specs.HitsAfter.{AreHitsAfter}
use Rattle.flow_scan.specs.Tails.{GainsHits, bytes_of, last_bytes}
use Rattle.lit_plan.specs.Bounds.{HasBounds, carry_of}
use Rattle.text_ends.proofs.HitLists.{hits_none, none_past}
use Rattle.flow_scan.proofs.TailSteps.{concat_push, hits_fed, last_of_last, last_of_short}
use Rattle.lit_plan.proofs.WholeTexts.{hits_from_start}
use Rattle.flow_scan.proofs.scanning.scan_pieces.Goals as goal

-- the pieces so far and one more, joined
joined_more : (pieces : List (Vec ℕ)) (i : ℕ) (x : Vec ℕ) → i < length pieces → x ≡ get_or pieces i x → concat (bytes_of (take (i + 1) pieces)) ≡ concat (bytes_of (take i pieces)) ++ x.items
joined_more pieces i x within is =
    ap concat (map_more (λ (v : Vec ℕ). v.items) pieces i x within)
    ∙ ap (λ (v : Vec ℕ). concat (bytes_of (take i pieces) ++ v.items ∷ [])) (sym is) ∙ concat_push (bytes_of (take i pieces)) x.items

-- the first pieces, joined, are no longer than all
joined_prefix : (pieces : List (Vec ℕ)) (n : ℕ) → length (concat (bytes_of (take n pieces))) ≤ length (concat (bytes_of pieces))
joined_prefix pieces n =
    let whole : bytes_of (take n pieces) ++ bytes_of (drop n pieces) ≡ bytes_of pieces =
    sym (map-append (λ (v : Vec ℕ). v.items) (take n pieces) (drop n pieces)) ∙ ap bytes_of (take-append-drop n pieces) in
    omega (
      arith,
      ap (λ ps. length (concat ps)) whole,
      ap length (concat-append (bytes_of (take n pieces)) (bytes_of (drop n pieces))),
      length-append (concat (bytes_of (take n pieces))) (concat (bytes_of (drop n pieces))),
    )

-- the tail after one more piece
tail_more : (s : Scanning) (plan : Plan) (text piece : List ℕ) → s.plan ≡ plan → s.tail ≡ last_bytes (carry_of plan.literals) text → (fed s piece).tail ≡ last_bytes (carry_of plan.literals) (text ++ piece)
tail_more s plan text piece p t =
    ap (λ (q : Plan). last_bytes (carry_of q.literals) (s.tail ++ piece)) p ∙ ap (λ ts. last_bytes (carry_of plan.literals) (ts ++ piece)) t
    ∙ last_of_last (carry_of plan.literals) text piece

-- the hits after one more piece
hits_more : (s : Scanning) (plan : Plan) (text piece : List ℕ) (old new : List (ℕ × ℕ)) → HasBounds plan.literals → s.plan ≡ plan → s.place ≡ length text → s.tail ≡ last_bytes (carry_of plan.literals) text → AreHitsAfter plan.literals text 0 0 old → GainsHits s.plan.literals s.tail piece s.place old new → AreHitsAfter plan.literals (text ++ piece) 0 0 new
hits_more s plan text piece old new b p at t before gains =
    hits_fed plan.literals text piece s.place old new b at before
    (subst (λ ts. GainsHits plan.literals ts piece s.place old new) t (subst (λ (q : Plan). GainsHits q.literals s.tail piece s.place old new) p gains))

-- a number that is not too large fits
fits : (n : ℕ) → (2 ^ 64 ≤ n → ⊥) → n < 2 ^ 64
fits n none = elim (cases_lt n (2 ^ 64)) [ inl small ↦ small | inr large ↦ absurd (none large) ]

pub loop-piece-init : goal.loop-piece-init
loop-piece-init c =
    let l = c.args.compiled.now.literals in
    let start = c.in_ok-scanner.ensures.ok in
    record {
      plan = ap (λ (s : Scanning). s.plan) start;
      small = omega arith;
      place = ap (λ (s : Scanning). s.place) start;
      tail = ap (λ (s : Scanning). s.tail) start ∙ sym (last_of_short (carry_of l) [] (omega arith));
      found = subst (AreHitsAfter l [] 0 0) (sym c.new-hits.ensures.items) (hits_none l [] 0 0 (none_past l [] 0 (omega arith)));
    }

pub loop-piece-preserved : goal.loop-piece-preserved
loop-piece-preserved c =
    let plan = c.args.compiled.now in
    let pieces = c.args.pieces.now in
    let i = c.loop-piece.piece-index in
    let x = c.piece-item.result in
    let text = concat (bytes_of (take i pieces)) in
    let before = c.loop-piece.invariant in
    let s = c.loop-piece.scanner in
    let piece = c.deref.result.now in
    let ok : c.feed.new.self ≡ fed s piece = c.in_ok-feed.ensures.ok in
    let joined : text ++ piece ≡ concat (bytes_of (take (i + 1) pieces)) =
    ap (λ ts. text ++ ts) c.deref.ensures.value ∙ sym (joined_more pieces i x c.loop-piece-test.true c.piece-item.is) in
    record {
      plan = ap (λ (t : Scanning). t.plan) ok ∙ before.plan;
      small = fits (length (concat (bytes_of (take (i + 1) pieces)))) (λ long.
          let refused : Ok c.in_ok-feed.field-0 ≡ Err StreamTooLong = c.in_ok-feed.ensures.refusals.too_long.1 (omega (arith, long, before.place, ap length joined, length-append text piece)) in
          (cc));
      place = omega (arith, ap (λ (t : Scanning). t.place) ok, before.place, ap length joined, length-append text piece);
      tail = ap (λ (t : Scanning). t.tail) ok ∙ tail_more s plan text piece before.plan before.tail ∙ ap (last_bytes (carry_of plan.literals)) joined;
      found = subst (λ ts. AreHitsAfter plan.literals ts 0 0 c.feed.new.out.items) joined
          (hits_more s plan text piece c.loop-piece.hits.items c.feed.new.out.items c.carry-carry.ensures.bounds before.plan before.place before.tail before.found c.in_ok-feed.ensures.hits);
    }

pub returns-in_err-feed-clause-refused : goal.returns-in_err-feed-clause-refused
returns-in_err-feed-clause-refused c =
    let pieces = c.args.pieces.now in
    let i = c.loop-piece.piece-index in
    let text = concat (bytes_of (take i pieces)) in
    let piece = c.deref.result.now in
    let joined : text ++ piece ≡ concat (bytes_of (take (i + 1) pieces)) =
    ap (λ ts. text ++ ts) c.deref.ensures.value ∙ sym (joined_more pieces i c.piece-item.result c.loop-piece-test.true c.piece-item.is) in
    let p = err_from_is_err_and c.from_residual-in_err-feed.result c.from_residual-in_err-feed.ensures.1 in
    rw (p.1, p.2) (elim c.in_err-feed.ensures.refusals.faults [
      | inl long ↦ inr (long, omega (arith, c.in_err-feed.ensures.refusals.too_long.0 (ap Err long), c.loop-piece.invariant.place, ap length joined, length-append text piece, joined_prefix pieces (i + 1)))
      | inr memory ↦ inl memory
    ])

pub returns-clause-too_long : goal.returns-clause-too_long
returns-clause-too_long c =
    let pieces = c.args.pieces.now in
    let all : take c.loop-piece.piece-index pieces ≡ pieces = take_all c.loop-piece.piece-index pieces (omega (arith, c.loop-piece-test.false)) in
    λ long. absurd (omega (arith, long, c.loop-piece.invariant.small, ap (λ (ps : List (Vec ℕ)). length (concat (bytes_of ps))) all))

pub returns-clause-hits : goal.returns-clause-hits
returns-clause-hits c =
    let l = c.args.compiled.now.literals in
    let pieces = c.args.pieces.now in
    let all : take c.loop-piece.piece-index pieces ≡ pieces = take_all c.loop-piece.piece-index pieces (omega (arith, c.loop-piece-test.false)) in
    hits_from_start l (concat (bytes_of pieces)) c.loop-piece.hits.items c.carry-carry.ensures.bounds
    (subst (λ (ps : List (Vec ℕ)). AreHitsAfter l (concat (bytes_of ps)) 0 0 c.loop-piece.hits.items) all c.loop-piece.invariant.found)
