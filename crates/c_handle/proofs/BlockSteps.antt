-- A box and its block keep the same two words: the address and the allocator. Assumes `Logic`.
--     two, words_out, words_in     the words of a struct that keeps both, taken out and put back
--     boxed                a box by value is one machine value, of the box's type
--     tested, null_no      the address of a block of the heap may be compared with null, and it differs from null
--     Tokens, Covered      what a function over a box has beside its arguments: a token of each lifetime, and that a
--                          token covers all that the type names
--     Opening, opens       a call of `Box::into_raw_with_allocator`: what it gives, as a block
--     Closing, closes      a call of `Box::from_raw`: what it asks for.        closed     what it gives
use mathlib.Core.Path.{◌≡◌, refl, ap, ◌∙◌}
use Prim.Native.Nat.{ℕ}
use mathlib.Core.List.{List, [], ◌∷◌, ◌++◌}
use lib.Dec.{T}
use seplogic.Ra.Ura.{Ura}
use mir.Syntax.{Dict}
use mir.Raw.{raw as bare}
use mir.Val.{Val, vptr, vstruct, vcons, vnil, of_list, has_ty, WT}
use base.Fraction.{full_share}
use base.Logic.{SProp, ent, id⊢, guard, guard_i, via, never, fst∗, snd∗}
use base.Fml.{ftrue, fsep, flft}
use contract.BorrowLft.{◌⊑◌}
use contract.Lifetimes.{Lfts, Shares}
use contract.Monad.{Fun, fact, fact_use}
use prog.Memory.{Memory}
use prog.Routine.{Routine}
use types.Logic.{Logic, sem}
use types.Kit.{Item, Goal, Soaks, Seq, Step, step, ‵, raw, ◌⊛◌, some, later, ◌$◌, move, drop, use1, join, split, split3, pick, rewrite, fsplit, fjoin, fpick, fpack, feq_l, feq_i, await}
use denote.RattleType.{RattleType, Valss}
use denote.Laws.{Is, shows}
use denote.Param.Laws.{Laws, param_laws}
use denote.Memory.{lone}
use denote.RawPtr.{Ptr, RawPtr, Testable, block_ptr, null_ptr, ptr_val, in_a_block, lies_at}
use denote.Steps.{heard, nothing, only, peeks}
use denote.Struct.Struct.{Shape, Struct, within}
use denote.Struct.Tuple.{Tuple}
use denote.Triple.Spec.{triple_of}
use denote.Triple.Statement.{Contract}
use Rattle.core.proofs.alloc.Calls.{Fits, token, handle_tells}
use Rattle.std.specs.Global.{Global}
use Rattle.std_alloc.specs.Box.Ownership.{box_owns}
use Rattle.std_alloc.proofs.boxed.Box.TheLaws as Boxed
use Rattle.std_alloc.proofs.BoxSteps.Form.{Bx, X, D, τ, R, P, B, box_ty, handle, word}
use Rattle.std_alloc.proofs.BoxSteps.Steps.{box_in}
use Rattle.std_alloc.specs.contracts.boxed.Box.into_raw_with_allocator as Opener
use Rattle.std_alloc.specs.contracts.boxed.Box.from_raw as Closer
use Rattle.std_heap.specs.contracts.GlobalAllocator.TheImpl.{ghosts}
use Rattle.std_heap.proofs.GlobalToken.{dealloc_token-Testable}

abbrev pub two : Val → Val → Val
two v w = vstruct (vcons v (vcons w vnil))

abbrev pub words : Bx → Shape
words E = record { name = []; args = []; types = []; fields = RawPtr ∷ P E ∷ [] }

abbrev pub Typed_box : Bx → Val → Type 0
Typed_box E v = T (has_ty (box_ty E) v) × WT v

pub null_no : (b o : ℕ) → block_ptr b o ≡ null_ptr → ⊥
null_no b o e = cc

box_laws : (E : Bx) → Laws (B E)
box_laws E = Boxed.the_row_laws (R E) (P E) E.al.g (param_laws 0 E.row E.laws) (param_laws 1 E.al.row E.al.laws)

module _ (E : Bx) {M : Type 1} {𝓤 : Ura M} {𝓛 : Logic 𝓤} {K : Type 0} {Γ : List (Item 𝓤)} {G : Goal 𝓤 𝓛.H} where
  pub words_out : K → (p : Ptr) (a : (P E).Denot) (vs : List Val)
      → ((h : Val) → vs ≡ two (ptr_val p) h ∷ [] → Fits E.al h → Seq K 𝓛 (‵ (handle E a h) ∷ Γ) G) → Seq K 𝓛 (‵ ((Struct (words E)).own_val (p, (a, tt)) vs) ∷ Γ) G
  words_out t p a vs next =
      fpick t (λ vss. fsplit t $ feq_l t (λ all. fsplit t $ feq_l t (λ first. fsplit t $ handle_tells E.al t a vss.1.0 (λ h second fits. move t (1 ∷ []) $ drop t $ next h
      (all ∙ (λ i. vstruct (of_list (first i ++ (second i ++ []))) ∷ [])) fits))))

  pub words_in : K → (p : Ptr) (a : (P E).Denot) (h : Val) → Step K 𝓛 (‵ ((Struct (words E)).own_val (p, (a, tt)) (two (ptr_val p) h ∷ [])) ∷ Γ) G (‵ (handle E a h) ∷ Γ) G
  words_in t p a h = step (λ s. let v : Val = two (ptr_val p) h in
      nothing t $ move t (1 ∷ 0 ∷ []) $ fjoin t $ feq_i t (List Val) (ptr_val p ∷ []) (ptr_val p ∷ []) refl $ fjoin t $ feq_i t (List Val) (v ∷ []) (v ∷ []) refl $ fjoin t $
      fpack t (Valss (RawPtr ∷ P E ∷ [])) (within (words E) (p, (a, tt)) (v ∷ [])) (ptr_val p ∷ [], (h ∷ [], tt)) $ s)

  pub boxed : K → (d : D E) (v : Val) → (Typed_box E v → Seq K 𝓛 (‵ ((B E).own_val d (v ∷ [])) ∷ Γ) G) → Seq K 𝓛 (‵ ((B E).own_val d (v ∷ [])) ∷ Γ) G
  boxed t d v next = peeks t (B E) (Is (B E)) (shows 𝓛 (B E)) d (v ∷ []) (λ is. next (((box_laws E).lawful 𝓛).typed d (v ∷ []) is).0)

module _ (E : Bx) {M : Type 1} (𝓤 : Ura M) (κs : Lfts 2) (qs : Shares 2) where
  abbrev pub Tokens : Item 𝓤
  Tokens = ‵ (flft κs.0 qs.0) ⊛ ‵ (flft κs.1.0 qs.1.0) ⊛ ‵ ftrue

  abbrev pub Covered : Item 𝓤 → Item 𝓤
  Covered i = raw (fact 𝓤 (κs.0 ⊑ E.row.lives)) ⊛ raw (fact 𝓤 (κs.1.0 ⊑ E.al.row.lives)) ⊛ i

module _ (E : Bx) (drops : Dict) {M : Type 1} {𝓤 : Ura M} (𝓛 : Logic 𝓤) (at_mem : Memory → SProp 𝓤) (run : Routine → Fun 𝓤) where
  abbrev pub Opening : Contract 𝓤
  Opening = triple_of 𝓛 (Opener.signature E.row E.al.row E.al.g E.al.d E.al.drops drops) (Opener.spec E.row E.al.row E.al.g E.al.d E.al.drops drops 𝓛 at_mem run)

  module _ (κs : Lfts 2) (qs : Shares 2) (d : D E) (w : Val) where
    abbrev pub at_opening : Opening.Ghost
    at_opening = ((κs, qs, tt, (d, tt), (w ∷ [], tt)), tt)

    abbrev Opened : Val → Item 𝓤
    Opened v = later (some (λ (r : Ptr × E.al.row.Denot). (Tokens E 𝓤 κs qs ⊛ ‵ ((Tuple (RawPtr ∷ P E ∷ [])).own_val r (v ∷ [])))
        ⊛ some (λ (_ : (Unit {0} × (Unit {0} × Unit {0})) × Unit {0}). ‵ (fsep (fsep ftrue (fsep ftrue ftrue)) ftrue) ⊛ (raw (fact 𝓤 (r.1 ≡ d.alloc)) ⊛ ‵ (box_owns (token E.al d.alloc) (R E) r.0 d.value)))))

    pub opens : {K : Type 0} {Γ : List (Item 𝓤)} {G : Goal 𝓤 𝓛.H} → K → Soaks G → (v : Val)
        → ((b o : ℕ) (h : Val) → v ≡ word E h b o → Fits E.al h
        → Seq K 𝓛 (‵ ((B E).own_val (record { ptr = block_ptr b o; alloc = d.alloc; value = d.value }) (word E h b o ∷ [])) ∷ Tokens E 𝓤 κs qs ∷ Γ) G)
        → Seq K 𝓛 (raw (Opening.post at_opening v) ∷ Γ) G
    opens t soaks v next =
        use1 𝓛 (Opened v) (id⊢ 𝓤 _) $ await t soaks $ pick t (λ r. split t $ move t (1 ∷ []) $ pick t (λ _. split3 t $ drop t $ heard t (r.1 ≡ d.alloc) (λ same.
        in_a_block t r.0 (λ p. box_owns (token E.al d.alloc) (R E) p d.value) (fst∗ 𝓤 (never 𝓤) (sem 𝓛 (token E.al d.alloc (bare (τ E)) null_ptr))) (λ b o at.
        move t (1 ∷ []) $ split t $ move t (1 ∷ []) $ words_out E t r.0 r.1 (v ∷ []) (λ h is fits. rewrite t 0 (λ (a : E.al.row.Denot). ‵ (handle E a h)) same refl $
        -- [the allocator; the tokens; the value with the right to free it]
        move t (2 ∷ []) $ fsplit t $ box_in E t (record { ptr = block_ptr b o; alloc = d.alloc; value = d.value }) b o d.value refl refl $
        next b o h (ap only (is ∙ ap (λ (p : Ptr). two (ptr_val p) h ∷ []) at)) fits)))))

module _ (E : Bx) {M : Type 1} {𝓤 : Ura M} (𝓛 : Logic 𝓤) (at_mem : Memory → SProp 𝓤) (run : Routine → Fun 𝓤) where
  abbrev pub Closing : Contract 𝓤
  Closing = triple_of 𝓛 (Closer.signature E.row E.al.row E.al.g E.al.d E.al.drops) (Closer.spec E.row E.al.row E.al.g E.al.d E.al.drops 𝓛 at_mem run)

  module _ (κs : Lfts 2) (qs : Shares 2) (a : E.al.row.Denot) (x : X E) (b o : ℕ) (h : Val) where
    abbrev pub at_closing : Closing.Ghost
    at_closing = ((κs, qs, tt, (a, (block_ptr b o, tt)), (h ∷ [], (vptr b o ∷ [], tt))), x)

    abbrev Closed : Val → Item 𝓤
    Closed v = later (some (λ (r : D E). (Tokens E 𝓤 κs qs ⊛ ‵ ((B E).own_val r (v ∷ [])))
        ⊛ some (λ (_ : Unit {0} × (Unit {0} × Unit {0})). ‵ (fsep ftrue (fsep ftrue ftrue)) ⊛ (raw (fact 𝓤 (r.value ≡ x)) ⊛ raw (fact 𝓤 (r.alloc ≡ a))))))

    module _ {K : Type 0} {Γ : List (Item 𝓤)} {G : Goal 𝓤 𝓛.H} where
      pub closes : K → Step K 𝓛 (raw (Closing.pre at_closing) ∷ Γ) G
          (‵ (box_owns (token E.al a) (R E) (block_ptr b o) x) ∷ ‵ (handle E a h) ∷ Tokens E 𝓤 κs qs ∷ Covered E 𝓤 κs qs (‵ ftrue) ∷ Γ) G
      closes t = step (λ s.
          move t (3 ∷ []) $ split3 t $ move t (2 ∷ []) $ drop t $ move t (1 ∷ 2 ∷ []) $ join t $ move t (1 ∷ 0 ∷ []) $ join t $
          -- [what it requires; the allocator; the tokens]
          nothing t $ feq_i t (List Val) (vptr b o ∷ []) (vptr b o ∷ []) refl $ fjoin t $ move t (2 ∷ 0 ∷ []) $ fjoin t $
          move t (2 ∷ 0 ∷ []) $ join t $ join t $ use1 𝓛 (raw (Closing.pre at_closing)) (id⊢ 𝓤 _) $ s)

      pub closed : K → Soaks G → (v : Val) → ((r : D E) → r.value ≡ x → Typed_box E v → Seq K 𝓛 (‵ ((B E).own_val r (v ∷ [])) ∷ Tokens E 𝓤 κs qs ∷ Γ) G)
          → Seq K 𝓛 (raw (Closing.post at_closing v) ∷ Γ) G
      closed t soaks v next =
          use1 𝓛 (Closed v) (id⊢ 𝓤 _) $ await t soaks $ pick t (λ r. split t $ move t (1 ∷ []) $ pick t (λ _. split3 t $ drop t $ heard t (r.value ≡ x) (λ same. drop t $
          split t $ move t (1 ∷ []) $ boxed E t r v (next r same))))

module _ {M : Type 1} {𝓤 : Ura M} (𝓛 : Logic 𝓤) (R : RattleType) (a : Global) (p : Ptr) (x : R.Denot) where
  abbrev Owned : SProp 𝓤
  Owned = sem 𝓛 (box_owns (ghosts.dealloc_token a) R p x)

  pub tested : ent 𝓤 Owned (guard 𝓤 (Testable p) Owned)
  tested = fact_use 𝓤 (Testable p) (via 𝓤 _ (snd∗ 𝓤 (sem 𝓛 (lies_at R full_share p x)) (sem 𝓛 (ghosts.dealloc_token a (bare (lone R.mir)) p)))
      (dealloc_token-Testable 𝓛 a (bare (lone R.mir)) p)) (guard_i 𝓤 (Testable p) Owned)
