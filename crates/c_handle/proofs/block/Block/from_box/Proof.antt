-- `from_box` keeps the two words that the box had.
use mathlib.Core.Path.{refl}
use mathlib.Core.List.{List, [], ◌∷◌, ◌++◌}
use seplogic.Ra.Ura.{Ura}
use mir.Syntax.{Fn, Args, Dict, a_type, dcons, dnil}
use mir.MapTy.{inst_fn}
use mir.Val.{Val}
use base.Logic.{SProp, ent, id⊢}
use base.Fml.{ftrue, fsep}
use prog.Memory.{Memory}
use prog.Routine.{Routine}
use prog.Wp.{WpFn, Tables}
use types.Logic.{Logic}
use contract.Monad.{Fun}
use contract.Running.{tables, tables_of}
use sound.WpLaws.{fm_of, WpFn-mono}
use types.Kit.{‵, raw, prop, ◌⊛◌, ◌$◌, ◌∵◌, !, qed, move, use1, join, split, regoal, fsplit, fjoin, suffices, done}
use types.Part.{whole, sub, agg}
use types.Run.{stop, fld, no_more, and_then, of_opd, returns, enter}
use types.ByLocal.{alloc_all, pass_all, free_all, look_at, get, get_in, sets, lands_as}
use denote.Exit.{no}
use denote.Param.{bounded}
use denote.RawPtr.{block_ptr}
use denote.Signature.{plain}
use denote.Steps.{nothing}
use denote.Triple.Call.{calls_at}
use denote.Triple.Clauses.{Ended}
use denote.Triple.Spec.{triple_of}
use denote.Triple.Statement.{Triple, Contract}
use denote.Triple.Table.{entered}
use denote.Triple.Walked.{says, Stays, stay_dropped, walk_of, ends_at, walk_Meets}
use Rattle.core.proofs.alloc.Calls.{Goes-blank}
use Rattle.std_alloc.proofs.BoxSteps.Form.{Bx, B, word, box_typed}
use Rattle.std_alloc.proofs.BoxSteps.Steps.{box_out, box_in}
use Rattle.std_alloc.proofs.boxed.Box.into_raw_with_allocator.Symbol as opener
use Rattle.std_alloc.proofs.boxed.Box.into_raw_with_allocator.Met as opener_met
use Rattle.c_handle.proofs.BlockSteps.{Tokens, Covered, Opening, at_opening, opens}
use Rattle.c_handle.specs.contracts.block.Block.from_box as F
use Rattle.c_handle.specs.contracts.block.Block.from_box.Key.{name as #self}
use Rattle.c_handle.proofs.block.Block.from_box.Statement as stated
use Rattle.c_handle.proofs.block.Block.from_box.Code as code

module _ (E : Bx) (drops : Dict) where
  abbrev args : Args
  args = bounded (a_type ∷ a_type ∷ []) (E.row, (E.al.row, tt)) (dcons E.al.d (dcons E.al.drops (dcons drops dnil)))

  abbrev function : Fn
  function = inst_fn args code.function

  abbrev ended : Ended
  ended = F.ended E.row E.al.row E.al.g E.al.d E.al.drops drops

  abbrev stayed : Stays ended.signature.params ended.kept
  stayed = (stay_dropped (plain (λ _. B E)) no, tt)

  module _ {M : Type 1} {𝓤 : Ura M} (𝓛 : Logic 𝓤) (at_mem : Memory → SProp 𝓤) (run : Routine → Fun 𝓤) (𝓣 : Tables 𝓤 𝓛.H) where
    open 𝓛 use {H}

    abbrev Walk : Contract 𝓤
    Walk = walk_of 𝓛 ended stayed (F.clauses E.row E.al.row E.al.g E.al.d E.al.drops drops 𝓛 at_mem run)

    walk : Triple 𝓤 (𝓣.C (opener.name args)) (Opening E drops 𝓛 at_mem run) → (z : Walk.Ghost) → ent 𝓤 (Walk.pre z) (WpFn 𝓤 H 𝓣.C 𝓣.Λ function (Walk.args z) (Walk.post z))
    walk opened z =
        let κs = z.0.0 in let qs = z.0.1 in let d = z.0.3.0 in
        qed 𝓛 ((Tokens E 𝓤 κs qs ⊛ ‵ (fsep ((B E).own_val d z.0.4.0) ftrue)) ∷ Covered E 𝓤 κs qs (‵ ftrue) ∷ []) ∵ split ! $ move ! (1 ∷ []) $ fsplit ! $
        box_out E ! d z.0.4.0 (λ b o h at is fits. box_in E ! d b o d.value at refl $
        regoal ! (λ (us : List Val). prop (WpFn 𝓤 H 𝓣.C 𝓣.Λ function (us ++ []) (Walk.post z))) is refl $
        enter ! 𝓣.C 𝓣.Λ function (word E h b o ∷ []) _ $ alloc_all ! (λ l. pass_all ! refl (box_typed E h b o fits, tt) $
        sets ! (of_opd ! (get ! refl)) refl (box_typed E h b o fits) $
        fjoin ! $ move ! (1 ∷ 0 ∷ []) $ join ! $ join ! $ use1 𝓛 (raw ((Opening E drops 𝓛 at_mem run).pre (at_opening E drops 𝓛 at_mem run κs qs d (word E h b o)))) (id⊢ 𝓤 _) $
        calls_at ! (fm_of 𝓤 H 𝓛.laws 𝓣) (Opening E drops 𝓛 at_mem run) opened (at_opening E drops 𝓛 at_mem run κs qs d (word E h b o)) (and_then ! (get ! refl) (no_more !)) (λ v.
        opens E drops 𝓛 at_mem run κs qs d (word E h b o) ! tt v (λ c p k words fine.
        lands_as ! words refl (box_typed E k c p fine) $
        sets ! (of_opd ! (get_in ! (fld ! refl (stop !)) (sub ! 0 refl (whole !)))) refl (tt, tt) $
        sets ! (of_opd ! (get_in ! (fld ! refl (stop !)) (sub ! 1 refl (whole !)))) refl fine $ sets ! (of_opd ! (get ! refl)) refl fine $
        sets ! (agg ! (and_then ! (get ! refl) (and_then ! (get ! refl) (no_more !)))) refl (box_typed E k c p fine) $ returns ! (look_at ! 0 refl) $ free_all ! refl $
        suffices ! _ (ends_at 𝓛 ended stayed (F.clauses E.row E.al.row E.al.g E.al.d E.al.drops drops 𝓛 at_mem run) z (word E k c p) (record { at = block_ptr c p; alloc = d.alloc; value = d.value }) ((tt, (tt, tt)), tt) (tt, tt)) $
        says ! refl $ nothing ! $ nothing ! $ fjoin ! $ join ! $ move ! (1 ∷ 0 ∷ []) $ join ! $ done !))))

pub from_box_spec : {M : Type 1} → stated.statement M
unfolding tables_of
from_box_spec 𝓤 𝓛 𝓜 𝓡 wired X Z LX LZ g d handle_drops drops allocator handle_met drops_met =
    let E : Bx = record { row = X; laws = LX; al = record { row = Z; laws = LZ; g = g; d = d; drops = handle_drops } } in
    let 𝓣 : Tables 𝓤 𝓛.H = tables_of 𝓤 𝓛.H 𝓜 (tables 𝓤 𝓛.H 𝓜 𝓡 𝓡.env) in
    let opened = opener_met.met 𝓤 𝓛 𝓜 𝓡 (code.calls-std_alloc::boxed::Box::into_raw_with_allocator 𝓡.env wired) X Z LX LZ g d handle_drops drops allocator handle_met drops_met in
    entered 𝓤 𝓛.H (triple_of 𝓛 (ended E drops).signature (F.spec X Z g d handle_drops drops 𝓛 𝓜.mem 𝓡.returns)) 𝓣.C 𝓣.Λ (#self (args E drops)) (function E drops)
    (code.unfolded 𝓤 𝓛.H 𝓜 𝓡 wired (X, (Z, tt)) d handle_drops drops)
    (walk_Meets 𝓛 (ended E drops) (stayed E drops) (Goes-blank 𝓛 2 (plain (λ _. B E)) no (λ κs x f. tt), tt) (F.clauses X Z g d handle_drops drops 𝓛 𝓜.mem 𝓡.returns)
    (WpFn 𝓤 𝓛.H 𝓣.C 𝓣.Λ (function E drops)) (WpFn-mono 𝓤 𝓛.H 𝓛.laws 𝓣 (function E drops)) (walk E drops 𝓛 𝓜.mem 𝓡.returns 𝓣 opened))
