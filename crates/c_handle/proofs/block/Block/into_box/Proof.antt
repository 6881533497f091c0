-- `into_box` makes a box of the two words, and the box owns what the block owned.
use mathlib.Core.Path.{refl}
use mathlib.Core.List.{List, [], ◌∷◌, ◌++◌}
use seplogic.Ra.Ura.{Ura}
use mir.Syntax.{Fn}
use mir.MapTy.{inst_fn}
use mir.Val.{Val}
use base.Logic.{SProp, ent}
use base.Fml.{ftrue, fsep}
use prog.Memory.{Memory}
use prog.Routine.{Routine}
use prog.Wp.{WpFn, Tables}
use types.Logic.{Logic}
use contract.Monad.{Fun}
use contract.Running.{tables, tables_of}
use sound.WpLaws.{fm_of, WpFn-mono}
use types.Kit.{at_ret, ‵, prop, ◌⊛◌, ◌$◌, ◌∵◌, !, qed, move, drop, join, split, regoal, fsplit, fjoin, suffices, done}
use types.Part.{whole, sub}
use types.Run.{stop, fld, no_more, and_then, of_opd, returns, enter, first, blocks, exec}
use types.ByLocal.{alloc_all, pass_all, free_all, look_at, get, get_in, sets, lands_last, env}
use denote.Exit.{no}
use denote.RattleType.{RattleType}
use denote.Signature.{plain}
use denote.Steps.{nothing}
use denote.Triple.Call.{calls_at_last}
use denote.Triple.Clauses.{Ended}
use denote.Triple.Spec.{triple_of}
use denote.Triple.Statement.{Triple, Contract}
use denote.Triple.Table.{entered}
use denote.Triple.Walked.{says, Stays, stay_dropped, walk_of, ends_at, walk_Meets}
use Rattle.core.proofs.alloc.Calls.{Goes-blank}
use Rattle.std_alloc.proofs.BoxSteps.Form.{Bx, D, R, P, B, args, word, box_typed}
use Rattle.std_alloc.proofs.BoxSteps.Steps.{box_out}
use Rattle.std_alloc.proofs.boxed.Box.from_raw.Symbol as closer
use Rattle.std_alloc.proofs.boxed.Box.from_raw.Met as closer_met
use Rattle.c_handle.proofs.BlockSteps.{Tokens, Covered, Closing, at_closing, closes, closed}
use Rattle.c_handle.specs.contracts.block.Block as Block
use Rattle.c_handle.specs.contracts.block.Block.into_box as F
use Rattle.c_handle.specs.contracts.block.Block.into_box.Key.{name as #self}
use Rattle.c_handle.proofs.block.Block.into_box.Statement as stated
use Rattle.c_handle.proofs.block.Block.into_box.Code as code

module _ (E : Bx) where
  abbrev function : Fn
  function = inst_fn (args E) code.function

  abbrev ended : Ended
  ended = F.ended E.row E.al.row E.al.g E.al.d E.al.drops

  abbrev Given : RattleType
  Given = Block.the_row (R E) (P E) E.al.g

  abbrev stayed : Stays ended.signature.params ended.kept
  stayed = (stay_dropped (plain (λ _. Given)) no, tt)

  module _ {M : Type 1} {𝓤 : Ura M} (𝓛 : Logic 𝓤) (at_mem : Memory → SProp 𝓤) (run : Routine → Fun 𝓤) (𝓣 : Tables 𝓤 𝓛.H) where
    open 𝓛 use {H}

    abbrev Walk : Contract 𝓤
    Walk = walk_of 𝓛 ended stayed (F.clauses E.row E.al.row E.al.g E.al.d E.al.drops 𝓛 at_mem run)

    walk : Triple 𝓤 (𝓣.C (closer.name (args E))) (Closing E 𝓛 at_mem run) → (z : Walk.Ghost) → ent 𝓤 (Walk.pre z) (WpFn 𝓤 H 𝓣.C 𝓣.Λ function (Walk.args z) (Walk.post z))
    walk made z =
        let κs = z.0.0 in let qs = z.0.1 in let a = z.0.3.0.alloc in let x = z.0.3.0.value in
        let d : D E = record { ptr = z.0.3.0.at; alloc = a; value = x } in
        qed 𝓛 ((Tokens E 𝓤 κs qs ⊛ ‵ (fsep ((B E).own_val d z.0.4.0) ftrue)) ∷ Covered E 𝓤 κs qs (‵ ftrue) ∷ []) ∵ split ! $ move ! (1 ∷ []) $ fsplit ! $
        box_out E ! d z.0.4.0 (λ b o h at is fits. fjoin ! $
        regoal ! (λ (us : List Val). prop (WpFn 𝓤 H 𝓣.C 𝓣.Λ function (us ++ []) (Walk.post z))) is refl $
        enter ! 𝓣.C 𝓣.Λ function (word E h b o ∷ []) _ $ alloc_all ! (λ l. pass_all ! refl (box_typed E h b o fits, tt) $
        sets ! (of_opd ! (get_in ! (fld ! refl (stop !)) (sub ! 0 refl (whole !)))) refl (tt, tt) $
        sets ! (of_opd ! (get_in ! (fld ! refl (stop !)) (sub ! 1 refl (whole !)))) refl fits $
        first ! $ blocks ! $ sets ! (of_opd ! (get ! refl)) refl fits $
        move ! (2 ∷ []) $ drop ! $ move ! (0 ∷ []) $ closes E 𝓛 at_mem run κs qs a x b o h ! $
        calls_at_last ! (fm_of 𝓤 H 𝓛.laws 𝓣) (Closing E 𝓛 at_mem run) made (at_closing E 𝓛 at_mem run κs qs a x b o h) (and_then ! (get ! refl) (and_then ! (get ! refl) (no_more !))) (λ v.
        closed E 𝓛 at_mem run κs qs a x b o h ! tt v (λ r same fine.
        lands_last ! refl fine $ exec ! 𝓣.C 𝓣.Λ (env function.locals l) code.Mir.t-4 (at_ret (env function.locals l) (Walk.post z)) $
        sets ! (of_opd ! (get ! refl)) refl fine $ returns ! (look_at ! 0 refl) $ free_all ! refl $
        suffices ! _ (ends_at 𝓛 ended stayed (F.clauses E.row E.al.row E.al.g E.al.d E.al.drops 𝓛 at_mem run) z v r ((tt, (tt, tt)), tt) (tt, tt)) $
        says ! same $ nothing ! $ nothing ! $ fjoin ! $ join ! $ move ! (1 ∷ 0 ∷ []) $ join ! $ done !))))

pub into_box_spec : {M : Type 1} → stated.statement M
unfolding tables_of
into_box_spec 𝓤 𝓛 𝓜 𝓡 wired X Z LX LZ g d handle_drops allocator handle_met =
    let E : Bx = record { row = X; laws = LX; al = record { row = Z; laws = LZ; g = g; d = d; drops = handle_drops } } in
    let 𝓣 : Tables 𝓤 𝓛.H = tables_of 𝓤 𝓛.H 𝓜 (tables 𝓤 𝓛.H 𝓜 𝓡 𝓡.env) in
    let made = closer_met.met 𝓤 𝓛 𝓜 𝓡 (code.calls-std_alloc::boxed::Box::from_raw 𝓡.env wired) X Z LX LZ g d handle_drops allocator handle_met in
    entered 𝓤 𝓛.H (triple_of 𝓛 (ended E).signature (F.spec X Z g d handle_drops 𝓛 𝓜.mem 𝓡.returns)) 𝓣.C 𝓣.Λ (#self (args E)) (function E) (code.unfolded 𝓤 𝓛.H 𝓜 𝓡 wired (X, (Z, tt)) d handle_drops)
    (walk_Meets 𝓛 (ended E) (stayed E) (Goes-blank 𝓛 2 (plain (λ _. Given E)) no (λ κs x f. tt), tt) (F.clauses X Z g d handle_drops 𝓛 𝓜.mem 𝓡.returns)
    (WpFn 𝓤 𝓛.H 𝓣.C 𝓣.Λ (function E)) (WpFn-mono 𝓤 𝓛.H 𝓛.laws 𝓣 (function E)) (walk E 𝓛 𝓜.mem 𝓡.returns 𝓣 made))
