-- `into_parts` reads the pointer, and hands on the box that it owns.
use Rattle.std.proofs.Common.{◌≡◌, List, [], ◌∷◌, ◌++◌, refl, sym, ap, ◌∙◌, subst, lit<}
use Rattle.std.specs.Prelude.{None, Some}
use mir.Val.{Val, vcons, vnil}
use base.Logic.{SProp, ent, emp, id⊢}
use base.Fml.{ftrue, fsep}
use prog.Wp.{WpFn}
use types.Kit.{‵, raw, ◌⊛◌, at_ret, ◌$◌, ◌∵◌, !, qed, move, drop, split, join, fsplit, fjoin, suffices, use0, use1, done}
use types.Run.{stop, fld, lit, of_opd, bin, no_more, and_then, first, branches, exec, returns, enter}
use types.ByLocal.{alloc_all, pass_all, free_all, look_at, get, get_in, sets, sets_last, env}
use types.Part.{agg, sub, whole}
use types.Match.{live}
use contract.Running.{tables}
use denote.Exit.{yes}
use denote.RattleType.{RattleType}
use denote.Signature.{type_at, plain}
use denote.RawPtr.{Ptr, block_ptr, null_ptr, tests_null}
use denote.Steps.{nothing}
use denote.Param.{layout}
use denote.Triple.Walked.{says, Stays, stay_dropped, walk_of, ends_at, Goes-dropped}
use Rattle.core.proofs.alloc.Calls.{handle_tells}
use Rattle.core.proofs.cell.Inside.{Good}
use Rattle.core.proofs.option.Made.{Some-of, none_of}
use Rattle.std_alloc.proofs.ResultValues.{and_tt}
use Rattle.std_alloc.proofs.BoxSteps.Form.{D, word, box_typed}
use Rattle.std_alloc.proofs.BoxSteps.Steps.{box_in}
use Rattle.std_heap.specs.contracts.Global as Heap
use Rattle.std_heap.specs.contracts.GlobalAllocator.TheImpl.{ghosts}
use Rattle.std.proofs.raw_atomic.Walks.{proved_at}
use Rattle.regress_calls.specs.contracts.held.Held as Held
use Rattle.regress_calls.specs.contracts.slot.Slot as Slot
use Rattle.regress_calls.specs.contracts.slot.parts.Parts as Parts
use Rattle.regress_calls.proofs.AsBox.{E, FromSlot, slot_word, slot_out, slot_case}
use Rattle.regress_calls.specs.contracts.slot.Slot.into_parts as F
use Rattle.regress_calls.specs.contracts.slot.Slot.into_parts.Key.{name as #self}
use Rattle.regress_calls.proofs.slot.Slot.into_parts.Statement.{statement}
use Rattle.regress_calls.proofs.slot.Slot.into_parts.Code as code

abbrev stayed : Stays (F.ended).signature.params (F.ended).kept
stayed = (stay_dropped FromSlot yes, (stay_dropped (plain (λ _. Heap.the_row)) yes, tt))

abbrev SlotRow : RattleType
SlotRow = Slot.the_row

abbrev PartsRow : RattleType
PartsRow = Parts.the_row Held.the_row Heap.the_row ghosts

pub into_parts_spec : {M : Type 1} → statement M
into_parts_spec 𝓤 𝓛 𝓜 𝓡 wired =
    let H = 𝓛.H in let 𝓣 = tables 𝓤 H 𝓜 𝓡 𝓡.env in let c = F.clauses 𝓛 𝓜.mem 𝓡.returns in let fn = code.function in
    proved_at 𝓛 F.ended stayed c 𝓜 𝓡 (Goes-dropped 𝓛 0 FromSlot yes (λ κs x f. refl), (Goes-dropped 𝓛 0 (plain (λ _. Heap.the_row)) yes (λ κs x f. refl), tt)) #self fn (code.unfolded 𝓤 H 𝓜 𝓡 wired) (λ z are.
    let d = z.0.3.0 in let a = z.0.3.1.0 in let Post : Val → SProp 𝓤 = (walk_of 𝓛 F.ended stayed c).post z in let Run : List Val → SProp 𝓤 = λ ws. WpFn 𝓤 H 𝓣.C 𝓣.Λ fn ws Post in
    let Out : RattleType = type_at F.signature.result z.0.0 in
    qed 𝓛 ((‵ ftrue ⊛ ‵ (fsep (SlotRow.own_val d z.0.4.0) (fsep (Heap.the_row.own_val a z.0.4.1.0) ftrue))) ∷ raw (emp 𝓤) ∷ []) ∵ split ! $ drop ! $ fsplit ! $
    slot_out ! d z.0.4.0 (λ ws. move ! (1 ∷ []) $ fsplit ! $ handle_tells E.al ! a z.0.4.1.0 (λ hv ea fa. move ! (2 ∷ []) $ slot_case ! a d.ptr d.held
    (λ ep eh.
    -- [the handle; true; nothing else]
    let w : Val = slot_word null_ptr in let v : Val = live 0 vnil in
    let args_are : z.0.4.0 ++ (z.0.4.1.0 ++ []) ≡ w ∷ hv ∷ [] = λ i. (ws ∙ ap (λ (p : Ptr). slot_word p ∷ []) ep) i ++ (ea i ++ []) in
    suffices ! (Run (w ∷ hv ∷ [])) (subst (λ (us : List Val). ent 𝓤 (Run (w ∷ hv ∷ [])) (Run us)) (sym args_are) (id⊢ 𝓤 _)) $
    drop ! $ drop ! $ drop ! $ enter ! 𝓣.C 𝓣.Λ fn (w ∷ hv ∷ []) Post $ alloc_all ! (λ l. pass_all ! refl ((tt, (record { fits = lit< tt }, tt)), (fa, tt)) $ let Ev = env fn.locals l in
    sets ! (of_opd ! (get_in ! (fld ! refl (stop !)) (sub ! 0 refl (whole !)))) refl (tt, record { fits = lit< tt }) $
    sets ! (bin ! (get ! refl) (lit ! tt) tt) refl (tt, tt) $ first ! $ branches ! (get ! refl)
    (λ _. sets_last ! (agg ! (and_then ! (lit ! tt) (no_more !))) refl (tt, (record { fits = lit< tt }, tt)) $
    exec ! 𝓣.C 𝓣.Λ Ev code.Mir.t-4 (at_ret Ev Post) $ sets ! (of_opd ! (get ! refl)) refl (tt, (record { fits = lit< tt }, tt)) $
    returns ! (look_at ! 0 refl) $ free_all ! refl $
    suffices ! _ (ends_at 𝓛 F.ended stayed c z v None (tt, (tt, tt)) (tt, (tt, tt))) $ says ! (sym eh) $
    use0 𝓛 (‵ (Out.own_val None (v ∷ []))) (none_of 𝓛 PartsRow) $
    nothing ! $ nothing ! $ fjoin ! $ nothing ! $ fjoin ! $ join ! $ nothing ! $ join ! $ done !) (λ wrong. absurd wrong)))
    (λ b o x ep eh t.
    -- [the box; the handle; true; nothing else]
    let w : Val = slot_word (block_ptr b o) in let made : Val = word E hv b o in let v : Val = live 1 (vcons made vnil) in
    let y : D E = record { ptr = block_ptr b o; alloc = a; value = x } in let p : PartsRow.Denot = record { ptr = block_ptr b o; alloc = a; value = x } in
    let typed = box_typed E hv b o fa in let good : Good (layout Out) v = (and_tt _ typed.0, (record { fits = lit< tt }, (typed.1, tt))) in
    let args_are : z.0.4.0 ++ (z.0.4.1.0 ++ []) ≡ w ∷ hv ∷ [] = λ i. (ws ∙ ap (λ (p : Ptr). slot_word p ∷ []) ep) i ++ (ea i ++ []) in
    suffices ! (Run (w ∷ hv ∷ [])) (subst (λ (us : List Val). ent 𝓤 (Run (w ∷ hv ∷ [])) (Run us)) (sym args_are) (id⊢ 𝓤 _)) $
    fsplit ! $ box_in E ! {hv = hv} y b o x refl refl $ use1 𝓛 (‵ (PartsRow.own_val p (made ∷ []))) (id⊢ 𝓤 _) $ use1 𝓛 (‵ (Out.own_val (Some p) (v ∷ []))) (Some-of 𝓛 PartsRow p made) $
    move ! (1 ∷ []) $ drop ! $ move ! (1 ∷ []) $ drop ! $ enter ! 𝓣.C 𝓣.Λ fn (w ∷ hv ∷ []) Post $ alloc_all ! (λ l. pass_all ! refl ((tt, (tt, tt)), (fa, tt)) $ let Ev = env fn.locals l in
    sets ! (of_opd ! (get_in ! (fld ! refl (stop !)) (sub ! 0 refl (whole !)))) refl (tt, tt) $
    sets ! (bin ! (get ! refl) (lit ! tt) (tests_null (block_ptr b o) t)) refl (tt, tt) $ first ! $ branches ! (get ! refl) (λ wrong. absurd wrong)
    (λ _. sets ! (of_opd ! (get ! refl)) refl (tt, tt) $
    sets ! (agg ! (and_then ! (get ! refl) (and_then ! (get ! refl) (no_more !)))) refl typed $
    sets_last ! (agg ! (and_then ! (lit ! tt) (and_then ! (get ! refl) (no_more !)))) refl good $
    exec ! 𝓣.C 𝓣.Λ Ev code.Mir.t-4 (at_ret Ev Post) $ sets ! (of_opd ! (get ! refl)) refl good $
    returns ! (look_at ! 0 refl) $ free_all ! refl $
    suffices ! _ (ends_at 𝓛 F.ended stayed c z v (Some p) (tt, (tt, tt)) (tt, (tt, tt))) $ says ! (sym eh) $
    nothing ! $ nothing ! $ fjoin ! $ nothing ! $ fjoin ! $ join ! $ nothing ! $ join ! $ done !))))))
