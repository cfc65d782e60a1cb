-- A table that passes its test tells what is so.
use Rattle.std.specs.Prelude.{is_some, slice_get, not, option_and_then}
use Rattle.std.specs.List.{list_all}
use Rattle.std.proofs.Common.{◌≡◌, ℕ, suc, ◌&&◌, ◌||◌, ◌==◌, Bool, true, false, inl, inr, List, [], ◌∷◌, length, Option, Some, None, refl, sym, ap, subst, arith}
use Rattle.std.proofs.lemmas.Bool.{and_parts, or_cases, eqb-true}
use Rattle.regress_meaning.specs.Text.{holds}
use Rattle.regress_engine_insn.specs.Instructions.{LoopFields, Instruction, Program}
use Rattle.regress_engine_insn.specs.Instructions as code
use Rattle.regress_engine_runs.specs.Runs.{fields_of}
use Rattle.regress_engine_runs.specs.Meets.{referred}
use Rattle.regress_engine_memory.specs.Flow.{Hands, Writes, IsToldOf, BeginsAnew, Flows, IsFlow}
use Rattle.regress_engine_memory.specs.Deciding.{Table, calm_at, live_at, bounds_of, flow_of, hands, writes, is_told_of, begins_anew, ends_iteration, flows, flows_if_calm, is_flow}
use Rattle.regress_engine_memory.proofs.ClassLemmas.{all-held}
use Rattle.regress_engine_memory.proofs.TableLemmas.{each-passes}

-- nothing is among no numbers
none-among : (xs : List ℕ) → (length xs == 0) ≡ true → (c : ℕ) → holds xs c ≡ true → ⊥
none-among [] e c h = absurd (cc h)
none-among (x ∷ xs) e c h = let none = eqb-true (length (x ∷ xs)) 0 e in absurd (omega (arith, none))

module _ (t : Table) where
  hands-so : (from to : ℕ) → hands t from to ≡ true → Hands (flow_of t) from to
  hands-so from to e =
      let both = and_parts (calm_at t to) (list_all (holds (live_at t from)) (live_at t to)) e in
      record { calm = both.0; live = λ id l. all-held (holds (live_at t from)) (live_at t to) both.1 id l }

  writes-so : (written from to : ℕ) → writes t written from to ≡ true → Writes (flow_of t) written from to
  writes-so written from to e =
      let both = and_parts (calm_at t to) (list_all (holds (written ∷ live_at t from)) (live_at t to)) e in
      record { calm = both.0; live = λ id ne l. other id ne (all-held (holds (written ∷ live_at t from)) (live_at t to) both.1 id l) }
    where
      other : (id : ℕ) → (id ≡ written → ⊥) → holds (written ∷ live_at t from) id ≡ true → holds (live_at t from) id ≡ true
      other id ne h = elim (or_cases (written == id) (holds (live_at t from) id) h) [ inl same ↦ absurd (ne (sym (eqb-true written id same))) | inr later ↦ later ]

  told-so : (f : LoopFields) → is_told_of t f ≡ true → IsToldOf (flow_of t) f
  told-so f e =
      let both = and_parts ((bounds_of t f.loop_id).0 == f.least) ((bounds_of t f.loop_id).1 == f.most) e in
      record { least = eqb-true (bounds_of t f.loop_id).0 f.least both.0; most = eqb-true (bounds_of t f.loop_id).1 f.most both.1 }

  anew-so : (at : ℕ) → begins_anew t at ≡ true → BeginsAnew (flow_of t) at
  anew-so at e =
      let both = and_parts (calm_at t at) (length (live_at t at) == 0) e in record { calm = both.0; silent = λ id l. none-among (live_at t at) both.1 id l }

  fields-so : (x : Option Instruction) (f : LoopFields) → fields_of x ≡ Some f → x ≡ Some (code.enter_loop f)
  fields-so (Some (code.enter_loop g)) f e = let same : g ≡ f = cc in ap (λ h. Some (code.enter_loop h)) same
  fields-so _ f e = absurd (cc e)

  unreferring-so : (x : Option Instruction) → not (is_some (option_and_then referred x)) ≡ true → (i : Instruction) → x ≡ Some i → referred i ≡ None
  unreferring-so None e i h = absurd (cc h)
  unreferring-so (Some j) e i h = let same : j ≡ i = cc in by_group (referred i) (subst (λ k. not (is_some (referred k)) ≡ true) same e)
    where
      by_group : (x : Option ℕ) → not (is_some x) ≡ true → x ≡ None
      by_group None f = refl
      by_group (Some k) f = absurd (cc f)

  module _ (program : Program) where
    again-so : (at begin : ℕ) → ends_iteration t at begin (fields_of (slice_get program.instructions begin)) ≡ true → Flows (flow_of t) program at (code.loop_again begin)
    again-so at begin e = by_fields (fields_of (slice_get program.instructions begin)) refl e
      where
        by_fields : (x : Option LoopFields) → fields_of (slice_get program.instructions begin) ≡ x → ends_iteration t at begin x ≡ true → Flows (flow_of t) program at (code.loop_again begin)
        by_fields None here h = absurd (cc h)
        by_fields (Some f) here h =
            let a = and_parts (is_told_of t f) (holds (live_at t at) f.loop_id && (writes t f.loop_id at (suc begin) && hands t at f.exit)) h in
            let b = and_parts (holds (live_at t at) f.loop_id) (writes t f.loop_id at (suc begin) && hands t at f.exit) a.1 in
            let c = and_parts (writes t f.loop_id at (suc begin)) (hands t at f.exit) b.1 in
            (f, fields-so (slice_get program.instructions begin) f here, told-so f a.0, b.0, writes-so f.loop_id at (suc begin) c.0, hands-so at f.exit c.1)

    pub flows-so : (at : ℕ) (i : Instruction) → flows t program at i ≡ true → Flows (flow_of t) program at i
    flows-so at code.goal e = tt
    flows-so at code.fail e = tt
    flows-so at (code.back k icase) e = absurd (cc e)
    flows-so at (code.jump a) e = hands-so at a e
    flows-so at (code.alt a) e = let b = and_parts (hands t at (suc at)) (hands t at a) e in (hands-so at (suc at) b.0, hands-so at a b.1)
    flows-so at (code.enter_loop f) e =
        let a = and_parts (is_told_of t f) (writes t f.loop_id at (suc at) && writes t f.loop_id at f.exit) e in
        let b = and_parts (writes t f.loop_id at (suc at)) (writes t f.loop_id at f.exit) a.1 in
        (told-so f a.0, writes-so f.loop_id at (suc at) b.0, writes-so f.loop_id at f.exit b.1)
    flows-so at (code.loop_again begin) e = again-so at begin e
    flows-so at (code.single_loop least most greedy) e =
        let b = and_parts (hands t at (suc (suc at))) (not (is_some (option_and_then referred (slice_get program.instructions (suc at))))) e in
        (hands-so at (suc (suc at)) b.0, unreferring-so (slice_get program.instructions (suc at)) b.1)
    flows-so at (code.submatch kind first last continuation) e =
        let a = and_parts (begins_anew t (suc at)) (hands t at continuation) e in (anew-so (suc at) a.0, hands-so at continuation a.1)
    flows-so at i e = hands-so at (suc at) e

    -- So it is decided by one pass over the instructions.
    pub decides : is_flow t program ≡ true → IsFlow (flow_of t) program
    decides e at i calm here = flows-so at i (by_calm (calm_at t at) calm (each-passes (flows_if_calm t program) program e at i here))
      where
        by_calm : (b : Bool) → b ≡ true → (not b || flows t program at i) ≡ true → flows t program at i ≡ true
        by_calm true f h = h
        by_calm false f h = absurd (cc f)
