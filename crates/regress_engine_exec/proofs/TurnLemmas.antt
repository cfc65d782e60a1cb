-- What an executor turns to is so where some proof of it is kept, and by tables nothing is counted.
use mathlib.Core.HLevel.{Π_prop, ×_prop, Σ_prop_path}
use Rattle.std.specs.Coded.{codes, le_prop}
use Rattle.std.specs.Prelude.{IfSome, List, is_some, length, map, nat_lt, Result, Ok, Err, IfOk}
use Rattle.std.specs.Result.{IfErr, IsErrAnd, result_unwrap_or}
use Rattle.std.proofs.Common.{◌≡◌, ℕ, suc, ◌^◌, ◌-◌, ◌<◌, ◌≤◌, ◌⊎◌, inl, inr, Bool, true, false, [], ◌∷◌, Option, Some, None, refl, sym, ◌∙◌, subst, arith}
use Rattle.std.proofs.Math.Logic.{∥∥₁_elim, ∥∥₁_map}
use Rattle.std.proofs.lemmas.Bool.{and_parts, cases_lt, ltb-true}
use Rattle.regress_meaning.specs.Meaning.{Direction}
use Rattle.regress_meaning.specs.Inputs.{Input}
use Rattle.regress_front_nodes.specs.Trees.{Submatch, lookaround, atomic}
use Rattle.regress_engine_input.specs.Views.{View, AreOfKind, input_of, reading_of}
use Rattle.regress_engine_insn.specs.Instructions.{LoopFields, Instruction, Program, Stands}
use Rattle.regress_engine_insn.specs.Instructions as code
use Rattle.regress_engine_insn.specs.InsnViews.{instruction}
use Rattle.regress_engine_insn.specs.declared.insn.Insn.{Insn}
use Rattle.regress_engine_runs.specs.States.{Whole}
use Rattle.regress_engine_runs.specs.UndoStack.{whole}
use Rattle.regress_engine_runs.specs.Meets.{IsAtPlace, referred}
use Rattle.regress_engine_runs.specs.Computed.{IsComputed}
use Rattle.regress_engine_runs.proofs.Computed.{computed-runs, runs-computed}
use Rattle.regress_engine_runs.proofs.OneAnswer.{IsComputed-prop}
use Rattle.regress_engine_search.specs.Search.{IsSearchable}
use Rattle.regress_engine_memory.specs.Flow.{Flow, Hands, Writes, IsToldOf, BeginsAnew, Flows}
use Rattle.regress_engine_linear.specs.Ranks.{Ranking, Lowers, Inside, IsCycle, Ranks, asked_less}
use Rattle.regress_engine_linear.specs.RankTables.{ArePlaced, Heights, IsBefore, address_at, level_at, ranking_of}
use Rattle.regress_engine_linear.specs.Linear.{AreFew, AreLeaving, AreLoopFree, IsLinear, IsUnboundedOrOnce, LeavesGroups, MayLoop, StayInside, few, is_visited_once, leads_through, leaves_none, repeats_inside, stays_inside, too_long}
use Rattle.regress_engine_linear.specs.LinearViews.{flow_in, heights_in}
use Rattle.regress_engine_linear.specs.Answered.{Ends}
use Rattle.regress_engine_linear.specs.declared.testing.LinearTable.{LinearTable}
use Rattle.regress_engine_answers.specs.AnswerTables.{told_by}
use Rattle.regress_engine_answers.specs.Filled.{way_of}
use Rattle.regress_engine_walks.specs.Searched.{IsTold}
use Rattle.regress_engine_walks.specs.declared.searching.TextTable.{TextTable}
use Rattle.regress_engine_attempt.specs.Counting.{most_counted, CountsRun}
use Rattle.regress_engine_attempt.proofs.CountLemmas.{spends-none, spends-more}
use Rattle.regress_engine_exec.specs.Counting.{CountsSearch}
use Rattle.regress_engine_exec.specs.Turned.{GoesOnBy, TellsLinear, Turns, TurnsBy, TurnsTo, fits_told, most_told}
use Rattle.regress_engine_exec.specs.declared.turning.Turning.{Turning}
use Rattle.regress_engine_exec.specs.declared.tables.Tables.{Tables}
use Rattle.regress_engine_exec.proofs.CountLemmas.{counts-first, counts-over}

bool-set : IsSet Bool
bool-set = hlevel codes

nat-set : IsSet ℕ
nat-set = hlevel codes

instruction-set : IsSet Instruction
instruction-set = hlevel codes

offset-set : IsSet (Option ℕ)
offset-set = hlevel codes

named-set : IsSet (Option Instruction)
named-set = hlevel (codes, instruction-set)

never-prop : IsProp ⊥
never-prop x y = absurd x

-- ---- what flows through a program

module _ (program : Program) where
  Stands-prop : (at : ℕ) (i : Instruction) → IsProp (Stands program at i)
  Stands-prop at i = named-set _ (Some i)

  -- one repetition begins at an address
  same-loop : (at : ℕ) (f k : LoopFields) → Stands program at (code.enter_loop f) → Stands program at (code.enter_loop k) → f ≡ k
  same-loop at f k x y = let e : ◌≡◌ {A = Option Instruction} (Some (code.enter_loop f)) (Some (code.enter_loop k)) = sym x ∙ y in cc

  begins-prop : (at : ℕ) → IsProp ((f : LoopFields) × Stands program at (code.enter_loop f))
  begins-prop at x y = Σ_prop_path (λ (f : LoopFields). Stands-prop at (code.enter_loop f)) (same-loop at x.0 y.0 x.1 y.1)

  module _ (flow : Flow) where
    Hands-prop : (from to : ℕ) → IsProp (Hands flow from to)
    Hands-prop from to x y = λ i. record {
      calm = bool-set (flow.calm to) true x.calm y.calm i;
      live = (Π_prop (λ id. Π_prop (λ live. bool-set (flow.live from id) true))) x.live y.live i;
    }

    Writes-prop : (written from to : ℕ) → IsProp (Writes flow written from to)
    Writes-prop written from to x y = λ i. record {
      calm = bool-set (flow.calm to) true x.calm y.calm i;
      live = (Π_prop (λ id. Π_prop (λ other. Π_prop (λ live. bool-set (flow.live from id) true)))) x.live y.live i;
    }

    IsToldOf-prop : (f : LoopFields) → IsProp (IsToldOf flow f)
    IsToldOf-prop f x y = λ i. record {
      least = nat-set (flow.least f.loop_id) f.least x.least y.least i;
      most = nat-set (flow.most f.loop_id) f.most x.most y.most i;
    }

    BeginsAnew-prop : (at : ℕ) → IsProp (BeginsAnew flow at)
    BeginsAnew-prop at x y = λ i. record {
      calm = bool-set (flow.calm at) true x.calm y.calm i;
      silent = (Π_prop (λ id. Π_prop (λ live. never-prop))) x.silent y.silent i;
    }

    flows-again : (at begin : ℕ) → ∥ Flows flow program at (code.loop_again begin) ∥₁ → Flows flow program at (code.loop_again begin)
    flows-again at begin t =
        let (f, here) = ∥∥₁_elim t (begins-prop begin) (λ x. (x.0, x.1)) in (
          f,
          here,
          ∥∥₁_elim t (IsToldOf-prop f) (λ x. subst (IsToldOf flow) (same-loop begin x.0 f x.1 here) x.2),
          ∥∥₁_elim t (bool-set (flow.live at f.loop_id) true) (λ x. subst (λ k. flow.live at k.loop_id ≡ true) (same-loop begin x.0 f x.1 here) x.3),
          ∥∥₁_elim t (Writes-prop f.loop_id at (suc begin)) (λ x. subst (λ k. Writes flow k.loop_id at (suc begin)) (same-loop begin x.0 f x.1 here) x.4),
          ∥∥₁_elim t (Hands-prop at f.exit) (λ x. subst (λ k. Hands flow at k.exit) (same-loop begin x.0 f x.1 here) x.5),
        )

    flows-anyway : (at : ℕ) (i : Instruction) → ∥ Flows flow program at i ∥₁ → Flows flow program at i
    flows-anyway at code.goal t = tt
    flows-anyway at code.fail t = tt
    flows-anyway at (code.back k icase) t = ∥∥₁_elim t never-prop (λ x. x)
    flows-anyway at (code.jump a) t = ∥∥₁_elim t (Hands-prop at a) (λ x. x)
    flows-anyway at (code.alt a) t = ∥∥₁_elim t (×_prop (Hands-prop at (suc at)) (Hands-prop at a)) (λ x. x)
    flows-anyway at (code.enter_loop f) t =
        (∥∥₁_elim t (IsToldOf-prop f) (λ x. x.0), ∥∥₁_elim t (Writes-prop f.loop_id at (suc at)) (λ x. x.1), ∥∥₁_elim t (Writes-prop f.loop_id at f.exit) (λ x. x.2))
    flows-anyway at (code.loop_again begin) t = flows-again at begin t
    flows-anyway at (code.single_loop least most greedy) t =
        (∥∥₁_elim t (Hands-prop at (suc (suc at))) (λ x. x.0), λ i here. ∥∥₁_elim t (offset-set (referred i) None) (λ x. x.1 i here))
    flows-anyway at (code.submatch kind first last continuation) t = ∥∥₁_elim t (×_prop (BeginsAnew-prop (suc at)) (Hands-prop at continuation)) (λ x. x)
    flows-anyway at (code.char c) t = ∥∥₁_elim t (Hands-prop at (suc at)) (λ x. x)
    flows-anyway at (code.char_set cs) t = ∥∥₁_elim t (Hands-prop at (suc at)) (λ x. x)
    flows-anyway at (code.byte_set bs) t = ∥∥₁_elim t (Hands-prop at (suc at)) (λ x. x)
    flows-anyway at (code.byte_seq bs) t = ∥∥₁_elim t (Hands-prop at (suc at)) (λ x. x)
    flows-anyway at code.any t = ∥∥₁_elim t (Hands-prop at (suc at)) (λ x. x)
    flows-anyway at code.any_in_line t = ∥∥₁_elim t (Hands-prop at (suc at)) (λ x. x)
    flows-anyway at (code.bracket k) t = ∥∥₁_elim t (Hands-prop at (suc at)) (λ x. x)
    flows-anyway at (code.ascii_bracket cs) t = ∥∥₁_elim t (Hands-prop at (suc at)) (λ x. x)
    flows-anyway at (code.line_start multiline) t = ∥∥₁_elim t (Hands-prop at (suc at)) (λ x. x)
    flows-anyway at (code.line_end multiline) t = ∥∥₁_elim t (Hands-prop at (suc at)) (λ x. x)
    flows-anyway at (code.boundary inverted folded) t = ∥∥₁_elim t (Hands-prop at (suc at)) (λ x. x)
    flows-anyway at (code.begin_group k) t = ∥∥₁_elim t (Hands-prop at (suc at)) (λ x. x)
    flows-anyway at (code.end_group k) t = ∥∥₁_elim t (Hands-prop at (suc at)) (λ x. x)
    flows-anyway at (code.reset_group k) t = ∥∥₁_elim t (Hands-prop at (suc at)) (λ x. x)

-- ---- how a program is ranked

-- one of two orders that can be told
order-anyway : (a b c d : ℕ) → ∥ (a ≤ b) ⊎ (c ≤ d) ∥₁ → (a ≤ b) ⊎ (c ≤ d)
order-anyway a b c d t = by_order (cases_lt b a) (cases_lt d c)
  where
    by_order : (b < a) ⊎ (a ≤ b) → (d < c) ⊎ (c ≤ d) → (a ≤ b) ⊎ (c ≤ d)
    by_order (inr first) _ = inl first
    by_order (inl more) (inr second) = inr second
    by_order (inl more) (inl other) = absurd (∥∥₁_elim t never-prop (λ x. elim x [ inl first ↦ absurd (omega (arith, more, first)) | inr second ↦ absurd (omega (arith, other, second)) ]))

module _ (r : Ranking) where
  lowers-anyway : (taken from to : ℕ) → ∥ Lowers r taken from to ∥₁ → Lowers r taken from to
  lowers-anyway taken from to t = record {
    within = ∥∥₁_elim t le_prop (λ x. x.within);
    level = ∥∥₁_elim t (nat-set (r.level to) (r.level from)) (λ x. x.level);
    same = ∥∥₁_elim t (nat-set (r.outside to) (r.outside from)) (λ x. x.same);
    rank = order-anyway 1 taken (suc (r.rank to)) (r.rank from) (∥∥₁_map t (λ x. x.rank));
  }

  inside-rank : (at : ℕ) → ∥ ((r.level (suc at) ≡ r.level at) × (r.rank (suc at) < r.rank at)) ⊎ (r.level at < r.level (suc at)) ∥₁
      → ((r.level (suc at) ≡ r.level at) × (r.rank (suc at) < r.rank at)) ⊎ (r.level at < r.level (suc at))
  inside-rank at t = by_level (cases_lt (r.level at) (r.level (suc at)))
    where
      by_level : (r.level at < r.level (suc at)) ⊎ (r.level (suc at) ≤ r.level at)
          → ((r.level (suc at) ≡ r.level at) × (r.rank (suc at) < r.rank at)) ⊎ (r.level at < r.level (suc at))
      by_level (inl deeper) = inr deeper
      by_level (inr low) = inl (
        ∥∥₁_elim t (nat-set (r.level (suc at)) (r.level at)) (λ x. elim x [ inl own ↦ own.0 | inr deeper ↦ absurd (omega (arith, low, deeper)) ]),
        ∥∥₁_elim t le_prop (λ x. elim x [ inl own ↦ own.1 | inr deeper ↦ absurd (omega (arith, low, deeper)) ]),
      )

  inside-anyway : (kind : Submatch) (at continuation : ℕ) → ∥ Inside r kind at continuation ∥₁ → Inside r kind at continuation
  inside-anyway kind at continuation t = record {
    within = ∥∥₁_elim t le_prop (λ x. x.within);
    way = ∥∥₁_elim t (direction-set _ _) (λ x. x.way);
    rank = inside-rank at (∥∥₁_map t (λ x. x.rank));
    level = λ is. ∥∥₁_elim t (nat-set (r.level (suc at)) (r.level at)) (λ x. x.level is);
    outside = λ is. ∥∥₁_elim t (nat-set (r.outside (suc at)) continuation) (λ x. x.outside is);
  }
    where
      direction-set : IsSet Direction
      direction-set = hlevel codes

  module _ (flow : Flow) where
    cycle-anyway : (at begin : ℕ) (f : LoopFields) → ∥ IsCycle flow r at begin f ∥₁ → IsCycle flow r at begin f
    cycle-anyway at begin f t = record {
      least = ∥∥₁_elim t le_prop (λ x. x.least);
      top = ∥∥₁_elim t (nat-set (r.top f.loop_id) (r.rank (suc begin))) (λ x. x.top);
      more = lowers-anyway 0 at (suc begin) (∥∥₁_map t (λ x. x.more));
      out = lowers-anyway 0 at f.exit (∥∥₁_map t (λ x. x.out));
      left = λ live. ∥∥₁_elim t never-prop (λ x. x.left live);
    }

    module _ (program : Program) where
      ranks-again : (at begin : ℕ) → ∥ Ranks flow r program at (code.loop_again begin) ∥₁ → Ranks flow r program at (code.loop_again begin)
      ranks-again at begin t =
          let (f, here) = ∥∥₁_elim t (begins-prop program begin) (λ x. (x.0, x.1)) in
          (f, here, cycle-anyway at begin f (∥∥₁_map t (λ x. subst (IsCycle flow r at begin) (same-loop program begin x.0 f x.1 here) x.2)))

      ranks-anyway : (at : ℕ) (i : Instruction) → ∥ Ranks flow r program at i ∥₁ → Ranks flow r program at i
      ranks-anyway at code.goal t = λ within. ∥∥₁_elim t le_prop (λ x. x within)
      ranks-anyway at code.fail t = tt
      ranks-anyway at (code.back k icase) t = ∥∥₁_elim t never-prop (λ x. x)
      ranks-anyway at (code.jump a) t = lowers-anyway 0 at a t
      ranks-anyway at (code.alt a) t = (lowers-anyway 0 at (suc at) (∥∥₁_map t (λ x. x.0)), lowers-anyway 0 at a (∥∥₁_map t (λ x. x.1)))
      ranks-anyway at (code.enter_loop f) t = cycle-anyway at at f t
      ranks-anyway at (code.loop_again begin) t = ranks-again at begin t
      ranks-anyway at (code.single_loop least most greedy) t = lowers-anyway least at (suc (suc at)) t
      ranks-anyway at (code.submatch kind first last continuation) t =
          (lowers-anyway (asked_less kind) at continuation (∥∥₁_map t (λ x. x.0)), inside-anyway kind at continuation (∥∥₁_map t (λ x. x.1)))
      ranks-anyway at (code.char c) t = lowers-anyway _ at (suc at) t
      ranks-anyway at (code.char_set cs) t = lowers-anyway _ at (suc at) t
      ranks-anyway at (code.byte_set bs) t = lowers-anyway _ at (suc at) t
      ranks-anyway at (code.byte_seq bs) t = lowers-anyway _ at (suc at) t
      ranks-anyway at code.any t = lowers-anyway _ at (suc at) t
      ranks-anyway at code.any_in_line t = lowers-anyway _ at (suc at) t
      ranks-anyway at (code.bracket k) t = lowers-anyway _ at (suc at) t
      ranks-anyway at (code.ascii_bracket cs) t = lowers-anyway _ at (suc at) t
      ranks-anyway at (code.line_start multiline) t = lowers-anyway _ at (suc at) t
      ranks-anyway at (code.line_end multiline) t = lowers-anyway _ at (suc at) t
      ranks-anyway at (code.boundary inverted folded) t = lowers-anyway _ at (suc at) t
      ranks-anyway at (code.begin_group k) t = lowers-anyway _ at (suc at) t
      ranks-anyway at (code.end_group k) t = lowers-anyway _ at (suc at) t
      ranks-anyway at (code.reset_group k) t = lowers-anyway _ at (suc at) t

-- ---- a linear program

few-anyway : (least most : ℕ) → ∥ AreFew least most ∥₁ → AreFew least most
few-anyway least most t = (∥∥₁_elim t le_prop (λ x. x.0), by_order (cases_lt few most))
  where
    by_order : (few < most) ⊎ (most ≤ few) → (too_long ≤ most) ⊎ (most ≤ few)
    by_order (inr low) = inr low
    by_order (inl high) = inl (∥∥₁_elim t le_prop (λ x. elim x.1 [ inl all ↦ all | inr low ↦ absurd (omega (arith, high, low)) ]))

bounded-anyway : (f : LoopFields) → ∥ IsUnboundedOrOnce f ∥₁ → IsUnboundedOrOnce f
bounded-anyway f t = by_order (cases_lt f.most too_long)
  where
    by_order : (f.most < too_long) ⊎ (too_long ≤ f.most) → IsUnboundedOrOnce f
    by_order (inr all) = inl all
    by_order (inl low) = inr (∥∥₁_elim t (nat-set f.most 1) (λ x. elim x [ inl all ↦ absurd (omega (arith, low, all)) | inr once ↦ once ]))

free-anyway : (program : Program) (singles : Bool) (at first last continuation : ℕ) → ∥ AreLoopFree program singles at first last continuation ∥₁
    → AreLoopFree program singles at first last continuation
free-anyway program singles at first last continuation t = record {
  some = ∥∥₁_elim t le_prop (λ x. x.some);
  leads = λ b i after ahead here. ∥∥₁_elim t (bool-set (leads_through singles first last continuation b i) true) (λ x. x.leads b i after ahead here);
}

stay-anyway : (program : Program) (at first last continuation : ℕ) → ∥ StayInside program at first last continuation ∥₁ → StayInside program at first last continuation
stay-anyway program at first last continuation t = record {
  some = ∥∥₁_elim t le_prop (λ x. x.some);
  stays = λ b i after ahead here. ∥∥₁_elim t (bool-set (stays_inside first last at continuation b i) true) (λ x. x.stays b i after ahead here);
}

loops-anyway : (program : Program) (at first last continuation : ℕ) → ∥ MayLoop program at first last continuation ∥₁ → MayLoop program at first last continuation
loops-anyway program at first last continuation t = record {
  once = ∥∥₁_elim t (bool-set (is_visited_once program at) true) (λ x. x.once);
  stay = stay-anyway program at first last continuation (∥∥₁_map t (λ x. x.stay));
  alone = λ b i after ahead here. ∥∥₁_elim t (bool-set (leaves_none i) true) (λ x. x.alone b i after ahead here);
}

-- of contents with a repetition of more than a character, or without
leaving-anyway : (repeats : Bool) (h : Heights) (program : Program) (at first last continuation : ℕ) → ∥ AreLeaving repeats h program at first last continuation ∥₁
    → AreLeaving repeats h program at first last continuation
leaving-anyway true h program at first last continuation t = loops-anyway program at first last continuation t
leaving-anyway false h program at first last continuation t =
    (free-anyway program (is_visited_once program at) at first last continuation (∥∥₁_map t (λ x. x.0)), ∥∥₁_elim t le_prop (λ x. x.1))

leaves-anyway : (h : Heights) (program : Program) (at : ℕ) (kind : Submatch) (first last continuation : ℕ) → ∥ LeavesGroups h program at kind first last continuation ∥₁
    → LeavesGroups h program at kind first last continuation
leaves-anyway h program at (lookaround true backward) first last continuation t = tt
leaves-anyway h program at (lookaround false backward) first last continuation t =
    λ some. leaving-anyway (repeats_inside program at continuation) h program at first last continuation (∥∥₁_map t (λ x. x some))
leaves-anyway h program at atomic first last continuation t = stay-anyway program at first last continuation t

-- one of two addresses is worked out before the other
before-anyway : (h : Heights) (a b : ℕ) → ∥ IsBefore h a b ∥₁ → IsBefore h a b
before-anyway h a b t = by_level (cases_lt (level_at h b) (level_at h a))
  where
    by_level : (level_at h b < level_at h a) ⊎ (level_at h a ≤ level_at h b) → IsBefore h a b
    by_level (inl deeper) = inl deeper
    by_level (inr low) = inr (
      ∥∥₁_elim t (nat-set (level_at h b) (level_at h a)) (λ x. elim x [ inl deeper ↦ absurd (omega (arith, low, deeper)) | inr lower ↦ lower.0 ]),
      ∥∥₁_elim t le_prop (λ x. elim x [ inl deeper ↦ absurd (omega (arith, low, deeper)) | inr lower ↦ lower.1 ]),
    )

placed-anyway : (h : Heights) (count : ℕ) → ∥ ArePlaced h count ∥₁ → ArePlaced h count
placed-anyway h count t = record {
  low = λ at less. ∥∥₁_elim t le_prop (λ x. x.low at less);
  index = λ at less. ∥∥₁_elim t le_prop (λ x. x.index at less);
  address = λ at less. ∥∥₁_elim t (nat-set _ at) (λ x. x.address at less);
  there = λ k less. ∥∥₁_elim t le_prop (λ x. x.there k less);
  before = λ j k less within. before-anyway h (address_at h j) (address_at h k) (∥∥₁_map t (λ x. x.before j k less within));
}

linear-anyway : (flow : Flow) (h : Heights) (program : Program) → ∥ IsLinear flow h program ∥₁ → IsLinear flow h program
linear-anyway flow h program t = record {
  flows = λ at i calm here. flows-anyway program flow at i (∥∥₁_map t (λ x. x.flows at i calm here));
  calm = λ at less. ∥∥₁_elim t (bool-set (flow.calm at) true) (λ x. x.calm at less);
  silent = λ id live. ∥∥₁_elim t never-prop (λ x. x.silent id live);
  ranked = λ at i calm here. ranks-anyway (ranking_of h) flow program at i (∥∥₁_map t (λ x. x.ranked at i calm here));
  placed = placed-anyway h (length program.instructions) (∥∥₁_map t (λ x. x.placed));
  count = ∥∥₁_elim t (nat-set _ _) (λ x. x.count);
  ranks = ∥∥₁_elim t (nat-set _ _) (λ x. x.ranks);
  some = ∥∥₁_elim t le_prop (λ x. x.some);
  begins = ∥∥₁_elim t (bool-set _ true) (λ x. x.begins);
  unbounded = λ at f here. bounded-anyway f (∥∥₁_map t (λ x. x.unbounded at f here));
  counts = λ at least most greedy here. few-anyway least most (∥∥₁_map t (λ x. x.counts at least most greedy here));
  leaves = λ at first last continuation kind here. leaves-anyway h program at kind first last continuation (∥∥₁_map t (λ x. x.leaves at first last continuation kind here));
  once = ∥∥₁_elim t le_prop (λ x. x.once);
}

-- ---- what is told of a text

module _ (program : Program) (input : Input) (dir : Direction) (ss : List Whole) (b : Bool) where
  -- how a run ends is known by its computation, which is one
  abbrev ends-computed : Type 0
  ends-computed = (c : IsComputed program input dir ss) × (is_some c.0.1 ≡ b)

  ends-computed-prop : IsProp ends-computed
  ends-computed-prop x y = Σ_prop_path (λ (c : IsComputed program input dir ss). bool-set (is_some c.0.1) b) (IsComputed-prop program input dir ss x.0 y.0)

  ends-anyway : ∥ Ends program input dir ss b ∥₁ → Ends program input dir ss b
  ends-anyway t =
      let ((a, runs), is) = ∥∥₁_elim t ends-computed-prop (λ x. (((x.0, x.1), λ f more. runs-computed program input x.2 f more), x.3)) in
      (a.0, a.1, computed-runs program input (suc a.0) dir ss a.0 a.1 (runs (suc a.0) (omega arith)), is)

told-anyway : (table : LinearTable) (program : Program) (v : View) (t : TextTable) → ∥ IsTold table program v t ∥₁ → IsTold table program v t
told-anyway table program v t kept = record {
  right = λ at q low less loops groups running reads.
      ends-anyway program (input_of v) (way_of (flow_in table) (heights_in table) program v at) (whole at q loops groups ∷ []) (told_by t.answers at q)
      (∥∥₁_map kept (λ x. x.right at q low less loops groups running reads));
  exits = λ at o low less least most greedy body here there place. ∥∥₁_elim kept (bool-set _ _) (λ x. x.exits at o low less least most greedy body here there place);
  blank = ∥∥₁_elim kept (nat-set _ _) (λ x. x.blank);
}

-- ---- what an executor turns to

module _ (program : Program) (v : View) where
  turns-anyway : (table : LinearTable) (of_text : Option TextTable) → ∥ TurnsBy program v table of_text ∥₁ → TurnsBy program v table of_text
  turns-anyway table of_text kept = record {
    linear = linear-anyway (flow_in table) (heights_in table) program (∥∥₁_map kept (λ x. x.linear));
    short = ∥∥₁_elim kept le_prop (λ x. x.short);
    told = by_told of_text (∥∥₁_map kept (λ x. x.told));
  }
    where
      by_told : (o : Option TextTable) → ∥ IfSome o (IsTold table program v) ∥₁ → IfSome o (IsTold table program v)
      by_told None k = tt
      by_told (Some t) k = told-anyway table program v t k

  turning-anyway : (o : Option Turning) → ∥ IfSome o (Turns program v) ∥₁ → IfSome o (Turns program v)
  turning-anyway None kept = tt
  turning-anyway (Some t) kept = turns-anyway t.table.now t.told kept

  tables-anyway : (o : Option Tables) → ∥ IfSome o (GoesOnBy program v) ∥₁ → IfSome o (GoesOnBy program v)
  tables-anyway None kept = tt
  tables-anyway (Some t) kept = turns-anyway t.table (Some t.told) kept

  module _ (turning : Option Turning) (tables : Option Tables) (kept : ∥ TurnsTo program v turning tables ∥₁) where
    -- the table that was lent
    pub lent-anyway : (t : Turning) → turning ≡ Some t → Turns program v t
    lent-anyway t is = subst (λ o. IfSome o (Turns program v)) is (turning-anyway turning (∥∥₁_map kept (λ x. x.lent)))

    -- the tables of its own
    pub own-anyway : (t : Tables) → tables ≡ Some t → GoesOnBy program v t
    own-anyway t is = subst (λ o. IfSome o (GoesOnBy program v)) is (tables-anyway tables (∥∥₁_map kept (λ x. x.own)))

    -- what was lent is used
    pub lent-again : (o : Option Turning) → IfSome o (Turns program v) → ∥ TurnsTo program v o tables ∥₁
    lent-again o so = ∥∥₁_map kept (λ x. record { lent = so; own = x.own })

    -- it comes to have tables of its own, or has none any more
    pub owns-again : (o : Option Tables) → IfSome o (GoesOnBy program v) → ∥ TurnsTo program v turning o ∥₁
    owns-again o so = ∥∥₁_map kept (λ x. record { lent = x.lent; own = so })

-- what is so of tables that were made is so where there are none if they were not
pub own-made : {E : Type 0} (P : Tables → Type 0) (r : Result (Option Tables) E) (o : Option Tables) → o ≡ result_unwrap_or r None → IfOk r (λ made. IfSome made P) → IfSome o P
own-made P (Ok made) o is so = subst (λ x. IfSome x P) (sym is) so
own-made P (Err e) o is so = subst (λ x. IfSome x P) (sym is) tt

-- a program is linear by the table that was made of its instructions
pub made-linear : (program : Program) (insns : List Insn) (made : Option LinearTable) (table : LinearTable) → made ≡ Some table → program.instructions ≡ map instruction insns
    → IfSome made (λ t. (p : Program) → p.instructions ≡ map instruction insns → IsLinear (flow_in t) (heights_in t) p) → IsLinear (flow_in table) (heights_in table) program
made-linear program insns made table is same known =
    subst (λ o. IfSome o (λ t. (p : Program) → p.instructions ≡ map instruction insns → IsLinear (flow_in t) (heights_in t) p)) is known program same

-- a text whose table fits is not too long
pub short-told : (table : LinearTable) (v : View) (units : ℕ) → units ≡ length v.units → fits_told table units ≡ true → suc (length v.units) < too_long
short-told table v units same fits = let low : units < most_told = ltb-true units most_told (and_parts (nat_lt units most_told) _ fits).0 in omega (arith, low, same)

-- what is made of the table of a linear program is turned to
pub turns-made : (program : Program) (v : View) (table : Option LinearTable) (o : Option Turning) (units : ℕ) → units ≡ length v.units → TellsLinear program table
    → IfSome o (λ t. (table ≡ Some t.table.now) × (fits_told t.table.now units ≡ true)) → IfSome o (λ t. (t.told ≡ None) × (t.steps ≡ 0)) → ∥ IfSome o (Turns program v) ∥₁
turns-made program v table None units same tells made untold = ∣ tt ∣₁
turns-made program v table (Some t) units same tells (is, fits) none =
    let given : TellsLinear program (Some t.table.now) = subst (TellsLinear program) is tells in
    ∥∥₁_map given (λ linear. record {
      linear = linear;
      short = short-told t.table.now v units same fits;
      told = subst (λ o. IfSome o (IsTold t.table.now program v)) (sym none.0) tt;
    })

-- ---- where nothing is counted

pub search-spends : (program : Program) (v : View) (searchable : IsSearchable program v) (all : AreOfKind v.kind v.units) (at : ℕ) → IsAtPlace (reading_of v) at → (b : Option ℕ)
    → CountsSearch program v at b b
search-spends program v searchable all at place b = counts-over program v at at b b (counts-first program v searchable all at place b)

pub run-spends : (program : Program) (v : View) (searchable : IsSearchable program v) (at : ℕ) → IsAtPlace (reading_of v) at → (b : Option ℕ) → CountsRun program v at b b
run-spends program v searchable at place b =
    let ends = searchable.ends at place in (
      ends.0.0,
      ends.0.1,
      computed-runs program (input_of v) (suc ends.0.0) _ _ ends.0.0 ends.0.1 (ends.1 (suc ends.0.0) (omega arith)),
      spends-more b b 0 (most_counted v ends.0.0) (omega arith) (spends-none b),
    )

-- what is known anyway is known of a result
pub if-found : {T E X : Type 0} (r : Result T E) → X → IfOk r (λ _. X)
if-found (Ok x) h = h
if-found (Err e) h = tt

-- an error that came of refused memory says nothing of steps
pub if-refused : {T E : Type 0} {Gives Over : E → Type 0} (P : Type 0) (r : Result T E) → IsErrAnd r Gives → ((e : E) → Gives e → Over e → ⊥) → IfErr r (λ e. Over e → P)
if-refused P (Ok x) gives never = tt
if-refused P (Err e) gives never = λ over. absurd (never e gives over)
