-- A program that passes the test is linear.
use Rattle.std.specs.Prelude.{IfSome, nat_le, nat_lt}
use Rattle.std.proofs.Common.{◌≡◌, ℕ, suc, ◌+◌, ◌-◌, ◌<◌, ◌≤◌, ◌⊎◌, inl, inr, ◌&&◌, ◌||◌, ◌==◌, Bool, true, false, List, [], ◌∷◌, length, get_or, Option, Some, if◌then◌else◌, subst, arith}
use Rattle.std.proofs.lemmas.Bool.{and_parts, or_cases, eqb-true, ltb-true, leb-true}
use Rattle.std.proofs.lemmas.Option.{slice_get-get_or}
use Rattle.regress_meaning.specs.Text.{holds}
use Rattle.regress_front_nodes.specs.Trees.{Submatch, lookaround, atomic}
use Rattle.regress_engine_insn.specs.Instructions.{LoopFields, Instruction, Program, Stands}
use Rattle.regress_engine_insn.specs.Instructions as code
use Rattle.regress_engine_memory.specs.Deciding.{Table, calm_at, flow_of, is_flow, live_at}
use Rattle.regress_engine_memory.specs.Passing.{all_pass}
use Rattle.regress_engine_memory.proofs.Deciding.{decides}
use Rattle.regress_engine_memory.proofs.TableLemmas.{each-passes}
use Rattle.regress_engine_linear.specs.Linear.{AreFew, AreLeaving, AreLoopFree, IsLinear, LeavesGroups, MayLoop, StayInside, few, is_visited_once, leaves_none, loop_sizes, repeats_inside, too_long}
use Rattle.regress_engine_linear.specs.LinearTests.{are_allowed, are_short, have_ranks, fits_at, is_allowed, is_allowed_inside, is_alone, is_fit, is_unbounded, leaves_groups, may_loop, may_stand}
use Rattle.regress_engine_linear.specs.RankTables.{Heights, ArePlaced, are_ranked, forward_at, rank_at}
use Rattle.regress_engine_linear.proofs.Ranking.{ranks-decide}

-- what is some is so
pub if-some : {T : Type 0} (P : T → Type 0) (x : Option T) (y : T) → x ≡ Some y → IfSome x P → P y
if-some P x y e known = subst (λ z. IfSome z P) e known

module _ (t : Table) (h : Heights) (program : Program) (flows : is_flow t program ≡ true) (ranked : are_ranked h t program ≡ true) (placed : ArePlaced h (length program.instructions))
    (fit : is_fit t h program ≡ true) (leave : all_pass (leaves_groups h program) 0 program.instructions ≡ true)
    (short : are_short program ≡ true) where
  abbrev rest : Bool
  rest = (length (live_at t 0) == 0) && (forward_at h 0 && (nat_lt 0 (length h.ranks) && ((length h.ranks == length program.instructions) && (length h.order == length program.instructions))))

  one : (at : ℕ) (i : Instruction) → Stands program at i → (calm_at t at ≡ true) × (may_stand i ≡ true)
  one at i here =
      and_parts (calm_at t at) (may_stand i) (each-passes (fits_at t) program (and_parts (all_pass (fits_at t) 0 program.instructions) rest fit).0 at i here)

  none-live : length (live_at t 0) ≡ 0 → (id : ℕ) → holds (live_at t 0) id ≡ true → ⊥
  none-live none id is = by_list (live_at t 0) none is
    where
      by_list : (ids : List ℕ) → length ids ≡ 0 → holds ids id ≡ true → ⊥
      by_list [] e live = cc live
      by_list (x ∷ ids) e live = omega (arith, e)

  counted : (least most : ℕ) → (nat_le least few && (is_unbounded most || nat_le most few)) ≡ true → AreFew least most
  counted least most e =
      let both = and_parts (nat_le least few) (is_unbounded most || nat_le most few) e in (
        leb-true least few both.0,
        elim (or_cases (is_unbounded most) (nat_le most few) both.1) [
          | inl is ↦ inl (leb-true too_long most is)
          | inr is ↦ inr (leb-true most few is)
        ],
      )

  bounded : (most : ℕ) → (is_unbounded most || (most == 1)) ≡ true → (too_long ≤ most) ⊎ (most ≡ 1)
  bounded most e = elim (or_cases (is_unbounded most) (most == 1) e) [
    | inl is ↦ inl (leb-true too_long most is)
    | inr is ↦ inr (eqb-true most 1 is)
  ]

  -- what is so inside is so of what stands there
  inside : (at end k : ℕ) (b : Bool) → at < k → k < end → (nat_le k at || (nat_le end k || b)) ≡ true → b ≡ true
  inside at end k b after ahead passes = elim (or_cases (nat_le k at) (nat_le end k || b) passes) [
    | inl low ↦ let x = leb-true k at low in absurd (omega (arith, x, after))
    | inr others ↦ elim (or_cases (nat_le end k) b others) [
      | inl high ↦ let x = leb-true end k high in absurd (omega (arith, x, ahead))
      | inr is ↦ is
    ]
  ]

  allowed : (loops singles : Bool) (at first last end : ℕ) → are_allowed program loops singles at first last end ≡ true
      → (suc at < end) × ((b : ℕ) (i : Instruction) → at < b → b < end → Stands program b i → is_allowed loops singles at first last end b i ≡ true)
  allowed loops singles at first last end e =
      let a = and_parts (nat_lt (suc at) end) (all_pass (is_allowed_inside loops singles at first last end) 0 program.instructions) e in (
        ltb-true (suc at) end a.0,
        λ k i after ahead here. inside at end k (is_allowed loops singles at first last end k i) after ahead
            (each-passes (is_allowed_inside loops singles at first last end) program a.1 k i here),
      )

  loop-free : (singles : Bool) (at first last end : ℕ) → are_allowed program false singles at first last end ≡ true → AreLoopFree program singles at first last end
  loop-free singles at first last end e = let (some, leads) = allowed false singles at first last end e in record { some = some; leads = leads }

  stay : (at first last end : ℕ) → are_allowed program true false at first last end ≡ true → StayInside program at first last end
  stay at first last end e = let (some, stays) = allowed true false at first last end e in record { some = some; stays = stays }

  loops : (at first last end : ℕ) → may_loop program at end first last ≡ true → MayLoop program at first last end
  loops at first last end e =
      let a = and_parts (is_visited_once program at) (are_allowed program true false at first last end && all_pass (is_alone program at end) 0 program.instructions) e in
      let b = and_parts (are_allowed program true false at first last end) (all_pass (is_alone program at end) 0 program.instructions) a.1 in
      record {
        once = a.0;
        stay = stay at first last end b.0;
        alone = λ k i after ahead here. inside at end k (leaves_none i) after ahead (each-passes (is_alone program at end) program b.1 k i here);
      }

  -- of contents with a repetition of more than a character, or without
  leaving-so : (repeats : Bool) (at first last end : ℕ) → (if repeats then may_loop program at end first last
      else (are_allowed program false (is_visited_once program at) at first last end && have_ranks h at end)) ≡ true
      → AreLeaving repeats h program at first last end
  leaving-so true at first last end e = loops at first last end e
  leaving-so false at first last end e =
      let (free, high) = and_parts (are_allowed program false (is_visited_once program at) at first last end) (have_ranks h at end) e in
      (loop-free (is_visited_once program at) at first last end free, leb-true (rank_at h end + (end - at)) (rank_at h at) high)

  leaving : (at first last end : ℕ) (kind : Submatch) → Stands program at (code.submatch kind first last end) → LeavesGroups h program at kind first last end
  leaving at first last end (lookaround true backward) here = tt
  leaving at first last end (lookaround false backward) here = λ some. elim (or_cases (nat_le last first) (if repeats_inside program at end then may_loop program at end first last
      else (are_allowed program false (is_visited_once program at) at first last end && have_ranks h at end))
      (each-passes (leaves_groups h program) program leave at (code.submatch (lookaround false backward) first last end) here)) [
        | inl none ↦ let x = leb-true last first none in absurd (omega (arith, x, some))
        | inr so ↦ leaving-so (repeats_inside program at end) at first last end so
      ]
  leaving at first last end atomic here = stay at first last end (each-passes (leaves_groups h program) program leave at (code.submatch atomic first last end) here)

  pub linear-decides : IsLinear (flow_of t) h program
  linear-decides =
      let a = and_parts (all_pass (fits_at t) 0 program.instructions) rest fit in
      let b = and_parts (length (live_at t 0) == 0) _ a.1 in
      let c = and_parts (forward_at h 0) _ b.1 in
      let some = and_parts (nat_lt 0 (length h.ranks)) _ c.1 in
      let d = and_parts (length h.ranks == length program.instructions) (length h.order == length program.instructions) some.1 in
      let count : length h.ranks ≡ length program.instructions = eqb-true (length h.ranks) (length program.instructions) d.0 in
      let more = ltb-true 0 (length h.ranks) some.0 in
      record {
        flows = decides t program flows;
        calm = λ at within. (one at (get_or program.instructions at code.fail) (slice_get-get_or program.instructions at code.fail within)).0;
        silent = none-live (eqb-true (length (live_at t 0)) 0 b.0);
        ranked = ranks-decide h t program ranked;
        placed = placed;
        count = count;
        some = omega (arith, count, more);
        ranks = eqb-true (length h.order) (length program.instructions) d.1;
        begins = c.0;
        unbounded = λ at f here. bounded f.most (one at (code.enter_loop f) here).1;
        counts = λ at least most greedy here. counted least most (one at (code.single_loop least most greedy) here).1;
        leaves = leaving;
        once = leb-true (loop_sizes program 0 program.instructions) (length program.instructions) short;
      }
