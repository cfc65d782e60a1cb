-- What leads nowhere from an address and an offset.
use Rattle.std.specs.Prelude.{slice_set, get_or, nat_lt, nat_le}
use Rattle.std.proofs.Common.{◌≡◌, ◌⊎◌, inl, inr, ℕ, zero, suc, ◌+◌, ◌-◌, ◌<◌, ◌≤◌, Bool, true, false, List, [], ◌∷◌, ◌++◌, length, Option, Some, None, if◌then◌else◌, refl, sym, ap, ◌∙◌, subst, arith, get_or-set_same, length-set}
use Rattle.std.proofs.lemmas.Bool.{leb-true, cases_lt}
use Rattle.std.proofs.lemmas.List.{get_or_past}
use Rattle.regress_meaning.specs.Meaning.{Direction, Forward, Backward}
use Rattle.regress_meaning.specs.Inputs.{Input}
use Rattle.regress_front_nodes.specs.Trees.{atomic}
use Rattle.regress_engine_insn.specs.Instructions.{LoopFields, Instruction, Program, Stands, surplus}
use Rattle.regress_engine_insn.specs.Instructions as code
use Rattle.regress_engine_runs.specs.States.{Marks, Whole, unset, begun, ended}
use Rattle.regress_engine_runs.specs.Runs.{room, successors, moved_to, ordered, one_more, count_of, gap, advance, as_far, one_by_one, given_back, counted}
use Rattle.regress_engine_runs.specs.UndoStack.{Work, whole, at_each}
use Rattle.regress_engine_runs.proofs.GivingBack.{back_to-end}
use Rattle.regress_engine_runs.proofs.Iterations.{after-all, after-stops, far-all, far-stops}
use Rattle.regress_engine_search.specs.Ready.{is_simple}
use Rattle.regress_engine_search.specs.Tasks.{Leads}
use Rattle.regress_engine_search.proofs.InsnLemmas.{simple-plain, simple-successors, single-successors}
use Rattle.regress_engine_search.proofs.TaskLemmas.{leads-then, leads-later}
use Rattle.regress_engine_singles.specs.Failing.{Fail, failed, steps, inner, IsDead, TakesNothing}
use Rattle.regress_engine_singles.proofs.Failures.{fail-both, leads-without}

-- where a repetition begins no more iterations have begun than are taken as done
few-begun : (loops : List (ℕ × ℕ)) (id n o : ℕ) → (get_or (slice_set loops id (n, o)) id (0, 0)).0 ≤ n
few-begun loops id n o = by_room (cases_lt id (length loops))
  where
    by_room : (id < length loops) ⊎ (length loops ≤ id) → (get_or (slice_set loops id (n, o)) id (0, 0)).0 ≤ n
    by_room (inl within) = let same = ap (λ (x : ℕ × ℕ). x.0) (get_or-set_same loops id (n, o) (0, 0) within) in omega (arith, same)
    by_room (inr past) =
        let size = length-set loops id (n, o) in
        let none = ap (λ (x : ℕ × ℕ). x.0) (get_or_past (slice_set loops id (n, o)) id (0, 0) (omega (arith, size, past))) in
        omega (arith, none)

-- nothing lies between an offset and itself
no-gap : (dir : Direction) (o : ℕ) → gap dir o o ≡ 0
no-gap Forward o = omega arith
no-gap Backward o = omega arith

module _ (program : Program) (input : Input) where
  -- where the next address is said otherwise
  next-dead : (dir : Direction) (at o : ℕ) → IsDead program input dir (at + 1) o → IsDead program input dir (suc at) o
  next-dead dir at o dead = let next : at + 1 ≡ suc at = omega arith in subst (λ a. IsDead program input dir a o) next dead

  -- what changes nothing but the offset leads nowhere, where no match can be reached from behind what it takes
  pub step-dead : (dir : Direction) (at o : ℕ) (i : Instruction) → Stands program at i → is_simple i ≡ true
      → ((groups : List Marks) (q : ℕ) → advance program input i dir groups o ≡ Some q → IsDead program input dir (at + 1) q) → IsDead program input dir at o
  step-dead dir at o i here simple behind loops groups =
      steps here (simple-plain i simple)
      (subst (λ (ss : List Whole). Fail program input dir (ss ++ [])) (sym (simple-successors program input i dir s simple)) (by_found (advance program input i dir groups o) refl))
    where
      s : Whole
      s = whole at o loops groups

      by_found : (x : Option ℕ) → advance program input i dir groups o ≡ x → Fail program input dir (moved_to s x ++ [])
      by_found None e = failed
      by_found (Some q) e = next-dead dir at q (behind groups q e) loops groups

  -- so does what takes nothing
  pub simple-dead : (dir : Direction) (at o : ℕ) (i : Instruction) → Stands program at i → is_simple i ≡ true → TakesNothing program input dir i o → IsDead program input dir at o
  simple-dead dir at o i here simple none = step-dead dir at o i here simple (λ groups q e. let no : None ≡ Some q = none groups ∙ e in absurd (cc no))

  -- and what takes something, before what leads nowhere
  pub taken-dead : (dir : Direction) (at o q : ℕ) (i : Instruction) → Stands program at i → is_simple i ≡ true
      → ((groups : List Marks) → Some q ≡ advance program input i dir groups o) → IsDead program input dir (at + 1) q → IsDead program input dir at o
  taken-dead dir at o q i here simple some behind = step-dead dir at o i here simple (λ groups r e.
      let is : Some q ≡ Some r = some groups ∙ e in
      let same : q ≡ r = ap (λ (x : Option ℕ). elim x [ None ↦ 0 | Some y ↦ y ]) is in
      subst (IsDead program input dir (at + 1)) same behind)

  -- nor do two ways that both lead nowhere
  pub alt-dead : (dir : Direction) (at o target : ℕ) → Stands program at (code.alt target) → IsDead program input dir (at + 1) o → IsDead program input dir target o → IsDead program input dir at o
  alt-dead dir at o target here first second loops groups =
      steps here refl (fail-both program input (next-dead dir at o first loops groups) (whole target o loops groups ∷ []) (second loops groups))

  -- nor does a jump to what leads nowhere
  pub jump-dead : (dir : Direction) (at o target : ℕ) → Stands program at (code.jump target) → IsDead program input dir target o → IsDead program input dir at o
  jump-dead dir at o target here there loops groups = steps here refl (there loops groups)

  -- nor does the begin of a repetition, where neither its body nor the way out does
  pub enter-dead : (dir : Direction) (at o : ℕ) (f : LoopFields) → Stands program at (code.enter_loop f) → IsDead program input dir (at + 1) o → (f.least ≡ 0 → IsDead program input dir f.exit o)
      → IsDead program input dir at o
  enter-dead dir at o f here body out loops groups =
      let done : ℕ = surplus f.least (room (length input.units) dir o) in
      let begun : List (ℕ × ℕ) = slice_set loops f.loop_id (done, o) in
      let s : Whole = whole at o begun groups in
      steps here refl
      (fail-both program input
      (either f.greedy (nat_lt (count_of f.loop_id s) f.most) (nat_le f.least (count_of f.loop_id s)) (one_more f.loop_id at s) (whole f.exit o begun groups)
      (next-dead dir at o body (slice_set begun f.loop_id (suc (count_of f.loop_id s), o)) groups)
      (λ e. let few = few-begun loops f.loop_id done o in
      let enough = leb-true f.least (count_of f.loop_id s) e in
      out (omega (arith, few, enough)) begun groups))
      [] failed)
    where
      either : (greedy more enough : Bool) (s t : Whole) → Fail program input dir (s ∷ []) → (enough ≡ true → Fail program input dir (t ∷ [])) → Fail program input dir (ordered greedy more enough s t)
      either true true true s t first second = fail-both program input first (t ∷ []) (second refl)
      either true true false s t first second = first
      either true false true s t first second = second refl
      either true false false s t first second = failed
      either false true true s t first second = fail-both program input (second refl) (s ∷ []) first
      either false true false s t first second = first
      either false false true s t first second = second refl
      either false false false s t first second = failed

  -- nor does an atomic group whose contents lead nowhere
  pub atomic-dead : (dir : Direction) (at o first last continuation : ℕ) → Stands program at (code.submatch atomic first last continuation) → IsDead program input dir (at + 1) o
      → IsDead program input dir at o
  atomic-dead dir at o first last continuation here contents loops groups = inner here (next-dead dir at o contents loops groups) failed

  -- nor does the begin of a group before what leads nowhere
  pub begin-dead : (dir : Direction) (at o k : ℕ) → Stands program at (code.begin_group k) → IsDead program input dir (at + 1) o → IsDead program input dir at o
  begin-dead dir at o k here behind loops groups =
      steps here refl (next-dead dir at o behind loops (slice_set groups k (begun dir o (get_or groups k unset))))

  -- nor its end
  pub end-dead : (dir : Direction) (at o k : ℕ) → Stands program at (code.end_group k) → IsDead program input dir (at + 1) o → IsDead program input dir at o
  end-dead dir at o k here behind loops groups =
      steps here refl (next-dead dir at o behind loops (slice_set groups k (ended dir o (get_or groups k unset))))

  -- nor what unsets it
  pub reset-dead : (dir : Direction) (at o k : ℕ) → Stands program at (code.reset_group k) → IsDead program input dir (at + 1) o → IsDead program input dir at o
  reset-dead dir at o k here behind loops groups = steps here refl (next-dead dir at o behind loops (slice_set groups k unset))

  -- nor does a one-character loop all of whose ways lead nowhere
  pub ways-dead : (dir : Direction) (at o least most : ℕ) (greedy : Bool) (i : Instruction) → Stands program at (code.single_loop least most greedy) → Stands program (at + 1) i
      → ((loops : List (ℕ × ℕ)) (groups : List Marks) → Fail program input dir (at_each program input (at + 2) loops groups (counted program input least most greedy i dir groups o)))
      → IsDead program input dir at o
  ways-dead dir at o least most greedy i here body ways loops groups =
      let two : at + 2 ≡ suc (suc at) = omega arith in
      let os : List ℕ = counted program input least most greedy i dir groups o in
      let left : successors program input (code.single_loop least most greedy) dir (whole at o loops groups) ≡ at_each program input (at + 2) loops groups os =
      single-successors program input dir (whole at o loops groups) least most greedy i body ∙ ap (λ a. at_each program input a loops groups os) (sym two) in
      steps here refl (subst (λ (ss : List Whole). Fail program input dir (ss ++ [])) (sym left)
      (fail-both program input (ways loops groups) [] failed))

  -- so one of what takes nothing, where it is done at least once
  pub loop-dead : (dir : Direction) (at o least most : ℕ) (greedy : Bool) (i : Instruction) → Stands program at (code.single_loop least most greedy) → Stands program (at + 1) i → 0 < least
      → TakesNothing program input dir i o → IsDead program input dir at o
  loop-dead dir at o least most greedy i here body some none =
      ways-dead dir at o least most greedy i here body (λ loops groups.
      subst (λ (x : Option ℕ). Fail program input dir (at_each program input (at + 2) loops groups (elim x [
        | None ↦ []
        | Some near ↦ if greedy then given_back input dir near (as_far program input (most - least) i dir groups near) else one_by_one program input (most - least) i dir groups near
      ]))) (after-stops program input i dir groups least o some (none groups)) failed)

  -- what takes nothing is done no further
  one-stops : (dir : Direction) (groups : List Marks) (o n : ℕ) (i : Instruction) → None ≡ advance program input i dir groups o → one_by_one program input n i dir groups o ≡ o ∷ []
  unfolding one_by_one
  one-stops dir groups o zero i stops = refl
  one-stops dir groups o (suc n) i stops = ap (λ (x : Option ℕ). o ∷ elim x [ None ↦ [] | Some q ↦ one_by_one program input n i dir groups q ]) (sym stops)

  -- so its loop leads to where it begins
  counted-none : (dir : Direction) (groups : List Marks) (o least most : ℕ) (greedy : Bool) (i : Instruction) → least ≤ 0 → None ≡ advance program input i dir groups o
      → counted program input least most greedy i dir groups o ≡ o ∷ []
  counted-none dir groups o least most greedy i none stops =
      ap (λ (x : Option ℕ). elim x [
        | None ↦ []
        | Some near ↦ if greedy then given_back input dir near (as_far program input (most - least) i dir groups near) else one_by_one program input (most - least) i dir groups near
      ]) (sym (after-all program input i dir groups least o none))
      ∙ by_way greedy
    where
      far : (n : ℕ) → as_far program input n i dir groups o ≡ o
      far zero = sym (far-all program input i dir groups 0 o (omega arith))
      far (suc n) = sym (far-stops program input i dir groups (suc n) o (omega arith) stops)

      by_way : (g : Bool) → (if g then given_back input dir o (as_far program input (most - least) i dir groups o) else one_by_one program input (most - least) i dir groups o) ≡ o ∷ []
      by_way true = ap (given_back input dir o) (far (most - least)) ∙ back_to-end input (gap dir o o) dir o o (no-gap dir o)
      by_way false = one-stops dir groups o (most - least) i stops

  -- so neither does one that need not be done lead anywhere, before what leads nowhere
  pub left-dead : (dir : Direction) (at o least most : ℕ) (greedy : Bool) (i : Instruction) → Stands program at (code.single_loop least most greedy) → Stands program (at + 1) i → least ≤ 0
      → TakesNothing program input dir i o → IsDead program input dir (at + 2) o → IsDead program input dir at o
  left-dead dir at o least most greedy i here body few none behind =
      ways-dead dir at o least most greedy i here body (λ loops groups.
      subst (λ (os : List ℕ). Fail program input dir (at_each program input (at + 2) loops groups os)) (sym (counted-none dir groups o least most greedy i few (none groups))) (behind loops groups))

  -- What leads nowhere leads to what is left to be done.
  pub leads-dead : (dir : Direction) (at o : ℕ) (loops : List (ℕ × ℕ)) (groups : List Marks) (work : Work) → IsDead program input dir at o
      → Leads program input 0 (record { dir = dir; states = whole at o loops groups ∷ []; work = work }) (record { dir = dir; states = []; work = work })
  leads-dead dir at o loops groups work dead =
      leads-then program input 0 0 (leads-later program input dir [] (whole at o loops groups ∷ []) work)
      (leads-without program input dir [] (whole at o loops groups ∷ []) work (dead loops groups))
