-- Iterations that are one character of a class each.
use Rattle.std.specs.Prelude.{get_or, slice_set, nat_lt, nat_le}
use Rattle.std.proofs.Common.{◌≡◌, ◌==◌, ◌&&◌, ◌⊎◌, inl, inr, ℕ, zero, suc, ◌+◌, ◌<◌, ◌≤◌, Bool, true, false, List, [], ◌∷◌, length, Option, Some, None, option_and_then, refl, sym, ap, ◌∙◌, subst, arith}
use Rattle.std.proofs.lemmas.Bool.Decides.{nat_tests}
use Rattle.std.proofs.lemmas.List.{set-set, set-get_or, get_or-set_same, length-set}
use Rattle.regress_meaning.specs.Inputs.{Input}
use Rattle.regress_meaning.specs.Meaning.{Forward}
use Rattle.regress_engine_insn.specs.Instructions.{Instruction, LoopFields, Program, Stands}
use Rattle.regress_engine_insn.specs.Instructions as code
use Rattle.regress_engine_input.specs.Views.{View, AreOfKind, direction_of, input_of, reading_of}
use Rattle.regress_engine_runs.specs.States.{Marks, Whole}
use Rattle.regress_engine_runs.specs.Runs.{advance, after_times, choices, count_of, is_idle, one_more, ordered}
use Rattle.regress_engine_runs.specs.Meets.{IsAtPlace, reads_character}
use Rattle.regress_engine_runs.specs.UndoStack.{Work, ReadOn, resume, whole, first_do, stands_for}
use Rattle.regress_engine_runs.proofs.ReadLemmas.{read_now}
use Rattle.regress_engine_search.specs.Search.{Suits}
use Rattle.regress_engine_search.specs.Tasks.{Task, Leads}
use Rattle.regress_engine_search.proofs.TaskLemmas.{leads-then, leads-same, leads-equal, leads-first, leads-later}
use Rattle.regress_engine_search.proofs.PlaceLemmas.{moves, next-place}
use Rattle.regress_engine_singles.specs.Failing.{IsDead}
use Rattle.regress_engine_analysis.specs.Planned.{is_class}
use Rattle.regress_engine_singles.proofs.Failures.{leads-without}
use Rattle.regress_engine_singles.proofs.LeadingLemmas.{class-simple, class-next}
use Rattle.regress_engine_singles.proofs.DeadLemmas.{alt-dead, leads-dead, simple-dead}
use Rattle.regress_engine_undo.specs.declared.undo.Spot.{Spot}
use Rattle.regress_engine_undo.specs.Held.{Held, loop_written, pushed}
use Rattle.regress_engine_undo.specs.Tasks.{task_of, task, state_at}
use Rattle.regress_engine_undo.proofs.LeadLemmas.{loop-kept}
use Rattle.regress_engine_undo.specs.Sound.{IsHeld}
use Rattle.regress_engine_undo.proofs.StepLemmas.{again-on, stay-more, loop-sound, fork-leads}
use Rattle.regress_engine_singles.specs.Sparing.{IsTurn}
use Rattle.regress_engine_undo.proofs.DispatchLemmas.{first-dead, second-dead, step-on, take-some, jump-on, again-on-step}

-- in fewer steps, and in fewer than that
leads-fewer : (program : Program) (input : Input) (k l : ℕ) (t u : Task) → l ≤ k → Leads program input k t u → Leads program input l t u
leads-fewer program input k l t u less leads = record {
  comes = λ n r h. let a = leads.comes n r h in let x = a.1 in (a.0, omega (arith, x, less), a.2);
  reads = leads.reads;
}

-- an iteration that began elsewhere is not idle
busy-at : (f : LoopFields) (c e o : ℕ) → e < o → (nat_lt f.least c && (e == o)) ≡ false
busy-at f c e o less = by_least (nat_lt f.least c)
  where
    other : (e == o) ≡ false
    other = grind (arith, nat_tests)

    by_least : (b : Bool) → (b && (e == o)) ≡ false
    by_least true = other
    by_least false = refl

module _ (program : Program) (v : View) (all : AreOfKind v.kind v.units) (at second begin again : ℕ) (i : Instruction) (f : LoopFields) (turn : IsTurn program v at second begin again i f)
    (here : Stands program at (code.alt second)) where
  abbrev input : Input
  input = input_of v

  -- a spot that is read forward
  abbrev pub ahead : (a o : ℕ) → Spot
  ahead a o = record { at = a; offset = o; forward = true }

  -- where one character ends
  abbrev pub takes : List Marks → ℕ → Option ℕ
  takes groups o = advance program input i Forward groups o

  further : (groups : List Marks) (o q : ℕ) → takes groups o ≡ Some q → o < q
  further groups o q e = let (c, next) = class-next program v i turn.class groups o q e in moves v Forward o c q next

  -- behind it is a place
  place-behind : (groups : List Marks) (o q : ℕ) → IsAtPlace (reading_of v) o → takes groups o ≡ Some q → IsAtPlace (reading_of v) q
  place-behind groups o q place e = let (c, next) = class-next program v i turn.class groups o q e in next-place v all Forward o c q place next

  -- the class takes no character
  pub turns-not : (h : Held) (o : ℕ) → ((groups : List Marks) → None ≡ takes groups o) → Leads program input 1 (task program input true (ahead at o) h) (task program input true (ahead second o) h)
  turns-not h o none = first-dead program input (ahead at o) h second here (simple-dead program input Forward (at + 1) o i turn.first (class-simple i turn.class) none)

  -- one character, up to the end of the iteration
  to-end : (h : Held) (o q : ℕ) → IsAtPlace (reading_of v) o → takes h.groups o ≡ Some q → Leads program input 1 (task program input true (ahead at o) h) (task program input true (ahead again q) h)
  to-end h o q place e =
      let two : at + 2 ≡ at + 1 + 1 = omega arith in
      leads-fewer program input 3 1 _ _ (omega arith)
      (leads-then program input 1 2 (second-dead program input (ahead at o) h second here (turn.way h.groups o q place e))
      (leads-then program input 1 1 (take-some program input i (ahead (at + 1) o) h q turn.first (class-simple i turn.class) e)
      (jump-on program input (ahead (at + 1 + 1) q) h again (subst (λ a. Stands program a (code.jump again)) two turn.jump))))

  busy : (h : Held) (c e o : ℕ) → get_or h.loops f.loop_id (0, 0) ≡ (c, e) → e < o → is_idle f (state_at (ahead again o) h) ≡ false
  busy h c e o entered less = ap (λ (x : ℕ × ℕ). nat_lt f.least x.0 && (x.1 == o)) entered ∙ busy-at f c e o less

  -- and one more begins
  one-turn : (h : Held) (c o q : ℕ) → IsAtPlace (reading_of v) o → get_or h.loops f.loop_id (0, 0) ≡ (c, o) → c < f.most → takes h.groups o ≡ Some q → IsDead program input Forward f.exit q
      → Leads program input 0 (task program input true (ahead at o) h) (task program input true (ahead at q) (loop_written f.loop_id (c + 1, q) h))
  one-turn h c o q place entered less e dead =
      let k : Held = loop_written f.loop_id (c + 1, q) h in
      let stays : Leads program input 0 (task_of program input (choices f begin (state_at (ahead again q) h)) (ahead again q) h) (task program input true (ahead (begin + 1) q) k) =
      stay-more f begin (ahead again q) h c (sym (ap (λ (x : ℕ × ℕ). x.0) entered)) k less refl program input dead in
      leads-fewer program input 2 0 _ _ (omega arith)
      (leads-then program input 1 1 (to-end h o q place e)
      (again-on-step program input (ahead again q) (ahead at q) h k true begin f turn.ends turn.begins
      (again-on f begin (ahead again q) h true (ahead at q) k (busy h c o q entered (further h.groups o q e)) program input
      (subst (λ a. Leads program input 0 (task_of program input (choices f begin (state_at (ahead again q) h)) (ahead again q) h) (task program input true (ahead a q) k)) turn.body stays))))

  -- what is to be done where a loop's data are written, with nothing recorded
  abbrev told : ℕ × ℕ → ℕ → Held → Task
  told x o h = record { dir = Forward; states = whole at o (slice_set h.loops f.loop_id x) h.groups ∷ []; work = stands_for program input Forward h.stack h.loops h.groups }

  pub told-written : (x : ℕ × ℕ) (o : ℕ) (h : Held) → told x o h ≡ task program input true (ahead at o) (loop_written f.loop_id x h)
  told-written x o h =
      ap (λ (w : Work). record { dir = Forward; states = whole at o (slice_set h.loops f.loop_id x) h.groups ∷ []; work = w }) (sym (loop-kept program input Forward h.stack h.loops h.groups f.loop_id x))

  told-same : (x : ℕ × ℕ) (o : ℕ) (h : Held) → get_or h.loops f.loop_id (0, 0) ≡ x → told x o h ≡ task program input true (ahead at o) h
  told-same x o h e =
      ap (λ (ls : List (ℕ × ℕ)). record { dir = Forward; states = whole at o ls h.groups ∷ []; work = stands_for program input Forward h.stack h.loops h.groups })
      (ap (slice_set h.loops f.loop_id) (sym e) ∙ set-get_or h.loops f.loop_id (0, 0))

  told-again : (x y : ℕ × ℕ) (o : ℕ) (h : Held) → told x o (loop_written f.loop_id y h) ≡ told x o h
  told-again x y o h =
      (λ j. record { dir = Forward; states = whole at o (set-set h.loops f.loop_id y x j) h.groups ∷ []; work = loop-kept program input Forward h.stack h.loops h.groups f.loop_id y j })

  -- at each offset that is come to the class takes a character
  takes-here : (groups : List Marks) (n q last past : ℕ) → after_times program input n i Forward groups q ≡ Some last → takes groups last ≡ Some past → (r : ℕ) × (takes groups q ≡ Some r)
  unfolding after_times
  takes-here groups zero q last past e one = let same : q ≡ last = cc in (past, ap (takes groups) same ∙ one)
  takes-here groups (suc n) q last past e one = by_found (takes groups q) e
    where
      by_found : (x : Option ℕ) → option_and_then (after_times program input n i Forward groups) x ≡ Some last → (r : ℕ) × (x ≡ Some r)
      by_found None f = absurd (cc f)
      by_found (Some r) f = (r, refl)

  -- and so is where they end
  last-place : (groups : List Marks) (n o last : ℕ) → IsAtPlace (reading_of v) o → after_times program input n i Forward groups o ≡ Some last → IsAtPlace (reading_of v) last
  unfolding after_times
  last-place groups zero o last place e = let same : o ≡ last = cc in subst (IsAtPlace (reading_of v)) same place
  last-place groups (suc n) o last place e = by_found (takes groups o) refl e (λ q. last-place groups n q last)
    where
      by_found : (x : Option ℕ) → takes groups o ≡ x → option_and_then (after_times program input n i Forward groups) x ≡ Some last
          → ((q : ℕ) → IsAtPlace (reading_of v) q → after_times program input n i Forward groups q ≡ Some last → IsAtPlace (reading_of v) last) → IsAtPlace (reading_of v) last
      by_found None g behind rest = absurd (cc behind)
      by_found (Some q) g behind rest = rest q (place-behind groups o q place g) behind

  -- So many iterations.
  turns : (n : ℕ) (h : Held) (c o last past : ℕ) → IsAtPlace (reading_of v) o → f.loop_id < length h.loops → get_or h.loops f.loop_id (0, 0) ≡ (c, o) → after_times program input n i Forward h.groups o ≡ Some last
      → takes h.groups last ≡ Some past → (0 < n → c + n ≤ f.most) → Leads program input 0 (task program input true (ahead at o) h) (told (c + n, last) last h)
  unfolding after_times
  turns zero h c o last past place there entered e one room =
      let same : o ≡ last = cc in
      let none : c ≡ c + 0 = omega arith in
      subst (λ n. Leads program input 0 (task program input true (ahead at o) h) (told (n, last) last h)) none
      (subst (λ p. Leads program input 0 (task program input true (ahead at o) h) (told (c, p) p h)) same
      (leads-equal program input _ _ (sym (told-same (c, o) o h entered))))
  turns (suc n) h c o last past place there entered e one room =
      by_found (takes h.groups o) refl e (λ k d q. turns n k d q last past)
    where
      from : Task
      from = task program input true (ahead at o) h

      by_found : (x : Option ℕ) → takes h.groups o ≡ x → option_and_then (after_times program input n i Forward h.groups) x ≡ Some last
          → ((k : Held) (d q : ℕ) → IsAtPlace (reading_of v) q → f.loop_id < length k.loops → get_or k.loops f.loop_id (0, 0) ≡ (d, q) → after_times program input n i Forward k.groups q ≡ Some last
          → takes k.groups last ≡ Some past → (0 < n → d + n ≤ f.most) → Leads program input 0 (task program input true (ahead at q) k) (told (d + n, last) last k))
          → Leads program input 0 from (told (c + suc n, last) last h)
      by_found None g behind rest = absurd (cc behind)
      by_found (Some q) g behind rest =
          let k : Held = loop_written f.loop_id (c + 1, q) h in
          let fits = room (omega arith) in
          let takes_on = takes-here h.groups n q last past behind one in
          let further_place = place-behind h.groups o q place g in
          let first = one-turn h c o q place entered (omega (arith, fits)) g (turn.out h.groups q takes_on.0 further_place takes_on.1) in
          let count = length-set h.loops f.loop_id (c + 1, q) in
          let others = rest k (c + 1) q further_place (omega (arith, there, count)) (get_or-set_same h.loops f.loop_id (c + 1, q) (0, 0) there) behind one (λ some. omega (arith, fits)) in
          let sum : c + 1 + n ≡ c + suc n = omega arith in
          subst (λ m. Leads program input 0 from (told (m, last) last h)) sum
          (subst (λ t. Leads program input 0 from t) (told-again (c + 1 + n, last) (c + 1, q) last h)
          (leads-then program input 0 0 first others))

  -- What is held after so many iterations, of which the last one began at an offset.
  pub record IsTurned (h k : Held) (c last : ℕ) : Type 0 where
    pub entered : get_or k.loops f.loop_id (0, 0) ≡ (c, last)
    pub groups : k.groups ≡ h.groups
    pub led : told (c, last) last h ≡ task program input true (ahead at last) k

  pub turned-none : (h : Held) (c o n last : ℕ) → get_or h.loops f.loop_id (0, 0) ≡ (c, o) → n ≤ 0 → after_times program input n i Forward h.groups o ≡ Some last → IsTurned h h (c + n) last
  unfolding after_times
  turned-none h c o zero last entered none e =
      let same : o ≡ last = cc in
      let sum : c ≡ c + 0 = omega arith in
      let is : get_or h.loops f.loop_id (0, 0) ≡ (c + 0, last) = entered ∙ ap (λ m. (m, o)) sum ∙ ap (λ p. (c + 0, p)) same in
      record { entered = is; groups = refl; led = told-same (c + 0, last) last h is }
  turned-none h c o (suc n) last entered none e = absurd (omega (arith, none))

  pub turned-some : (h k : Held) (c last : ℕ) → f.loop_id < length h.loops → k ≡ loop_written f.loop_id (c, last) h → IsTurned h k c last
  turned-some h k c last there is =
      subst (λ j. IsTurned h j c last) (sym is)
      (record { entered = get_or-set_same h.loops f.loop_id (c, last) (0, 0) there; groups = refl; led = told-written (c, last) last h })

  -- They are gone through, up to the end of one more.
  pub turns-end : (h k : Held) (c o n last past : ℕ) → IsAtPlace (reading_of v) o → f.loop_id < length h.loops → get_or h.loops f.loop_id (0, 0) ≡ (c, o) → after_times program input n i Forward h.groups o ≡ Some last
      → takes h.groups last ≡ Some past → (0 < n → c + n ≤ f.most) → IsTurned h k (c + n) last
      → Leads program input 1 (task program input true (ahead at o) h) (task program input true (ahead again past) k)
  turns-end h k c o n last past place there entered e one room turned =
      leads-then program input 0 1
      (subst (λ t. Leads program input 0 (task program input true (ahead at o) h) t) turned.led (turns n h c o last past place there entered e one room))
      (to-end k last past (last-place h.groups n o last place e) (ap (λ gs. takes gs last) turned.groups ∙ one))

  -- Where no iteration may follow, the repetition is left.
  only-out : (k : Held) (past : ℕ) → f.least ≤ count_of f.loop_id (state_at (ahead again past) k) → IsDead program input Forward at past
      → Leads program input 0 (task_of program input (choices f begin (state_at (ahead again past) k)) (ahead again past) k) (task program input true (ahead f.exit past) k)
  only-out k past enough dead = subst (λ b. Leaves f.greedy (nat_lt (count_of f.loop_id s) f.most) b) (sym is) (by_case f.greedy (nat_lt (count_of f.loop_id s) f.most))
    where
      s : Whole
      s = state_at (ahead again past) k

      is : nat_le f.least (count_of f.loop_id s) ≡ true
      is = grind (arith, nat_tests)

      work : Work
      work = stands_for program input Forward k.stack k.loops k.groups

      more : Whole
      more = one_more f.loop_id begin s

      exit : Whole
      exit = record s { at = f.exit }

      Leaves : Bool → Bool → Bool → Type 0
      Leaves g m b = Leads program input 0 (task_of program input (ordered g m b more exit) (ahead again past) k) (task program input true (ahead f.exit past) k)

      dead_more : IsDead program input Forward (suc begin) past
      dead_more = let next : begin + 1 ≡ suc begin = omega arith in subst (λ a. IsDead program input Forward a past) (sym turn.body ∙ next) dead

      by_case : (g m : Bool) → Leaves g m true
      by_case true true =
          leads-then program input 0 0 (leads-later program input Forward (more ∷ []) (exit ∷ []) work)
          (leads-then program input 0 0 (leads-dead program input Forward (suc begin) past more.loops k.groups (first_do (exit ∷ []) work) dead_more)
          (leads-first program input Forward [] (exit ∷ []) work))
      by_case false true =
          leads-then program input 0 0 (leads-later program input Forward (exit ∷ []) (more ∷ []) work)
          (leads-without program input Forward (exit ∷ []) (more ∷ []) work (dead_more more.loops k.groups))
      by_case true false = leads-same program input (task program input true (ahead f.exit past) k)
      by_case false false = leads-same program input (task program input true (ahead f.exit past) k)

  pub turns-out : (h k : Held) (c o n last past : ℕ) → IsAtPlace (reading_of v) o → f.loop_id < length h.loops → get_or h.loops f.loop_id (0, 0) ≡ (c, o) → after_times program input n i Forward h.groups o ≡ Some last
      → takes h.groups last ≡ Some past → (0 < n → c + n ≤ f.most) → IsTurned h k (c + n) last → f.least ≤ c + n → IsDead program input Forward second past
      → ((groups : List Marks) → None ≡ takes groups past) → Leads program input 1 (task program input true (ahead at o) h) (task program input true (ahead f.exit past) k)
  turns-out h k c o n last past place there entered e one room turned enough dead none =
      let one_here : takes k.groups last ≡ Some past = ap (λ gs. takes gs last) turned.groups ∙ one in
      let all_dead : IsDead program input Forward at past = alt-dead program input Forward at past second here (simple-dead program input Forward (at + 1) past i turn.first (class-simple i turn.class) none) dead in
      let counted : count_of f.loop_id (state_at (ahead again past) k) ≡ c + n = ap (λ (x : ℕ × ℕ). x.0) turned.entered in
      leads-fewer program input 2 1 _ _ (omega arith)
      (leads-then program input 1 1 (turns-end h k c o n last past place there entered e one room turned)
      (again-on-step program input (ahead again past) (ahead f.exit past) k k true begin f turn.ends turn.begins
      (again-on f begin (ahead again past) k true (ahead f.exit past) k (busy k (c + n) last past turned.entered (further k.groups last past one_here)) program input
      (only-out k past (omega (arith, counted, enough)) all_dead))))

  -- what is held, as it was written
  pub turned : (h k : Held) (c o n last : ℕ) → f.loop_id < length h.loops → get_or h.loops f.loop_id (0, 0) ≡ (c, o) → after_times program input n i Forward h.groups o ≡ Some last
      → ((n ≤ 0) × (k ≡ h)) ⊎ (k ≡ loop_written f.loop_id (c + n, last) h) → IsTurned h k (c + n) last
  turned h k c o n last there entered e (inl unwritten) = subst (λ j. IsTurned h j (c + n) last) (sym unwritten.1) (turned-none h c o n last entered unwritten.0 e)
  turned h k c o n last there entered e (inr written) = turned-some h k (c + n) last there written

  -- where it continues
  pub turns-on : (h k : Held) (c o n last past way_on : ℕ) → IsAtPlace (reading_of v) o → f.loop_id < length h.loops → get_or h.loops f.loop_id (0, 0) ≡ (c, o) → after_times program input n i Forward h.groups o ≡ Some last
      → takes h.groups last ≡ Some past → (0 < n → c + n ≤ f.most) → IsTurned h k (c + n) last → ((groups : List Marks) → None ≡ takes groups past)
      → (way_on ≡ again) ⊎ ((way_on ≡ f.exit) × (f.least ≤ c + n) × IsDead program input Forward second past)
      → Leads program input 1 (task program input true (ahead at o) h) (task program input true (ahead way_on past) k)
  turns-on h k c o n last past way_on place there entered e one room turned none (inl same) =
      subst (λ a. Leads program input 1 (task program input true (ahead at o) h) (task program input true (ahead a past) k)) (sym same) (turns-end h k c o n last past place there entered e one room turned)
  turns-on h k c o n last past way_on place there entered e one room turned none (inr (same, enough, dead)) =
      subst (λ a. Leads program input 1 (task program input true (ahead at o) h) (task program input true (ahead a past) k)) (sym same)
      (turns-out h k c o n last past place there entered e one room turned enough dead none)

-- a spot that is read forward, told otherwise
pub ahead-as : (program : Program) (input : Input) (p : Spot) (h k : Held) (a o : ℕ) (b : Bool) → p.forward ≡ true → b ≡ true
    → Leads program input 1 (task program input true (record { at = p.at; offset = p.offset; forward = true }) h) (task program input true (record { at = a; offset = o; forward = true }) k)
    → Leads program input 1 (task program input true p h) (task program input true (record { at = a; offset = o; forward = b }) k)
ahead-as program input p h k a o b same is on =
    subst (λ x. Leads program input 1 (task program input true (record p { forward = x }) h) (task program input true (record { at = a; offset = o; forward = b }) k)) (sym same)
    (subst (λ x. Leads program input 1 (task program input true (record p { forward = true }) h) (task program input true (record { at = a; offset = o; forward = x }) k)) (sym is) on)

-- what is held stays sound
pub turned-sound : (program : Program) (v : View) (h k : Held) (id n : ℕ) (x : ℕ × ℕ) → id < length h.loops → ((n ≤ 0) × (k ≡ h)) ⊎ (k ≡ loop_written id x h) → IsHeld program v h → IsHeld program v k
turned-sound program v h k id n x there (inl unwritten) held = subst (IsHeld program v) (sym unwritten.1) held
turned-sound program v h k id n x there (inr written) held = loop-sound h k id x written there program v held

class-reads : (i : Instruction) → is_class i ≡ true → reads_character i ≡ true
class-reads (code.ascii_bracket cs) is = refl
class-reads (code.bracket k) is = refl
class-reads _ is = absurd (grind arith)

-- where the first of two ways is a class, it is come to at a place
pub first-place : (program : Program) (v : View) (p : Spot) (h : Held) (second : ℕ) (i : Instruction) → Stands program p.at (code.alt second) → Stands program (p.at + 1) i → is_class i ≡ true
    → ReadOn program (input_of v) (reading_of v) (direction_of p.forward) (state_at p h ∷ []) (stands_for program (input_of v) (direction_of p.forward) h.stack h.loops h.groups) → IsAtPlace (reading_of v) p.offset
first-place program v p h second i here there is reads =
    let k : Held = pushed (resume second p.offset) h in
    let q : Spot = record p { at = p.at + 1 } in
    let first = step-on program (input_of v) (code.alt second) p q h k true here refl (fork-leads p h k second refl program (input_of v)) in
    (read_now program (input_of v) (reading_of v) (direction_of p.forward) (state_at q k) (stands_for program (input_of v) (direction_of p.forward) k.stack k.loops k.groups) (first.reads (reading_of v) reads) i there (class-reads i is)).0

-- the loop is there
pub loop-there : (program : Program) (v : View) (begin : ℕ) (f : LoopFields) (h : Held) → Suits program v → Stands program begin (code.enter_loop f) → IsHeld program v h → f.loop_id < length h.loops
loop-there program v begin f h suits here held = let there = (suits.closed begin (code.enter_loop f) here).0 in let same = held.loops in omega (arith, there, same)
