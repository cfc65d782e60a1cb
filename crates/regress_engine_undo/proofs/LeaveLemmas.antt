-- A lookaround or an atomic group is left.
use Rattle.std.specs.Prelude.{slice_set, get_or}
use Rattle.std.proofs.Common.{◌≡◌, ℕ, ◌+◌, ◌<◌, ◌≤◌, true, false, List, [], ◌∷◌, length, Option, Some, None, refl, sym, ap, ap₂, ◌∙◌, subst, arith}
use Rattle.std.proofs.lemmas.List.{length-set}
use Rattle.regress_meaning.specs.Meaning.{Direction}
use Rattle.regress_meaning.specs.Inputs.{Input}
use Rattle.regress_engine_input.specs.Views.{direction_of}
use Rattle.regress_engine_insn.specs.Instructions.{Program, Stands}
use Rattle.regress_engine_insn.specs.Instructions as code
use Rattle.regress_engine_runs.specs.States.{Whole, Marks, unset, mixed}
use Rattle.regress_engine_runs.specs.Runs.{one_more}
use Rattle.regress_engine_runs.specs.UndoStack.{Undo, old_loop, old_group, resume, iterate, give_back, take_on, frame, tried, Frame, Work, whole, stands_for}
use Rattle.regress_engine_search.specs.Tasks.{Task, Leads, outside_of}
use Rattle.regress_engine_search.proofs.TaskLemmas.{leads-found, ends-outermost, outside-first}
use Rattle.regress_engine_undo.specs.declared.undo.Spot.{Spot}
use Rattle.regress_engine_undo.proofs.LeadLemmas.{group-kept}
use Rattle.regress_engine_undo.specs.Held.{Held, pushed, group_written}
use Rattle.regress_engine_search.specs.Submatches.{is_negated, end_offset}
use Rattle.regress_engine_search.proofs.SubmatchLemmas.{after-negated, after-some}
use Rattle.regress_engine_undo.specs.Tasks.{task, state_at}
use Rattle.regress_engine_undo.specs.Leaving.{told_outside, work_of, Unwinds, EndsAt}
use Rattle.regress_engine_runs.proofs.MixedGroups.{mixed-more}

-- the whole program is left
pub leaves-all : (p : Spot) (h k : Held) → Unwinds h None k → EndsAt p h
leaves-all p h k unwinds program input here n r come =
    ends-outermost program input (direction_of p.forward) (state_at p h) (work_of program input (direction_of p.forward) h) (unwinds program input (direction_of p.forward)) here n r come

-- a negated lookaround fails
pub leaves-negated : (p q : Spot) (h k : Held) (f : Frame) → Unwinds h (Some f) k → is_negated f.kind ≡ true → direction_of q.forward ≡ f.outside
    → (program : Program) (input : Input) → Stands program p.at code.goal → Leads program input 1 (task program input true p h) (task program input false q k)
leaves-negated p q h k f unwinds negated turned program input here =
    subst (λ d. Leads program input 1 (task program input true p h) (record { dir = d; states = []; work = work_of program input d k })) (sym turned)
    (subst (λ (ss : List Whole). Leads program input 1 (task program input true p h) (record { dir = f.outside; states = ss; work = work_of program input f.outside k }))
    (after-negated f.kind f.first f.last f.continuation (whole f.at f.offset k.loops k.groups) (state_at p h) negated)
    (leads-found program input (direction_of p.forward) (state_at p h) (work_of program input (direction_of p.forward) h) _ (unwinds program input (direction_of p.forward)) here))

-- a positive one and an atomic group take the groups on
pub leaves-positive : (p q : Spot) (h k l : Held) (f : Frame) → Unwinds h (Some f) k → is_negated f.kind ≡ false → direction_of q.forward ≡ f.outside → q.at ≡ f.continuation
    → q.offset ≡ end_offset f.kind f.offset p.offset → l.loops ≡ k.loops → l.groups ≡ mixed 0 f.first f.last h.groups k.groups
    → ((program : Program) (input : Input) (dir : Direction) → work_of program input dir l ≡ work_of program input dir k)
    → (program : Program) (input : Input) → Stands program p.at code.goal → Leads program input 1 (task program input true p h) (task program input true q l)
leaves-positive p q h k l f unwinds positive turned at offset loops groups same program input here =
    let from : Task = task program input true p h in
    let state : Whole = whole f.continuation (end_offset f.kind f.offset p.offset) k.loops (mixed 0 f.first f.last h.groups k.groups) in
    let told : state ≡ state_at q l = (λ i. whole (sym at i) (sym offset i) (sym loops i) (sym groups i)) in
    subst (λ (s : Whole). Leads program input 1 from (record { dir = direction_of q.forward; states = s ∷ []; work = work_of program input (direction_of q.forward) l })) told
    (subst (λ (w : Work). Leads program input 1 from (record { dir = direction_of q.forward; states = state ∷ []; work = w })) (sym (same program input (direction_of q.forward)))
    (subst (λ d. Leads program input 1 from (record { dir = d; states = state ∷ []; work = work_of program input d k })) (sym turned)
    (subst (λ (ss : List Whole). Leads program input 1 from (record { dir = f.outside; states = ss; work = work_of program input f.outside k }))
    (after-some f.kind f.first f.last f.continuation (whole f.at f.offset k.loops k.groups) (state_at p h) positive)
    (leads-found program input (direction_of p.forward) (state_at p h) (work_of program input (direction_of p.forward) h) _ (unwinds program input (direction_of p.forward)) here))))

-- ---- one record without going on

module _ (program : Program) (input : Input) (dir : Direction) (h : Held) where
  pub loop-outside : (k : Held) (id : ℕ) (x : ℕ × ℕ) → k ≡ record h { loops = slice_set h.loops id x }
      → outside_of (work_of program input dir (pushed (old_loop id x) h)) ≡ outside_of (work_of program input dir k)
  unfolding stands_for
  loop-outside k id x is = ap (λ j. outside_of (work_of program input dir j)) (sym is)

  pub group-outside : (k : Held) (group : ℕ) (m : Marks) → k ≡ record h { groups = slice_set h.groups group m }
      → outside_of (work_of program input dir (pushed (old_group group m) h)) ≡ outside_of (work_of program input dir k)
  unfolding stands_for
  group-outside k group m is = ap (λ j. outside_of (work_of program input dir j)) (sym is)

  pub resume-outside : (at o : ℕ) → outside_of (work_of program input dir (pushed (resume at o) h)) ≡ outside_of (work_of program input dir h)
  unfolding stands_for
  resume-outside at o = outside-first (whole at o h.loops h.groups ∷ []) (work_of program input dir h)

  pub iterate-outside : (id begin o : ℕ) → outside_of (work_of program input dir (pushed (iterate id begin o) h)) ≡ outside_of (work_of program input dir h)
  unfolding stands_for
  iterate-outside id begin o = outside-first (one_more id begin (whole begin o h.loops h.groups) ∷ []) (work_of program input dir h)

  pub tried-outside : (at o : ℕ) → outside_of (work_of program input dir (pushed (tried at o) h)) ≡ outside_of (work_of program input dir h)
  unfolding stands_for
  tried-outside at o = refl

  pub give_back-outside : (at near far : ℕ) → outside_of (work_of program input dir (pushed (give_back at near far) h)) ≡ outside_of (work_of program input dir h)
  unfolding stands_for
  give_back-outside at near far = outside-first _ (work_of program input dir h)

  pub take_on-outside : (at o left : ℕ) → outside_of (work_of program input dir (pushed (take_on at o left) h)) ≡ outside_of (work_of program input dir h)
  unfolding stands_for
  take_on-outside at o left = outside-first _ (work_of program input dir h)

  pub frame-outside : (f : Frame) → outside_of (work_of program input dir (pushed (frame f) h)) ≡ told_outside (Some f) h program input
  unfolding stands_for
  frame-outside f = refl

  -- the record, told otherwise
  pub outside-as : (u x : Undo) (o : Option (Frame × Whole × Work)) → u ≡ x → outside_of (work_of program input dir (pushed x h)) ≡ o → outside_of (work_of program input dir (pushed u h)) ≡ o
  outside-as u x o e same = ap (λ y. outside_of (work_of program input dir (pushed y h))) e ∙ same

-- with no record nothing is outside
pub nothing-outside : (program : Program) (input : Input) (dir : Direction) (h : Held) → h.stack ≡ [] → outside_of (work_of program input dir h) ≡ None
unfolding stands_for
nothing-outside program input dir h none = ap (λ (s : List Undo). outside_of (stands_for program input dir s h.loops h.groups)) none

-- so the whole program is left
pub leaves-empty : (p : Spot) (h : Held) → h.stack ≡ [] → EndsAt p h
leaves-empty p h none = leaves-all p h h (λ program input dir. nothing-outside program input dir h none)

-- one more group is carried
pub carried : (j k : Held) (g first : ℕ) (new old : List Marks) (m : Marks) → k ≡ group_written g m j → j.groups ≡ mixed 0 first g new old → m ≡ get_or new g unset
    → first ≤ g → length new ≡ length old → g < length old → k.groups ≡ mixed 0 first (g + 1) new old
carried j k g first new old m is before same from count there =
    ap (λ (h : Held). h.groups) is ∙ ap₂ (λ (ms : List Marks) x. slice_set ms g x) before same ∙ mixed-more 0 g g first new old unset (omega arith) from count there

pub carried-same : (j k : Held) (g : ℕ) (m : Marks) → k ≡ group_written g m j → (program : Program) (input : Input) (dir : Direction) → work_of program input dir k ≡ work_of program input dir j
carried-same j k g m is program input dir = ap (work_of program input dir) is ∙ group-kept program input dir j.stack j.loops j.groups g m

pub carried-count : (j k : Held) (g : ℕ) (m : Marks) → k ≡ group_written g m j → length k.groups ≡ length j.groups
carried-count j k g m is = ap (λ (h : Held). length h.groups) is ∙ length-set j.groups g m
