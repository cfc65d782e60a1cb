-- What a stack of tasks stands for, and how many turns it takes.
use Rattle.std.proofs.Common.{◌≡◌, ℕ, zero, suc, ◌+◌, ◌<◌, ◌≤◌, ◌⊎◌, inl, inr, ◌-◌, ◌==◌, ◌&&◌, leb, ltb, not, if◌then◌else◌, Bool, true, false, List, [], ◌∷◌, ◌++◌, map, filter, slice_set, max, Option, None, refl, sym, ap, ◌∙◌, append_assoc, arith}
use Rattle.std.specs.Prelude.{reverse}
use Rattle.std.specs.List.{flat_map, sum_by}
use Rattle.std.proofs.lemmas.List.{append-nil, map-append, map_push, reverse-append}
use Rattle.std.proofs.lemmas.List.Sums.{sum_by-append, sum_by-cons, sum_by_push}
use Rattle.std.proofs.lemmas.Bool.{cases_lt}
use Rattle.std.proofs.lemmas.Bool.Decides.{nat_tests}
use Rattle.regress_meaning.specs.Meaning.{State, Direction, Outcomes, Context, clear_from, cleared, moved, iterations}
use Rattle.regress_front_nodes.specs.Trees.{Tree, loop, single_loop}
use Rattle.regress_front_nodes.specs.TreeMeaning.{node_outcomes}
use Rattle.regress_evaluator.specs.declared.state.State as evaluator
use Rattle.regress_evaluator.specs.declared.tasks.Task.{Task}
use Rattle.regress_evaluator.specs.declared.tasks.Task.TheVariants.{Expand, Emit}
use Rattle.regress_evaluator.specs.StateViews.{state_of}
use Rattle.regress_evaluator.specs.Repeating.{moved_on, expansions, tasks_of}

-- one state more, above the others
expansions-cons : (s : evaluator.State) (next : List evaluator.State) (left need : ℕ)
    → expansions (s ∷ next) left need ≡ expansions next left need ++ Expand s left need ∷ []
expansions-cons s next left need =
    let e = λ (t : evaluator.State). Expand t left need in
    ap (map e) (reverse-append (s ∷ []) next) ∙ map-append e (reverse next) (s ∷ [])

-- one iteration of what is repeated, the groups inside cleared before
abbrev pub run : Context → Tree → Direction → ℕ → ℕ → Outcomes
run context a dir first last s = node_outcomes context a dir (cleared first last s)

-- no number is in an empty range
not_between : (i first last : ℕ) → last ≤ max i first → (leb first i && ltb i last) ≡ false
not_between i first last empty = grind (arith, nat_tests)

-- a number is in a range
between : (i first last : ℕ) → first ≤ i → i < last → (leb first i && ltb i last) ≡ true
between i first last from within = grind (arith, nat_tests)

-- a number before two ends
same_between : (i first last end : ℕ) → i < last → i < end → (leb first i && ltb i last) ≡ (leb first i && ltb i end)
same_between i first last end within inside = grind (arith, nat_tests)

-- an empty range clears no group
clear_from-none : (i first last : ℕ) (gs : List (Option (ℕ × ℕ))) → last ≤ max i first → clear_from i first last gs ≡ gs
clear_from-none i first last [] empty = refl
clear_from-none i first last (g ∷ gs) empty =
    rw (not_between i first last empty, clear_from-none (i + 1) first last gs (omega arith)) refl

-- one group more is cleared
clear_from-more : (i first j : ℕ) (gs : List (Option (ℕ × ℕ))) → first ≤ i + j
    → slice_set (clear_from i first (i + j) gs) j None ≡ clear_from i first (i + j + 1) gs
clear_from-more i first j [] from = refl
clear_from-more i first zero (g ∷ gs) from =
    rw (
      clear_from-none (i + 1) first (i + 0) gs (omega arith),
      clear_from-none (i + 1) first (i + 0 + 1) gs (omega arith),
      between i first (i + 0 + 1) (omega arith) (omega arith),
    ) refl
clear_from-more i first (suc j) (g ∷ gs) from =
    let next : i + suc j ≡ i + 1 + j = omega arith in
    rw (
      next,
      same_between i first (i + 1 + j) (i + 1 + j + 1) (omega arith) (omega arith),
      clear_from-more (i + 1) first j gs (omega arith),
    ) refl

-- groups at a state's place
abbrev pub with_groups : State → List (Option (ℕ × ℕ)) → State
with_groups s gs = record s { groups = gs }

-- an empty range clears nothing
pub cleared-none : (first last : ℕ) (s : State) → last ≤ first → cleared first last s ≡ s
cleared-none first last s empty = ap (with_groups s) (clear_from-none 0 first last s.groups (omega arith))

-- one group more is cleared
pub cleared-more : (first group : ℕ) (s t : State) → first ≤ group → t ≡ cleared first group s
    → with_groups t (slice_set t.groups group None) ≡ cleared first (group + 1) s
cleared-more first group s t from so_far =
    let zero : 0 + group ≡ group = omega arith in
    ap (λ (u : State). with_groups u (slice_set u.groups group None)) so_far
    ∙ ap (with_groups s) (rw zero at (clear_from-more 0 first group s.groups (omega arith)))

-- from the end of a range on all of it is cleared
pub cleared_past : (first last end : ℕ) (s : State) → last ≤ end → (first ≤ last → end ≤ last) → (last ≤ first → end ≡ first)
    → cleared first end s ≡ cleared first last s
cleared_past first last end s past within none = go (cases_lt last first)
  where
    go : (last < first) ⊎ (first ≤ last) → cleared first end s ≡ cleared first last s
    go (inl empty) = cleared-none first end s (omega (arith, none (omega arith))) ∙ sym (cleared-none first last s (omega arith))
    go (inr some) =
        let same : end ≡ last = omega (arith, within some) in
        rw same refl

-- `==` either way round
place_comm : (p q : ℕ) → (p == q) ≡ (q == p)
place_comm p q = grind (arith, nat_tests)

-- the states at another place
map-filter_moved : (s : evaluator.State) (next : List evaluator.State)
    → map state_of (filter (moved_on s) next) ≡ filter (moved (state_of s)) (map state_of next)
map-filter_moved s [] = refl
map-filter_moved s (t ∷ next) = rw (place_comm t.place s.place) (cases (map-filter_moved s next) (not (s.place == t.place)))
  where
    cases : map state_of (filter (moved_on s) next) ≡ filter (moved (state_of s)) (map state_of next) → (b : Bool)
        → map state_of (if b then t ∷ filter (moved_on s) next else filter (moved_on s) next)
        ≡ (if b then state_of t ∷ filter (moved (state_of s)) (map state_of next) else filter (moved (state_of s)) (map state_of next))
    cases rest true = ap (λ (ts : List State). state_of t ∷ ts) rest
    cases rest false = rest

module _ (body : Outcomes) where
  -- the outcomes that a task stands for
  abbrev pub outcomes_of_task : Bool → Task → List State
  outcomes_of_task greedy (Expand s left need) = iterations body greedy left need (state_of s)
  outcomes_of_task greedy (Emit s) = state_of s ∷ []

  -- the outcomes that a stack of tasks stands for, the last one on top
  abbrev pub outcomes_of_tasks : Bool → List Task → List State
  outcomes_of_tasks greedy [] = []
  outcomes_of_tasks greedy (t ∷ ts) = outcomes_of_tasks greedy ts ++ outcomes_of_task greedy t

  -- of two stacks the upper one comes first
  pub outcomes_of_tasks-append : (greedy : Bool) (ts us : List Task)
      → outcomes_of_tasks greedy (ts ++ us) ≡ outcomes_of_tasks greedy us ++ outcomes_of_tasks greedy ts
  outcomes_of_tasks-append greedy [] us = sym (append-nil (outcomes_of_tasks greedy us))
  outcomes_of_tasks-append greedy (t ∷ ts) us =
      ap (λ (ss : List State). ss ++ outcomes_of_task greedy t) (outcomes_of_tasks-append greedy ts us)
      ∙ append_assoc (outcomes_of_tasks greedy us) (outcomes_of_tasks greedy ts) (outcomes_of_task greedy t)

  -- states that are continued from lead where their iterations do
  pub outcomes_of_tasks-expansions : (greedy : Bool) (left need : ℕ) (next : List evaluator.State)
      → outcomes_of_tasks greedy (expansions next left need) ≡ flat_map (iterations body greedy left need) (map state_of next)
  outcomes_of_tasks-expansions greedy left need [] = refl
  outcomes_of_tasks-expansions greedy left need (s ∷ next) =
      ap (outcomes_of_tasks greedy) (expansions-cons s next left need)
      ∙ outcomes_of_tasks-append greedy (expansions next left need) (Expand s left need ∷ [])
      ∙ ap (λ (ss : List State). iterations body greedy left need (state_of s) ++ ss) (outcomes_of_tasks-expansions greedy left need next)

  -- past the least number those count that moved
  past : (greedy : Bool) (s : evaluator.State) (next : List evaluator.State) (left : ℕ) → map state_of next ≡ body (state_of s)
      → outcomes_of_tasks greedy (expansions (filter (moved_on s) next) left 0)
      ≡ flat_map (iterations body greedy left 0) (filter (moved (state_of s)) (body (state_of s)))
  past greedy s next left ran =
      outcomes_of_tasks-expansions greedy left 0 (filter (moved_on s) next)
      ∙ ap (flat_map (iterations body greedy left 0)) (map-filter_moved s next ∙ ap (filter (moved (state_of s))) ran)

  -- the tasks that follow a state stand for its iterations
  pub outcomes_of_tasks-tasks_of : (greedy : Bool) (s : evaluator.State) (next : List evaluator.State) (left need : ℕ)
      → map state_of next ≡ body (state_of s)
      → outcomes_of_tasks greedy (tasks_of greedy s next left need) ≡ iterations body greedy (suc left) need (state_of s)
  unfolding tasks_of iterations
  outcomes_of_tasks-tasks_of true s next left zero ran =
      outcomes_of_tasks-append true (Emit s ∷ []) (expansions (filter (moved_on s) next) left 0)
      ∙ ap (λ (ss : List State). ss ++ state_of s ∷ []) (past true s next left ran)
  outcomes_of_tasks-tasks_of false s next left zero ran =
      outcomes_of_tasks-append false (expansions (filter (moved_on s) next) left 0) (Emit s ∷ [])
      ∙ ap (λ (ss : List State). state_of s ∷ ss) (past false s next left ran)
  outcomes_of_tasks-tasks_of greedy s next left (suc need) ran =
      outcomes_of_tasks-expansions greedy left need next ∙ ap (flat_map (iterations body greedy left need)) ran

  -- a state with no more iterations is an outcome
  pub outcomes_of_task-last : (greedy : Bool) (s : evaluator.State) (left need : ℕ) → left ≡ 0
      → outcomes_of_task greedy (Expand s left need) ≡ state_of s ∷ []
  unfolding iterations
  outcomes_of_task-last greedy s left need none = rw none refl

  -- the topmost task was an outcome
  pub outcomes_of_tasks-emit : (greedy : Bool) (all : List evaluator.State) (before ts : List Task) (t : Task) (s : evaluator.State)
      → before ≡ ts ++ t ∷ [] → outcomes_of_task greedy t ≡ state_of s ∷ []
      → map state_of (all ++ s ∷ []) ++ outcomes_of_tasks greedy ts ≡ map state_of all ++ outcomes_of_tasks greedy before
  outcomes_of_tasks-emit greedy all before ts t s popped told =
      rw (popped, map_push state_of all s, outcomes_of_tasks-append greedy ts (t ∷ []), told) (append_assoc (map state_of all) (state_of s ∷ []) (outcomes_of_tasks greedy ts))

  -- the topmost task was continued from
  pub outcomes_of_tasks-expand : (greedy : Bool) (before ts after : List Task) (s : evaluator.State) (next : List evaluator.State) (left need : ℕ)
      → 0 < left → before ≡ ts ++ Expand s left need ∷ [] → after ≡ ts ++ tasks_of greedy s next (left - 1) need
      → map state_of next ≡ body (state_of s) → outcomes_of_tasks greedy after ≡ outcomes_of_tasks greedy before
  outcomes_of_tasks-expand greedy before ts after s next left need some popped pushed ran =
      let more : suc (left - 1) ≡ left = omega arith in
      rw (
        popped,
        pushed,
        outcomes_of_tasks-append greedy ts (tasks_of greedy s next (left - 1) need),
        outcomes_of_tasks-append greedy ts (Expand s left need ∷ []),
        outcomes_of_tasks-tasks_of greedy s next (left - 1) need ran,
        more,
      ) refl

  -- how many turns of the loop an expansion takes
  unfoldable pub turns : ℕ → ℕ → State → ℕ
  turns zero need s = 1
  turns (suc left) zero s = 2 + sum_by (turns left zero) (filter (moved s) (body s))
  turns (suc left) (suc need) s = 1 + sum_by (turns left need) (body s)

  -- how many a task takes
  abbrev pub turns_of_task : Task → ℕ
  turns_of_task (Expand s left need) = turns left need (state_of s)
  turns_of_task (Emit s) = 1

  -- how many all tasks take
  abbrev pub turns_of_tasks : List Task → ℕ
  turns_of_tasks = sum_by turns_of_task

  -- states that are continued from take the turns of each
  turns_of_tasks-expansions : (left need : ℕ) (next : List evaluator.State)
      → turns_of_tasks (expansions next left need) ≡ sum_by (turns left need) (map state_of next)
  turns_of_tasks-expansions left need [] = refl
  turns_of_tasks-expansions left need (s ∷ next) =
      rw (
        expansions-cons s next left need,
        sum_by-append turns_of_task (expansions next left need) (Expand s left need ∷ []),
        turns_of_tasks-expansions left need next,
        sum_by-cons (turns left need) (state_of s) (map state_of next),
      ) (omega arith)

  -- past the least number those count that moved
  turns_past : (s : evaluator.State) (next : List evaluator.State) (left : ℕ) → map state_of next ≡ body (state_of s)
      → turns_of_tasks (expansions (filter (moved_on s) next) left 0) ≡ sum_by (turns left 0) (filter (moved (state_of s)) (body (state_of s)))
  turns_past s next left ran =
      turns_of_tasks-expansions left 0 (filter (moved_on s) next)
      ∙ ap (sum_by (turns left 0)) (map-filter_moved s next ∙ ap (filter (moved (state_of s))) ran)

  -- the tasks that follow a state take one turn less
  pub turns_of_tasks-tasks_of : (greedy : Bool) (s : evaluator.State) (next : List evaluator.State) (left need : ℕ)
      → map state_of next ≡ body (state_of s)
      → turns_of_tasks (tasks_of greedy s next left need) + 1 ≡ turns (suc left) need (state_of s)
  unfolding tasks_of turns
  turns_of_tasks-tasks_of true s next left zero ran =
      omega (arith, turns_past s next left ran, sum_by-cons turns_of_task (Emit s) (expansions (filter (moved_on s) next) left 0))
  turns_of_tasks-tasks_of false s next left zero ran =
      omega (arith, turns_past s next left ran, sum_by-append turns_of_task (expansions (filter (moved_on s) next) left 0) (Emit s ∷ []))
  turns_of_tasks-tasks_of greedy s next left (suc need) ran =
      omega (arith, turns_of_tasks-expansions left need next ∙ ap (sum_by (turns left need)) ran)

  -- a state with no more iterations takes one turn
  pub turns-last : (s : evaluator.State) (left need : ℕ) → left ≡ 0 → turns_of_task (Expand s left need) ≡ 1
  unfolding turns
  turns-last s left need none = rw none refl

  -- an outcome takes a turn
  pub turns_of_tasks-emit : (before ts : List Task) (t : Task) → before ≡ ts ++ t ∷ [] → turns_of_task t ≡ 1
      → turns_of_tasks ts < turns_of_tasks before
  turns_of_tasks-emit before ts t popped one = rw (popped, sum_by_push turns_of_task ts t, one) (omega arith)

  -- and so does going on
  pub turns_of_tasks-expand : (greedy : Bool) (before ts after : List Task) (s : evaluator.State) (next : List evaluator.State) (left need : ℕ)
      → 0 < left → before ≡ ts ++ Expand s left need ∷ [] → after ≡ ts ++ tasks_of greedy s next (left - 1) need
      → map state_of next ≡ body (state_of s) → turns_of_tasks after < turns_of_tasks before
  turns_of_tasks-expand greedy before ts after s next left need some popped pushed ran =
      let more : suc (left - 1) ≡ left = omega arith in
      let told : turns_of_tasks (tasks_of greedy s next (left - 1) need) + 1 ≡ turns left need (state_of s) =
      rw more at (turns_of_tasks-tasks_of greedy s next (left - 1) need ran) in
      rw (popped, pushed, sum_by-append turns_of_task ts (tasks_of greedy s next (left - 1) need), sum_by_push turns_of_task ts (Expand s left need))
      (omega (arith, told))

-- the first task stands for what the repetition leads to
pub outcomes_of_tasks-start : (context : Context) (a : Tree) (dir : Direction) (first last least most left : ℕ) (greedy : Bool) (s : State)
    → (alone : List evaluator.State) (tasks : List Task) → tasks ≡ expansions alone left least → map state_of alone ≡ s ∷ [] → left ≡ most
    → outcomes_of_tasks (run context a dir first last) greedy tasks
    ≡ node_outcomes context (loop a first last least most greedy) dir s
unfolding node_outcomes
outcomes_of_tasks-start context a dir first last least most left greedy s alone tasks pushed one same =
    let body = run context a dir first last in
    ap (outcomes_of_tasks body greedy) pushed
    ∙ outcomes_of_tasks-expansions body greedy left least alone
    ∙ ap (flat_map (iterations body greedy left least)) one
    ∙ append-nil (iterations body greedy left least s)
    ∙ ap (λ (n : ℕ). iterations body greedy n least s) same

-- what matches one character has no groups that could be cleared
pub single_loop-is_loop : (context : Context) (a : Tree) (dir : Direction) (least most : ℕ) (greedy : Bool) (s : State)
    → node_outcomes context (loop a 0 0 least most greedy) dir s ≡ node_outcomes context (single_loop a least most greedy) dir s
unfolding node_outcomes
single_loop-is_loop context a dir least most greedy s =
    let same : run context a dir 0 0 ≡ node_outcomes context a dir = λ i t. node_outcomes context a dir (cleared-none 0 0 t (omega arith) i) in
    ap (λ (body : Outcomes). iterations body greedy most least s) same

-- where more have to come the state is no outcome
pub tasks_of-needed : (greedy : Bool) (s : evaluator.State) (next : List evaluator.State) (left need : ℕ) → 0 < need
    → tasks_of greedy s next left need ≡ expansions next left (need - 1)
unfolding tasks_of
tasks_of-needed greedy s next left zero some = absurd (omega arith)
tasks_of-needed greedy s next left (suc need) some =
    let less : suc need - 1 ≡ need = omega arith in
    rw less refl

-- a greedy one prefers more to less
pub tasks_of-greedy : (s : evaluator.State) (next kept : List evaluator.State) (left need : ℕ) → need ≡ 0
    → kept ≡ filter (moved_on s) next → tasks_of true s next left need ≡ Emit s ∷ expansions kept left 0
unfolding tasks_of
tasks_of-greedy s next kept left need none same = rw (none, same) refl

-- a lazy one prefers less to more
pub tasks_of-lazy : (s : evaluator.State) (next kept : List evaluator.State) (left need : ℕ) → need ≡ 0
    → kept ≡ filter (moved_on s) next → tasks_of false s next left need ≡ expansions kept left 0 ++ Emit s ∷ []
unfolding tasks_of
tasks_of-lazy s next kept left need none same = rw (none, same) refl
