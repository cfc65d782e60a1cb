-- The run of a whole tree: it ends, and its answer is the most preferred outcome.
use Rattle.std.specs.Prelude.{IfSome, replicate}
use Rattle.std.proofs.Common.{◌≡◌, ◌⊎◌, inl, inr, ℕ, zero, suc, ◌+◌, ◌<◌, ◌≤◌, Bool, true, false, List, [], ◌∷◌, ◌++◌, length, Option, Some, None, get_or, flat_map, option_map, refl, sym, ap, ◌∙◌, subst, arith}
use Rattle.std.proofs.lemmas.List.Elements.{All-replicate}
use Rattle.std.proofs.lemmas.List.{get_or-replicate, length-replicate}
use Rattle.std.proofs.lemmas.Bool.Decides.{nat_tests}
use Rattle.regress_meaning.specs.Meaning.{State, Direction, Forward}
use Rattle.regress_meaning.specs.Offsets.{Reading, offset, offset_range}
use Rattle.regress_meaning.specs.Laws.{LiesIn}
use Rattle.regress_meaning.specs.Inputs.{Input, Tells, context_of}
use Rattle.regress_front_nodes.specs.Trees.{Tree}
use Rattle.regress_front_nodes.specs.Trees as tree
use Rattle.regress_front_nodes.specs.TreeMeaning.{node_outcomes, direction}
use Rattle.regress_front_nodes.specs.WellFormed.{AreLawful, AreNumbered, IsWellFormed, goals, last_part, group_ids}
use Rattle.regress_front_nodes.specs.ByteInputs.{TellsBytes}
use Rattle.regress_front_nodes.proofs.StepLemmas.{flat_map-self}
use Rattle.regress_engine_insn.specs.Instructions.{Program, Stands}
use Rattle.regress_engine_insn.specs.Instructions as code
use Rattle.regress_engine_insn.specs.Layout.{ProgramPoint, Target, Lies, IsLayout}
use Rattle.regress_engine_runs.specs.States.{Whole, unset, range_of, first_state}
use Rattle.regress_engine_runs.specs.Stand.{StandsFor, IsMadeFor, IsFirst, RunsAsTree}
use Rattle.regress_engine_runs.proofs.SafeRuns.{SafeRuns, safe-run, ends, finds}
use Rattle.regress_engine_runs.proofs.RunLemmas.{Expands}
use Rattle.regress_engine_runs.proofs.FirstAnswers.{alike-head, head}
use Rattle.regress_engine_runs.proofs.Leading.{Leads, Pairwise, leads_at_once, leads_on}
use Rattle.regress_engine_runs.proofs.Places.{occurs, AreFree, MayEnter, MayEnter-part, MayEnter-after, Arrives, Lies-rises}
use Rattle.regress_engine_runs.proofs.Entering.{standing}
use Rattle.regress_engine_runs.proofs.Enter.{enters}
use Rattle.regress_engine_runs.proofs.Looks.{is_within, outside_none, inside_one}

-- the last part of a sequence is that of its rest, or if that is no part that of its first
part_cases : (a c : Tree) → ((c ≡ tree.no_part) × (last_part (tree.cat a c) ≡ last_part a)) ⊎ (last_part (tree.cat a c) ≡ last_part c)
part_cases a tree.no_part = inl (refl, refl)
part_cases a _ = inr refl

-- a tree that ends at its goal has one
goals-last : (t : Tree) → last_part t ≡ tree.goal → 1 ≤ goals t
goals-last tree.goal e = omega arith
goals-last (tree.cat a c) e = by_part (part_cases a c) (goals-last a) (goals-last c)
  where
    by_part : ((c ≡ tree.no_part) × (last_part (tree.cat a c) ≡ last_part a)) ⊎ (last_part (tree.cat a c) ≡ last_part c)
        → (last_part a ≡ tree.goal → 1 ≤ goals a) → (last_part c ≡ tree.goal → 1 ≤ goals c) → 1 ≤ goals a + goals c
    by_part (inl (x, y)) f g = let h = f (sym y ∙ e) in omega (arith, h)
    by_part (inr y) f g = let h = g (sym y ∙ e) in omega (arith, h)
goals-last _ e = absurd (grind arith)

module _ (target : Target) (input : Input) (reading : Reading) (tells : Tells reading input) (told : target.program.units ≡ false → TellsBytes reading input)
    (made : IsMadeFor target input) (whole : offset reading (length reading.points) ≡ length input.units) where
  -- it stands at a goal for a state
  abbrev AtGoal : State → Whole → Type 0
  AtGoal s v = Stands target.program v.at code.goal × StandsFor reading s v

  -- a tree that ends at its goal leads there
  ends_at_goal : (n : ℕ) (t : Tree) (b : Bool) (p q : ProgramPoint) → Lies target b t p q → AreLawful n t → ((k : ℕ) → occurs k t ≤ 1)
      → goals t ≡ 1 → last_part t ≡ tree.goal → (s : State) (w : Whole) → w.at ≡ p.address → StandsFor reading s w → MayEnter (λ k. occurs k t) q.loops w
      → Leads target.program input reading (direction b) AtGoal (w ∷ []) (node_outcomes (context_of reading input) t (direction b) s)
  unfolding node_outcomes
  ends_at_goal n tree.goal b p q h lawful once one last s w at stands may =
      leads_at_once target.program input reading AtGoal (s ∷ []) (w ∷ []) ((standing target input reading w at h.0, stands), tt)
  ends_at_goal n (tree.cat a c) b p q (m, h, k) lawful once one last s w at stands may =
      by_part (part_cases a c) (ends_at_goal n a b p m h lawful.0 (λ i. omega (arith, once i)))
      (ends_at_goal n c b m q k lawful.1 (λ i. omega (arith, once i)))
    where
      below : p.loops ≤ m.loops
      below = Lies-rises target b a p m h

      above : m.loops ≤ q.loops
      above = Lies-rises target b c m q k

      dir : Direction
      dir = direction b

      out : Tree → State → List State
      out t u = node_outcomes (context_of reading input) t dir u

      by_part : ((c ≡ tree.no_part) × (last_part (tree.cat a c) ≡ last_part a)) ⊎ (last_part (tree.cat a c) ≡ last_part c)
          → (goals a ≡ 1 → last_part a ≡ tree.goal → (s : State) (w : Whole) → w.at ≡ p.address → StandsFor reading s w
          → MayEnter (λ k. occurs k a) m.loops w → Leads target.program input reading dir AtGoal (w ∷ []) (out a s))
          → (goals c ≡ 1 → last_part c ≡ tree.goal → (s : State) (w : Whole) → w.at ≡ m.address → StandsFor reading s w
          → MayEnter (λ k. occurs k c) q.loops w → Leads target.program input reading dir AtGoal (w ∷ []) (out c s))
          → Leads target.program input reading dir AtGoal (w ∷ []) (flat_map (out c) (out a s))
      by_part (inl (x, y)) f g =
          let none : goals c ≡ 0 = ap goals x in
          let same : flat_map (out c) (out a s) ≡ out a s = ap (λ t. flat_map (out t) (out a s)) x ∙ flat_map-self (out a s) in
          subst (Leads target.program input reading dir AtGoal (w ∷ [])) (sym same)
          (f (omega (arith, one, none)) (sym y ∙ last) s w at stands (MayEnter-part (λ k. occurs k a) (λ k. occurs k a + occurs k c) m.loops q.loops w (λ k. omega arith) above may))
      by_part (inr y) f g =
          let some = goals-last c (sym y ∙ last) in
          let R : State → Whole → Type 0 = Arrives reading dir m.address (λ k. occurs k a) p.loops m.loops s.place w in
          leads_on target.program input reading R AtGoal (out c) (w ∷ []) (out a s)
          (enters target input reading tells told made whole n a b p m h lawful.0 (λ i. omega (arith, once i)) (omega (arith, one, some)) s w at stands
          (MayEnter-part (λ k. occurs k a) (λ k. occurs k a + occurs k c) m.loops q.loops w (λ k. omega arith) above may))
          (λ x v r. g (omega (arith, one, some)) (sym y ∙ last) x v r.at r.stands
          (MayEnter-after (λ k. occurs k a) (λ k. occurs k c) p.loops m.loops q.loops w v once r.keeps
          (MayEnter-part (λ k. occurs k c) (λ k. occurs k a + occurs k c) q.loops q.loops w (λ k. omega arith) (omega arith) may)))
  ends_at_goal n _ b p q h lawful once one last s w at stands may = absurd (grind arith)

  -- the answer of states at their goals is the first
  first_at_goal : (dir : Direction) (ws vs : List Whole) (ss : List State) → Expands target.program input reading dir ws vs → Pairwise AtGoal ss vs
      → (r : Option Whole) × SafeRuns target.program input reading dir (ws ++ []) r × IsFirst reading ss r
  first_at_goal dir ws [] [] e h = (None, e [] None (0, ends), refl)
  first_at_goal dir ws (v ∷ vs) [] e h = absurd h
  first_at_goal dir ws [] (s ∷ ss) e h = absurd h
  first_at_goal dir ws (v ∷ vs) (s ∷ ss) e ((here, stands), rest) = (Some v, e [] (Some v) (1, finds here), (v, refl, stands))

  -- so it is the first of states that begin alike
  first_is : (ss ts : List State) (r : Option Whole) → head ss ≡ head ts → IsFirst reading ss r → IsFirst reading ts r
  first_is [] [] r same first = first
  first_is [] (t ∷ ts) r same first = absurd (cc)
  first_is (s ∷ ss) [] r same first = absurd (cc)
  first_is (s ∷ ss) (t ∷ ts) r same first = subst (λ x. IsFirst reading (x ∷ ts) r) (is-some same) first
    where
      is-some : ◌≡◌ {A = Option State} (Some s) (Some t) → s ≡ t
      is-some e = cc

  -- the groups of a whole tree are below their number, each once
  number_of : (n k : ℕ) (t : Tree) → AreNumbered 0 n (group_ids t) → (occurs k t ≤ 1) × (0 < occurs k t → k < n)
  number_of n k t h = by_value (is_within 0 n k) refl
    where
      by_value : (b : Bool) → is_within 0 n k ≡ b → (occurs k t ≤ 1) × (0 < occurs k t → k < n)
      by_value true e = let f = inside_one 0 n t h k e in (omega (arith, f), λ some. grind (arith, nat_tests, e))
      by_value false e = let f = outside_none 0 n t h k e in (omega (arith, f), λ some. absurd (omega (arith, f, some)))

  -- where nothing is set
  nothing_set : (n place : ℕ) → place ≤ length reading.points → target.program.groups ≡ n
      → StandsFor reading (record { place = place; groups = replicate n None }) (first_state target.program (offset reading place))
  nothing_set n place room e = record {
    place = refl;
    count = length-replicate target.program.groups unset ∙ e ∙ sym (length-replicate n none);
    groups = λ k. ap range_of (all-unset target.program.groups k) ∙ ap (option_map (offset_range reading)) (sym (all-none n k));
    inside = record { place = room; groups = All-replicate (λ g. IfSome g (LiesIn (length reading.points))) n none tt };
  }
    where
      none : Option (ℕ × ℕ)
      none = None

      all-unset : (i k : ℕ) → get_or (replicate i unset) k unset ≡ unset
      all-unset zero k = refl
      all-unset (suc i) zero = refl
      all-unset (suc i) (suc k) = all-unset i k

      all-none : (i k : ℕ) → get_or (replicate i none) k none ≡ none
      all-none zero k = refl
      all-none (suc i) zero = refl
      all-none (suc i) (suc k) = all-none i k

  -- Of a well-formed tree a program's run, from every place of the text, ends, reads at places alone, and its answer is the
  -- first of the tree's outcomes.
  pub runs_safely : (n : ℕ) (t : Tree) → IsWellFormed n t → IsLayout target n t → (place : ℕ) → place ≤ length reading.points → (r : Option Whole)
      × SafeRuns target.program input reading Forward (first_state target.program (offset reading place) ∷ []) r
      × IsFirst reading (node_outcomes (context_of reading input) t Forward (record { place = place; groups = replicate n None })) r
  runs_safely n t formed layout place room =
      let w : Whole = first_state target.program (offset reading place) in
      let s : State = record { place = place; groups = replicate n None } in
      let start : ProgramPoint = record { address = 0; loops = 0 } in
      let end : ProgramPoint = record { address = length target.program.instructions; loops = target.program.loops } in
      let may : AreFree (λ k. occurs k t) end.loops w.loops w.groups = record {
        loops = let e = length-replicate {A = ℕ × ℕ} target.program.loops (0, 0) in omega (arith, e);
        here = λ k some. let e = length-replicate target.program.groups unset in omega (arith, e, layout.groups, (number_of n k t formed.numbered).1 some);
        free = λ k some. get_or-replicate target.program.groups k unset unset (omega (arith, layout.groups, (number_of n k t formed.numbered).1 some));
      } in
      let led = ends_at_goal n t false start end layout.lies formed.lawful (λ k. (number_of n k t formed.numbered).0) formed.one_goal formed.ended
      s w refl (nothing_set n place room layout.groups) may in
      let (r, run, first) = first_at_goal Forward (w ∷ []) led.wholes led.states led.expand led.belong in
      (r, run, first_is led.states (node_outcomes (context_of reading input) t Forward s) r (alike-head led.states (node_outcomes (context_of reading input) t Forward s) led.alike) first)

  -- So it runs as the tree.
  pub runs_as_tree : (n : ℕ) (t : Tree) → IsWellFormed n t → IsLayout target n t → RunsAsTree target.program input reading n t
  runs_as_tree n t formed layout place room =
      let (r, (k, safe), first) = runs_safely n t formed layout place room in (r, (k, safe-run target.program input reading safe), first)
