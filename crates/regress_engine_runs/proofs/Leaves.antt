-- Entering a tree that is one instruction.
use Rattle.std.specs.List.{list_all}
use Rattle.std.proofs.Common.{◌≡◌, inl, inr, ℕ, suc, ◌≤◌, Bool, true, false, List, [], ◌∷◌, length, Some, None, if◌then◌else◌, option_map, refl, sym, ap, ◌∙◌, subst}
use Rattle.regress_meaning.specs.Text.{holds}
use Rattle.regress_meaning.specs.Meaning.{State, Direction, Context, beside, step, stepped, keep_if}
use Rattle.regress_meaning.specs.Offsets.{Reading, offset}
use Rattle.regress_meaning.specs.Inputs.{Input, Tells, neighbour, point_told, context_of}
use Rattle.regress_meaning.specs.Steps.{passed, only_if}
use Rattle.regress_front_nodes.specs.Trees.{Tree}
use Rattle.regress_front_nodes.specs.Trees as tree
use Rattle.regress_front_nodes.specs.TreeMeaning.{node_outcomes, direction}
use Rattle.regress_engine_insn.specs.Instructions.{Instruction, Stands}
use Rattle.regress_engine_insn.specs.Layout.{ProgramPoint, next, Target, char_set_code, byte_set_code}
use Rattle.regress_engine_runs.specs.States.{Whole, Marks, onward}
use Rattle.regress_engine_runs.specs.Runs.{moved_to, successors}
use Rattle.regress_engine_runs.specs.Stand.{StandsFor, AreOf}
use Rattle.regress_engine_runs.proofs.RunLemmas.{Expands, steps, is_unreferring, unreferring-plain, unreferring-reads}
use Rattle.regress_engine_runs.proofs.Leading.{Leads, Pairwise, leads_at_once, first_expand}
use Rattle.regress_engine_runs.proofs.Places.{occurs, Arrives, Keeps-all}
use Rattle.regress_engine_runs.proofs.Entering.{Enters, standing, stays}
use Rattle.regress_engine_runs.proofs.Neighbours.{Beside, neighbours, all-one}
use Rattle.regress_engine_runs.proofs.Sets.{char_set-leads, char_set-plain, byte_set-leads, byte_set-plain}

module _ (target : Target) (input : Input) (reading : Reading) (tells : Tells reading input) where
  abbrev context : Context
  context = context_of reading input

  -- a state at another place, whose groups are the same
  at_place : (s : State) (o q : ℕ) (marks : List Marks) → AreOf reading s o marks → q ≤ length reading.points
      → AreOf reading (record s { place = q }) (offset reading q) marks
  at_place s o q marks stands room = record {
    place = refl;
    count = stands.count;
    groups = stands.groups;
    inside = record { place = room; groups = stands.inside.groups };
  }

  -- a character that is taken
  taken-leads : (dir : Direction) (address : ℕ) (gone : ℕ → ℕ) (low high : ℕ) (test : ℕ → Bool) (s : State) (w : Whole) → suc w.at ≡ address → StandsFor reading s w
      → Beside context dir s.place
      → Pairwise (Arrives reading dir address gone low high s.place w) (stepped (list_all test) s (beside context dir 1 s.place))
      (moved_to w (passed test (option_map (point_told reading) (neighbour reading.points dir s.place))))
  taken-leads dir address gone low high test s w at stands (inl (none, none')) =
      subst (λ o. Pairwise Q (stepped (list_all test) s o) (moved_to w (passed test (option_map (point_told reading) (neighbour reading.points dir s.place))))) (sym none')
      (subst (λ o. Pairwise Q [] (moved_to w (passed test (option_map (point_told reading) o)))) (sym none) tt)
    where
      Q : State → Whole → Type 0
      Q = Arrives reading dir address gone low high s.place w
  taken-leads dir address gone low high test s w at stands (inr (c, q, one, one', room, ahead, apart)) =
      subst (λ o. Pairwise Q (stepped (list_all test) s o) (moved_to w (passed test (option_map (point_told reading) (neighbour reading.points dir s.place))))) (sym one')
      (subst (λ o. Pairwise Q (stepped (list_all test) s (Some (c ∷ [], q))) (moved_to w (passed test (option_map (point_told reading) o)))) (sym one)
      (subst (λ t. Pairwise Q (if t then record s { place = q } ∷ [] else []) (moved_to w (if test c then Some (offset reading q) else None))) (sym (all-one test c))
      (by_test (test c))))
    where
      Q : State → Whole → Type 0
      Q = Arrives reading dir address gone low high s.place w

      by_test : (b : Bool) → Pairwise Q (if b then record s { place = q } ∷ [] else []) (moved_to w (if b then Some (offset reading q) else None))
      by_test true = (
        record {
          at = at;
          stands = at_place s w.offset q w.groups stands room;
          keeps = Keeps-all gone low high w w refl refl;
          ahead = ahead;
        },
        tt,
      )
      by_test false = tt

  -- an instruction that takes one character
  pub taking : (b : Bool) (t : Tree) (i : Instruction) (test : ℕ → Bool) (p : ProgramPoint) → Stands target.program p.address i → is_unreferring i ≡ true
      → ((w : Whole) → successors target.program input i (direction b) w ≡ moved_to w (passed test (input.next (direction b) w.offset)))
      → ((s : State) → node_outcomes context t (direction b) s ≡ step context (direction b) 1 (list_all test) s)
      → Enters target input reading b t p (next p)
  unfolding step
  taking b t i test p here plain does means s w at stands may =
      let dir : Direction = direction b in
      let Q : State → Whole → Type 0 = Arrives reading dir (suc p.address) (λ k. occurs k t) p.loops p.loops s.place w in
      let told : input.next dir w.offset ≡ option_map (point_told reading) (neighbour reading.points dir s.place) =
      ap (input.next dir) stands.place ∙ tells.next dir s.place stands.inside.place in
      let made : moved_to w (passed test (option_map (point_told reading) (neighbour reading.points dir s.place))) ≡ successors target.program input i dir w =
      ap (λ o. moved_to w (passed test o)) (sym told) ∙ sym (does w) in
      let pairs : Pairwise Q (node_outcomes context t dir s) (successors target.program input i dir w) =
      subst (λ us. Pairwise Q us (successors target.program input i dir w)) (sym (means s))
      (subst (Pairwise Q (stepped (list_all test) s (beside context dir 1 s.place))) made
      (taken-leads dir (suc p.address) (λ k. occurs k t) p.loops p.loops test s w (ap suc at) stands (neighbours context dir s.place stands.inside.place))) in
      first_expand target.program input reading Q (w ∷ []) (successors target.program input i dir w) (node_outcomes context t dir s)
      (steps target.program input reading i w (standing target input reading w at here) (unreferring-plain i plain) (λ e. unreferring-reads reading i w plain (s.place, stands.inside.place, stands.place)))
      (leads_at_once target.program input reading Q (node_outcomes context t dir s) (successors target.program input i dir w) pairs)

  -- an instruction that keeps the state where a test passes
  pub testing : (b : Bool) (t : Tree) (i : Instruction) (p : ProgramPoint) → Stands target.program p.address i → is_unreferring i ≡ true
      → (test : State → Bool)
      → ((s : State) (w : Whole) → StandsFor reading s w → successors target.program input i (direction b) w ≡ moved_to w (only_if (test s) w.offset))
      → ((s : State) → node_outcomes context t (direction b) s ≡ keep_if (test s) s)
      → Enters target input reading b t p (next p)
  testing b t i p here plain test does means s w at stands may =
      let dir : Direction = direction b in
      let Q : State → Whole → Type 0 = Arrives reading dir (suc p.address) (λ k. occurs k t) p.loops p.loops s.place w in
      first_expand target.program input reading Q (w ∷ []) (moved_to w (only_if (test s) w.offset)) (node_outcomes context t dir s)
      (subst (Expands target.program input reading dir (w ∷ [])) (does s w stands) (steps target.program input reading i w (standing target input reading w at here) (unreferring-plain i plain) (λ e. unreferring-reads reading i w plain (s.place, stands.inside.place, stands.place))))
      (leads_at_once target.program input reading Q (node_outcomes context t dir s) (moved_to w (only_if (test s) w.offset))
      (subst (λ us. Pairwise Q us (moved_to w (only_if (test s) w.offset))) (sym (means s)) (by_test (test s))))
    where
      by_test : (c : Bool) → Pairwise (Arrives reading (direction b) (suc p.address) (λ k. occurs k t) p.loops p.loops s.place w) (keep_if c s)
          (moved_to w (only_if c w.offset))
      by_test true = (stays target input reading (direction b) (suc p.address) (λ k. occurs k t) p.loops p.loops s w (onward w) (ap suc at) stands refl refl, tt)
      by_test false = tt

  -- a tree that leaves all as it is
  pub empty-enters : (b : Bool) (t : Tree) (p q : ProgramPoint) → q ≡ p → ((s : State) → node_outcomes context t (direction b) s ≡ s ∷ []) → Enters target input reading b t p q
  empty-enters b t p q e means = subst (λ r. Enters target input reading b t p r) (sym e) (λ s w at stands may.
      let Q : State → Whole → Type 0 = Arrives reading (direction b) p.address (λ k. occurs k t) p.loops p.loops s.place w in
      subst (Leads target.program input reading (direction b) Q (w ∷ [])) (sym (means s))
      (leads_at_once target.program input reading Q (s ∷ []) (w ∷ []) (stays target input reading (direction b) p.address (λ k. occurs k t) p.loops p.loops s w w at stands refl refl, tt)))

  -- a set of ASCII characters
  pub byte_set-enters : (b : Bool) (bs : List ℕ) (p : ProgramPoint) (units : Bool) → Stands target.program p.address (byte_set_code units bs)
      → Enters target input reading b (tree.byte_set bs) p (next p)
  unfolding node_outcomes
  byte_set-enters b bs p units h =
      taking b (tree.byte_set bs) (byte_set_code units bs) (holds bs) p h (byte_set-plain units bs) (byte_set-leads target.program input (direction b) units bs) (λ s. refl)

  -- a set of code points
  pub char_set-enters : (b : Bool) (cs : List ℕ) (p : ProgramPoint) → Stands target.program p.address (char_set_code cs) → Enters target input reading b (tree.char_set cs) p (next p)
  unfolding node_outcomes
  char_set-enters b cs p h =
      taking b (tree.char_set cs) (char_set_code cs) (holds cs) p h (char_set-plain cs) (char_set-leads target.program input (direction b) cs) (λ s. refl)
