-- Entering a tree that lies in a program: sequences, alternatives and groups.
use Rattle.std.proofs.Common.{◌≡◌, ℕ, suc, ◌+◌, ◌≤◌, Bool, [], ◌∷◌, ◌++◌, refl, sym, ap, subst, arith}
use Rattle.regress_meaning.specs.Meaning.{State, Direction, Context}
use Rattle.regress_meaning.specs.Offsets.{Reading}
use Rattle.regress_meaning.specs.Inputs.{Input, context_of}
use Rattle.regress_meaning.proofs.StepLaws.{IsAhead-same, IsAhead-then}
use Rattle.regress_front_nodes.specs.Trees.{Tree}
use Rattle.regress_front_nodes.specs.Trees as tree
use Rattle.regress_front_nodes.specs.TreeMeaning.{node_outcomes, direction}
use Rattle.regress_engine_insn.specs.Instructions.{Program, Instruction, Stands}
use Rattle.regress_engine_insn.specs.Instructions as code
use Rattle.regress_engine_insn.specs.Layout.{ProgramPoint, next, Target}
use Rattle.regress_engine_runs.specs.States.{Whole, onward}
use Rattle.regress_engine_runs.specs.Stand.{StandsFor}
use Rattle.regress_engine_runs.proofs.RunLemmas.{steps}
use Rattle.regress_engine_runs.proofs.Leading.{Leads, leads_at_once, first_expand, leads_beside, leads_on, leads_same, leads_weaker}
use Rattle.regress_engine_runs.proofs.Places.{occurs, Arrives, MayEnter, Keeps-all, Keeps-then, Keeps-less, MayEnter-part, MayEnter-after}

module _ (target : Target) (input : Input) (reading : Reading) where
  -- Entering a tree at one program point leads to its outcomes, at another.
  abbrev pub Enters : Bool → Tree → ProgramPoint → ProgramPoint → Type 0
  Enters b t p q = (s : State) (w : Whole) → w.at ≡ p.address → StandsFor reading s w → MayEnter (λ k. occurs k t) q.loops w
      → Leads target.program input reading (direction b) (Arrives reading (direction b) q.address (λ k. occurs k t) p.loops q.loops s.place w)
      (w ∷ []) (node_outcomes (context_of reading input) t (direction b) s)

  -- it is where it is
  pub stays : (dir : Direction) (address : ℕ) (gone : ℕ → ℕ) (low high : ℕ) (s : State) (w v : Whole) → v.at ≡ address → StandsFor reading s v
      → v.loops ≡ w.loops → v.groups ≡ w.groups → Arrives reading dir address gone low high s.place w s v
  stays dir address gone low high s w v at stands e f = record {
    at = at;
    stands = stands;
    keeps = Keeps-all gone low high w v e f;
    ahead = IsAhead-same dir s.place;
  }

  pub one_after_another : (b : Bool) (s t : Tree) (p m q : ProgramPoint) → p.loops ≤ m.loops → m.loops ≤ q.loops
      → ((k : ℕ) → occurs k s + occurs k t ≤ 1) → Enters b s p m → Enters b t m q → Enters b (tree.cat s t) p q
  unfolding node_outcomes
  one_after_another b s t p m q below above once first second u w at stands may =
      let dir : Direction = direction b in
      let R : State → Whole → Type 0 = Arrives reading dir m.address (λ k. occurs k s) p.loops m.loops u.place w in
      let Q : State → Whole → Type 0 = Arrives reading dir q.address (λ k. occurs k s + occurs k t) p.loops q.loops u.place w in
      leads_on target.program input reading R Q (node_outcomes (context_of reading input) t dir) (w ∷ []) (node_outcomes (context_of reading input) s dir u)
      (first u w at stands (MayEnter-part (λ k. occurs k s) (λ k. occurs k s + occurs k t) m.loops q.loops w (λ k. omega arith) above may))
      (λ x v a. leads_weaker target.program input reading (Arrives reading dir q.address (λ k. occurs k t) m.loops q.loops x.place v) Q
      (λ y z c. record {
        at = c.at;
        stands = c.stands;
        keeps = Keeps-then (λ k. occurs k s) (λ k. occurs k t) p.loops m.loops q.loops w v z below above a.keeps c.keeps;
        ahead = IsAhead-then dir u.place x.place y.place a.ahead c.ahead;
      })
      (v ∷ []) (node_outcomes (context_of reading input) t dir x)
      (second x v a.at a.stands (MayEnter-after (λ k. occurs k s) (λ k. occurs k t) p.loops m.loops q.loops w v once a.keeps
      (MayEnter-part (λ k. occurs k t) (λ k. occurs k s + occurs k t) q.loops q.loops w (λ k. omega arith) (omega arith) may))))

  -- an instruction that stands where a state is
  pub standing : {address : ℕ} {i : Instruction} (w : Whole) → w.at ≡ address → Stands target.program address i → Stands target.program w.at i
  standing {i = i} w e h = subst (λ a. Stands target.program a i) (sym e) h

  pub first_or_second : (b : Bool) (s t : Tree) (p m q : ProgramPoint) → p.loops ≤ m.loops → m.loops ≤ q.loops
      → Stands target.program p.address (code.alt (suc m.address)) → Stands target.program m.address (code.jump q.address)
      → Enters b s (next p) m → Enters b t (next m) q → Enters b (tree.alt s t) p q
  unfolding node_outcomes
  first_or_second b s t p m q below above alt jump first second u w at stands may =
      let dir : Direction = direction b in
      let context : Context = context_of reading input in
      let other : Whole = record w { at = suc m.address } in
      let Q : State → Whole → Type 0 = Arrives reading dir q.address (λ k. occurs k s + occurs k t) p.loops q.loops u.place w in
      let R : State → Whole → Type 0 = Arrives reading dir m.address (λ k. occurs k s) p.loops m.loops u.place w in
      let left : Leads target.program input reading dir Q (onward w ∷ []) (node_outcomes context s dir u) =
      leads_same target.program input reading R Q (onward w ∷ []) (node_outcomes context s dir u)
      (first u (onward w) (ap suc at) stands (MayEnter-part (λ k. occurs k s) (λ k. occurs k s + occurs k t) m.loops q.loops w (λ k. omega arith) above may))
      (λ x v a. let z : Whole = record v { at = q.address } in
      first_expand target.program input reading Q (v ∷ []) (z ∷ []) (x ∷ []) (steps target.program input reading (code.jump q.address) v (standing v a.at jump) refl (λ e. absurd (grind arith)))
      (leads_at_once target.program input reading Q (x ∷ []) (z ∷ []) (
        record {
          at = refl;
          stands = a.stands;
          keeps = Keeps-less (λ k. occurs k s) (λ k. occurs k s + occurs k t) p.loops m.loops p.loops q.loops w v (λ k. omega arith) (omega arith) above a.keeps;
          ahead = a.ahead;
        },
        tt,
      ))) in
      let right : Leads target.program input reading dir Q (other ∷ []) (node_outcomes context t dir u) =
      leads_weaker target.program input reading (Arrives reading dir q.address (λ k. occurs k t) m.loops q.loops u.place w) Q
      (λ y z c. record {
        at = c.at;
        stands = c.stands;
        keeps = Keeps-less (λ k. occurs k t) (λ k. occurs k s + occurs k t) m.loops q.loops p.loops q.loops w z (λ k. omega arith) below (omega arith) c.keeps;
        ahead = c.ahead;
      })
      (other ∷ []) (node_outcomes context t dir u)
      (second u other refl stands (MayEnter-part (λ k. occurs k t) (λ k. occurs k s + occurs k t) q.loops q.loops w (λ k. omega arith) (omega arith) may)) in
      first_expand target.program input reading Q (w ∷ []) (onward w ∷ other ∷ []) (node_outcomes context s dir u ++ node_outcomes context t dir u)
      (steps target.program input reading (code.alt (suc m.address)) w (standing w at alt) refl (λ e. absurd (grind arith)))
      (leads_beside target.program input reading Q (onward w ∷ []) (other ∷ []) (node_outcomes context s dir u) (node_outcomes context t dir u) left right)
