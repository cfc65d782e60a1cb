-- Entering a lookaround or an atomic group.
use Rattle.std.specs.Prelude.{nat_le, nat_lt}
use Rattle.std.proofs.Common.{◌≡◌, ℕ, suc, ◌+◌, ◌&&◌, Bool, true, false, List, [], ◌∷◌, ◌++◌, length, Some, None, if◌then◌else◌, get_or, refl, sym, ap, ap₂, ◌∙◌, subst, arith}
use Rattle.regress_meaning.specs.Meaning.{State, Direction}
use Rattle.regress_meaning.specs.Offsets.{Reading}
use Rattle.regress_meaning.specs.Inputs.{Input, context_of}
use Rattle.regress_meaning.proofs.StepLaws.{IsAhead-same}
use Rattle.regress_front_nodes.specs.Trees.{Submatch, lookaround, atomic, Tree}
use Rattle.regress_front_nodes.specs.Trees as tree
use Rattle.regress_front_nodes.specs.TreeMeaning.{submatch_direction, submatched, reads_backward, node_outcomes, direction}
use Rattle.regress_front_nodes.specs.WellFormed.{group_ids, AreNumbered}
use Rattle.regress_engine_insn.specs.Instructions.{Program, Stands}
use Rattle.regress_engine_insn.specs.Instructions as code
use Rattle.regress_engine_insn.specs.Layout.{ProgramPoint, next, Target}
use Rattle.regress_engine_runs.specs.States.{Whole, Marks, unset, mixed, onward}
use Rattle.regress_engine_runs.specs.Stand.{StandsFor}
use Rattle.regress_engine_runs.proofs.SafeRuns.{SafeRuns, ends, finds}
use Rattle.regress_engine_runs.proofs.FirstAnswers.{alike-submatched}
use Rattle.regress_engine_runs.proofs.RunLemmas.{Expands, looks_around}
use Rattle.regress_engine_runs.proofs.Leading.{Leads, Pairwise, leads_at_once, first_expand}
use Rattle.regress_engine_runs.proofs.Places.{occurs, occurs-is, Arrives}
use Rattle.regress_engine_runs.proofs.Entering.{Enters, standing, stays}

-- the number is one of those from first up to before last
abbrev pub is_within : ℕ → ℕ → ℕ → Bool
is_within first last k = nat_le first k && nat_lt k last

-- a group outside does not occur
pub outside_none : (first last : ℕ) (a : Tree) → AreNumbered first last (group_ids a) → (k : ℕ) → is_within first last k ≡ false → occurs k a ≡ 0
outside_none first last a h k e = occurs-is k a ∙ h.once k ∙ ap (λ b. if◌then◌else◌ {A = ℕ} b 1 0) e

-- a group inside occurs
pub inside_one : (first last : ℕ) (a : Tree) → AreNumbered first last (group_ids a) → (k : ℕ) → is_within first last k ≡ true → occurs k a ≡ 1
inside_one first last a h k e = occurs-is k a ∙ h.once k ∙ ap (λ b. if◌then◌else◌ {A = ℕ} b 1 0) e

-- where all marks outside are the same, the new ones remain
mixed-new : (i first last : ℕ) (new old : List Marks) → length new ≡ length old
    → ((k : ℕ) → is_within first last (i + k) ≡ false → get_or new k unset ≡ get_or old k unset) → mixed i first last new old ≡ new
mixed-new i first last [] [] e h = refl
mixed-new i first last [] (m ∷ old) e h = absurd (omega (arith, e))
mixed-new i first last (n ∷ new) [] e h = absurd (omega (arith, e))
mixed-new i first last (n ∷ new) (m ∷ old) e h =
    ap₂ (λ x xs. x ∷ xs) (by_test (is_within first last i) refl)
    (mixed-new (i + 1) first last new old (omega (arith, e)) (λ k t. let f : i + suc k ≡ (i + 1) + k = omega arith in h (suc k) (ap (is_within first last) f ∙ t)))
  where
    by_test : (b : Bool) → is_within first last i ≡ b → (if b then n else m) ≡ n
    by_test true t = refl
    by_test false t = let f : i + 0 ≡ i = omega arith in sym (h 0 (ap (is_within first last) f ∙ t))

module _ (target : Target) (input : Input) (reading : Reading) where
  -- the answer of the contents, and what follows it
  by_answer : (dir : Direction) (kind : Submatch) (first last : ℕ) (a : Tree) (p m : ProgramPoint) (s : State) (w : Whole)
      → Stands target.program w.at (code.submatch kind first last (suc m.address)) → Stands target.program m.address code.goal
      → AreNumbered first last (group_ids a) → StandsFor reading s w → (us : List State) (vs : List Whole)
      → Pairwise (Arrives reading (submatch_direction kind dir) m.address (λ k. occurs k a) p.loops m.loops s.place w) us vs
      → Expands target.program input reading (submatch_direction kind dir) (onward w ∷ []) vs
      → Leads target.program input reading dir (Arrives reading dir (suc m.address) (λ k. occurs k a) p.loops m.loops s.place w) (w ∷ [])
      (submatched kind s us)
  by_answer dir (lookaround true behind) first last a p m s w here end numbered stands [] [] h e =
      let v : Whole = record w { at = suc m.address } in
      let Q : State → Whole → Type 0 = Arrives reading dir (suc m.address) (λ k. occurs k a) p.loops m.loops s.place w in
      first_expand target.program input reading Q (w ∷ []) (v ∷ []) (s ∷ [])
      (looks_around target.program input reading (lookaround true behind) first last (suc m.address) w None here (e [] None (0, ends)))
      (leads_at_once target.program input reading Q (s ∷ []) (v ∷ []) (stays target input reading dir (suc m.address) (λ k. occurs k a) p.loops m.loops s w v refl stands refl refl, tt))
  by_answer dir (lookaround false behind) first last a p m s w here end numbered stands [] [] h e =
      let Q : State → Whole → Type 0 = Arrives reading dir (suc m.address) (λ k. occurs k a) p.loops m.loops s.place w in
      first_expand target.program input reading Q (w ∷ []) [] []
      (looks_around target.program input reading (lookaround false behind) first last (suc m.address) w None here (e [] None (0, ends)))
      (leads_at_once target.program input reading Q [] [] tt)
  by_answer dir kind first last a p m s w here end numbered stands [] (v ∷ vs) h e = absurd h
  by_answer dir kind first last a p m s w here end numbered stands (u ∷ us) [] h e = absurd h
  by_answer dir (lookaround true behind) first last a p m s w here end numbered stands (u ∷ us) (v ∷ vs) (r, rest) e =
      let Q : State → Whole → Type 0 = Arrives reading dir (suc m.address) (λ k. occurs k a) p.loops m.loops s.place w in
      let run : SafeRuns target.program input reading (direction behind) (v ∷ (vs ++ [])) (Some v) = (1, finds (standing target input reading v r.at end)) in
      first_expand target.program input reading Q (w ∷ []) [] []
      (looks_around target.program input reading (lookaround true behind) first last (suc m.address) w (Some v) here (e [] (Some v) run))
      (leads_at_once target.program input reading Q [] [] tt)
  by_answer dir (lookaround false behind) first last a p m s w here end numbered stands (u ∷ us) (v ∷ vs) (r, rest) e =
      let Q : State → Whole → Type 0 = Arrives reading dir (suc m.address) (λ k. occurs k a) p.loops m.loops s.place w in
      let run : SafeRuns target.program input reading (direction behind) (v ∷ (vs ++ [])) (Some v) = (1, finds (standing target input reading v r.at end)) in
      let kept : mixed 0 first last v.groups w.groups ≡ v.groups =
      mixed-new 0 first last v.groups w.groups r.keeps.group_count
      (λ k t. let f : 0 + k ≡ k = omega arith in r.keeps.groups k (outside_none first last a numbered k (sym (ap (is_within first last) f) ∙ t))) in
      let z : Whole = record w { at = suc m.address; groups = v.groups } in
      let y : Whole = record w { at = suc m.address; groups = mixed 0 first last v.groups w.groups } in
      let same : y ≡ z = ap (λ (ms : List Marks). record w { at = suc m.address; groups = ms }) kept in
      let x : State = record s { groups = u.groups } in
      subst (λ (t : Whole). Expands target.program input reading dir (w ∷ []) (t ∷ []) → Leads target.program input reading dir Q (w ∷ []) (x ∷ [])) (sym same)
      (λ step. first_expand target.program input reading Q (w ∷ []) (z ∷ []) (x ∷ []) step
      (leads_at_once target.program input reading Q (x ∷ []) (z ∷ []) (
        record {
          at = refl;
          stands = record {
            place = stands.place;
            count = r.stands.count;
            groups = r.stands.groups;
            inside = record { place = stands.inside.place; groups = r.stands.inside.groups };
          };
          keeps = record {
            loops = λ k o. refl;
            loop_count = refl;
            groups = r.keeps.groups;
            group_count = r.keeps.group_count;
          };
          ahead = IsAhead-same dir s.place;
        },
        tt,
      )))
      (looks_around target.program input reading (lookaround false behind) first last (suc m.address) w (Some v) here (e [] (Some v) run))
  by_answer dir atomic first last a p m s w here end numbered stands [] [] h e =
      let Q : State → Whole → Type 0 = Arrives reading dir (suc m.address) (λ k. occurs k a) p.loops m.loops s.place w in
      first_expand target.program input reading Q (w ∷ []) [] []
      (looks_around target.program input reading atomic first last (suc m.address) w None here (e [] None (0, ends)))
      (leads_at_once target.program input reading Q [] [] tt)
  by_answer dir atomic first last a p m s w here end numbered stands (u ∷ us) (v ∷ vs) (r, rest) e =
      let Q : State → Whole → Type 0 = Arrives reading dir (suc m.address) (λ k. occurs k a) p.loops m.loops s.place w in
      let run : SafeRuns target.program input reading dir (v ∷ (vs ++ [])) (Some v) = (1, finds (standing target input reading v r.at end)) in
      let kept : mixed 0 first last v.groups w.groups ≡ v.groups =
      mixed-new 0 first last v.groups w.groups r.keeps.group_count
      (λ k t. let f : 0 + k ≡ k = omega arith in r.keeps.groups k (outside_none first last a numbered k (sym (ap (is_within first last) f) ∙ t))) in
      let z : Whole = record w { at = suc m.address; offset = v.offset; groups = v.groups } in
      let y : Whole = record w { at = suc m.address; offset = v.offset; groups = mixed 0 first last v.groups w.groups } in
      let same : y ≡ z = ap (λ (ms : List Marks). record w { at = suc m.address; offset = v.offset; groups = ms }) kept in
      subst (λ (t : Whole). Expands target.program input reading dir (w ∷ []) (t ∷ []) → Leads target.program input reading dir Q (w ∷ []) (u ∷ [])) (sym same)
      (λ step. first_expand target.program input reading Q (w ∷ []) (z ∷ []) (u ∷ []) step
      (leads_at_once target.program input reading Q (u ∷ []) (z ∷ []) (
        record {
          at = refl;
          stands = record {
            place = r.stands.place;
            count = r.stands.count;
            groups = r.stands.groups;
            inside = r.stands.inside;
          };
          keeps = record {
            loops = λ k o. refl;
            loop_count = refl;
            groups = r.keeps.groups;
            group_count = r.keeps.group_count;
          };
          ahead = r.ahead;
        },
        tt,
      )))
      (looks_around target.program input reading atomic first last (suc m.address) w (Some v) here (e [] (Some v) run))

  -- the contents lead to their answer
  behind_answer : (dir : Direction) (kind : Submatch) (first last : ℕ) (a : Tree) (p m : ProgramPoint) (s : State) (w : Whole)
      → Stands target.program w.at (code.submatch kind first last (suc m.address)) → Stands target.program m.address code.goal
      → AreNumbered first last (group_ids a) → StandsFor reading s w → (us : List State)
      → Leads target.program input reading (submatch_direction kind dir) (Arrives reading (submatch_direction kind dir) m.address (λ k. occurs k a) p.loops m.loops s.place w) (onward w ∷ []) us
      → Leads target.program input reading dir (Arrives reading dir (suc m.address) (λ k. occurs k a) p.loops m.loops s.place w) (w ∷ []) (submatched kind s us)
  behind_answer dir kind first last a p m s w here end numbered stands us l =
      subst (Leads target.program input reading dir (Arrives reading dir (suc m.address) (λ k. occurs k a) p.loops m.loops s.place w) (w ∷ [])) (alike-submatched kind s l.states us l.alike)
      (by_answer dir kind first last a p m s w here end numbered stands l.states l.wholes l.belong l.expand)

  pub looking : (b : Bool) (kind : Submatch) (first last : ℕ) (a : Tree) (p m : ProgramPoint)
      → Stands target.program p.address (code.submatch kind first last (suc m.address)) → Stands target.program m.address code.goal
      → AreNumbered first last (group_ids a) → Enters target input reading (reads_backward kind b) a (next p) m
      → Enters target input reading b (tree.submatch kind first last a) p (next m)
  unfolding node_outcomes
  looking b (lookaround negated behind) first last a p m begin end numbered inner s w at stands may =
      behind_answer (direction b) (lookaround negated behind) first last a p m s w (standing target input reading w at begin) end numbered stands
      (node_outcomes (context_of reading input) a (direction behind) s) (inner s (onward w) (ap suc at) stands may)
  looking b atomic first last a p m begin end numbered inner s w at stands may =
      behind_answer (direction b) atomic first last a p m s w (standing target input reading w at begin) end numbered stands
      (node_outcomes (context_of reading input) a (direction b) s) (inner s (onward w) (ap suc at) stands may)
