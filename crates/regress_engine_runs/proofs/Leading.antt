-- Lists of whole states that expand, item by item, to what lists of states stand for, but for what is never the first to answer.
use Rattle.std.proofs.Common.{◌≡◌, Bool, true, false, List, [], ◌∷◌, ◌++◌, if◌then◌else◌, filter, map, flat_map, refl, ap, ◌∙◌, subst}
use Rattle.std.proofs.lemmas.List.Concat.{flat_map_single}
use Rattle.regress_meaning.specs.Meaning.{State, Direction}
use Rattle.regress_meaning.specs.Inputs.{Input}
use Rattle.regress_meaning.specs.Offsets.{Reading}
use Rattle.regress_front_nodes.proofs.StepLemmas.{flat_map-self}
use Rattle.regress_engine_insn.specs.Instructions.{Program}
use Rattle.regress_engine_runs.specs.States.{Whole}
use Rattle.regress_engine_runs.proofs.FirstAnswers.{AnswerAlike, alike-append, alike-flat}
use Rattle.regress_engine_runs.proofs.RunLemmas.{Expands, Expands-same, Expands-then, Expands-left, Expands-right}

-- the two lists are of one length, and each two items belong together
abbrev pub Pairwise : (State → Whole → Type 0) → List State → List Whole → Type 0
Pairwise R [] [] = Unit {0}
Pairwise R [] (w ∷ ws) = ⊥
Pairwise R (s ∷ ss) [] = ⊥
Pairwise R (s ∷ ss) (w ∷ ws) = R s w × Pairwise R ss ws

pub Pairwise-append : (R : State → Whole → Type 0) (ss : List State) (ws : List Whole) (ts : List State) (vs : List Whole)
    → Pairwise R ss ws → Pairwise R ts vs → Pairwise R (ss ++ ts) (ws ++ vs)
Pairwise-append R [] [] ts vs h k = k
Pairwise-append R [] (w ∷ ws) ts vs h k = absurd h
Pairwise-append R (s ∷ ss) [] ts vs h k = absurd h
Pairwise-append R (s ∷ ss) (w ∷ ws) ts vs h k = (h.0, Pairwise-append R ss ws ts vs h.1 k)

pub Pairwise-weaker : (R Q : State → Whole → Type 0) → ((s : State) (w : Whole) → R s w → Q s w) → (ss : List State) (ws : List Whole)
    → Pairwise R ss ws → Pairwise Q ss ws
Pairwise-weaker R Q weaker [] [] h = h
Pairwise-weaker R Q weaker [] (w ∷ ws) h = absurd h
Pairwise-weaker R Q weaker (s ∷ ss) [] h = absurd h
Pairwise-weaker R Q weaker (s ∷ ss) (w ∷ ws) h = (weaker s w h.0, Pairwise-weaker R Q weaker ss ws h.1)

-- a filter before a flat map is a test in it
pub flat_map-filter : (f : State → List State) (test : State → Bool) (ss : List State)
    → flat_map f (filter test ss) ≡ flat_map (λ s. if test s then f s else []) ss
flat_map-filter f test [] = refl
flat_map-filter f test (s ∷ ss) = by_test (test s) refl (flat_map-filter f test ss)
  where
    by_test : (b : Bool) → test s ≡ b → flat_map f (filter test ss) ≡ flat_map (λ s. if test s then f s else []) ss
        → flat_map f (filter test (s ∷ ss)) ≡ flat_map (λ s. if test s then f s else []) (s ∷ ss)
    by_test true e rest = rw e (ap (λ ts. f s ++ ts) rest)
    by_test false e rest = rw e rest

module _ (program : Program) (input : Input) (reading : Reading) where
  -- The whole states expand to some that belong one by one to states, of which the same one answers first as of those.
  pub record Leads (dir : Direction) (R : State → Whole → Type 0) (ws : List Whole) (ss : List State) : Type 0 where
    pub states : List State
    pub wholes : List Whole
    pub alike : AnswerAlike states ss
    pub expand : Expands program input reading dir ws wholes
    pub belong : Pairwise R states wholes

  pub leads_at_once : {dir : Direction} (R : State → Whole → Type 0) (ss : List State) (ws : List Whole) → Pairwise R ss ws → Leads dir R ws ss
  leads_at_once {dir = dir} R ss ws h = record { states = ss; wholes = ws; alike = λ ask. refl; expand = Expands-same program input reading dir ws; belong = h }

  -- first a step
  pub first_expand : {dir : Direction} (R : State → Whole → Type 0) (us ws : List Whole) (ss : List State)
      → Expands program input reading dir us ws → Leads dir R ws ss → Leads dir R us ss
  first_expand R us ws ss e l = record { states = l.states; wholes = l.wholes; alike = l.alike; expand = Expands-then program input reading us ws l.wholes e l.expand; belong = l.belong }

  -- to states of which the same one answers first
  pub leads_alike : {dir : Direction} (R : State → Whole → Type 0) (ws : List Whole) (ss ts : List State) → AnswerAlike ss ts → Leads dir R ws ss → Leads dir R ws ts
  leads_alike R ws ss ts same l = record { states = l.states; wholes = l.wholes; alike = λ ask. l.alike ask ∙ same ask; expand = l.expand; belong = l.belong }

  -- side by side
  pub leads_beside : {dir : Direction} (R : State → Whole → Type 0) (us ws : List Whole) (ss ts : List State)
      → Leads dir R us ss → Leads dir R ws ts → Leads dir R (us ++ ws) (ss ++ ts)
  leads_beside R us ws ss ts l m = record {
    states = l.states ++ m.states;
    wholes = l.wholes ++ m.wholes;
    alike = alike-append l.states m.states ss ts l.alike m.alike;
    expand = Expands-then program input reading (us ++ ws) (l.wholes ++ ws) (l.wholes ++ m.wholes) (Expands-right program input reading us l.wholes ws l.expand) (Expands-left program input reading l.wholes ws m.wholes m.expand);
    belong = Pairwise-append R l.states l.wholes m.states m.wholes l.belong m.belong;
  }

  -- each on
  pub leads_each : {dir : Direction} (R Q : State → Whole → Type 0) (f : State → List State)
      → ((s : State) (w : Whole) → R s w → Leads dir Q (w ∷ []) (f s)) → (ss : List State) (ws : List Whole) → Pairwise R ss ws
      → Leads dir Q ws (flat_map f ss)
  leads_each R Q f on [] [] h = leads_at_once Q [] [] tt
  leads_each R Q f on [] (w ∷ ws) h = absurd h
  leads_each R Q f on (s ∷ ss) [] h = absurd h
  leads_each R Q f on (s ∷ ss) (w ∷ ws) h =
      leads_beside Q (w ∷ []) ws (f s) (flat_map f ss) (on s w h.0) (leads_each R Q f on ss ws h.1)

  -- one after another
  pub leads_on : {dir : Direction} (R Q : State → Whole → Type 0) (f : State → List State) (ws : List Whole) (ss : List State)
      → Leads dir R ws ss → ((s : State) (w : Whole) → R s w → Leads dir Q (w ∷ []) (f s)) → Leads dir Q ws (flat_map f ss)
  leads_on R Q f ws ss l on =
      leads_alike Q ws (flat_map f l.states) (flat_map f ss) (alike-flat f l.states ss l.alike)
      (first_expand Q ws l.wholes (flat_map f l.states) l.expand (leads_each R Q f on l.states l.wholes l.belong))

  -- each to one
  pub leads_to_one : {dir : Direction} (R Q : State → Whole → Type 0) (f : State → State) (ws : List Whole) (ss : List State)
      → Leads dir R ws ss → ((s : State) (w : Whole) → R s w → Leads dir Q (w ∷ []) (f s ∷ [])) → Leads dir Q ws (map f ss)
  leads_to_one {dir = dir} R Q f ws ss h on =
      subst (Leads dir Q ws) (flat_map_single f ss) (leads_on R Q (λ s. f s ∷ []) ws ss h on)

  -- each to the same state
  pub leads_same : {dir : Direction} (R Q : State → Whole → Type 0) (ws : List Whole) (ss : List State)
      → Leads dir R ws ss → ((s : State) (w : Whole) → R s w → Leads dir Q (w ∷ []) (s ∷ [])) → Leads dir Q ws ss
  leads_same {dir = dir} R Q ws ss h on = subst (Leads dir Q ws) (flat_map-self ss) (leads_on R Q (λ s. s ∷ []) ws ss h on)

  pub leads_weaker : {dir : Direction} (R Q : State → Whole → Type 0) → ((s : State) (w : Whole) → R s w → Q s w)
      → (ws : List Whole) (ss : List State) → Leads dir R ws ss → Leads dir Q ws ss
  leads_weaker R Q weaker ws ss l = record { states = l.states; wholes = l.wholes; alike = l.alike; expand = l.expand; belong = Pairwise-weaker R Q weaker l.states l.wholes l.belong }
