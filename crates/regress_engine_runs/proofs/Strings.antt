-- Entering a set of strings: the pieces of each, one after another.
use Rattle.std.proofs.Common.{◌≡◌, ℕ, suc, ◌+◌, ◌≤◌, nat_eq, Bool, true, false, List, [], ◌∷◌, ◌++◌, length, reverse, All, refl, sym, ap, ◌∙◌, subst, arith, length-append}
use Rattle.std.proofs.lemmas.List.{append-nil}
use Rattle.std.proofs.lemmas.List.Elements.{All-head, All-tail}
use Rattle.regress_meaning.specs.TableParts.{is_code_point}
use Rattle.regress_meaning.specs.Meaning.{State, Direction, Forward, Backward, Context, step, same_all}
use Rattle.regress_meaning.specs.Offsets.{Reading}
use Rattle.regress_meaning.specs.Inputs.{Input, Tells, context_of}
use Rattle.regress_front_nodes.specs.Trees.{Tree, cat_of}
use Rattle.regress_front_nodes.specs.Trees as tree
use Rattle.regress_front_nodes.specs.TreeMeaning.{node_outcomes, direction}
use Rattle.regress_front_nodes.specs.Forms.{in_reading_order}
use Rattle.regress_front_nodes.specs.Pieces.{pieces_of}
use Rattle.regress_front_nodes.specs.ByteInputs.{TellsBytes}
use Rattle.regress_front_nodes.proofs.PieceOutcomes.{pieces-outcomes, back-outcomes}
use Rattle.regress_engine_insn.specs.Instructions.{Program, Instruction, Stands, StandFrom}
use Rattle.regress_engine_insn.specs.Instructions as code
use Rattle.regress_engine_insn.specs.Layout.{ProgramPoint, next, later, Target, AreAll, AreArms, piece_code, pieces_code}
use Rattle.regress_engine_insn.proofs.StringLemmas.{IsPiece, all-pieces, ordered-pieces}
use Rattle.regress_engine_insn.proofs.LayoutLemmas.{stand-parts}
use Rattle.regress_engine_runs.specs.States.{Whole}
use Rattle.regress_engine_runs.specs.Stand.{IsMadeFor}
use Rattle.regress_engine_runs.proofs.RunLemmas.{steps}
use Rattle.regress_engine_runs.proofs.Leading.{Leads, leads_at_once, first_expand, leads_weaker}
use Rattle.regress_engine_runs.proofs.Places.{occurs, Arrives, Keeps-less, MayEnter-part, arms-rise}
use Rattle.regress_engine_runs.proofs.Entering.{Enters, standing, one_after_another, first_or_second}
use Rattle.regress_engine_runs.proofs.Leaves.{taking, empty-enters, byte_set-enters, char_set-enters}
use Rattle.regress_engine_runs.proofs.Literals.{spelling}

-- no group is in a piece
piece-without : (k : ℕ) (t : Tree) → IsPiece t → occurs k t ≡ 0
piece-without k (tree.char c) h = refl
piece-without k (tree.bytes bs) h = refl
piece-without k (tree.byte_set bs) h = refl
piece-without k (tree.char_set cs) h = refl
piece-without k _ h = absurd h

pieces-without : (k : ℕ) (ts : List Tree) → All IsPiece ts → occurs k (cat_of ts) ≡ 0
pieces-without k [] h = refl
pieces-without k (t ∷ ts) h =
    let e = piece-without k t (All-head IsPiece t ts h) in let f = pieces-without k ts (All-tail IsPiece t ts h) in omega (arith, e, f)

-- the program point behind one instruction
one-further : (p q : ProgramPoint) → q ≡ later p 1 → next p ≡ q
one-further p q end = let e : suc p.address ≡ p.address + 1 = omega arith in (λ i. record p { address = e i }) ∙ sym end

module _ (target : Target) (input : Input) (reading : Reading) (tells : Tells reading input) (told : target.program.units ≡ false → TellsBytes reading input) (made : IsMadeFor target input) where
  abbrev context : Context
  context = context_of reading input

  -- what enters a tree enters another of the same outcomes and groups
  entered-as : (b : Bool) (t u : Tree) (p q : ProgramPoint) → ((k : ℕ) → occurs k t ≡ occurs k u)
      → ((s : State) → s.place ≤ length reading.points → node_outcomes context t (direction b) s ≡ node_outcomes context u (direction b) s)
      → Enters target input reading b t p q → Enters target input reading b u p q
  entered-as b t u p q same means enter s w at stands may =
      let dir : Direction = direction b in
      let f : ℕ → ℕ = λ k. occurs k t in
      let g : ℕ → ℕ = λ k. occurs k u in
      let R : State → Whole → Type 0 = Arrives reading dir q.address f p.loops q.loops s.place w in
      let Q : State → Whole → Type 0 = Arrives reading dir q.address g p.loops q.loops s.place w in
      let fewer : (k : ℕ) → f k ≤ g k = λ k. let e = same k in omega (arith, e) in
      subst (Leads target.program input reading dir Q (w ∷ [])) (means s stands.inside.place)
      (leads_weaker target.program input reading R Q (λ y z c. record {
        at = c.at;
        stands = c.stands;
        keeps = Keeps-less f g p.loops q.loops p.loops q.loops w z fewer (omega arith) (omega arith) c.keeps;
        ahead = c.ahead;
      }) (w ∷ []) (node_outcomes context t dir s)
      (enter s w at stands (MayEnter-part f g q.loops q.loops w fewer (omega arith) may)))

  -- a piece
  piece-enters : (b : Bool) (t : Tree) (p q : ProgramPoint) → IsPiece t → AreAll target (piece_code target.program b t) p q → Enters target input reading b t p q
  unfolding node_outcomes
  piece-enters b (tree.char c) p q is (stand, end) =
      subst (λ r. Enters target input reading b (tree.char c) p r) (one-further p q end)
      (taking target input reading tells b (tree.char c) (code.char c) (nat_eq c) p stand.0 refl (λ w. refl) (λ s. refl))
  piece-enters b (tree.bytes bs) p q is lies = spelling target input reading tells told b bs p q is lies
  piece-enters b (tree.byte_set bs) p q is (stand, end) =
      subst (λ r. Enters target input reading b (tree.byte_set bs) p r) (one-further p q end) (byte_set-enters target input reading tells b bs p target.program.units stand.0)
  piece-enters b (tree.char_set cs) p q is (stand, end) =
      subst (λ r. Enters target input reading b (tree.char_set cs) p r) (one-further p q end)
      (char_set-enters target input reading tells b cs p stand.0)
  piece-enters b _ p q is lies = absurd is

  -- pieces one after another
  pieces-enter : (b : Bool) (ts : List Tree) (p q : ProgramPoint) → All IsPiece ts → AreAll target (pieces_code target.program b ts) p q → Enters target input reading b (cat_of ts) p q
  unfolding node_outcomes
  pieces-enter b [] p q are (stand, end) =
      let e : p.address + 0 ≡ p.address = omega arith in
      empty-enters target input reading tells b tree.no_part p q (end ∙ (λ i. record p { address = e i })) (λ s. refl)
  pieces-enter b (t ∷ ts) p q are (stand, end) =
      let xs : List Instruction = piece_code target.program b t in
      let ys : List Instruction = pieces_code target.program b ts in
      let m : ProgramPoint = later p (length xs) in
      let parts = stand-parts target.program xs ys p.address stand in
      let size : length (xs ++ ys) ≡ length xs + length ys = length-append xs ys in
      let e : p.address + length (xs ++ ys) ≡ p.address + length xs + length ys = omega (arith, size) in
      let loops : q.loops ≡ p.loops = ap (λ (r : ProgramPoint). r.loops) end in
      let first : IsPiece t = All-head IsPiece t ts are in
      let others : All IsPiece ts = All-tail IsPiece t ts are in
      one_after_another target input reading b t (cat_of ts) p m q (omega arith) (omega (arith, loops))
      (λ k. let f = piece-without k t first in let g = pieces-without k ts others in omega (arith, f, g))
      (piece-enters b t p m first (parts.0, refl)) (pieces-enter b ts m q others (parts.1, end ∙ (λ i. record p { address = e i })))

  -- the pieces of a string in the order of reading
  abbrev parts_of : Bool → Bool → List ℕ → List Tree
  parts_of b icase cs = in_reading_order b (pieces_of target.table icase target.unicode cs)

  parts-outcomes : (b icase : Bool) (cs : List ℕ) → All is_code_point cs → (s : State) → s.place ≤ length reading.points
      → node_outcomes context (cat_of (parts_of b icase cs)) (direction b) s ≡ step context (direction b) (length cs) (same_all context.table context.unicode icase cs) s
  parts-outcomes true icase cs points s inside =
      (λ i. node_outcomes context (cat_of (reverse (pieces_of (made.table i) icase (made.unicode i) cs))) Backward s)
      ∙ back-outcomes context tells.points icase cs s points inside
  parts-outcomes false icase cs points s inside =
      (λ i. node_outcomes context (cat_of (pieces_of (made.table i) icase (made.unicode i) cs)) Forward s)
      ∙ pieces-outcomes context tells.points icase cs s points inside

  -- a string
  string-enters : (b icase : Bool) (cs : List ℕ) (p q : ProgramPoint) → All is_code_point cs → AreAll target (pieces_code target.program b (parts_of b icase cs)) p q
      → Enters target input reading b (cat_of (parts_of b icase cs)) p q
  string-enters b icase cs p q points lies =
      pieces-enter b (parts_of b icase cs) p q (ordered-pieces b (pieces_of target.table icase target.unicode cs) (all-pieces target.table icase target.unicode cs points)) lies

  string-without : (b icase : Bool) (cs : List ℕ) → All is_code_point cs → (k : ℕ) → occurs k (cat_of (parts_of b icase cs)) ≡ 0
  string-without b icase cs points k =
      pieces-without k (parts_of b icase cs) (ordered-pieces b (pieces_of target.table icase target.unicode cs) (all-pieces target.table icase target.unicode cs points))

  -- A set of strings: its arms are entered one after another.
  pub choosing : (b icase : Bool) (strings : List (List ℕ)) (p q : ProgramPoint) → All (All is_code_point) strings → AreArms target b icase strings p q
      → Enters target input reading b (tree.string_set strings icase) p q
  unfolding node_outcomes
  choosing b icase [] p q points (here, end) = λ s w at stands may.
      let Q : State → Whole → Type 0 = Arrives reading (direction b) q.address (λ k. 0) p.loops q.loops s.place w in
      first_expand target.program input reading Q (w ∷ []) [] [] (steps target.program input reading code.fail w (standing target input reading w at here) refl (λ e. absurd (grind arith)))
      (leads_at_once target.program input reading Q [] [] tt)
  choosing b icase (cs ∷ []) p q points lies =
      let own : All is_code_point cs = All-head (All is_code_point) cs [] points in
      entered-as b (cat_of (parts_of b icase cs)) (tree.string_set (cs ∷ []) icase) p q (string-without b icase cs own)
      (λ s inside. parts-outcomes b icase cs own s inside ∙ sym (append-nil (step context (direction b) (length cs) (same_all context.table context.unicode icase cs) s)))
      (string-enters b icase cs p q own lies)
  choosing b icase (cs ∷ ds ∷ strings) p q points (m, first, alt, jump, rest) =
      let own : All is_code_point cs = All-head (All is_code_point) cs (ds ∷ strings) points in
      let t : Tree = cat_of (parts_of b icase cs) in
      let others : Tree = tree.string_set (ds ∷ strings) icase in
      let loops : m.loops ≡ p.loops = ap (λ (r : ProgramPoint). r.loops) first.1 in
      entered-as b (tree.alt t others) (tree.string_set (cs ∷ ds ∷ strings) icase) p q
      (λ k. let e = string-without b icase cs own k in omega (arith, e))
      (λ s inside. ap (λ us. us ++ node_outcomes context others (direction b) s) (parts-outcomes b icase cs own s inside))
      (first_or_second target input reading b t others p m q (omega (arith, loops)) (arms-rise target b icase (ds ∷ strings) (next m) q rest) alt jump
      (string-enters b icase cs (next p) m own first)
      (choosing b icase (ds ∷ strings) (next m) q (All-tail (All is_code_point) cs (ds ∷ strings) points) rest))
