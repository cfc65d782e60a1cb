-- Entering any tree that lies in a program.
use Rattle.std.specs.Prelude.{nat_eq, is_some, chars}
use Rattle.std.specs.List.{list_all}
use Rattle.std.proofs.Common.{◌≡◌, ℕ, suc, ◌+◌, ◌≤◌, ◌==◌, ◌&&◌, ◌||◌, not, Bool, true, false, List, [], ◌∷◌, length, Option, Some, None, if◌then◌else◌, option_map, option_and_then, refl, sym, ap, ap₂, ◌∙◌, subst, arith}
use Rattle.regress_meaning.specs.Text.{holds, same_text}
use Rattle.regress_meaning.specs.Meaning.{State, Direction, Forward, Backward, Context, beside, before, after, step, is_line_end, is_some_and, differ}
use Rattle.regress_meaning.specs.Offsets.{Reading, offset}
use Rattle.regress_meaning.specs.Inputs.{Input, Tells, neighbour, point_told, context_of}
use Rattle.regress_meaning.specs.Steps.{passed, only_if, point}
use Rattle.regress_front_nodes.specs.Trees.{Tree}
use Rattle.regress_front_nodes.specs.Trees as tree
use Rattle.regress_front_nodes.specs.TreeMeaning.{reads_backward, node_outcomes, bracket_has, direction}
use Rattle.regress_front_nodes.specs.WellFormed.{AreLawful, goals}
use Rattle.regress_front_nodes.specs.ByteInputs.{TellsBytes, placed}
use Rattle.regress_front_nodes.specs.Singles.{takes_one}
use Rattle.regress_engine_insn.specs.Instructions.{LoopFields, Program, Instruction, Stands, StandFrom}
use Rattle.regress_engine_insn.specs.Instructions as code
use Rattle.regress_engine_insn.specs.Layout.{ProgramPoint, next, Target, Lies, IsBracket, literal_code, char_set_code, byte_set_code}
use Rattle.regress_engine_insn.proofs.LiteralLemmas.{one-character, literal-alone}
use Rattle.regress_engine_runs.specs.States.{Whole}
use Rattle.regress_engine_runs.specs.Runs.{moved_to}
use Rattle.regress_engine_runs.specs.Stand.{StandsFor, IsMadeFor}
use Rattle.regress_engine_runs.proofs.Places.{occurs, Lies-rises}
use Rattle.regress_engine_runs.proofs.Entering.{Enters, one_after_another, first_or_second}
use Rattle.regress_engine_runs.proofs.Groups.{in_group}
use Rattle.regress_engine_runs.proofs.Looks.{looking}
use Rattle.regress_engine_runs.proofs.Loops.{repeating}
use Rattle.regress_engine_runs.proofs.Neighbours.{point-before, point-after, none-before, none-after}
use Rattle.regress_engine_runs.proofs.Leaves.{taking, testing, empty-enters, byte_set-enters, char_set-enters}
use Rattle.regress_engine_runs.proofs.Sets.{char_set-takes, byte_set-takes}
use Rattle.regress_engine_runs.proofs.Backs.{referring}
use Rattle.regress_engine_runs.proofs.SingleLoops.{repeating_one}
use Rattle.regress_engine_runs.proofs.Literals.{spelling, alone-step, one-placed}
use Rattle.regress_engine_runs.proofs.Strings.{choosing}

module _ (target : Target) (input : Input) (reading : Reading) (tells : Tells reading input) (told : target.program.units ≡ false → TellsBytes reading input)
    (made : IsMadeFor target input) (whole : offset reading (length reading.points) ≡ length input.units) where
  abbrev context : Context
  context = context_of reading input

  bracket-enters : (b inverted : Bool) (intervals : List (ℕ × ℕ)) (i : Instruction) (p : ProgramPoint) → IsBracket target.program inverted intervals i → Stands target.program p.address i
      → Enters target input reading b (tree.bracket inverted intervals) p (next p)
  unfolding node_outcomes
  bracket-enters b inverted intervals (code.bracket k) p is h =
      taking target input reading tells b (tree.bracket inverted intervals) (code.bracket k) (bracket_has inverted intervals) p h refl
      (λ w. ap (λ o. moved_to w (option_and_then (λ (x : Bool × List (ℕ × ℕ)). passed (bracket_has x.0 x.1) (input.next (direction b) w.offset)) o)) is)
      (λ s. refl)
  bracket-enters b inverted intervals (code.ascii_bracket cs) p is h =
      taking target input reading tells b (tree.bracket inverted intervals) (code.ascii_bracket cs) (holds cs) p h refl
      (λ w. refl) (λ s. λ j. step context (direction b) 1 (list_all (λ c. sym (is c) j)) s)
  bracket-enters b inverted intervals _ p is h = absurd is

  -- what the input tells beside the offset of a state
  told-at : (dir : Direction) (s : State) (w : Whole) → StandsFor reading s w → input.next dir w.offset ≡ option_map (point_told reading) (neighbour reading.points dir s.place)
  told-at dir s w stands = ap (input.next dir) stands.place ∙ tells.next dir s.place stands.inside.place

  told-point : (o : Option (ℕ × ℕ)) → option_map (λ (x : ℕ × ℕ). x.0) (option_map (point_told reading) o) ≡ option_map (λ (x : ℕ × ℕ). x.0) o
  told-point None = refl
  told-point (Some x) = refl

  told-some : (o : Option (ℕ × ℕ)) → not (is_some (option_map (point_told reading) o)) ≡ not (is_some o)
  told-some None = refl
  told-some (Some x) = refl

  point-at : (dir : Direction) (s : State) (w : Whole) → StandsFor reading s w
      → point input dir w.offset ≡ option_map (λ (x : ℕ × ℕ). x.0) (neighbour reading.points dir s.place)
  point-at dir s w stands = ap (option_map (λ (x : ℕ × ℕ). x.0)) (told-at dir s w stands) ∙ told-point (neighbour reading.points dir s.place)

  none-at : (dir : Direction) (s : State) (w : Whole) → StandsFor reading s w
      → not (is_some (input.next dir w.offset)) ≡ not (is_some (neighbour reading.points dir s.place))
  none-at dir s w stands = ap (λ (o : Option (ℕ × ℕ)). not (is_some o)) (told-at dir s w stands) ∙ told-some (neighbour reading.points dir s.place)

  line_start-enters : (b multiline : Bool) (p : ProgramPoint) → Stands target.program p.address (code.line_start multiline) → Enters target input reading b (tree.line_start multiline) p (next p)
  unfolding node_outcomes
  line_start-enters b multiline p h =
      testing target input reading tells b (tree.line_start multiline) (code.line_start multiline) p h refl
      (λ s. s.place == 0 || (multiline && is_some_and (before context s.place) is_line_end))
      (λ s w stands. ap₂ (λ a o. moved_to w (only_if (a || (multiline && is_some_and o is_line_end)) w.offset))
      (none-at Backward s w stands ∙ none-before context s.place stands.inside.place) (point-at Backward s w stands ∙ point-before context s.place))
      (λ s. refl)

  line_end-enters : (b multiline : Bool) (p : ProgramPoint) → Stands target.program p.address (code.line_end multiline) → Enters target input reading b (tree.line_end multiline) p (next p)
  unfolding node_outcomes
  line_end-enters b multiline p h =
      testing target input reading tells b (tree.line_end multiline) (code.line_end multiline) p h refl
      (λ s. s.place == length reading.points || (multiline && is_some_and (after context s.place) is_line_end))
      (λ s w stands. ap₂ (λ a o. moved_to w (only_if (a || (multiline && is_some_and o is_line_end)) w.offset))
      (none-at Forward s w stands ∙ none-after context s.place stands.inside.place) (point-at Forward s w stands ∙ point-after context s.place))
      (λ s. refl)

  boundary-enters : (b inverted folded : Bool) (p : ProgramPoint) → Stands target.program p.address (code.boundary inverted folded)
      → Enters target input reading b (tree.boundary inverted folded) p (next p)
  unfolding node_outcomes
  boundary-enters b inverted folded p h =
      testing target input reading tells b (tree.boundary inverted folded) (code.boundary inverted folded) p h refl
      (λ s. let d = differ context.table folded (before context s.place) (after context s.place) in if inverted then not d else d)
      (λ s w stands. ap₂ (λ x y. let d = differ input.table folded x y in moved_to w (only_if (if inverted then not d else d) w.offset))
      (point-at Backward s w stands ∙ point-before context s.place) (point-at Forward s w stands ∙ point-after context s.place))
      (λ s. refl)

  -- a repetition of what takes one character
  single-enters : (n : ℕ) (a : Tree) (b : Bool) (least most : ℕ) (greedy : Bool) (p q : ProgramPoint) → Stands target.program p.address (code.single_loop least most greedy)
      → Lies target b a (next p) q → takes_one a ≡ true → least ≤ most → AreLawful n a → Enters target input reading b (tree.single_loop a least most greedy) p q
  unfolding node_outcomes
  single-enters n (tree.char c) b least most greedy p q here h one order lawful =
      subst (λ r. Enters target input reading b (tree.single_loop (tree.char c) least most greedy) p r) (sym h.1)
      (repeating_one target input reading tells b (tree.char c) (code.char c) (nat_eq c) least most greedy p order here h.0 (λ gs place room. refl) (λ s room. refl))
  single-enters n tree.any b least most greedy p q here h one order lawful =
      subst (λ r. Enters target input reading b (tree.single_loop tree.any least most greedy) p r) (sym h.1)
      (repeating_one target input reading tells b tree.any code.any (λ c. true) least most greedy p order here h.0 (λ gs place room. refl) (λ s room. refl))
  single-enters n tree.any_in_line b least most greedy p q here h one order lawful =
      subst (λ r. Enters target input reading b (tree.single_loop tree.any_in_line least most greedy) p r) (sym h.1)
      (repeating_one target input reading tells b tree.any_in_line code.any_in_line (λ c. not (is_line_end c)) least most greedy p order here h.0 (λ gs place room. refl) (λ s room. refl))
  single-enters n (tree.char_set cs) b least most greedy p q here h one order lawful =
      subst (λ r. Enters target input reading b (tree.single_loop (tree.char_set cs) least most greedy) p r) (sym h.1)
      (repeating_one target input reading tells b (tree.char_set cs) (char_set_code cs) (holds cs) least most greedy p order here h.0
      (λ gs place room. char_set-takes target.program input (direction b) cs gs (offset reading place)) (λ s room. refl))
  single-enters n (tree.byte_set bs) b least most greedy p q here h one order lawful =
      subst (λ r. Enters target input reading b (tree.single_loop (tree.byte_set bs) least most greedy) p r) (sym h.1)
      (repeating_one target input reading tells b (tree.byte_set bs) (byte_set_code target.program.units bs) (holds bs) least most greedy p order here h.0
      (λ gs place room. byte_set-takes target.program input (direction b) target.program.units bs gs (offset reading place)) (λ s room. refl))
  single-enters n (tree.bracket inverted intervals) b least most greedy p q here (i, is, h) one order lawful =
      subst (λ r. Enters target input reading b (tree.single_loop (tree.bracket inverted intervals) least most greedy) p r) (sym h.1) (by_instruction i is h.0)
    where
      by_instruction : (i : Instruction) → IsBracket target.program inverted intervals i → Stands target.program (suc p.address) i
          → Enters target input reading b (tree.single_loop (tree.bracket inverted intervals) least most greedy) p (next (next p))
      by_instruction (code.bracket k) is k' =
          repeating_one target input reading tells b (tree.bracket inverted intervals) (code.bracket k) (bracket_has inverted intervals) least most greedy p order here k'
          (λ gs place room. ap (option_and_then (λ (x : Bool × List (ℕ × ℕ)). passed (bracket_has x.0 x.1) (input.next (direction b) (offset reading place)))) is) (λ s room. refl)
      by_instruction (code.ascii_bracket cs) is k' =
          repeating_one target input reading tells b (tree.bracket inverted intervals) (code.ascii_bracket cs) (holds cs) least most greedy p order here k'
          (λ gs place room. refl) (λ s room. λ j. step context (direction b) 1 (list_all (λ c. sym (is c) j)) s)
      by_instruction _ is k' = absurd is
  single-enters n (tree.bytes bs) b least most greedy p q here (stand, end) one order lawful =
      subst (λ r. Enters target input reading b (tree.single_loop (tree.bytes bs) least most greedy) p r) (sym place) (by_units target.program.units refl)
    where
      c : ℕ
      c = (one-character bs one).0

      is : chars bs ≡ c ∷ []
      is = (one-character bs one).1

      code-is : literal_code target.program b bs ≡ (if target.program.units then code.char c else code.byte_seq bs) ∷ []
      code-is = literal-alone target.program b bs c is lawful

      place : q ≡ next (next p)
      place =
          let size : length (literal_code target.program b bs) ≡ 1 = ap length code-is in
          let e : suc p.address + length (literal_code target.program b bs) ≡ suc (suc p.address) = omega (arith, size) in
          end ∙ (λ i. record p { address = e i })

      body : (u : Bool) → target.program.units ≡ u → Stands target.program (suc p.address) (if u then code.char c else code.byte_seq bs)
      body u units = subst (λ v. Stands target.program (suc p.address) (if v then code.char c else code.byte_seq bs)) units (subst (StandFrom target.program (suc p.address)) code-is stand).0

      means : (s : State) → s.place ≤ length reading.points → node_outcomes context (tree.bytes bs) (direction b) s ≡ step context (direction b) 1 (list_all (nat_eq c)) s
      means s inside = ap (λ cs. step context (direction b) (length cs) (same_text cs) s) is ∙ alone-step context (direction b) c s inside

      by_units : (u : Bool) → target.program.units ≡ u → Enters target input reading b (tree.single_loop (tree.bytes bs) least most greedy) p (next (next p))
      by_units true units =
          repeating_one target input reading tells b (tree.bytes bs) (code.char c) (nat_eq c) least most greedy p order here (body true units) (λ gs place room. refl) means
      by_units false units =
          repeating_one target input reading tells b (tree.bytes bs) (code.byte_seq bs) (nat_eq c) least most greedy p order here (body false units)
          (λ gs place room. (told units).literal (direction b) bs lawful place room
          ∙ ap (λ cs. option_map (offset reading) (placed cs (beside context (direction b) (length cs) place))) is
          ∙ sym (one-placed input reading tells (direction b) c place room)) means
  single-enters n _ b least most greedy p q here h one order lawful = absurd (grind arith)

  -- Every tree is entered: in a state without its groups, at the program point where it begins, the program comes to its
  -- outcomes, one by one, at the program point where it ends.
  pub enters : (n : ℕ) (t : Tree) (b : Bool) (p q : ProgramPoint) → Lies target b t p q → AreLawful n t → ((k : ℕ) → occurs k t ≤ 1) → goals t ≡ 0 → Enters target input reading b t p q
  unfolding node_outcomes
  enters n tree.empty b p q h lawful once ended = empty-enters target input reading tells b tree.empty p q h (λ s. refl)
  enters n tree.no_part b p q h lawful once ended = empty-enters target input reading tells b tree.no_part p q h (λ s. refl)
  enters n (tree.char c) b p q h lawful once ended =
      subst (λ r. Enters target input reading b (tree.char c) p r) (sym h.1)
      (taking target input reading tells b (tree.char c) (code.char c) (nat_eq c) p h.0 refl (λ w. refl) (λ s. refl))
  enters n (tree.char_set cs) b p q h lawful once ended =
      subst (λ r. Enters target input reading b (tree.char_set cs) p r) (sym h.1)
      (char_set-enters target input reading tells b cs p h.0)
  enters n (tree.byte_set bs) b p q h lawful once ended =
      subst (λ r. Enters target input reading b (tree.byte_set bs) p r) (sym h.1) (byte_set-enters target input reading tells b bs p target.program.units h.0)
  enters n tree.any b p q h lawful once ended =
      subst (λ r. Enters target input reading b tree.any p r) (sym h.1)
      (taking target input reading tells b tree.any code.any (λ c. true) p h.0 refl (λ w. refl) (λ s. refl))
  enters n tree.any_in_line b p q h lawful once ended =
      subst (λ r. Enters target input reading b tree.any_in_line p r) (sym h.1)
      (taking target input reading tells b tree.any_in_line code.any_in_line (λ c. not (is_line_end c)) p h.0 refl (λ w. refl) (λ s. refl))
  enters n (tree.bracket inverted intervals) b p q (i, is, h) lawful once ended =
      subst (λ r. Enters target input reading b (tree.bracket inverted intervals) p r) (sym h.1) (bracket-enters b inverted intervals i p is h.0)
  enters n (tree.line_start multiline) b p q h lawful once ended =
      subst (λ r. Enters target input reading b (tree.line_start multiline) p r) (sym h.1) (line_start-enters b multiline p h.0)
  enters n (tree.line_end multiline) b p q h lawful once ended =
      subst (λ r. Enters target input reading b (tree.line_end multiline) p r) (sym h.1) (line_end-enters b multiline p h.0)
  enters n (tree.boundary inverted folded) b p q h lawful once ended =
      subst (λ r. Enters target input reading b (tree.boundary inverted folded) p r) (sym h.1) (boundary-enters b inverted folded p h.0)
  enters n (tree.cat s t) b p q (m, h, k) lawful once ended =
      one_after_another target input reading b s t p m q (Lies-rises target b s p m h) (Lies-rises target b t m q k) once
      (enters n s b p m h lawful.0 (λ i. omega (arith, once i)) (omega (arith, ended))) (enters n t b m q k lawful.1 (λ i. omega (arith, once i)) (omega (arith, ended)))
  enters n (tree.alt s t) b p q (m, alt, h, jump, k) lawful once ended =
      first_or_second target input reading b s t p m q (Lies-rises target b s (next p) m h) (Lies-rises target b t (next m) q k) alt jump
      (enters n s b (next p) m h lawful.0 (λ i. omega (arith, once i)) (omega (arith, ended))) (enters n t b (next m) q k lawful.1 (λ i. omega (arith, once i)) (omega (arith, ended)))
  enters n (tree.capture k name a) b p q (m, begin, h, end) lawful once ended =
      subst (λ r. Enters target input reading b (tree.capture k name a) p r) (sym end.1)
      (in_group target input reading b k name a p m begin end.0 once (enters n a b (next p) m h lawful.1 (λ i. omega (arith, once i)) ended))
  enters n (tree.submatch kind first last a) b p q (m, begin, h, end) lawful once ended =
      subst (λ r. Enters target input reading b (tree.submatch kind first last a) p r) (sym end.1)
      (looking target input reading b kind first last a p m
      (subst (λ c. Stands target.program p.address (code.submatch kind first last c)) (ap (λ (r : ProgramPoint). r.address) end.1) begin) end.0 lawful.0
      (enters n a (reads_backward kind b) (next p) m h lawful.1 once ended))
  enters n (tree.loop a first last least most greedy) b p q (m, begin, reset, h, end) lawful once ended =
      subst (λ r. Enters target input reading b (tree.loop a first last least most greedy) p r) (sym end.1)
      (repeating target input reading tells.rise whole b a first last least most greedy p m (record {
        begin = subst (λ c. Stands target.program p.address (code.enter_loop (record { loop_id = p.loops; least = least; most = most; greedy = greedy; exit = c })))
            (ap (λ (r : ProgramPoint). r.address) end.1) begin;
        reset = reset;
        end = end.0;
        numbered = lawful.0;
        bounds = lawful.1;
        rises = Lies-rises target b a _ m h;
        contents = enters n a b _ m h lawful.2 once ended;
        lawful = (n, lawful.2);
      }))
  enters n tree.goal b p q h lawful once ended = absurd (omega (arith, ended))
  enters n (tree.bytes bs) b p q h lawful once ended = spelling target input reading tells told b bs p q lawful h
  enters n (tree.back k icase) b p q h lawful once ended =
      subst (λ r. Enters target input reading b (tree.back k icase) p r) (sym h.1) (referring target input reading tells icase b k p h.0)
  enters n (tree.string_set strings icase) b p q h lawful once ended = choosing target input reading tells told made b icase strings p q lawful h
  enters n (tree.single_loop a least most greedy) b p q (here, h) lawful once ended =
      single-enters n a b least most greedy p q here h lawful.0 lawful.1 lawful.2
