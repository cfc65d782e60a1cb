-- The states that a run comes to, whether it ends or not.
use Rattle.std.specs.Prelude.{◌≡◌, ℕ, ◌≤◌, Bool, true, false, List, [], ◌∷◌, ◌++◌, length, Option, Some, None, IfSome, get_or}
use Rattle.regress_meaning.specs.Meaning.{Direction, Forward}
use Rattle.regress_meaning.specs.Offsets.{Reading, offset}
use Rattle.regress_meaning.specs.Inputs.{Input}
use Rattle.regress_front_nodes.specs.TreeMeaning.{submatch_direction}
use Rattle.regress_front_nodes.specs.Trees.{Submatch}
use Rattle.regress_engine_insn.specs.Instructions.{Instruction, Program, Stands}
use Rattle.regress_engine_insn.specs.Instructions as code
use Rattle.regress_engine_runs.specs.States.{Whole, unset, range_of, onward, first_state}
use Rattle.regress_engine_runs.specs.Runs.{is_plain, successors, after_submatch, Runs}

module _ (program : Program) (input : Input) where
  -- A run over states meets a state.
  pub data Meets : Direction → List Whole → Whole → Type 0 where
    -- the one that is first
    now : {dir : Direction} {s : Whole} {ss : List Whole} → Meets dir (s ∷ ss) s
    -- one that is met where its successors have taken its place
    later : {dir : Direction} {i : Instruction} {s t : Whole} {ss : List Whole}
        → Stands program s.at i → is_plain i ≡ true → Meets dir (successors program input i dir s ++ ss) t → Meets dir (s ∷ ss) t
    -- at a lookaround or an atomic group one that is met inside
    inside : {dir : Direction} {kind : Submatch} {first last continuation : ℕ} {s t : Whole} {ss : List Whole}
        → Stands program s.at (code.submatch kind first last continuation)
        → Meets (submatch_direction kind dir) (onward s ∷ []) t → Meets dir (s ∷ ss) t
    -- or where what follows it has taken its place
    behind : {dir : Direction} {kind : Submatch} {first last continuation : ℕ} {s t : Whole} {ss : List Whole} {q : Option Whole}
        → Stands program s.at (code.submatch kind first last continuation)
        → Runs program input (submatch_direction kind dir) (onward s ∷ []) q → Meets dir (after_submatch kind first last continuation s q ++ ss) t
        → Meets dir (s ∷ ss) t

-- A program makes progress: from each place of the text, at each state that its run meets an instruction stands.
abbrev pub HasProgress : Program → Input → Reading → Type 0
HasProgress program input reading = (p : ℕ) → p ≤ length reading.points → (t : Whole)
    → Meets program input Forward (first_state program (offset reading p) ∷ []) t → (i : Instruction) × Stands program t.at i

-- an instruction reads the characters beside the offset where it stands
abbrev pub reads_character : Instruction → Bool
reads_character (code.char c) = true
reads_character (code.char_set cs) = true
reads_character (code.byte_set bs) = true
reads_character code.any = true
reads_character code.any_in_line = true
reads_character (code.bracket k) = true
reads_character (code.ascii_bracket cs) = true
reads_character (code.line_start multiline) = true
reads_character (code.line_end multiline) = true
reads_character (code.boundary inverted folded) = true
reads_character (code.back k icase) = true
reads_character (code.single_loop least most greedy) = true
reads_character code.goal = false
reads_character (code.byte_seq bs) = false
reads_character (code.enter_loop f) = false
reads_character (code.loop_again begin) = false
reads_character (code.jump a) = false
reads_character (code.alt a) = false
reads_character (code.begin_group k) = false
reads_character (code.end_group k) = false
reads_character (code.reset_group k) = false
reads_character (code.submatch kind first last continuation) = false
reads_character code.fail = false

-- an offset is that of a place
abbrev pub IsAtPlace : Reading → ℕ → Type 0
IsAtPlace reading o = (p : ℕ) × (p ≤ length reading.points) × (o ≡ offset reading p)

-- two offsets are those of places, the first no later than the second
abbrev pub AreAtPlaces : Reading → ℕ × ℕ → Type 0
AreAtPlaces reading x = IsAtPlace reading x.0 × IsAtPlace reading x.1 × (x.0 ≤ x.1)

-- the group that an instruction refers to
abbrev pub referred : Instruction → Option ℕ
referred (code.back k icase) = Some k
referred _ = None

-- What an instruction reads in a state is at places: the characters beside the offset, and the range of the group that it
-- refers to.
abbrev pub ReadsPlaces : Reading → Instruction → Whole → Type 0
ReadsPlaces reading i s =
    IsAtPlace reading s.offset × IfSome (referred i) (λ k. IfSome (range_of (get_or s.groups k unset)) (AreAtPlaces reading))

-- A program reads at places: from each place of the text, each state that its run meets at an instruction that reads
-- characters is at the offset of a place, and so are the ends of what it refers to.
abbrev pub ReadsAtPlaces : Program → Input → Reading → Type 0
ReadsAtPlaces program input reading = (p : ℕ) → p ≤ length reading.points → (t : Whole) (i : Instruction)
    → Meets program input Forward (first_state program (offset reading p) ∷ []) t → Stands program t.at i → reads_character i ≡ true
    → ReadsPlaces reading i t
