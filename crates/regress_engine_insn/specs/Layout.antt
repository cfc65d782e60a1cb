-- How a tree lies in a program: which instructions stand for it, from which address up to which.
use Rattle.std.specs.Prelude.{◌≡◌, ℕ, zero, suc, ◌+◌, ◌-◌, Bool, false, List, [], ◌∷◌, ◌++◌, length, Some, if◌then◌else◌, slice_get, map, take, drop, chars}
use Rattle.regress_meaning.specs.Text.{holds, count_up}
use Rattle.regress_meaning.specs.Table.{Table}
use Rattle.regress_front_nodes.specs.Trees.{Tree}
use Rattle.regress_front_nodes.specs.Trees as tree
use Rattle.regress_front_nodes.specs.TreeMeaning.{reads_backward, bracket_has}
use Rattle.regress_front_nodes.specs.Forms.{in_reading_order}
use Rattle.regress_front_nodes.specs.Pieces.{pieces_of}
use Rattle.regress_engine_insn.specs.Instructions.{LoopFields, Instruction, Program, Stands, StandFrom}
use Rattle.regress_engine_insn.specs.Instructions as code

-- A point of a program: an address, and how many loops begin before it.
pub record ProgramPoint : Type 0 where
  pub address : ℕ
  pub loops : ℕ

-- the program point behind one instruction that begins no loop
abbrev pub next : ProgramPoint → ProgramPoint
next p = record p { address = suc p.address }

-- the program point behind so many instructions that begin no loop
abbrev pub later : ProgramPoint → ℕ → ProgramPoint
later p n = record p { address = p.address + n }

-- at most this many bytes are compared at once
abbrev pub most_bytes : ℕ
most_bytes = 16

-- bytes in parts of that length, and what is left; the number bounds how many parts there are
abbrev pub chunks : ℕ → List ℕ → List (List ℕ)
chunks zero bs = []
chunks (suc n) [] = []
chunks (suc n) (b ∷ bs) = take most_bytes (b ∷ bs) ∷ chunks n (drop most_bytes (b ∷ bs))

-- of a literal, in the order of reading: its characters in units, its chunks in bytes
abbrev pub literal_code : Program → Bool → List ℕ → List Instruction
literal_code program backward bs =
    in_reading_order backward (if program.units then map code.char (chars bs) else map code.byte_seq (chunks (length bs) bs))

-- One of some code points: nothing matches where there is none, and the last of fewer than four fills the places left.
abbrev pub char_set_code : List ℕ → Instruction
char_set_code [] = code.fail
char_set_code (a ∷ []) = code.char_set (a ∷ a ∷ a ∷ a ∷ [])
char_set_code (a ∷ b ∷ []) = code.char_set (a ∷ b ∷ b ∷ b ∷ [])
char_set_code (a ∷ b ∷ c ∷ []) = code.char_set (a ∷ b ∷ c ∷ c ∷ [])
char_set_code cs = code.char_set cs

-- One of some ASCII characters, in a program of bytes: nothing matches where there is none, and one alone stands twice.
abbrev pub ascii_set_code : List ℕ → Instruction
ascii_set_code [] = code.fail
ascii_set_code (a ∷ []) = code.byte_set (a ∷ a ∷ [])
ascii_set_code bs = code.byte_set bs

-- one of some ASCII characters: in units they are code points
abbrev pub byte_set_code : (units : Bool) → List ℕ → Instruction
byte_set_code units bs = if units then char_set_code bs else ascii_set_code bs

-- of one piece of a string
abbrev pub piece_code : Program → Bool → Tree → List Instruction
piece_code program backward (tree.bytes bs) = literal_code program backward bs
piece_code program backward (tree.char c) = code.char c ∷ []
piece_code program backward (tree.byte_set bs) = byte_set_code program.units bs ∷ []
piece_code program backward (tree.char_set cs) = char_set_code cs ∷ []
piece_code program backward _ = []

-- of pieces one after another
abbrev pub pieces_code : Program → Bool → List Tree → List Instruction
pieces_code program backward [] = []
pieces_code program backward (t ∷ ts) = piece_code program backward t ++ pieces_code program backward ts

-- the resets of so many groups, from the first on
abbrev pub resets : ℕ → ℕ → List Instruction
resets first n = map code.reset_group (count_up first n)

-- an instruction takes the characters of a bracket: it names the bracket, or lists its members
abbrev pub IsBracket : Program → Bool → List (ℕ × ℕ) → Instruction → Type 0
IsBracket program inverted intervals (code.bracket k) = slice_get program.brackets k ≡ Some (inverted, intervals)
IsBracket program inverted intervals (code.ascii_bracket cs) = (c : ℕ) → holds cs c ≡ bracket_has inverted intervals c
IsBracket program inverted intervals _ = ⊥

-- A program with what it is made for: the table and the mode by which strings fall into pieces.
pub record Target : Type 0 where
  pub program : Program
  pub table : Table
  pub unicode : Bool

-- the pieces of a string, in the order of reading
abbrev pub string_code : Target → (backward icase : Bool) → List ℕ → List Instruction
string_code target backward icase cs =
    pieces_code target.program backward (in_reading_order backward (pieces_of target.table icase target.unicode cs))

module _ (target : Target) where
  -- one instruction, and nothing else, stands between two program points
  abbrev pub IsOne : Instruction → ProgramPoint → ProgramPoint → Type 0
  IsOne i p q = Stands target.program p.address i × (q ≡ next p)

  -- these instructions, and nothing else, stand between two program points
  abbrev pub AreAll : List Instruction → ProgramPoint → ProgramPoint → Type 0
  AreAll is p q = StandFrom target.program p.address is × (q ≡ later p (length is))

  -- The strings of a set lie between two program points: an `Alt` before each but the last leads past it, a `Jump` behind it to the end.
  abbrev pub AreArms : (backward icase : Bool) → List (List ℕ) → ProgramPoint → ProgramPoint → Type 0
  AreArms backward icase [] p q = IsOne code.fail p q
  AreArms backward icase (s ∷ []) p q = AreAll (string_code target backward icase s) p q
  AreArms backward icase (s ∷ t ∷ ss) p q = (m : ProgramPoint) × AreAll (string_code target backward icase s) (next p) m
      × Stands target.program p.address (code.alt (suc m.address)) × Stands target.program m.address (code.jump q.address)
      × AreArms backward icase (t ∷ ss) (next m) q

  -- A tree lies between two program points; backward: inside a lookbehind.
  abbrev pub Lies : (backward : Bool) → Tree → ProgramPoint → ProgramPoint → Type 0
  Lies backward tree.empty p q = q ≡ p
  Lies backward tree.goal p q = IsOne code.goal p q
  Lies backward (tree.char c) p q = IsOne (code.char c) p q
  Lies backward (tree.bytes bs) p q = AreAll (literal_code target.program backward bs) p q
  Lies backward (tree.byte_set bs) p q = IsOne (byte_set_code target.program.units bs) p q
  Lies backward (tree.char_set cs) p q = IsOne (char_set_code cs) p q
  Lies backward (tree.cat a b) p q = (m : ProgramPoint) × Lies backward a p m × Lies backward b m q
  Lies backward tree.no_part p q = q ≡ p
  Lies backward (tree.alt a b) p q = (m : ProgramPoint) × Stands target.program p.address (code.alt (suc m.address)) × Lies backward a (next p) m
      × Stands target.program m.address (code.jump q.address) × Lies backward b (next m) q
  Lies backward tree.any p q = IsOne code.any p q
  Lies backward tree.any_in_line p q = IsOne code.any_in_line p q
  Lies backward (tree.line_start multiline) p q = IsOne (code.line_start multiline) p q
  Lies backward (tree.line_end multiline) p q = IsOne (code.line_end multiline) p q
  Lies backward (tree.boundary inverted folded) p q = IsOne (code.boundary inverted folded) p q
  Lies backward (tree.capture k name a) p q = (m : ProgramPoint) × Stands target.program p.address (code.begin_group k) × Lies backward a (next p) m
      × IsOne (code.end_group k) m q
  Lies backward (tree.back k icase) p q = IsOne (code.back (k - 1) icase) p q
  Lies backward (tree.bracket inverted intervals) p q = (i : Instruction) × IsBracket target.program inverted intervals i × IsOne i p q
  Lies backward (tree.string_set strings icase) p q = AreArms backward icase strings p q
  Lies backward (tree.submatch kind first last a) p q = (m : ProgramPoint) × Stands target.program p.address (code.submatch kind first last q.address)
      × Lies (reads_backward kind backward) a (next p) m × IsOne code.goal m q
  Lies backward (tree.loop a first last least most greedy) p q = (m : ProgramPoint)
      × Stands target.program p.address (code.enter_loop (record { loop_id = p.loops; least = least; most = most; greedy = greedy; exit = q.address }))
      × StandFrom target.program (suc p.address) (resets first (last - first))
      × Lies backward a (record { address = suc p.address + (last - first); loops = suc p.loops }) m × IsOne (code.loop_again p.address) m q
  Lies backward (tree.single_loop a least most greedy) p q =
      Stands target.program p.address (code.single_loop least most greedy) × Lies backward a (next p) q

  -- The program is the layout of a whole tree of n groups: the tree lies in all of it, with all of its loops.
  pub record IsLayout (n : ℕ) (t : Tree) : Type 0 where
    pub lies : Lies false t (record { address = 0; loops = 0 }) (record { address = length target.program.instructions; loops = target.program.loops })
    pub groups : target.program.groups ≡ n
