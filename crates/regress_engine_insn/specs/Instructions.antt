-- The instructions of a program, as definitions see them.
use Rattle.std.specs.Prelude.{◌≡◌, ℕ, suc, ◌-◌, Bool, true, false, List, [], ◌∷◌, Some, slice_get}
use Rattle.regress_front_nodes.specs.Trees.{Submatch}

-- A repetition: its number among the program's loops, how often at least and at most, whether more is preferred, and the
-- address where it has been left.
pub record LoopFields : Type 0 where
  pub loop_id : ℕ
  pub least : ℕ
  pub most : ℕ
  pub greedy : Bool
  pub exit : ℕ

-- How many iterations are taken as done where a repetition begins and so many units lie ahead: of the least number those beyond the units
-- and one. One of those that are left takes nothing, and could be done as often.
abbrev pub surplus : (least ahead : ℕ) → ℕ
surplus least ahead = least - suc ahead

-- An instruction.
pub data Instruction : Type 0 where
  -- the end, of the whole or of what is matched by itself
  goal : Instruction
  -- take this code point
  char : ℕ → Instruction
  -- take one of these code points
  char_set : List ℕ → Instruction
  -- take one of these ASCII characters
  byte_set : List ℕ → Instruction
  -- take these bytes
  byte_seq : List ℕ → Instruction
  -- take any character
  any : Instruction
  -- take any character but a line terminator
  any_in_line : Instruction
  -- take one character of the program's bracket with this index
  bracket : ℕ → Instruction
  -- take one of these ASCII characters, of which there may be many
  ascii_bracket : List ℕ → Instruction
  -- `^`
  line_start : (multiline : Bool) → Instruction
  -- `$`
  line_end : (multiline : Bool) → Instruction
  -- `\b`, and inverted `\B`; folded: in Unicode mode, with case ignored
  boundary : (inverted folded : Bool) → Instruction
  -- take what a group took, its number counted from 0
  back : ℕ → (icase : Bool) → Instruction
  -- a repetition begins
  enter_loop : LoopFields → Instruction
  -- an iteration ends, of the repetition that begins at this address
  loop_again : (begin : ℕ) → Instruction
  -- do the next instruction, which takes one character, so many times
  single_loop : (least most : ℕ) → (greedy : Bool) → Instruction
  -- go on at this address
  jump : ℕ → Instruction
  -- go on at the next instruction, or else at this address
  alt : ℕ → Instruction
  -- a group begins
  begin_group : ℕ → Instruction
  -- a group ends
  end_group : ℕ → Instruction
  -- a group has taken nothing
  reset_group : ℕ → Instruction
  -- what is matched by itself, whose contents follow: the groups inside, from the first up to before the last, and where it goes on
  submatch : Submatch → (first last continuation : ℕ) → Instruction
  -- nothing matches
  fail : Instruction

-- an instruction takes bytes
abbrev pub is_byte_seq : Instruction → Bool
is_byte_seq (byte_seq bs) = true
is_byte_seq _ = false

-- the bytes that an instruction takes
abbrev pub bytes_in : Instruction → List ℕ
bytes_in (byte_seq bs) = bs
bytes_in _ = []

-- a repetition begins here
abbrev pub begins_loop : Instruction → Bool
begins_loop (enter_loop fields) = true
begins_loop _ = false

-- A program: its instructions, its brackets as intervals that may be inverted, how many loops and groups it has, and
-- whether it reads 16-bit units, or else bytes.
pub record Program : Type 0 where
  pub instructions : List Instruction
  pub brackets : List (Bool × List (ℕ × ℕ))
  pub loops : ℕ
  pub groups : ℕ
  pub units : Bool

-- this instruction stands at an address
abbrev pub Stands : Program → ℕ → Instruction → Type 0
Stands program address i = slice_get program.instructions address ≡ Some i

-- these instructions stand one after another from an address on
abbrev pub StandFrom : Program → ℕ → List Instruction → Type 0
StandFrom program address [] = Unit {0}
StandFrom program address (i ∷ is) = Stands program address i × StandFrom program (suc address) is
