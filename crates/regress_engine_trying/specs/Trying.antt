-- A run that is tried.
use Rattle.std.specs.Prelude.{◌≡◌, ℕ, suc, ◌+◌, ◌-◌, ◌<◌, ◌≤◌, Bool, true, false, [], ◌∷◌, List, Option, Some, None, ◌⊎◌}
use Rattle.regress_meaning.specs.Meaning.{Forward}
use Rattle.regress_meaning.specs.Inputs.{Input}
use Rattle.regress_engine_input.specs.Views.{View, direction_of, input_of, reading_of}
use Rattle.regress_engine_insn.specs.Instructions.{Instruction, Program, Stands}
use Rattle.regress_engine_insn.specs.InsnViews.{instruction, fields}
use Rattle.regress_engine_runs.specs.States.{Marks, Whole, first_state}
use Rattle.regress_engine_runs.specs.Runs.{advance, successors}
use Rattle.regress_engine_runs.specs.Meets.{reads_character, ReadsPlaces}
use Rattle.regress_engine_runs.specs.UndoStack.{ReadOn, Undo, outermost, stands_for}
use Rattle.regress_engine_search.specs.Tasks.{IsTried, ComesAs, Leads}
use Rattle.regress_engine_singles.specs.Failing.{IsDead}
use Rattle.regress_engine_singles.specs.Leads.{lead_ahead}
use Rattle.regress_engine_singles.specs.declared.taken.Taken.{Taken}
use Rattle.regress_engine_undo.specs.declared.undo.Spot.{Spot}
use Rattle.regress_engine_undo.specs.Held.{Held, pushed, loop_written}
use Rattle.regress_engine_undo.specs.Sound.{IsHeld}
use Rattle.regress_engine_undo.specs.Tasks.{task_of, task, state_at}

-- A run is tried at a spot, of so many steps and with this answer, and what is held is sound.
pub record IsTrying (program : Program) (v : View) (n : ℕ) (r : Option Whole) (p : Spot) (h : Held) : Type 0 where
  pub tried : IsTried program v n r (task program (input_of v) true p h)
  pub held : IsHeld program v h

-- From one address at an offset it continues at another, which may be the same.
abbrev pub IsWay : Program → Input → (forward : Bool) → (o start at : ℕ) → Type 0
IsWay program input forward o start at = (h : Held) → (at ≡ start)
    ⊎ Leads program input 1 (task program input true (record { at = start; offset = o; forward = forward }) h) (task program input true (record { at = at; offset = o; forward = forward }) h)

-- the run from an offset reads at places
abbrev pub ReadsFrom : Program → View → (start : ℕ) → Type 0
ReadsFrom program v start = ReadOn program (input_of v) (reading_of v) Forward (first_state program start ∷ []) (outermost [])

-- A program, and what is shown of a text that it is run over.
pub record World : Type 0 where
  pub program : Program
  pub view : View

-- from one address it continues at another, in a world
abbrev pub IsWayIn : World → (forward : Bool) → (o start at : ℕ) → Type 0
IsWayIn w forward o start at = IsWay w.program (input_of w.view) forward o start at

-- what is held is the program's, and sound
abbrev pub IsHeldIn : World → Held → Type 0
IsHeldIn w h = IsHeld w.program w.view h

-- A step from one spot to another: it has come to the answer, or it continues, or failed.
abbrev pub Steps : World → Spot → Held → Spot → Held → Option Bool → Type 0
Steps w p h q k None = (q ≡ p) × (k.groups ≡ h.groups) × ComesAs w.program (input_of w.view) (task w.program (input_of w.view) true p h) (state_at p h)
Steps w p h q k (Some going) = Leads w.program (input_of w.view) 1 (task w.program (input_of w.view) true p h) (task w.program (input_of w.view) going q k)

-- An instruction is done at a spot: it continues where that leads to, or failed.
abbrev pub Does : World → Instruction → Spot → Held → Spot → Held → (going : Bool) → Type 0
Does w i p h q k going = Leads w.program (input_of w.view) 0
    (task_of w.program (input_of w.view) (successors w.program (input_of w.view) i (direction_of p.forward) (state_at p h)) p h)
    (task w.program (input_of w.view) going q k)

-- Where a spot has failed it goes back to one that is still to be tried, or has failed again.
abbrev pub GoesBack : World → Spot → Held → Spot → Held → (going : Bool) → Type 0
GoesBack w p h q k going = Leads w.program (input_of w.view) 0 (task w.program (input_of w.view) false p h) (task w.program (input_of w.view) going q k)

-- the same by one record
abbrev pub Undoes : World → Undo → Spot → Held → Spot → Held → (going : Bool) → Type 0
Undoes w u p h q k going = GoesBack w p (pushed u h) q k going

-- what an instruction reads at a spot is at places
abbrev pub ReadsHere : World → Spot → Held → Instruction → Type 0
ReadsHere w p h i = reads_character i ≡ true → ReadsPlaces (reading_of w.view) i (state_at p h)

-- what the instruction at a spot reads is at places
abbrev pub ReadsAt : World → Spot → Held → Type 0
ReadsAt w p h = (i : Instruction) → Stands w.program p.at i → ReadsHere w p h i

-- and so is all that is read from there on
abbrev pub ReadsOn : World → Spot → Held → Type 0
ReadsOn w p h = ReadOn w.program (input_of w.view) (reading_of w.view) (direction_of p.forward) (state_at p h ∷ [])
    (stands_for w.program (input_of w.view) (direction_of p.forward) h.stack h.loops h.groups)

-- the offset to which an instruction leads that changes nothing else
abbrev pub advanced : World → Instruction → (forward : Bool) → List Marks → ℕ → Option ℕ
advanced w i forward groups o = advance w.program (input_of w.view) i (direction_of forward) groups o

-- From one offset up to another the body of a loop takes one unit at each, at most so many, and an instruction takes nothing there.
pub record IsPassed (w : World) (i body : Instruction) (forward : Bool) (left o near : ℕ) : Type 0 where
  pub low : o ≤ near
  pub room : near - o ≤ left
  pub taken : (groups : List Marks) (k : ℕ) → o ≤ k → k < near → Some (suc k) ≡ advanced w body forward groups k
  pub none : (groups : List Marks) (k : ℕ) → o ≤ k → k < near → None ≡ advanced w i forward groups k

-- the character ahead of an offset begins with a byte
abbrev pub StandsAhead : World → (byte o : ℕ) → Type 0
StandsAhead w byte o = Some byte ≡ lead_ahead w.view o

-- None of a loop's iterations was taken, or they have begun behind as many as there were, the last one at its offset.
abbrev pub BeginsMore : (id count : ℕ) → Taken → Held → Held → Type 0
BeginsMore id count taken h k = ((taken.before ≤ 0) × (k ≡ h)) ⊎ (k ≡ loop_written id (count + taken.before, taken.last) h)
