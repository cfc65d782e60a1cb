-- What takes a character or bytes, and what is taken first.
use Rattle.std.proofs.Common.{◌≡◌, ℕ, ◌+◌, ◌-◌, ◌<◌, Bool, true, List, [], length, refl, sym, ap, ◌∙◌, arith}
use Rattle.regress_meaning.specs.Meaning.{Direction}
use Rattle.regress_meaning.specs.Inputs.{Input}
use Rattle.regress_engine_input.specs.Views.{View, direction_of, reading_of}
use Rattle.regress_engine_insn.specs.Instructions.{Instruction, Program, Stands}
use Rattle.regress_engine_insn.specs.Instructions as code
use Rattle.regress_engine_runs.specs.States.{Marks}
use Rattle.regress_engine_runs.specs.Runs.{advance}
use Rattle.regress_engine_runs.specs.Meets.{IsAtPlace, ReadsPlaces, reads_character}
use Rattle.regress_engine_runs.specs.Closed.{Fits, IsClosed, takes_character}
use Rattle.regress_engine_runs.specs.UndoStack.{whole}
use Rattle.regress_engine_runs.proofs.RunViews.{one_stands}
use Rattle.regress_engine_search.specs.Ready.{IsReady, IsBody, is_simple}
use Rattle.regress_engine_singles.proofs.DeadLemmas.{simple-dead, loop-dead, end-dead}
use Rattle.regress_engine_singles.proofs.FirstByteLemmas.{takes-taking}
use Rattle.regress_engine_singles.specs.Taking.{is_taking}
use Rattle.regress_engine_advance.specs.First.{IsTakenFirst}

-- what takes a character or bytes changes nothing but the offset
pub taking-simple : (i : Instruction) → is_taking i ≡ true → is_simple i ≡ true
taking-simple (code.byte_seq bs) e = refl
taking-simple (code.char c) e = refl
taking-simple (code.char_set cs) e = refl
taking-simple (code.byte_set bs) e = refl
taking-simple code.any e = refl
taking-simple code.any_in_line e = refl
taking-simple (code.bracket k) e = refl
taking-simple (code.ascii_bracket cs) e = refl
taking-simple _ e = absurd (grind arith)

-- it takes the same whatever the groups are
pub taking-any : (program : Program) (input : Input) (i : Instruction) (dir : Direction) (gs hs : List Marks) (o : ℕ) → is_taking i ≡ true → advance program input i dir gs o ≡ advance program input i dir hs o
taking-any program input (code.byte_seq bs) dir gs hs o e = refl
taking-any program input (code.char c) dir gs hs o e = refl
taking-any program input (code.char_set cs) dir gs hs o e = refl
taking-any program input (code.byte_set bs) dir gs hs o e = refl
taking-any program input code.any dir gs hs o e = refl
taking-any program input code.any_in_line dir gs hs o e = refl
taking-any program input (code.bracket k) dir gs hs o e = refl
taking-any program input (code.ascii_bracket cs) dir gs hs o e = refl
taking-any program input _ dir gs hs o e = absurd (grind arith)

-- what a one-character loop repeats takes something
pub body-taking : (program : Program) (input : Input) (v : View) (at o : ℕ) (j : Instruction) → IsBody program v at o → Stands program (at - 1) j → is_taking j ≡ true
body-taking program input v at o j (i, here, takes, place, some) there = takes-taking j (ap takes_character (sym (one_stands program input (at - 1) i j here there)) ∙ takes)

-- where it stands it fits anywhere
taking-fits : (program : Program) (at : ℕ) (i : Instruction) → is_taking i ≡ true → Fits program at i → Fits program 0 i
taking-fits program at (code.byte_seq bs) e fits = fits
taking-fits program at (code.char c) e fits = tt
taking-fits program at (code.char_set cs) e fits = tt
taking-fits program at (code.byte_set bs) e fits = tt
taking-fits program at code.any e fits = tt
taking-fits program at code.any_in_line e fits = tt
taking-fits program at (code.bracket k) e fits = fits
taking-fits program at (code.ascii_bracket cs) e fits = tt
taking-fits program at _ e fits = absurd (grind arith)

-- and may be asked at a place
pub taking-ready : (program : Program) (v : View) (i : Instruction) (groups : List Marks) (o : ℕ) → Fits program 0 i → is_taking i ≡ true → length groups ≡ program.groups
    → IsAtPlace (reading_of v) o → IsReady program v i groups o
taking-ready program v i groups o fits takes count place = record { fits = fits; count = count; reads = alone i takes }
  where
    alone : (i : Instruction) → is_taking i ≡ true → reads_character i ≡ true → ReadsPlaces (reading_of v) i (whole 0 o [] groups)
    alone (code.char c) e reads = (place, tt)
    alone (code.char_set cs) e reads = (place, tt)
    alone (code.byte_set bs) e reads = (place, tt)
    alone code.any e reads = (place, tt)
    alone code.any_in_line e reads = (place, tt)
    alone (code.bracket k) e reads = (place, tt)
    alone (code.ascii_bracket cs) e reads = (place, tt)
    alone (code.byte_seq bs) e reads = absurd (grind arith)
    alone _ e reads = absurd (grind arith)

-- what is taken where it stands, in a loop, and behind the end of a group
module _ (program : Program) (closed : IsClosed program) (at : ℕ) where
  pub first-here : (i : Instruction) → Stands program at i → is_taking i ≡ true → IsTakenFirst program at i
  first-here i here takes = record {
    fits = taking-fits program at i takes (closed at i here);
    takes = takes;
    dead = λ input forward o none. simple-dead program input (direction_of forward) at o i here (taking-simple i takes) none;
  }

  pub first-loop : (least most : ℕ) (greedy : Bool) (i : Instruction) → Stands program at (code.single_loop least most greedy) → Stands program (at + 1) i → is_taking i ≡ true → 0 < least → IsTakenFirst program at i
  first-loop least most greedy i here body takes some = record {
    fits = taking-fits program (at + 1) i takes (closed (at + 1) i body);
    takes = takes;
    dead = λ input forward o none. loop-dead program input (direction_of forward) at o least most greedy i here body some none;
  }

  pub first-behind : (k : ℕ) (i : Instruction) → Stands program at (code.end_group k) → IsTakenFirst program (at + 1) i → IsTakenFirst program at i
  first-behind k i here first = record {
    fits = first.fits;
    takes = first.takes;
    dead = λ input forward o none. end-dead program input (direction_of forward) at o k here (first.dead input forward o none);
  }
