-- A program that begins with an instruction that takes one character.
use Rattle.std.specs.Prelude.{IfSome, slice_get, option_and_then, if◌then◌else◌}
use Rattle.std.proofs.Common.{◌≡◌, ℕ, ◌+◌, Bool, true, false, List, [], Option, Some, None, refl, sym, ap, ◌∙◌, subst, arith}
use Rattle.regress_meaning.specs.Meaning.{Forward}
use Rattle.regress_meaning.specs.Steps.{passed}
use Rattle.regress_front_nodes.specs.TreeMeaning.{bracket_has}
use Rattle.regress_engine_input.specs.Views.{View, AreOfKind, input_of, reading_of}
use Rattle.regress_engine_insn.specs.Instructions.{Instruction, Program, Stands}
use Rattle.regress_engine_insn.specs.Instructions as code
use Rattle.regress_engine_runs.specs.States.{Marks, first_state}
use Rattle.regress_engine_runs.specs.Runs.{advance}
use Rattle.regress_engine_runs.specs.Meets.{IsAtPlace}
use Rattle.regress_engine_runs.specs.Closed.{Fits, takes_character}
use Rattle.regress_engine_search.specs.Ready.{is_simple}
use Rattle.regress_engine_search.proofs.PlaceLemmas.{moves, next-place}
use Rattle.regress_engine_search.specs.Answering.{FindsOn}
use Rattle.regress_engine_search.proofs.SearchLemmas.{search-on}
use Rattle.regress_engine_singles.specs.Failing.{IsDead}
use Rattle.regress_engine_analysis.specs.Planned.{is_class}
use Rattle.regress_engine_singles.specs.Passed.{PassesOver}
use Rattle.regress_engine_singles.proofs.Failures.{fail-none}
use Rattle.regress_engine_singles.specs.Taking.{takes_one}
use Rattle.regress_engine_singles.proofs.DeadLemmas.{step-dead}

-- a character is read at one offset alone
pub same-offset : (x : Option (ℕ × ℕ)) (d r c q : ℕ) → x ≡ Some (d, r) → x ≡ Some (c, q) → q ≡ r
same-offset x d r c q e f = ap (λ (y : Option (ℕ × ℕ)). elim y [ None ↦ 0 | Some z ↦ z.1 ]) (sym f ∙ e)

-- what passes a test is the character ahead
passed-next : (v : View) (test : ℕ → Bool) (o q : ℕ) → passed test ((input_of v).next Forward o) ≡ Some q → (c : ℕ) × ((input_of v).next Forward o ≡ Some (c, q))
passed-next v test o q e = by_next ((input_of v).next Forward o) refl e
  where
    by_next : (x : Option (ℕ × ℕ)) → (input_of v).next Forward o ≡ x → passed test x ≡ Some q → (c : ℕ) × ((input_of v).next Forward o ≡ Some (c, q))
    by_next None f g = absurd (grind arith)
    by_next (Some (c, p)) f g = by_test (test c) g
      where
        by_test : (b : Bool) → (if b then Some p else None) ≡ Some q → (d : ℕ) × ((input_of v).next Forward o ≡ Some (d, q))
        by_test true g = let same : p ≡ q = cc in (c, f ∙ ap (λ x. Some (c, x)) same)
        by_test false g = absurd (grind arith)

-- and behind it is a place
pub passed-places : (v : View) → AreOfKind v.kind v.units → (test : ℕ → Bool) (o : ℕ) → IsAtPlace (reading_of v) o → (x : Option ℕ) → x ≡ passed test ((input_of v).next Forward o)
    → IfSome x (IsAtPlace (reading_of v))
passed-places v all test o place None e = tt
passed-places v all test o place (Some q) e = let (c, next) = passed-next v test o q (sym e) in next-place v all Forward o c q place next

module _ (program : Program) (v : View) where
  -- so does a class take it
  pub class-next : (j : Instruction) → is_class j ≡ true → (groups : List Marks) (o q : ℕ) → advance program (input_of v) j Forward groups o ≡ Some q → (c : ℕ) × ((input_of v).next Forward o ≡ Some (c, q))
  class-next (code.ascii_bracket cs) is groups o q e = passed-next v _ o q e
  class-next (code.bracket k) is groups o q e = by_class (slice_get program.brackets k) e
    where
      by_class : (x : Option (Bool × List (ℕ × ℕ))) → option_and_then (λ b. passed (bracket_has b.0 b.1) ((input_of v).next Forward o)) x ≡ Some q → (c : ℕ) × ((input_of v).next Forward o ≡ Some (c, q))
      by_class None f = absurd (grind arith)
      by_class (Some b) f = passed-next v (bracket_has b.0 b.1) o q f
  class-next _ is groups o q e = absurd (grind arith)

  -- and so does a set
  one-next : (j : Instruction) → takes_one j ≡ true → (groups : List Marks) (o q : ℕ) → advance program (input_of v) j Forward groups o ≡ Some q → (c : ℕ) × ((input_of v).next Forward o ≡ Some (c, q))
  one-next (code.byte_set cs) is groups o q e = passed-next v _ o q e
  one-next (code.char_set cs) is groups o q e = passed-next v _ o q e
  one-next (code.ascii_bracket cs) is groups o q e = class-next (code.ascii_bracket cs) is groups o q e
  one-next (code.bracket k) is groups o q e = class-next (code.bracket k) is groups o q e
  one-next _ is groups o q e = absurd (grind arith)

  -- a class takes the same whatever the groups are
  pub class-any : (j : Instruction) → is_class j ≡ true → (gs hs : List Marks) (o : ℕ) → advance program (input_of v) j Forward gs o ≡ advance program (input_of v) j Forward hs o
  class-any (code.ascii_bracket cs) is gs hs o = refl
  class-any (code.bracket k) is gs hs o = refl
  class-any _ is gs hs o = absurd (grind arith)

pub class-simple : (j : Instruction) → is_class j ≡ true → is_simple j ≡ true
class-simple (code.ascii_bracket cs) is = refl
class-simple (code.bracket k) is = refl
class-simple _ is = absurd (grind arith)

one-simple : (j : Instruction) → takes_one j ≡ true → is_simple j ≡ true
one-simple (code.byte_set cs) is = refl
one-simple (code.char_set cs) is = refl
one-simple (code.ascii_bracket cs) is = refl
one-simple (code.bracket k) is = refl
one-simple _ is = absurd (grind arith)

pub class-takes : (j : Instruction) → is_class j ≡ true → takes_character j ≡ true
class-takes (code.ascii_bracket cs) is = refl
class-takes (code.bracket k) is = refl
class-takes _ is = absurd (grind arith)

-- and fits anywhere
pub class-fits : (program : Program) (at : ℕ) (j : Instruction) → is_class j ≡ true → Fits program at j → Fits program 0 j
class-fits program at (code.ascii_bracket cs) is fits = tt
class-fits program at (code.bracket k) is fits = fits
class-fits program at _ is fits = absurd (grind arith)

-- behind the character that it takes is a place
pub class-place : (program : Program) (v : View) → AreOfKind v.kind v.units → (j : Instruction) → is_class j ≡ true → (o q : ℕ) → IsAtPlace (reading_of v) o → advance program (input_of v) j Forward [] o ≡ Some q
    → IsAtPlace (reading_of v) q
class-place program v all j is o q place e = let (c, next) = class-next program v j is [] o q e in next-place v all Forward o c q place next

-- From where the program fails the search goes on with the next character.
pub fails-on : (program : Program) (v : View) → AreOfKind v.kind v.units → (offset o c q : ℕ) → IsDead program (input_of v) Forward 0 o → (input_of v).next Forward o ≡ Some (c, q)
    → FindsOn program (input_of v) offset o → FindsOn program (input_of v) offset q
fails-on program v all offset o c q dead next on =
    search-on program v all offset o c q [] on (fail-none program (input_of v) (dead (first_state program o).loops (first_state program o).groups)) next

pub passes-one : (program : Program) (v : View) → AreOfKind v.kind v.units → (start c q : ℕ) → IsDead program (input_of v) Forward 0 start → IsAtPlace (reading_of v) start
    → (input_of v).next Forward start ≡ Some (c, q) → PassesOver program v start q
passes-one program v all start c q dead place next = record {
  on = λ offset finds. fails-on program v all offset start c q dead next finds;
  place = next-place v all Forward start c q place next;
  further = moves v Forward start c q next;
}

-- An instruction that takes one character leads nowhere, where no match can be reached from behind the character ahead.
pub one-dead : (program : Program) (v : View) (at : ℕ) (j : Instruction) → Stands program at j → takes_one j ≡ true → (o c q : ℕ) → (input_of v).next Forward o ≡ Some (c, q)
    → IsDead program (input_of v) Forward (at + 1) q → IsDead program (input_of v) Forward at o
one-dead program v at j here is o c q next dead =
    step-dead program (input_of v) Forward at o j here (one-simple j is) (λ groups r e.
    let (d, also) = one-next program v j is groups o r e in
    subst (IsDead program (input_of v) Forward (at + 1)) (same-offset ((input_of v).next Forward o) d r c q also next) dead)

-- So the search goes on behind that character.
pub passes-taken : (program : Program) (v : View) → AreOfKind v.kind v.units → (at : ℕ) (j : Instruction) → Stands program at j → takes_one j ≡ true
    → ((o : ℕ) → IsDead program (input_of v) Forward at o → IsDead program (input_of v) Forward 0 o) → (start c q : ℕ) → IsAtPlace (reading_of v) start → (input_of v).next Forward start ≡ Some (c, q)
    → IsDead program (input_of v) Forward (at + 1) q → PassesOver program v start q
passes-taken program v all at j here is lead start c q place next dead =
    passes-one program v all start c q (lead start (one-dead program v at j here is start c q next dead)) place next
