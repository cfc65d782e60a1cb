-- The instruction of a set takes the set's members: one that fails none, and places that are filled take no more.
use Rattle.std.proofs.Common.{◌≡◌, ℕ, ◌||◌, ◌==◌, Bool, true, false, List, [], ◌∷◌, Option, Some, None, if◌then◌else◌, refl, ap}
use Rattle.regress_meaning.specs.Text.{holds}
use Rattle.regress_meaning.specs.Meaning.{Direction}
use Rattle.regress_meaning.specs.Inputs.{Input}
use Rattle.regress_meaning.specs.Steps.{passed}
use Rattle.regress_engine_insn.specs.Instructions.{Instruction, Program}
use Rattle.regress_engine_insn.specs.Layout.{char_set_code, ascii_set_code, byte_set_code}
use Rattle.regress_engine_runs.specs.States.{Whole, Marks}
use Rattle.regress_engine_runs.specs.Runs.{moved_to, advance, successors}
use Rattle.regress_engine_runs.proofs.RunLemmas.{is_unreferring}

-- a test made twice, three times, four times
twice : (b : Bool) → (b || (b || false)) ≡ (b || false)
twice true = refl
twice false = refl

thrice : (b : Bool) → (b || (b || (b || false))) ≡ (b || false)
thrice true = refl
thrice false = refl

four_times : (b : Bool) → (b || (b || (b || (b || false)))) ≡ (b || false)
four_times true = refl
four_times false = refl

passed-same : (f g : ℕ → Bool) → ((c : ℕ) → f c ≡ g c) → (x : Option (ℕ × ℕ)) → passed f x ≡ passed g x
passed-same f g same None = refl
passed-same f g same (Some (c, o)) = ap (λ b. if b then Some o else None) (same c)

passed-none : (x : Option (ℕ × ℕ)) → None ≡ passed (holds []) x
passed-none None = refl
passed-none (Some (c, o)) = refl

module _ (program : Program) (input : Input) (dir : Direction) where
  -- it takes the members
  abbrev pub Takes : List ℕ → Instruction → Type 0
  Takes cs i = (groups : List Marks) (o : ℕ) → advance program input i dir groups o ≡ passed (holds cs) (input.next dir o)

  pub char_set-takes : (cs : List ℕ) → Takes cs (char_set_code cs)
  char_set-takes [] groups o = passed-none (input.next dir o)
  char_set-takes (a ∷ []) groups o = passed-same (holds (a ∷ a ∷ a ∷ a ∷ [])) (holds (a ∷ [])) (λ c. four_times (a == c)) (input.next dir o)
  char_set-takes (a ∷ b ∷ []) groups o =
      passed-same (holds (a ∷ b ∷ b ∷ b ∷ [])) (holds (a ∷ b ∷ [])) (λ c. ap (λ t. (a == c) || t) (thrice (b == c))) (input.next dir o)
  char_set-takes (a ∷ b ∷ c ∷ []) groups o =
      passed-same (holds (a ∷ b ∷ c ∷ c ∷ [])) (holds (a ∷ b ∷ c ∷ [])) (λ d. ap (λ t. (a == d) || ((b == d) || t)) (twice (c == d))) (input.next dir o)
  char_set-takes (a ∷ b ∷ c ∷ d ∷ cs) groups o = refl

  ascii_set-takes : (bs : List ℕ) → Takes bs (ascii_set_code bs)
  ascii_set-takes [] groups o = passed-none (input.next dir o)
  ascii_set-takes (a ∷ []) groups o = passed-same (holds (a ∷ a ∷ [])) (holds (a ∷ [])) (λ c. twice (a == c)) (input.next dir o)
  ascii_set-takes (a ∷ b ∷ bs) groups o = refl

  pub byte_set-takes : (units : Bool) (bs : List ℕ) → Takes bs (byte_set_code units bs)
  byte_set-takes true bs = char_set-takes bs
  byte_set-takes false bs = ascii_set-takes bs

  -- and leads there
  abbrev pub LeadsBy : List ℕ → Instruction → Type 0
  LeadsBy cs i = (w : Whole) → successors program input i dir w ≡ moved_to w (passed (holds cs) (input.next dir w.offset))

  pub char_set-leads : (cs : List ℕ) → LeadsBy cs (char_set_code cs)
  char_set-leads [] w = ap (moved_to w) (char_set-takes [] w.groups w.offset)
  char_set-leads (a ∷ []) w = ap (moved_to w) (char_set-takes (a ∷ []) w.groups w.offset)
  char_set-leads (a ∷ b ∷ []) w = ap (moved_to w) (char_set-takes (a ∷ b ∷ []) w.groups w.offset)
  char_set-leads (a ∷ b ∷ c ∷ []) w = ap (moved_to w) (char_set-takes (a ∷ b ∷ c ∷ []) w.groups w.offset)
  char_set-leads (a ∷ b ∷ c ∷ d ∷ cs) w = refl

  ascii_set-leads : (bs : List ℕ) → LeadsBy bs (ascii_set_code bs)
  ascii_set-leads [] w = ap (moved_to w) (ascii_set-takes [] w.groups w.offset)
  ascii_set-leads (a ∷ []) w = ap (moved_to w) (ascii_set-takes (a ∷ []) w.groups w.offset)
  ascii_set-leads (a ∷ b ∷ bs) w = refl

  pub byte_set-leads : (units : Bool) (bs : List ℕ) → LeadsBy bs (byte_set_code units bs)
  byte_set-leads true bs = char_set-leads bs
  byte_set-leads false bs = ascii_set-leads bs

-- It goes on with its successors alone.
pub char_set-plain : (cs : List ℕ) → is_unreferring (char_set_code cs) ≡ true
char_set-plain [] = refl
char_set-plain (a ∷ []) = refl
char_set-plain (a ∷ b ∷ []) = refl
char_set-plain (a ∷ b ∷ c ∷ []) = refl
char_set-plain (a ∷ b ∷ c ∷ d ∷ cs) = refl

ascii_set-plain : (bs : List ℕ) → is_unreferring (ascii_set_code bs) ≡ true
ascii_set-plain [] = refl
ascii_set-plain (a ∷ []) = refl
ascii_set-plain (a ∷ b ∷ bs) = refl

pub byte_set-plain : (units : Bool) (bs : List ℕ) → is_unreferring (byte_set_code units bs) ≡ true
byte_set-plain true bs = char_set-plain bs
byte_set-plain false bs = ascii_set-plain bs
