-- What may be asked where an instruction stands, and what is worked out there.
use Rattle.std.specs.Prelude.{IfSome, get_or}
use Rattle.std.proofs.Common.{◌≡◌, ℕ, suc, ◌+◌, ◌<◌, ◌≤◌, ◌&&◌, ◌||◌, ◌==◌, Bool, true, false, List, [], length, Option, None, Some, refl, sym, ap, ap₂, ◌∙◌, subst, arith}
use Rattle.std.proofs.lemmas.Bool.{eq-eqb, eqb-true}
use Rattle.regress_meaning.specs.Meaning.{Direction, Forward, Backward}
use Rattle.regress_engine_input.specs.Views.{View, input_of, reading_of}
use Rattle.regress_engine_insn.specs.Instructions.{Instruction, Program, Stands}
use Rattle.regress_engine_insn.specs.Instructions as code
use Rattle.regress_engine_insn.specs.InsnViews.{instruction}
use Rattle.regress_engine_insn.specs.declared.insn.Insn.{Insn}
use Rattle.regress_engine_insn.specs.declared.insn.Insn.TheVariants.{Loop1CharBody}
use Rattle.regress_engine_runs.specs.Closed.{takes_character}
use Rattle.regress_engine_runs.specs.Meets.{AreAtPlaces, IsAtPlace, ReadsPlaces, reads_character, referred}
use Rattle.regress_engine_runs.specs.Runs.{advance, counted, room}
use Rattle.regress_engine_runs.specs.States.{Marks, Whole, range_of, unset}
use Rattle.regress_engine_runs.specs.UndoStack.{whole}
use Rattle.regress_engine_runs.proofs.RunViews.{one_stands}
use Rattle.regress_engine_search.specs.Ready.{IsReady, is_simple}
use Rattle.regress_engine_search.specs.Search.{Suits}
use Rattle.regress_engine_search.proofs.ReadyLemmas.{simple-ready}
use Rattle.regress_engine_linear.specs.RankTables.{ArePlaced, Heights, rank_at}
use Rattle.regress_engine_linear.proofs.Formulas.{or-none}
use Rattle.regress_engine_linear.specs.Answered.{answer_at, exits_at, exits_value_at, is_single, one_at, AreExitsOf, AreExitsRight, IsRepeated}

-- what refers to no group reads at places where its offset is at one
pub reads-there : (v : View) (i : Instruction) (s : Whole) → referred i ≡ None → IsAtPlace (reading_of v) s.offset → ReadsPlaces (reading_of v) i s
reads-there v i s calm place = (place, by_group (referred i) calm)
  where
    by_group : (x : Option ℕ) → x ≡ None → IfSome x (λ k. IfSome (range_of (get_or s.groups k unset)) (AreAtPlaces (reading_of v)))
    by_group None e = tt
    by_group (Some k) e = absurd (cc e)

module _ (v : View) (program : Program) (suits : Suits program v) (groups : List Marks) (count : length groups ≡ program.groups) (o : ℕ) where
  -- an instruction that is simple may be asked where it stands, at a place if it reads characters
  pub ready-there : (at : ℕ) (i : Instruction) → (reads_character i ≡ true → IsAtPlace (reading_of v) o) → Stands program at i → referred i ≡ None → is_simple i ≡ true
      → IsReady program v i groups o
  ready-there at i place here calm simple = simple-ready program v suits i (whole at o [] groups) here simple count (λ reads. reads-there v i (whole at o [] groups) calm (place reads))

-- of a one-character loop
module _ (v : View) (program : Program) (suits : Suits program v) (at least most : ℕ) (greedy : Bool) (here : Stands program at (code.single_loop least most greedy)) where
  one : at + 1 ≡ suc at
  one = omega arith

  -- what it repeats stands behind it
  pub body-stands : (i : Instruction) × Stands program (at + 1) i
  body-stands = let (i, there, takes, order) = suits.closed at (code.single_loop least most greedy) here in (i, subst (λ a. Stands program a i) (sym one) there)

  -- and takes a character
  pub body-repeated : (j : Instruction) → Stands program (at + 1) j → IsRepeated program at j
  body-repeated j stands =
      let (i, there, takes, order) = suits.closed at (code.single_loop least most greedy) here in
      let stands' : Stands program (suc at) j = subst (λ a. Stands program a j) one stands in
      let same : i ≡ j = one_stands program (input_of v) (suc at) i j there stands' in
      (stands', subst (λ k. takes_character k ≡ true) same takes)

  -- its numbers are in order
  pub numbers-order : least ≤ most
  numbers-order = let (i, there, takes, order) = suits.closed at (code.single_loop least most greedy) here in order

  module _ (told exits : ℕ → ℕ → Bool) (dir : Direction) (o : ℕ) (j : Instruction) (stands : Stands program (at + 1) j) where
    body-there : Stands program (suc at) j
    body-there = subst (λ a. Stands program a j) one stands

    pub exits-of : AreExitsRight told exits program v dir at o → AreExitsOf told exits program v dir at o j
    exits-of right = right least most greedy j here body-there

    -- what is worked out there
    pub answer-is : (i : Instruction) → Stands program at i
        → answer_at told program (input_of v) dir i at o ≡ one_at told (at + 2) (counted program (input_of v) least most greedy j dir [] o)
    answer-is i stands' =
        let two : suc (suc at) ≡ at + 2 = omega arith in
        subst (λ k. answer_at told program (input_of v) dir k at o ≡ one_at told (at + 2) (counted program (input_of v) least most greedy j dir [] o))
        (one_stands program (input_of v) at (code.single_loop least most greedy) i here stands')
        (ap (λ (x : Option Instruction). elim x [ None ↦ false | Some i ↦ one_at told (suc (suc at)) (counted program (input_of v) least most greedy i dir [] o) ]) body-there
        ∙ ap (λ a. one_at told a (counted program (input_of v) least most greedy j dir [] o)) two)

    pub exits-value-is : (i : Instruction) → Stands program at i
        → exits_value_at told exits program (input_of v) dir i at o ≡ exits_at told (exits at) at (advance program (input_of v) j dir [] o)
    exits-value-is i stands' =
        subst (λ k. exits_value_at told exits program (input_of v) dir k at o ≡ exits_at told (exits at) at (advance program (input_of v) j dir [] o))
        (one_stands program (input_of v) at (code.single_loop least most greedy) i here stands')
        (ap (λ (x : Option Instruction). exits_at told (exits at) at (elim x [ None ↦ None | Some i ↦ advance program (input_of v) i dir [] o ])) body-there)

-- what is no one-character loop in the code is none
pub not-single : (i : Insn) → ((x y : ℕ) (z : Bool) → i ≡ Loop1CharBody x y z → ⊥) → is_single (instruction i) ≡ false
not-single (Loop1CharBody x y z) other = absurd (other x y z refl)
not-single _ other = refl

-- a bit is as it was, but at one address and offset
pub bit-elsewhere : (at o b q : ℕ) (old value : Bool) → (b ≡ at → q ≡ o → ⊥) → (old || (((b == at) && (o == q)) && value)) ≡ old
bit-elsewhere at o b q old value other = by_value (b == at) (o == q) refl refl
  where
    by_value : (x y : Bool) → (b == at) ≡ x → (o == q) ≡ y → (old || ((x && y) && value)) ≡ old
    by_value true true e f = absurd (other (eqb-true b at e) (sym (eqb-true o q f)))
    by_value true false e f = or-none old
    by_value false y e f = or-none old

-- there it is what was worked out
pub bit-here : (at o : ℕ) (old value : Bool) → old ≡ false → (old || (((at == at) && (o == o)) && value)) ≡ value
bit-here at o old value fresh =
    ap (λ b. b || (((at == at) && (o == o)) && value)) fresh ∙ ap₂ (λ x y. (x && y) && value) (eq-eqb at at refl) (eq-eqb o o refl)

pub room-end : (last : ℕ) (d : Direction) (o : ℕ) → o ≤ last → room last d o ≤ last
room-end last Forward o low = omega arith
room-end last Backward o low = omega (arith, low)

-- a rank is less than their number
pub rank-low : (h : Heights) → ArePlaced h (length h.ranks) → (at : ℕ) → at < length h.ranks → rank_at h at < length h.order
rank-low h placed at there = placed.low at there
