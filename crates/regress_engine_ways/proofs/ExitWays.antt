-- The exits of one-character loops, which of them is preferred, and small facts on runs.
use Rattle.std.specs.Prelude.{map, reverse}
use Rattle.std.specs.List.{AllByRecursion}
use Rattle.std.proofs.Common.{◌≡◌, ◌⊎◌, inl, inr, ℕ, zero, suc, ◌+◌, ◌-◌, ◌≤◌, ◌||◌, Bool, true, false, List, [], ◌∷◌, ◌++◌, length, Option, None, Some, if◌then◌else◌, refl, sym, ap, ap₂, ◌∙◌, subst, arith, replicate, take}
use Rattle.std.proofs.lemmas.List.{reverse-append}
use Rattle.regress_meaning.specs.Meaning.{Direction}
use Rattle.regress_meaning.specs.Inputs.{Input}
use Rattle.regress_engine_input.specs.Views.{View, AreOfKind, input_of, reading_of}
use Rattle.regress_engine_insn.specs.Instructions.{Instruction, Program, Stands}
use Rattle.regress_engine_insn.specs.Instructions as code
use Rattle.regress_engine_runs.specs.States.{Marks, Whole}
use Rattle.regress_engine_runs.specs.Runs.{Run, finds, goes, looks, advance, after_times, as_far, counted, given_back, one_by_one, room}
use Rattle.regress_engine_runs.specs.Closed.{takes_character}
use Rattle.regress_engine_runs.specs.Meets.{IsAtPlace, referred}
use Rattle.regress_engine_search.specs.Ready.{IsBody}
use Rattle.regress_engine_search.specs.Search.{Suits}
use Rattle.regress_engine_search.proofs.GivenBack.{given-back}
use Rattle.regress_engine_memory.proofs.Taking.{advance-takes, after-on, one-takes, taking-unreferring}
use Rattle.regress_engine_memory.proofs.Unreferring.{counted-any}
use Rattle.regress_engine_linear.specs.Answered.{exit_at, first_at, last_at, one_at}

-- ---- what is told of some offsets

abbrev or_else : Option ℕ → Option ℕ → Option ℕ
or_else None y = y
or_else (Some q) y = Some q

module _ (told : ℕ → ℕ → Bool) (at : ℕ) where
  first-append : (os qs : List ℕ) → first_at told at (os ++ qs) ≡ or_else (first_at told at os) (first_at told at qs)
  first-append [] qs = refl
  first-append (o ∷ os) qs = by_told (told at o) (first-append os qs)
    where
      by_told : (b : Bool) → first_at told at (os ++ qs) ≡ or_else (first_at told at os) (first_at told at qs)
          → (if b then Some o else first_at told at (os ++ qs)) ≡ or_else (if b then Some o else first_at told at os) (first_at told at qs)
      by_told true rest = refl
      by_told false rest = rest

  -- the last of some offsets is the first of them the other way round
  last-turned : (os : List ℕ) (found : Option ℕ) → last_at told at os found ≡ or_else (first_at told at (reverse os)) found
  last-turned [] found = refl
  last-turned (o ∷ os) found =
      last-turned os (if told at o then Some o else found)
      ∙ by_rest (first_at told at (reverse os)) (told at o)
      ∙ ap (λ x. or_else x found) (sym (ap (first_at told at) (reverse-append (o ∷ []) os) ∙ first-append (reverse os) (o ∷ [])))
    where
      by_rest : (x : Option ℕ) (b : Bool) → or_else x (if b then Some o else found) ≡ or_else (or_else x (if b then Some o else None)) found
      by_rest None true = refl
      by_rest None false = refl
      by_rest (Some q) b = refl

  or-none : (x : Option ℕ) → or_else x None ≡ x
  or-none None = refl
  or-none (Some q) = refl

  pub last-first : (os : List ℕ) → last_at told at os None ≡ first_at told at (reverse os)
  last-first os = last-turned os None ∙ or-none (first_at told at (reverse os))

-- ---- what is looked for one by one

module _ (program : Program) (input : Input) (i : Instruction) (dir : Direction) (gs : List Marks) where
  abbrev ones : ℕ → ℕ → List ℕ
  ones n o = one_by_one program input n i dir gs o

  abbrev next : ℕ → Option ℕ
  next o = advance program input i dir gs o

  -- there are no more
  pub ones-last : (n o : ℕ) → (n ≡ 0) ⊎ (next o ≡ None) → ones n o ≡ o ∷ []
  unfolding one_by_one
  ones-last zero o over = refl
  ones-last (suc n) o (inl none) = absurd (omega (arith, none))
  ones-last (suc n) o (inr none) = ap (λ (x : Option ℕ). o ∷ elim x [ None ↦ [] | Some q ↦ one_by_one program input n i dir gs q ]) none

  -- there is one more at least
  pub ones-more : (n o q : ℕ) → (n ≡ 0 → ⊥) → next o ≡ Some q → ones n o ≡ o ∷ ones (n - 1) q
  unfolding one_by_one
  ones-more zero o q some e = absurd (some refl)
  ones-more (suc n) o q some e =
      let before : n ≡ suc n - 1 = omega arith in
      ap (λ (x : Option ℕ). o ∷ elim x [ None ↦ [] | Some q ↦ one_by_one program input n i dir gs q ]) e
      ∙ ap (λ k. o ∷ one_by_one program input k i dir gs q) before

  ones-begin : (n o : ℕ) → (os : List ℕ) × (ones n o ≡ o ∷ os)
  unfolding one_by_one
  ones-begin zero o = ([], refl)
  ones-begin (suc n) o = (elim (next o) [ None ↦ [] | Some q ↦ one_by_one program input n i dir gs q ], refl)

  module _ (told : ℕ → ℕ → Bool) (at : ℕ) where
    pub near-here : (n o : ℕ) → told at o ≡ true → first_at told at (ones n o) ≡ Some o
    near-here n o is =
        let (os, e) = ones-begin n o in
        ap (first_at told at) e ∙ ap (λ (b : Bool). if b then Some o else first_at told at os) is

    pub near-last : (n o : ℕ) → told at o ≡ false → (n ≡ 0) ⊎ (next o ≡ None) → first_at told at (ones n o) ≡ None
    near-last n o is over = ap (first_at told at) (ones-last n o over) ∙ ap (λ (b : Bool). if b then Some o else None) is

    pub near-on : (n o q : ℕ) → told at o ≡ false → (n ≡ 0 → ⊥) → next o ≡ Some q → first_at told at (ones n o) ≡ first_at told at (ones (n - 1) q)
    near-on n o q is some e = ap (first_at told at) (ones-more n o q some e) ∙ ap (λ (b : Bool). if b then Some o else first_at told at (ones (n - 1) q)) is

    pub far-last : (n o : ℕ) (found : Option ℕ) → (n ≡ 0) ⊎ (next o ≡ None) → last_at told at (ones n o) found ≡ (if told at o then Some o else found)
    far-last n o found over = ap (λ (os : List ℕ). last_at told at os found) (ones-last n o over)

    pub far-on : (n o q : ℕ) (found : Option ℕ) → (n ≡ 0 → ⊥) → next o ≡ Some q
        → last_at told at (ones n o) found ≡ last_at told at (ones (n - 1) q) (if told at o then Some o else found)
    far-on n o q found some e = ap (λ (os : List ℕ). last_at told at os found) (ones-more n o q some e)

-- ---- a list that was cleared and filled

map-replicate : {A B : Type 0} (f : A → B) (n : ℕ) (x : A) → map f (replicate n x) ≡ replicate n (f x)
map-replicate f zero x = refl
map-replicate f (suc n) x = ap (λ xs. f x ∷ xs) (map-replicate f n x)

take-none : {A : Type 0} (n : ℕ) (xs : List A) → xs ≡ [] → take n xs ≡ []
take-none zero xs e = refl
take-none (suc n) [] e = refl
take-none (suc n) (x ∷ xs) e = absurd (cc e)

pub filled : {A B : Type 0} (f : A → B) (new old : List A) (n l : ℕ) (x : A) (y : B) → new ≡ take n old ++ replicate (n - l) x → old ≡ [] → l ≡ 0 → f x ≡ y → map f new ≡ replicate n y
filled f new old n l x y is none empty same =
    let count : n - l ≡ n = omega (arith, empty) in
    ap (map f) (is ∙ ap₂ (λ xs m. xs ++ replicate m x) (take-none n old none) count) ∙ map-replicate f n x ∙ ap (replicate n) same

-- ---- which exit is preferred

-- the exits of a one-character loop
module _ (v : View) (all : AreOfKind v.kind v.units) (program : Program) (suits : Suits program v) (dir : Direction) (groups : List Marks) (at : ℕ) (i : Instruction) (there : Stands program (at - 1) i) (takes : takes_character i ≡ true) where
  -- the one that is preferred is the first of them that is told of
  pub exit-is : (told : ℕ → ℕ → Bool) (to : ℕ) (least most : ℕ) (greedy : Bool) (o : ℕ) → IsBody program v at o
      → exit_at told program (input_of v) dir groups least most greedy i to o ≡ first_at told to (counted program (input_of v) least most greedy i dir groups o)
  exit-is told to least most greedy o body = by_near (after_times program (input_of v) least i dir groups o) refl
    where
      by_way : (near : ℕ) → IsBody program v at near → (g : Bool)
          → (if g then last_at told to (one_by_one program (input_of v) (most - least) i dir groups near) None
          else first_at told to (one_by_one program (input_of v) (most - least) i dir groups near))
          ≡ first_at told to (if g then given_back (input_of v) dir near (as_far program (input_of v) (most - least) i dir groups near)
          else one_by_one program (input_of v) (most - least) i dir groups near)
      by_way near here true =
          last-first told to (one_by_one program (input_of v) (most - least) i dir groups near)
          ∙ ap (first_at told to) (sym (given-back v all program suits dir groups at i (most - least) near here there))
      by_way near here false = refl

      by_near : (x : Option ℕ) → after_times program (input_of v) least i dir groups o ≡ x
          → elim x [
            | None ↦ None
            | Some near ↦ if greedy then last_at told to (one_by_one program (input_of v) (most - least) i dir groups near) None
                else first_at told to (one_by_one program (input_of v) (most - least) i dir groups near)
          ] ≡ first_at told to (elim x [
            | None ↦ []
            | Some near ↦ if greedy then given_back (input_of v) dir near (as_far program (input_of v) (most - least) i dir groups near)
                else one_by_one program (input_of v) (most - least) i dir groups near
          ])
      by_near None here = refl
      by_near (Some near) here = by_way near (after-on v all program suits dir groups at i there takes least o near body here).1 greedy

pub single-body : (v : View) (program : Program) → Suits program v → (at o least most : ℕ) (greedy : Bool) → Stands program at (code.single_loop least most greedy) → IsAtPlace (reading_of v) o
    → (j : Instruction) → Stands program (at + 1) j → IsBody program v (at + 2) o × (Stands program (at + 2 - 1) j × (least ≤ most))
single-body v program suits at o least most greedy here place j stands =
    let (i, there, takes, order) = suits.closed at (code.single_loop least most greedy) here in
    let next : suc at ≡ at + 2 - 1 = omega arith in
    let before : at + 1 ≡ at + 2 - 1 = omega arith in
    ((i, subst (λ b. Stands program b i) next there, takes, place, omega arith), (subst (λ b. Stands program b j) before stands, order))

pub single-stands : (v : View) (program : Program) → Suits program v → (at least most : ℕ) (greedy : Bool) → Stands program at (code.single_loop least most greedy)
    → (i : Instruction) × Stands program (at + 1) i
single-stands v program suits at least most greedy here =
    let (i, there, takes, order) = suits.closed at (code.single_loop least most greedy) here in
    let next : suc at ≡ at + 1 = omega arith in
    (i, subst (λ b. Stands program b i) next there)

-- ---- where no exit is left

pub none-last : (told : ℕ → ℕ → Bool) (at : ℕ) (os : List ℕ) (found : Option ℕ) → one_at told at os ≡ false → last_at told at os found ≡ found
none-last told at [] found none = refl
none-last told at (o ∷ os) found none = by_told (told at o) none (none-last told at os found)
  where
    by_told : (b : Bool) → (b || one_at told at os) ≡ false → (one_at told at os ≡ false → last_at told at os found ≡ found) → last_at told at os (if b then Some o else found) ≡ found
    by_told true e rest = absurd (cc e)
    by_told false e rest = rest e

module _ (v : View) (program : Program) (i : Instruction) (takes : takes_character i ≡ true) (dir : Direction) (gs : List Marks) (told : ℕ → ℕ → Bool) (at : ℕ) where
  abbrev exits-from : ℕ → ℕ → List ℕ
  exits-from n o = one_by_one program (input_of v) n i dir gs o

  -- Where none of all exits is told of, none of some is.
  none-of : (n m o : ℕ) → room (length v.units) dir o ≤ m → one_at told at (exits-from m o) ≡ false → one_at told at (exits-from n o) ≡ false
  unfolding one_by_one
  none-of zero zero o few none = none
  none-of zero (suc m) o few none = by_told (told at o) none
    where
      by_told : (b : Bool) → (b || one_at told at (elim (advance program (input_of v) i dir gs o) [ None ↦ [] | Some q ↦ one_by_one program (input_of v) m i dir gs q ])) ≡ false
          → (b || false) ≡ false
      by_told true e = absurd (cc e)
      by_told false e = refl
  none-of (suc n) zero o few none = by_value (advance program (input_of v) i dir gs o) refl
    where
      by_value : (x : Option ℕ) → advance program (input_of v) i dir gs o ≡ x
          → one_at told at (o ∷ elim x [ None ↦ [] | Some q ↦ one_by_one program (input_of v) n i dir gs q ]) ≡ false
      by_value None here = none
      by_value (Some q) here =
          let left = (advance-takes v program i dir gs o q (taking-unreferring i takes) here).1 in let one = one-takes i takes in absurd (omega (arith, few, left, one))
  none-of (suc n) (suc m) o few none = by_value (advance program (input_of v) i dir gs o) refl none (none-of n m)
    where
      by_value : (x : Option ℕ) → advance program (input_of v) i dir gs o ≡ x
          → one_at told at (o ∷ elim x [ None ↦ [] | Some q ↦ one_by_one program (input_of v) m i dir gs q ]) ≡ false
          → ((q : ℕ) → room (length v.units) dir q ≤ m → one_at told at (exits-from m q) ≡ false → one_at told at (exits-from n q) ≡ false)
          → one_at told at (o ∷ elim x [ None ↦ [] | Some q ↦ one_by_one program (input_of v) n i dir gs q ]) ≡ false
      by_value None here none rest = none
      by_value (Some q) here none rest =
          let left = (advance-takes v program i dir gs o q (taking-unreferring i takes) here).1 in
          let one = one-takes i takes in
          by_told (told at o) none (rest q (omega (arith, few, left, one)))
        where
          by_told : (b : Bool) → (b || one_at told at (exits-from m q)) ≡ false → (one_at told at (exits-from m q) ≡ false → one_at told at (exits-from n q) ≡ false)
              → (b || one_at told at (exits-from n q)) ≡ false
          by_told true e more = absurd (cc e)
          by_told false e more = more e

  -- So the last of some is the first of them, or another, where none of all behind it is.
  pub far-none : (n o : ℕ) (found : Option ℕ) → room (length v.units) dir o ≤ length v.units
      → elim (advance program (input_of v) i dir gs o) [ None ↦ false | Some q ↦ one_at told at (one_by_one program (input_of v) (length v.units) i dir gs q) ] ≡ false
      → last_at told at (exits-from n o) found ≡ (if told at o then Some o else found)
  unfolding one_by_one
  far-none zero o found few none = refl
  far-none (suc n) o found few none = by_value (advance program (input_of v) i dir gs o) refl none
    where
      next : Option ℕ
      next = if told at o then Some o else found

      by_value : (x : Option ℕ) → advance program (input_of v) i dir gs o ≡ x
          → elim x [ None ↦ false | Some q ↦ one_at told at (one_by_one program (input_of v) (length v.units) i dir gs q) ] ≡ false
          → last_at told at (elim x [ None ↦ [] | Some q ↦ one_by_one program (input_of v) n i dir gs q ]) next ≡ next
      by_value None here e = refl
      by_value (Some q) here e =
          let left = (advance-takes v program i dir gs o q (taking-unreferring i takes) here).1 in
          none-last told at (exits-from n q) next (none-of n (length v.units) q (omega (arith, few, left)) e)

-- what takes a character does so whatever the groups are, one by one
pub ones-free : (program : Program) (input : Input) (i : Instruction) (dir : Direction) (gs hs : List Marks) → referred i ≡ None → (n o : ℕ)
    → one_by_one program input n i dir gs o ≡ one_by_one program input n i dir hs o
unfolding after_times
ones-free program input i dir gs hs calm n o =
    let all : n - 0 ≡ n = omega arith in
    ap (λ k. one_by_one program input k i dir gs o) (sym all) ∙ counted-any program input i dir gs hs calm 0 n false o ∙ ap (λ k. one_by_one program input k i dir hs o) all

-- of two things that hold of each of some states both do
pub each-both : (P Q : Whole → Type 0) (us : List Whole) → AllByRecursion P us → AllByRecursion Q us → AllByRecursion (λ u. P u × Q u) us
each-both P Q [] first second = tt
each-both P Q (u ∷ us) first second = ((first.0, second.0), each-both P Q us first.1 second.1)

-- where a state runs an instruction stands
pub runs-stand : {program : Program} {input : Input} {dir : Direction} {s : Whole} {ss : List Whole} {n : ℕ} {r : Option Whole} → Run program input dir (s ∷ ss) n r
    → (i : Instruction) × Stands program s.at i
runs-stand (finds here) = (code.goal, here)
runs-stand (goes {i = i} here plain next) = (i, here)
runs-stand (looks {kind = kind} {first = low} {last = high} {continuation = continuation} here inner next) = (code.submatch kind low high continuation, here)
