-- Whether a one-character loop answers, by what is told of its exits from each offset on.
use Rattle.std.specs.Prelude.{IfSome, option_and_then, reverse}
use Rattle.std.proofs.Common.{◌≡◌, ℕ, zero, suc, ◌+◌, ◌-◌, ◌<◌, ◌≤◌, ◌⊎◌, inl, inr, ◌||◌, ◌==◌, Bool, true, false, List, [], ◌∷◌, ◌++◌, length, Option, None, Some, if◌then◌else◌, refl, sym, ap, ◌∙◌, subst, arith}
use Rattle.std.proofs.lemmas.Bool.{eqb-false, eqb-true}
use Rattle.std.proofs.lemmas.List.{reverse-append}
use Rattle.regress_meaning.specs.Inputs.{Input}
use Rattle.regress_meaning.specs.Meaning.{Direction, Forward, Backward}
use Rattle.regress_engine_input.specs.Views.{View, AreOfKind, input_of, reading_of}
use Rattle.regress_engine_insn.specs.Instructions.{Instruction, Program, Stands}
use Rattle.regress_engine_runs.specs.Closed.{takes_character}
use Rattle.regress_engine_runs.specs.Meets.{referred, IsAtPlace}
use Rattle.regress_engine_runs.specs.Runs.{advance, after_times, as_far, counted, given_back, one_by_one, room}
use Rattle.regress_engine_runs.specs.States.{Marks}
use Rattle.regress_engine_search.specs.Ready.{IsBody}
use Rattle.regress_engine_search.specs.Search.{Suits}
use Rattle.regress_engine_search.proofs.GivenBack.{given-back}
use Rattle.regress_engine_search.proofs.ReadyLemmas.{body-next}
use Rattle.regress_engine_search.proofs.SkipLemmas.{place-lies}
use Rattle.regress_engine_memory.specs.Needs.{taken_by}
use Rattle.regress_engine_memory.specs.Under.{IsFurther, IsOnward}
use Rattle.regress_engine_memory.proofs.Onward.{Takes}
use Rattle.regress_engine_memory.proofs.Taking.{advance-takes, after-on, one-takes, taking-unreferring}
use Rattle.regress_engine_memory.proofs.Unreferring.{advance-any}
use Rattle.regress_engine_linear.specs.Answered.{exits_at, one_at, one_beyond, AreExitsOf, IsRepeated}

or-both : (a b c : Bool) → ((a || b) || c) ≡ (a || (b || c))
or-both true b c = refl
or-both false b c = refl

or-turned : (a b : Bool) → (a || b) ≡ (b || a)
or-turned true true = refl
or-turned true false = refl
or-turned false true = refl
or-turned false false = refl

module _ (told : ℕ → ℕ → Bool) (at : ℕ) where
  at-append : (os qs : List ℕ) → one_at told at (os ++ qs) ≡ (one_at told at os || one_at told at qs)
  at-append [] qs = refl
  at-append (o ∷ os) qs = ap (λ b. told at o || b) (at-append os qs) ∙ sym (or-both (told at o) (one_at told at os) (one_at told at qs))

  -- whichever way round they are asked
  pub at-turned : (os : List ℕ) → one_at told at (reverse os) ≡ one_at told at os
  at-turned [] = refl
  at-turned (o ∷ os) =
      ap (one_at told at) (reverse-append (o ∷ []) os)
      ∙ at-append (reverse os) (o ∷ [])
      ∙ ap (λ b. b || one_at told at (o ∷ [])) (at-turned os)
      ∙ or-turned (one_at told at os) (told at o || false)
      ∙ or-both (told at o) false (one_at told at os)

module _ (v : View) (program : Program) (dir : Direction) (i : Instruction) (takes : takes_character i ≡ true) where
  abbrev last : ℕ
  last = length v.units

  abbrev next : ℕ → Option ℕ
  next o = advance program (input_of v) i dir [] o

  -- Of as many iterations as there is text, or more, no more exits come.
  pub exits-same : (n m o : ℕ) → room last dir o ≤ n → room last dir o ≤ m → one_by_one program (input_of v) n i dir [] o ≡ one_by_one program (input_of v) m i dir [] o
  unfolding one_by_one
  exits-same zero zero o few many = refl
  exits-same zero (suc m) o few many = by_value (next o) refl
    where
      by_value : (x : Option ℕ) → next o ≡ x → o ∷ [] ≡ o ∷ elim x [ None ↦ [] | Some q ↦ one_by_one program (input_of v) m i dir [] q ]
      by_value None here = refl
      by_value (Some q) here =
          let left = (advance-takes v program i dir [] o q (taking-unreferring i takes) here).1 in let one = one-takes i takes in absurd (omega (arith, few, left, one))
  exits-same (suc n) zero o few many = by_value (next o) refl
    where
      by_value : (x : Option ℕ) → next o ≡ x → o ∷ elim x [ None ↦ [] | Some q ↦ one_by_one program (input_of v) n i dir [] q ] ≡ o ∷ []
      by_value None here = refl
      by_value (Some q) here =
          let left = (advance-takes v program i dir [] o q (taking-unreferring i takes) here).1 in let one = one-takes i takes in absurd (omega (arith, many, left, one))
  exits-same (suc n) (suc m) o few many = by_value (next o) refl (exits-same n m)
    where
      by_value : (x : Option ℕ) → next o ≡ x
          → ((q : ℕ) → room last dir q ≤ n → room last dir q ≤ m → one_by_one program (input_of v) n i dir [] q ≡ one_by_one program (input_of v) m i dir [] q)
          → o ∷ elim x [ None ↦ [] | Some q ↦ one_by_one program (input_of v) n i dir [] q ] ≡ o ∷ elim x [ None ↦ [] | Some q ↦ one_by_one program (input_of v) m i dir [] q ]
      by_value None here rest = refl
      by_value (Some q) here rest =
          let left = (advance-takes v program i dir [] o q (taking-unreferring i takes) here).1 in
          let one = one-takes i takes in
          ap (λ (qs : List ℕ). o ∷ qs) (rest q (omega (arith, few, left, one)) (omega (arith, many, left, one)))

  -- So whether one answers is told from each offset on by what is told there and from the next.
  pub exits-told : (told : ℕ → ℕ → Bool) (at n o : ℕ) → room last dir o ≤ n
      → one_at told at (one_by_one program (input_of v) n i dir [] o) ≡ (told at o || elim (next o) [ None ↦ false | Some q ↦ one_at told at (one_by_one program (input_of v) n i dir [] q) ])
  unfolding one_by_one
  exits-told told at n o few =
      ap (one_at told at) (exits-same n (suc n) o few (omega (arith, few))) ∙ by_value (next o) refl
    where
      by_value : (x : Option ℕ) → next o ≡ x
          → (told at o || one_at told at (elim x [ None ↦ [] | Some q ↦ one_by_one program (input_of v) n i dir [] q ]))
          ≡ (told at o || elim x [ None ↦ false | Some q ↦ one_at told at (one_by_one program (input_of v) n i dir [] q) ])
      by_value None here = refl
      by_value (Some q) here = refl

-- whether one of the exits of at most so many characters answers, one by one
module _ (told : ℕ → ℕ → Bool) (at : ℕ) (program : Program) (input : Input) (i : Instruction) (dir : Direction) where
  abbrev ones : (left o : ℕ) → List ℕ
  ones left o = one_by_one program input left i dir [] o

  pub one-told : (left o : ℕ) → told at o ≡ true → true ≡ one_at told at (ones left o)
  unfolding one_by_one
  one-told zero o has = ap (λ b. b || false) (sym has)
  one-told (suc n) o has = ap (λ b. b || one_at told at (elim (advance program input i dir [] o) [ None ↦ [] | Some q ↦ ones n q ])) (sym has)

  pub one-stops : (left o : ℕ) → told at o ≡ false → None ≡ advance program input i dir [] o → false ≡ one_at told at (ones left o)
  unfolding one_by_one
  one-stops zero o has none = ap (λ b. b || false) (sym has)
  one-stops (suc n) o has none =
      ap (λ b. b || false) (sym has) ∙ ap (λ (x : Option ℕ). told at o || one_at told at (elim x [ None ↦ [] | Some q ↦ ones n q ])) none

  pub one-goes : (left o q : ℕ) → 0 < left → told at o ≡ false → Some q ≡ advance program input i dir [] o → one_at told at (ones (left - 1) q) ≡ one_at told at (ones left o)
  unfolding one_by_one
  one-goes zero o q some has on = absurd (omega (arith, some))
  one-goes (suc n) o q some has on =
      let same : suc n - 1 ≡ n = omega arith in
      ap (λ m. one_at told at (ones m q)) same
      ∙ ap (λ b. b || one_at told at (ones n q)) (sym has)
      ∙ ap (λ (x : Option ℕ). told at o || one_at told at (elim x [ None ↦ [] | Some q ↦ ones n q ])) on

  pub one-all : (left o : ℕ) → left ≤ 0 → told at o ≡ one_at told at (ones left o)
  unfolding one_by_one
  one-all zero o none = sym (or-turned (told at o) false)
  one-all (suc n) o none = absurd (omega (arith, none))

-- So many iterations of what refers to no group lead to the same offset whatever the groups are.
pub after-free : (program : Program) (input : Input) (i : Instruction) (dir : Direction) (gs : List Marks) → referred i ≡ None → (n o : ℕ)
    → after_times program input n i dir gs o ≡ after_times program input n i dir [] o
unfolding after_times
after-free program input i dir gs calm zero o = refl
after-free program input i dir gs calm (suc n) o =
    ap (option_and_then (after_times program input n i dir gs)) (advance-any program input i dir gs [] o calm) ∙ by_value (advance program input i dir [] o) (after-free program input i dir gs calm n)
  where
    by_value : (x : Option ℕ) → ((q : ℕ) → after_times program input n i dir gs q ≡ after_times program input n i dir [] q)
        → option_and_then (after_times program input n i dir gs) x ≡ option_and_then (after_times program input n i dir []) x
    by_value None rest = refl
    by_value (Some q) rest = rest q

-- What is told of the exits of a one-character loop tells whether it answers.
module _ (v : View) (all : AreOfKind v.kind v.units) (program : Program) (suits : Suits program v) (dir : Direction) (at : ℕ) (i : Instruction) (repeated : IsRepeated program at i) where
  -- what it repeats stands before its exit
  pub body-before : Stands program (suc (suc at) - 1) i
  body-before = let before : suc at ≡ suc (suc at) - 1 = omega arith in subst (λ a. Stands program a i) before repeated.0

  pub body-here : (o : ℕ) → IsAtPlace (reading_of v) o → IsBody program v (suc (suc at)) o
  body-here o place = (i, body-before, repeated.1, place, omega arith)

  -- behind a character there is a place, further on
  place-next : (o q : ℕ) → IsAtPlace (reading_of v) o → next v program dir i repeated.1 o ≡ Some q → IsAtPlace (reading_of v) q
  place-next o q place e = (body-next v all program suits (suc (suc at)) o q i dir [] (body-here o place) body-before e).3

  pub next-there : (o : ℕ) → IsAtPlace (reading_of v) o → (x : Option ℕ) → x ≡ next v program dir i repeated.1 o → IfSome x (IsAtPlace (reading_of v))
  next-there o place None e = tt
  next-there o place (Some q) e = place-next o q place (sym e)

  pub further-next : (o q : ℕ) → next v program dir i repeated.1 o ≡ Some q → IsFurther (length v.units) dir o q
  further-next o q e = by_place takes.0
    where
      takes : Takes (length v.units) dir (taken_by i) o q
      takes = advance-takes v program i dir [] o q (taking-unreferring i repeated.1) e

      by_place : (q ≡ o) ⊎ IsFurther (length v.units) dir o q → IsFurther (length v.units) dir o q
      by_place (inl same) =
          let ahead = ap (room (length v.units) dir) same in let less = takes.1 in let one = one-takes i repeated.1 in absurd (omega (arith, ahead, less, one))
      by_place (inr further) = further

  place-room : (o : ℕ) → IsAtPlace (reading_of v) o → room (length v.units) dir o ≤ length v.units
  place-room o place = by_direction dir
    where
      by_direction : (d : Direction) → room (length v.units) d o ≤ length v.units
      by_direction Forward = omega arith
      by_direction Backward = place-lies v all o place

  -- behind so many characters there is a place, there or further on
  pub after-there : (n o q : ℕ) → IsAtPlace (reading_of v) o → after_times program (input_of v) n i dir [] o ≡ Some q → IsOnward (length v.units) dir o q × IsAtPlace (reading_of v) q
  after-there n o q place e =
      let on = after-on v all program suits dir [] (suc (suc at)) i body-before repeated.1 n o q (body-here o place) e in let body : IsBody program v (suc (suc at)) q = on.1 in (on.0.0, body.3)

  module _ (told : ℕ → ℕ → Bool) where
    abbrev exit : ℕ
    exit = suc (suc at)

    abbrev one_from : (n o : ℕ) → Bool
    one_from n o = one_at told exit (one_by_one program (input_of v) n i dir [] o)

    abbrev beyond : ℕ → Bool
    beyond o = one_beyond told program v dir at i o

    from-told : (o : ℕ) → IsAtPlace (reading_of v) o → one_from (length v.units) o ≡ (told exit o || beyond o)
    from-told o place = exits-told v program dir i repeated.1 told exit (length v.units) o (place-room o place)

    module _ (exits : ℕ → ℕ → Bool) (o : ℕ) (place : IsAtPlace (reading_of v) o) (right : AreExitsOf told exits program v dir at o i) where
      -- what is told of them further on tells of them here
      pub exits-here : exits_at told (exits at) at (next v program dir i repeated.1 o) ≡ beyond o
      exits-here = by_value (next v program dir i repeated.1 o) refl
        where
          by_value : (x : Option ℕ) → next v program dir i repeated.1 o ≡ x
              → exits_at told (exits at) at x ≡ elim x [ None ↦ false | Some q ↦ one_at told exit (one_by_one program (input_of v) (length v.units) i dir [] q) ]
          by_value None here = refl
          by_value (Some q) here =
              let there = place-next o q place here in ap (λ b. told exit q || b) (right q there (further-next o q here)) ∙ sym (from-told q there)

      exits-from : (here : Bool) (near : ℕ) → here ≡ beyond o → IsAtPlace (reading_of v) near → IsOnward (length v.units) dir o near
          → (told exit near || (if near == o then here else exits at near)) ≡ one_from (length v.units) near
      exits-from here near e there on = ap (λ b. told exit near || b) (by_place (near == o) refl on) ∙ sym (from-told near there)
        where
          by_place : (b : Bool) → (near == o) ≡ b → IsOnward (length v.units) dir o near → (if b then here else exits at near) ≡ beyond near
          by_place true same on = e ∙ ap beyond (sym (eqb-true near o same))
          by_place false other (inl same) = absurd (eqb-false near o other same)
          by_place false other (inr further) = right near there further

    -- it answers where one of its exits does, from behind its least number on
    counted-one : (least most : ℕ) (greedy : Bool) (o : ℕ) → IsAtPlace (reading_of v) o → one_at told exit (counted program (input_of v) least most greedy i dir [] o)
        ≡ elim (after_times program (input_of v) least i dir [] o) [ None ↦ false | Some near ↦ one_from (most - least) near ]
    counted-one least most greedy o place = by_near (after_times program (input_of v) least i dir [] o) refl
      where
        by_way : (near : ℕ) → IsAtPlace (reading_of v) near → (g : Bool)
            → one_at told exit (if g then given_back (input_of v) dir near (as_far program (input_of v) (most - least) i dir [] near) else one_by_one program (input_of v) (most - least) i dir [] near)
            ≡ one_from (most - least) near
        by_way near there true =
            ap (one_at told exit) (given-back v all program suits dir [] exit i (most - least) near (body-here near there) body-before)
            ∙ at-turned told exit (one_by_one program (input_of v) (most - least) i dir [] near)
        by_way near there false = refl

        by_near : (x : Option ℕ) → after_times program (input_of v) least i dir [] o ≡ x
            → one_at told exit (elim x [
              | None ↦ []
              | Some near ↦ if greedy then given_back (input_of v) dir near (as_far program (input_of v) (most - least) i dir [] near)
                  else one_by_one program (input_of v) (most - least) i dir [] near
            ]) ≡ elim x [ None ↦ false | Some near ↦ one_from (most - least) near ]
        by_near None here = refl
        by_near (Some near) here = by_way near (after-there least o near place here).1 greedy

    module _ (least most : ℕ) (greedy : Bool) (o : ℕ) (place : IsAtPlace (reading_of v) o) where
      abbrev has : ℕ → Bool
      has a = one_at told a (counted program (input_of v) least most greedy i dir [] o)

      abbrev by_after : Option ℕ → Bool
      by_after x = elim x [ None ↦ false | Some near ↦ one_from (most - least) near ]

      -- where there are too few characters it does not
      pub single-none : None ≡ after_times program (input_of v) least i dir [] o → false ≡ has (at + 2)
      single-none e = let two : suc (suc at) ≡ at + 2 = omega arith in ap by_after e ∙ sym (counted-one least most greedy o place) ∙ ap has two

      -- else each exit may be asked
      pub single-some : (near : ℕ) → Some near ≡ after_times program (input_of v) least i dir [] o
          → one_at told (at + 2) (one_by_one program (input_of v) (most - least) i dir [] near) ≡ has (at + 2)
      single-some near e =
          let two : suc (suc at) ≡ at + 2 = omega arith in
          ap (λ a. one_at told a (one_by_one program (input_of v) (most - least) i dir [] near)) (sym two) ∙ ap by_after e ∙ sym (counted-one least most greedy o place) ∙ ap has two

      -- and where it takes as many characters as there are, what is told of them is enough
      pub single-all : (exits : ℕ → ℕ → Bool) → AreExitsOf told exits program v dir at o i → (here : Bool) → here ≡ beyond o → length v.units ≤ most - least
          → (near : ℕ) → Some near ≡ after_times program (input_of v) least i dir [] o → (told (at + 2) near || (if near == o then here else exits at near)) ≡ has (at + 2)
      single-all exits right here e enough near f =
          let two : suc (suc at) ≡ at + 2 = omega arith in
          let there = after-there least o near place (sym f) in
          let low = place-room near there.1 in
          ap (λ a. told a near || (if near == o then here else exits at near)) (sym two)
          ∙ exits-from exits o place right here near e there.1 there.0
          ∙ ap (one_at told exit) (exits-same v program dir i repeated.1 (length v.units) (most - least) near low (omega (arith, low, enough)))
          ∙ ap by_after f ∙ sym (counted-one least most greedy o place) ∙ ap has two
