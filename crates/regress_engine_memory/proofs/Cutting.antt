-- What a one-character loop gives back or takes on is passed over as far as it is known to fail.
use Rattle.std.specs.Prelude.{reverse, option_and_then}
use Rattle.std.proofs.Common.{◌≡◌, ℕ, zero, suc, ◌+◌, ◌-◌, false, List, [], ◌∷◌, ◌++◌, All, length, Option, Some, None, refl, sym, ap, ◌∙◌, subst, arith}
use Rattle.std.proofs.lemmas.List.{map-append, reverse-append}
use Rattle.regress_meaning.specs.Meaning.{Direction}
use Rattle.regress_meaning.specs.Inputs.{Input}
use Rattle.regress_engine_input.specs.Views.{View, AreOfKind, direction_of, input_of}
use Rattle.regress_engine_insn.specs.Instructions.{Instruction, Program, Stands}
use Rattle.regress_engine_runs.specs.States.{Marks, Whole}
use Rattle.regress_engine_runs.specs.Runs.{advance, after_times, as_far, one_by_one, given_back}
use Rattle.regress_engine_runs.specs.UndoStack.{Work, give_back, take_on, at_each, taken_on, first_do, stands_for}
use Rattle.regress_engine_search.specs.Ready.{IsBody}
use Rattle.regress_engine_search.specs.Search.{Suits}
use Rattle.regress_engine_search.specs.Tasks.{Leads}
use Rattle.regress_engine_search.proofs.GivenBack.{given-back}
use Rattle.regress_engine_search.proofs.TaskLemmas.{leads-then, leads-same, leads-first, leads-later}
use Rattle.regress_engine_undo.specs.declared.undo.Spot.{Spot}
use Rattle.regress_engine_undo.specs.Held.{Held, pushed}
use Rattle.regress_engine_undo.specs.Tasks.{task}
use Rattle.regress_engine_memory.specs.Held.{ExitsFailWith, key_at}
use Rattle.regress_engine_memory.specs.Keys.{Keyed, FailsAt}
use Rattle.regress_engine_memory.proofs.Dropping.{leads-each}
use Rattle.regress_engine_memory.proofs.Exits.{All-turned}

-- ---- iterations, and more of them

module _ (program : Program) (input : Input) (i : Instruction) (dir : Direction) (groups : List Marks) where
  abbrev go : ℕ → Option ℕ
  go o = advance program input i dir groups o

  -- one more
  pub after-one : (m o b q : ℕ) → after_times program input m i dir groups o ≡ Some b → go b ≡ Some q → after_times program input (suc m) i dir groups o ≡ Some q
  unfolding after_times
  after-one zero o b q e takes = let same : o ≡ b = cc in ap (option_and_then (λ x. Some x)) (ap go same ∙ takes)
  after-one (suc m) o b q e takes = by_first (go o) e (λ p. after-one m p b q)
    where
      by_first : (x : Option ℕ) → option_and_then (after_times program input m i dir groups) x ≡ Some b
          → ((p : ℕ) → after_times program input m i dir groups p ≡ Some b → go b ≡ Some q → after_times program input (suc m) i dir groups p ≡ Some q)
          → option_and_then (after_times program input (suc m) i dir groups) x ≡ Some q
      by_first None h rest = absurd (cc h)
      by_first (Some p) h rest = rest p h takes

  -- as far as some go, and then as far as others
  pub far-after : (m k o b : ℕ) → after_times program input m i dir groups o ≡ Some b → as_far program input (m + k) i dir groups o ≡ as_far program input k i dir groups b
  unfolding after_times as_far
  far-after zero k o b e =
      let same : o ≡ b = cc in
      let none : 0 + k ≡ k = omega arith in
      ap (λ n. as_far program input n i dir groups o) none ∙ ap (as_far program input k i dir groups) same
  far-after (suc m) k o b e =
      let one : suc m + k ≡ suc (m + k) = omega arith in ap (λ n. as_far program input n i dir groups o) one ∙ by_first (go o) e (λ p. far-after m k p b)
    where
      by_first : (x : Option ℕ) → option_and_then (after_times program input m i dir groups) x ≡ Some b
          → ((p : ℕ) → after_times program input m i dir groups p ≡ Some b → as_far program input (m + k) i dir groups p ≡ as_far program input k i dir groups b)
          → elim x [ None ↦ o | Some p ↦ as_far program input (m + k) i dir groups p ] ≡ as_far program input k i dir groups b
      by_first None h rest = absurd (cc h)
      by_first (Some p) h rest = rest p h

  -- the offsets behind some, and then behind others
  pub ones-after : (m k o b q : ℕ) → after_times program input m i dir groups o ≡ Some b → go b ≡ Some q
      → one_by_one program input (m + suc k) i dir groups o ≡ one_by_one program input m i dir groups o ++ one_by_one program input k i dir groups q
  unfolding after_times one_by_one
  ones-after zero k o b q e takes =
      let same : o ≡ b = cc in
      let one : 0 + suc k ≡ suc k = omega arith in
      ap (λ n. one_by_one program input n i dir groups o) one
      ∙ ap (λ (x : Option ℕ). o ∷ elim x [ None ↦ [] | Some q ↦ one_by_one program input k i dir groups q ]) (ap go same ∙ takes)
  ones-after (suc m) k o b q e takes =
      let one : suc m + suc k ≡ suc (m + suc k) = omega arith in
      ap (λ n. one_by_one program input n i dir groups o) one ∙ by_first (go o) e (λ p. ones-after m k p b q)
    where
      by_first : (x : Option ℕ) → option_and_then (after_times program input m i dir groups) x ≡ Some b
          → ((p : ℕ) → after_times program input m i dir groups p ≡ Some b → go b ≡ Some q
          → one_by_one program input (m + suc k) i dir groups p ≡ one_by_one program input m i dir groups p ++ one_by_one program input k i dir groups q)
          → o ∷ elim x [ None ↦ [] | Some p ↦ one_by_one program input (m + suc k) i dir groups p ]
          ≡ (o ∷ elim x [ None ↦ [] | Some p ↦ one_by_one program input m i dir groups p ]) ++ one_by_one program input k i dir groups q
      by_first None h rest = absurd (cc h)
      by_first (Some p) h rest = ap (λ xs. o ∷ xs) (rest p h takes)

-- ---- what is known to fail

module _ (program : Program) (v : View) (keyed : Keyed) (p : Spot) (h : Held) (count : length h.loops ≡ program.loops) (at : ℕ) (i : Instruction) (here : Stands program (at - 1) i) where
  abbrev dir : Direction
  dir = direction_of p.forward

  abbrev exit : ℕ → Spot
  exit o = record { at = at; offset = o; forward = p.forward }

  abbrev rest : Work
  rest = stands_for program (input_of v) dir h.stack h.loops h.groups

  abbrev behind : List ℕ → List Whole
  behind os = at_each program (input_of v) at h.loops h.groups os

  -- exits that fail are passed over
  each-over : (n q : ℕ) → ExitsFailWith program (input_of v) keyed (exit q) h.loops → (os : List ℕ)
      → ((P : ℕ → Type 0) → All P (one_by_one program (input_of v) n i dir h.groups q) → All P os) → (work : Work)
      → Leads program (input_of v) 0 (record { dir = dir; states = behind os; work = work }) (record { dir = dir; states = []; work = work })
  each-over n q (classes, fails, has) os of_these work =
      leads-each program (input_of v) keyed (key_at (exit q) classes) h.loops h.groups count has os
      (of_these (λ o. FailsAt program (input_of v) keyed (record (key_at (exit q) classes) { offset = o })) (fails i here n h.groups)) work

  -- all that is taken on
  pub taken-over : (o left : ℕ) → ExitsFailWith program (input_of v) keyed (exit o) h.loops
      → Leads program (input_of v) 0 (task program (input_of v) false p (pushed (take_on at o left) h)) (task program (input_of v) false p h)
  unfolding stands_for
  taken-over o left known =
      let os : List ℕ = one_by_one program (input_of v) left i dir h.groups o in
      let taken : taken_on program (input_of v) dir at left h.groups o ≡ os =
      ap (λ (x : Option Instruction). elim x [ None ↦ [] | Some j ↦ one_by_one program (input_of v) left j dir h.groups o ]) here in
      subst (λ xs. Leads program (input_of v) 0 (record { dir = dir; states = []; work = first_do (behind xs) rest }) (record { dir = dir; states = []; work = rest })) (sym taken)
      (leads-then program (input_of v) 0 0 (leads-first program (input_of v) dir [] (behind os) rest) (each-over left o known os (λ P all. all) rest))

  module _ (all : AreOfKind v.kind v.units) (suits : Suits program v) (near : ℕ) (body : IsBody program v at near) where
    given : (n : ℕ) → given_back (input_of v) dir near (as_far program (input_of v) n i dir h.groups near) ≡ reverse (one_by_one program (input_of v) n i dir h.groups near)
    given n = given-back v all program suits dir h.groups at i n near body here

    -- all that is given back
    pub given-over : (n : ℕ) → ExitsFailWith program (input_of v) keyed (exit near) h.loops
        → Leads program (input_of v) 0 (task program (input_of v) false p (pushed (give_back at near (as_far program (input_of v) n i dir h.groups near)) h)) (task program (input_of v) false p h)
    unfolding stands_for
    given-over n known =
        let os : List ℕ = one_by_one program (input_of v) n i dir h.groups near in
        subst (λ xs. Leads program (input_of v) 0 (record { dir = dir; states = []; work = first_do (behind xs) rest }) (record { dir = dir; states = []; work = rest })) (sym (given n))
        (leads-then program (input_of v) 0 0 (leads-first program (input_of v) dir [] (behind (reverse os)) rest) (each-over n near known (reverse os) (λ P all. All-turned P os all) rest))

    -- what is given back from behind an offset
    pub given-far : (m k far q : ℕ) → after_times program (input_of v) m i dir h.groups near ≡ Some far → advance program (input_of v) i dir h.groups far ≡ Some q
        → ExitsFailWith program (input_of v) keyed (exit q) h.loops
        → Leads program (input_of v) 0 (task program (input_of v) false p (pushed (give_back at near (as_far program (input_of v) (m + suc k) i dir h.groups near)) h))
        (task program (input_of v) false p (pushed (give_back at near far) h))
    unfolding stands_for as_far
    given-far m k far q after takes known =
        let xs : List ℕ = one_by_one program (input_of v) m i dir h.groups near in
        let ys : List ℕ = one_by_one program (input_of v) k i dir h.groups q in
        let none : m + 0 ≡ m = omega arith in
        let to_far : as_far program (input_of v) m i dir h.groups near ≡ far =
        ap (λ n. as_far program (input_of v) n i dir h.groups near) (sym none) ∙ far-after program (input_of v) i dir h.groups m 0 near far after in
        let first : given_back (input_of v) dir near far ≡ reverse xs = ap (given_back (input_of v) dir near) (sym to_far) ∙ given m in
        let both : given_back (input_of v) dir near (as_far program (input_of v) (m + suc k) i dir h.groups near) ≡ reverse ys ++ reverse xs =
        given (m + suc k) ∙ ap reverse (ones-after program (input_of v) i dir h.groups m k near far q after takes) ∙ reverse-append xs ys in
        let parts : behind (given_back (input_of v) dir near (as_far program (input_of v) (m + suc k) i dir h.groups near)) ≡ behind (reverse ys) ++ behind (reverse xs) =
        ap behind both ∙ map-append _ (reverse ys) (reverse xs) in
        subst (λ zs. Leads program (input_of v) 0 (record { dir = dir; states = []; work = first_do zs rest }) (record { dir = dir; states = []; work = first_do (behind (given_back (input_of v) dir near far)) rest })) (sym parts)
        (subst (λ zs. Leads program (input_of v) 0 (record { dir = dir; states = []; work = first_do (behind (reverse ys) ++ behind (reverse xs)) rest }) (record { dir = dir; states = []; work = first_do (behind zs) rest })) (sym first)
        (leads-then program (input_of v) 0 0 (leads-first program (input_of v) dir [] (behind (reverse ys) ++ behind (reverse xs)) rest)
        (leads-then program (input_of v) 0 0 (leads-later program (input_of v) dir (behind (reverse ys)) (behind (reverse xs)) rest)
        (each-over k q known (reverse ys) (λ P all. All-turned P ys all) (first_do (behind (reverse xs)) rest)))))
