-- The ends of one-character loops.
use Rattle.std.specs.Prelude.{reverse}
use Rattle.std.proofs.Common.{◌≡◌, ℕ, zero, suc, ◌+◌, ◌-◌, ◌<◌, Bool, true, false, List, [], ◌∷◌, ◌++◌, map, Option, Some, None, if◌then◌else◌, refl, sym, ap, ◌∙◌, subst, arith, append_assoc}
use Rattle.std.proofs.lemmas.List.{reverse-reverse}
use Rattle.regress_meaning.specs.Meaning.{Direction}
use Rattle.regress_engine_input.specs.Views.{View, AreOfKind, input_of}
use Rattle.regress_engine_insn.specs.Instructions.{Instruction, Program, Stands}
use Rattle.regress_engine_insn.specs.Instructions as code
use Rattle.regress_engine_runs.specs.States.{Marks, Whole}
use Rattle.regress_engine_runs.specs.Runs.{advance, after_times, as_far, one_by_one, given_back, counted, successors}
use Rattle.regress_engine_search.specs.Ready.{IsBody}
use Rattle.regress_engine_search.specs.Search.{Suits}
use Rattle.regress_engine_search.proofs.InsnLemmas.{single-successors}
use Rattle.regress_engine_search.proofs.GivenBack.{given-back}

-- ---- offsets, one by one

module _ (program : Program) (v : View) (i : Instruction) (dir : Direction) (groups : List Marks) where
  pub ends-full : (left o : ℕ) → left ≡ 0 → one_by_one program (input_of v) left i dir groups o ≡ o ∷ []
  unfolding one_by_one
  ends-full zero o e = refl
  ends-full (suc n) o e = absurd (omega (arith, e))

  pub ends-stop : (left o : ℕ) → None ≡ advance program (input_of v) i dir groups o → one_by_one program (input_of v) left i dir groups o ≡ o ∷ []
  unfolding one_by_one
  ends-stop zero o e = refl
  ends-stop (suc n) o e = ap (λ (x : Option ℕ). o ∷ elim x [ None ↦ [] | Some q ↦ one_by_one program (input_of v) n i dir groups q ]) (sym e)

  pub ends-more : (left o q : ℕ) → 0 < left → Some q ≡ advance program (input_of v) i dir groups o
      → one_by_one program (input_of v) left i dir groups o ≡ o ∷ one_by_one program (input_of v) (left - 1) i dir groups q
  unfolding one_by_one
  ends-more zero o q some e = absurd (omega (arith, some))
  ends-more (suc n) o q some e =
      let same : n ≡ suc n - 1 = omega arith in
      ap (λ (x : Option ℕ). o ∷ elim x [ None ↦ [] | Some r ↦ one_by_one program (input_of v) n i dir groups r ]) (sym e)
      ∙ ap (λ m. o ∷ one_by_one program (input_of v) m i dir groups q) same

-- one more at the end of a list
pub put-last : (xs ys : List ℕ) (o : ℕ) (all : List ℕ) → xs ++ o ∷ ys ≡ all → (xs ++ o ∷ []) ++ ys ≡ all
put-last xs ys o all e = append_assoc xs (o ∷ []) ys ∙ e

-- ---- the states behind a loop

module _ (program : Program) (v : View) (i : Instruction) (s : Whole) (dir : Direction) (here : Stands program (s.at + 1) i) (least most : ℕ) where
  abbrev pub ends_at : Whole → List ℕ → List Whole
  ends_at t os = map (λ o. record t { at = s.at + 2; offset = o }) os

  abbrev counts : Bool → Option ℕ → List ℕ
  counts greedy x = elim x [
    | None ↦ []
    | Some near ↦ if greedy then given_back (input_of v) dir near (as_far program (input_of v) (most - least) i dir s.groups near) else one_by_one program (input_of v) (most - least) i dir s.groups near
  ]

  are : (greedy : Bool) (x : Option ℕ) → after_times program (input_of v) least i dir s.groups s.offset ≡ x
      → successors program (input_of v) (code.single_loop least most greedy) dir s ≡ ends_at s (counts greedy x)
  are greedy x e =
      let two : suc (suc s.at) ≡ s.at + 2 = omega arith in
      single-successors program (input_of v) dir s least most greedy i here
      ∙ ap (λ a. map (λ o. record s { at = a; offset = o }) (counted program (input_of v) least most greedy i dir s.groups s.offset)) two
      ∙ ap (λ y. ends_at s (counts greedy y)) e

  pub repeat-few : (greedy : Bool) → after_times program (input_of v) least i dir s.groups s.offset ≡ None → [] ≡ successors program (input_of v) (code.single_loop least most greedy) dir s
  repeat-few greedy e = sym (are greedy None e)

  pub repeat-greedy : (all : AreOfKind v.kind v.units) → Suits program v → (greedy : Bool) (near : ℕ) (os : List ℕ) → greedy ≡ true → after_times program (input_of v) least i dir s.groups s.offset ≡ Some near
      → IsBody program v (s.at + 2) near → os ≡ one_by_one program (input_of v) (most - least) i dir s.groups near
      → ends_at s (reverse os) ≡ successors program (input_of v) (code.single_loop least most greedy) dir s
  repeat-greedy all suits greedy near os is e body same =
      let before : s.at + 1 ≡ s.at + 2 - 1 = omega arith in
      let there : Stands program (s.at + 2 - 1) i = subst (λ a. Stands program a i) before here in
      ap (λ xs. ends_at s (reverse xs)) same
      ∙ ap (ends_at s) (sym (given-back v all program suits dir s.groups (s.at + 2) i (most - least) near body there))
      ∙ ap (λ b. ends_at s (counts b (Some near))) (sym is)
      ∙ sym (are greedy (Some near) e)

  pub repeat-lazy : (greedy : Bool) (near : ℕ) (os : List ℕ) → greedy ≡ false → after_times program (input_of v) least i dir s.groups s.offset ≡ Some near
      → os ≡ one_by_one program (input_of v) (most - least) i dir s.groups near
      → ends_at s (reverse (reverse os)) ≡ successors program (input_of v) (code.single_loop least most greedy) dir s
  repeat-lazy greedy near os is e same =
      ap (ends_at s) (reverse-reverse os ∙ same)
      ∙ ap (λ b. ends_at s (counts b (Some near))) (sym is)
      ∙ sym (are greedy (Some near) e)
