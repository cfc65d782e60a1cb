-- What a one-character loop takes, one after another, and gives back.
use Rattle.std.specs.Prelude.{reverse}
use Rattle.std.proofs.Common.{◌≡◌, ℕ, zero, suc, ◌-◌, List, [], ◌∷◌, ◌++◌, All, Option, Some, None, refl, ap, ◌∙◌}
use Rattle.std.proofs.lemmas.List.{reverse-append}
use Rattle.std.proofs.lemmas.List.Elements.{All-nil, All-push}
use Rattle.regress_meaning.specs.Meaning.{Forward}
use Rattle.regress_meaning.specs.Inputs.{Input}
use Rattle.regress_engine_input.specs.Views.{View, AreOfKind, input_of, reading_of}
use Rattle.regress_engine_insn.specs.Instructions.{Instruction, Program, Stands}
use Rattle.regress_engine_runs.specs.Meets.{IsAtPlace}
use Rattle.regress_engine_runs.specs.States.{Marks}
use Rattle.regress_engine_runs.specs.Runs.{advance, as_far, one_by_one}
use Rattle.regress_engine_search.specs.Ready.{IsBody}
use Rattle.regress_engine_search.specs.Search.{Suits}
use Rattle.regress_engine_search.proofs.ReadyLemmas.{body-next}

-- an instruction takes something ahead of a place
abbrev pub TakesAt : Program → View → Instruction → List Marks → ℕ → Type 0
TakesAt program v i groups o = IsAtPlace (reading_of v) o × ((q : ℕ) × (advance program (input_of v) i Forward groups o ≡ Some q))

module _ (program : Program) (v : View) (all : AreOfKind v.kind v.units) (suits : Suits program v) (at : ℕ) (i : Instruction) (here : Stands program (at - 1) i) (groups : List Marks) where
  abbrev input : Input
  input = input_of v

  -- what is given back, the far offset first
  abbrev pub IsGivenBack : ℕ → List ℕ → Type 0
  IsGivenBack far os = (before : List ℕ) × (reverse os ≡ far ∷ before) × All (TakesAt program v i groups) before

  alone : (o : ℕ) → IsGivenBack o (o ∷ [])
  alone o = ([], refl, All-nil (TakesAt program v i groups))

  -- At all offsets but the far one something is taken, and all are places.
  pub given-taken : (n o : ℕ) → IsBody program v at o → IsGivenBack (as_far program input n i Forward groups o) (one_by_one program input n i Forward groups o)
  unfolding as_far one_by_one
  given-taken zero o body = alone o
  given-taken (suc n) o body = by_step (advance program input i Forward groups o) refl (given-taken n)
    where
      by_step : (x : Option ℕ) → advance program input i Forward groups o ≡ x
          → ((q : ℕ) → IsBody program v at q → IsGivenBack (as_far program input n i Forward groups q) (one_by_one program input n i Forward groups q))
          → IsGivenBack (elim x [ None ↦ o | Some q ↦ as_far program input n i Forward groups q ]) (o ∷ elim x [ None ↦ [] | Some q ↦ one_by_one program input n i Forward groups q ])
      by_step None e rest = alone o
      by_step (Some q) e rest =
          let (before, back, takes) = rest q (body-next v all program suits at o q i Forward groups body here e) in
          let os : List ℕ = one_by_one program input n i Forward groups q in
          let place : IsAtPlace (reading_of v) o = body.3 in
          (before ++ o ∷ [], reverse-append (o ∷ []) os ∙ ap (λ xs. xs ++ o ∷ []) back, All-push (TakesAt program v i groups) before o takes (place, (q, e)))
