-- The exits of a loop of a class, looked at one after another.
use Rattle.std.proofs.Common.{◌≡◌, ◌⊎◌, inl, inr, ℕ, zero, suc, ◌+◌, ◌<◌, ◌≤◌, true, length, List, [], ◌∷◌, All, Option, Some, None, refl, sym, subst, arith}
use Rattle.std.proofs.lemmas.List.Elements.{All-cons, All-nil}
use Rattle.regress_meaning.specs.Meaning.{Forward}
use Rattle.regress_meaning.specs.Inputs.{Input}
use Rattle.regress_engine_input.specs.Views.{View, AreOfKind, CanRead, input_of, reading_of}
use Rattle.regress_engine_matchers.proofs.ViewLemmas.{view_reads}
use Rattle.regress_engine_insn.specs.Instructions.{Instruction, Program, Stands}
use Rattle.regress_engine_insn.specs.Instructions as code
use Rattle.regress_engine_runs.specs.States.{Marks}
use Rattle.regress_engine_runs.specs.Runs.{advance, as_far, one_by_one}
use Rattle.regress_engine_runs.specs.Meets.{IsAtPlace}
use Rattle.regress_engine_search.proofs.PlaceLemmas.{moves, next-place}
use Rattle.regress_engine_analysis.specs.Planned.{is_class}
use Rattle.regress_engine_singles.specs.Failing.{IsDead}
use Rattle.regress_engine_singles.specs.Taking.{takes_one}
use Rattle.regress_engine_singles.proofs.DeadLemmas.{alt-dead, jump-dead}
use Rattle.regress_engine_singles.proofs.LeadingLemmas.{class-next, one-dead, same-offset}
use Rattle.regress_engine_leading.specs.Exits.{ComesTo, Ends, IsLoop, Stops, TakesFirst}

module _ (program : Program) (v : View) (at near far most : ℕ) (j : Instruction) (loop : IsLoop program at most j) (stops : Stops program v j far) (comes : ComesTo program v j most near far) where
  abbrev input : Input
  input = input_of v

  abbrev taken : List Marks → ℕ → Option ℕ
  taken groups o = advance program input j Forward groups o

  abbrev Dead : ℕ → Type 0
  Dead o = IsDead program input Forward (at + 2) o

  -- From an offset on the loop comes, with so many characters left, to where it stops. Where from none of the exits from there on a
  -- match can be reached, none can be from all of them.
  abbrev LeftBy : ℕ → List Marks → ℕ → Type 0
  LeftBy left groups o =
      (as_far program input left j Forward groups o ≡ far)
      × (All Dead (one_by_one program input left j Forward groups o) → All Dead (one_by_one program input most j Forward groups near))

  abbrev pub IsLeft : ℕ → Type 0
  IsLeft o = (left : ℕ) × ((groups : List Marks) → LeftBy left groups o)

  pub left-here : IsLeft near
  left-here = (most, λ groups. (comes groups, λ dead. dead))

  pub left-on : (o c q : ℕ) → input.next Forward o ≡ Some (c, q) → (o ≡ far → ⊥) → Dead o → IsLeft o → IsLeft q
  unfolding as_far one_by_one
  left-on o c q next other dead (left, is) = by_left left is
    where
      by_found : (m : ℕ) (groups : List Marks) (x : Option ℕ) → taken groups o ≡ x → elim x [ None ↦ o | Some r ↦ as_far program input m j Forward groups r ] ≡ far
          → (All Dead (o ∷ elim x [ None ↦ [] | Some r ↦ one_by_one program input m j Forward groups r ]) → All Dead (one_by_one program input most j Forward groups near))
          → LeftBy m groups q
      by_found m groups None e comes_on all = absurd (other comes_on)
      by_found m groups (Some r) e comes_on all =
          let (d, also) = class-next program v j loop.class groups o r e in
          let same : q ≡ r = same-offset (input.next Forward o) d r c q also next in (
            subst (λ x. as_far program input m j Forward groups x ≡ far) (sym same) comes_on,
            λ behind. all (All-cons Dead o (one_by_one program input m j Forward groups r) dead (subst (λ x. All Dead (one_by_one program input m j Forward groups x)) same behind)),
          )

      by_left : (m : ℕ) → ((groups : List Marks) → LeftBy m groups o) → IsLeft q
      by_left zero all = absurd (other (all []).0)
      by_left (suc m) all = (m, λ groups. by_found m groups (taken groups o) refl (all groups).0 (all groups).1)

  -- where the loop stops nothing more is left
  pub left-end : Dead far → IsLeft far → Ends program v at j far most near
  unfolding one_by_one
  left-end dead (left, is) groups = (comes groups, (is groups).1 (alone left))
    where
      alone : (m : ℕ) → All Dead (one_by_one program input m j Forward groups far)
      alone zero = All-cons Dead far [] dead (All-nil Dead)
      alone (suc m) =
          subst (λ (x : Option ℕ). All Dead (far ∷ elim x [ None ↦ [] | Some r ↦ one_by_one program input m j Forward groups r ])) (stops groups)
          (All-cons Dead far [] dead (All-nil Dead))

-- A place is come to from where a loop begins, whichever its class is.
pub record IsExit (program : Program) (v : View) (at near far o : ℕ) : Type 0 where
  pub place : IsAtPlace (reading_of v) o
  pub left : (most : ℕ) (j : Instruction) (loop : IsLoop program at most j) (stops : Stops program v j far) (comes : ComesTo program v j most near far)
      → IsLeft program v at near far most j loop stops comes o

module _ (program : Program) (v : View) (all : AreOfKind v.kind v.units) (at near far : ℕ) where
  pub exit-here : IsAtPlace (reading_of v) near → IsExit program v at near far near
  exit-here place = record { place = place; left = λ most j loop stops comes. left-here program v at near far most j loop stops comes }

  -- the next place is, where no match can be reached from one before the end
  pub exit-on : (o c q : ℕ) → (input_of v).next Forward o ≡ Some (c, q) → (o ≡ far → ⊥) → IsDead program (input_of v) Forward (at + 2) o → IsExit program v at near far o → IsExit program v at near far q
  exit-on o c q next other dead exit = record {
    place = next-place v all Forward o c q exit.place next;
    left = λ most j loop stops comes. left-on program v at near far most j loop stops comes o c q next other dead (exit.left most j loop stops comes);
  }

  -- at the end all have been
  pub exit-end : (o : ℕ) → o ≡ far → IsDead program (input_of v) Forward (at + 2) o → IsExit program v at near far o
      → (most : ℕ) (j : Instruction) → IsLoop program at most j → Stops program v j far → ComesTo program v j most near far → Ends program v at j far most near
  exit-end o same dead exit most j loop stops comes =
      left-end program v at near far most j loop stops comes (subst (IsDead program (input_of v) Forward (at + 2)) same dead)
      (subst (IsLeft program v at near far most j loop stops comes) same (exit.left most j loop stops comes))

module _ (program : Program) (v : View) where
  -- a way takes one character and jumps to where the ways come together, as those after it do
  pub way-first : (at second together : ℕ) → Stands program at (code.alt second) → (i : Instruction) → Stands program (at + 1) i → takes_one i ≡ true → Stands program (at + 2) (code.jump together)
      → TakesFirst program v second together → TakesFirst program v at together
  way-first at second together here i one takes jump rest o c q next dead =
      let two : at + 2 ≡ at + 1 + 1 = omega arith in
      let behind : Stands program (at + 1 + 1) (code.jump together) = subst (λ a. Stands program a (code.jump together)) two jump in
      alt-dead program (input_of v) Forward at o second here
      (one-dead program v (at + 1) i one takes o c q next (jump-dead program (input_of v) Forward (at + 1 + 1) q together behind dead))
      (rest o c q next dead)

  -- the last one takes one too
  pub way-last : (at together : ℕ) (i : Instruction) → Stands program at i → takes_one i ≡ true → at + 1 ≡ together → TakesFirst program v at together
  way-last at together i here takes same o c q next dead =
      one-dead program v at i here takes o c q next (subst (λ a. IsDead program (input_of v) Forward a q) (sym same) dead)

-- In at most so many characters a class comes to where it takes nothing, or as many units further.
stops-or-many : (program : Program) (v : View) (j : Instruction) → is_class j ≡ true → (groups : List Marks) (m o : ℕ)
    → (None ≡ advance program (input_of v) j Forward groups (as_far program (input_of v) m j Forward groups o)) ⊎ (o + m ≤ as_far program (input_of v) m j Forward groups o)
unfolding as_far
stops-or-many program v j class groups zero o = inr (omega arith)
stops-or-many program v j class groups (suc m) o = by_found (advance program (input_of v) j Forward groups o) refl (stops-or-many program v j class groups m)
  where
    far_by : Option ℕ → ℕ
    far_by x = elim x [ None ↦ o | Some q ↦ as_far program (input_of v) m j Forward groups q ]

    by_rest : (q : ℕ) → o < q → (None ≡ advance program (input_of v) j Forward groups (as_far program (input_of v) m j Forward groups q)) ⊎ (q + m ≤ as_far program (input_of v) m j Forward groups q)
        → (None ≡ advance program (input_of v) j Forward groups (far_by (Some q))) ⊎ (o + suc m ≤ far_by (Some q))
    by_rest q past (inl stop) = inl stop
    by_rest q past (inr many) = inr (omega (arith, past, many))

    by_found : (x : Option ℕ) → advance program (input_of v) j Forward groups o ≡ x
        → ((q : ℕ) → (None ≡ advance program (input_of v) j Forward groups (as_far program (input_of v) m j Forward groups q)) ⊎ (q + m ≤ as_far program (input_of v) m j Forward groups q))
        → (None ≡ advance program (input_of v) j Forward groups (far_by x)) ⊎ (o + suc m ≤ far_by x)
    by_found None e rest = inl (sym e)
    by_found (Some q) e rest =
        let (c, next) = class-next program v j class groups o q e in
        by_rest q (moves v Forward o c q next) (rest q)

-- so it takes nothing, where there are not so many
pub stops-there : (program : Program) (v : View) → AreOfKind v.kind v.units → (j : Instruction) → is_class j ≡ true → (most near far : ℕ) → CanRead v far → length v.units < near + most → ComesTo program v j most near far
    → Stops program v j far
stops-there program v all j class most near far can few comes groups = by_way (stops-or-many program v j class groups most near)
  where
    by_way : (None ≡ advance program (input_of v) j Forward groups (as_far program (input_of v) most j Forward groups near)) ⊎ (near + most ≤ as_far program (input_of v) most j Forward groups near)
        → None ≡ advance program (input_of v) j Forward groups far
    by_way (inl stop) = subst (λ o. None ≡ advance program (input_of v) j Forward groups o) (comes groups) stop
    by_way (inr many) =
        let inside = (view_reads v all).inside far can in
        let same = comes groups in
        absurd (omega (arith, inside, few, many, same))
