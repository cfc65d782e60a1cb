-- It is kept where runs end, at one address and offset.
use Rattle.std.proofs.Common.{◌≡◌, ℕ, suc, ◌+◌, ◌==◌, ◌&&◌, Bool, true, false, List, Option, None, if◌then◌else◌, refl, sym, ap, ◌∙◌, subst, arith}
use Rattle.std.proofs.lemmas.Bool.{eq-eqb, eqb-true}
use Rattle.regress_meaning.specs.Meaning.{Direction}
use Rattle.regress_engine_input.specs.Views.{View, input_of}
use Rattle.regress_engine_insn.specs.Instructions.{Instruction, Program, Stands}
use Rattle.regress_engine_insn.specs.Instructions as code
use Rattle.regress_engine_runs.specs.States.{Marks}
use Rattle.regress_engine_runs.proofs.RunViews.{one_stands}
use Rattle.regress_engine_linear.specs.Answered.{is_single}
use Rattle.regress_engine_ways.specs.Ways.{end_at}
use Rattle.regress_engine_answers.specs.AnswerTables.{ends_by, exit_ends_by, kept_in, told_by}
use Rattle.regress_engine_answers.specs.Ended.{IsEndKept, single_beyond, single_end}
use Rattle.regress_engine_answers.specs.declared.answers.Answers.{Answers}

-- one value is put at a pair, the others stay
module _ (at o : ℕ) (value : Option ℕ) (old : ℕ → ℕ → Option ℕ) where
  put-here : (if (at == at) && (o == o) then value else old at o) ≡ value
  put-here = ap (λ b. if b && (o == o) then value else old at o) (eq-eqb at at refl) ∙ ap (λ b. if b then value else old at o) (eq-eqb o o refl)

  put-elsewhere : (b q : ℕ) → (b ≡ at → q ≡ o → ⊥) → (if (b == at) && (q == o) then value else old b q) ≡ old b q
  put-elsewhere b q other = by_value (b == at) (q == o) refl refl
    where
      by_value : (x y : Bool) → (b == at) ≡ x → (q == o) ≡ y → (if x && y then value else old b q) ≡ old b q
      by_value true true e f = absurd (other (eqb-true b at e) (eqb-true q o f))
      by_value true false e f = refl
      by_value false y e f = refl

module _ (program : Program) (v : View) (dir : Direction) (groups : List Marks) (at o : ℕ) (old new : Answers) where
  -- by an instruction that is no one-character loop
  pub kept-plain : (i : Instruction) → Stands program at i → is_single i ≡ false → new.exit_ends ≡ old.exit_ends
      → ((b q : ℕ) → ends_by new b q ≡ (if (b == at) && (q == o) then (if told_by old at o then end_at (told_by old) (ends_by old) program (input_of v) dir groups i at o else None) else ends_by old b q))
      → IsEndKept program v dir groups at o old new
  kept-plain i here plain exits ends = record {
    ends = λ b q other. ends b q ∙ put-elsewhere at o value (ends_by old) b q other;
    exit_ends = λ b q other. ap (λ rows. kept_in rows b q) exits;
    plain = λ j there single.
        subst (λ k. ends_by new at o ≡ (if told_by old at o then end_at (told_by old) (ends_by old) program (input_of v) dir groups k at o else None)) (one_stands program (input_of v) at i j here there)
        (ends at o ∙ put-here at o value (ends_by old));
    single = λ least most greedy body there stands.
        let same = ap is_single (one_stands program (input_of v) at i (code.single_loop least most greedy) here there) in
        let never : true ≡ false = sym same ∙ plain in absurd (cc never);
  }
    where
      value : Option ℕ
      value = if told_by old at o then end_at (told_by old) (ends_by old) program (input_of v) dir groups i at o else None

  -- by a one-character loop
  pub kept-single : (least most : ℕ) (greedy : Bool) (body : Instruction) → Stands program at (code.single_loop least most greedy) → Stands program (at + 1) body
      → ((b q : ℕ) → exit_ends_by new b q ≡ (if (b == at) && (q == o) then single_beyond program v dir old at greedy body o else exit_ends_by old b q))
      → ((b q : ℕ) → ends_by new b q ≡ (if (b == at) && (q == o) then single_end program v dir old at least most greedy body o else ends_by old b q))
      → IsEndKept program v dir groups at o old new
  kept-single least most greedy body here stands exits ends = record {
    ends = λ b q other. ends b q ∙ put-elsewhere at o (single_end program v dir old at least most greedy body o) (ends_by old) b q other;
    exit_ends = λ b q other. exits b q ∙ put-elsewhere at o (single_beyond program v dir old at greedy body o) (exit_ends_by old) b q other;
    plain = λ i there plain.
        let same = ap is_single (one_stands program (input_of v) at (code.single_loop least most greedy) i here there) in
        let never : true ≡ false = same ∙ plain in absurd (cc never);
    single = λ least' most' greedy' body' there stands'.
        let e = one_stands program (input_of v) at (code.single_loop least most greedy) (code.single_loop least' most' greedy') here there in
        let next : at + 1 ≡ suc at = omega arith in
        let f : body ≡ body' = one_stands program (input_of v) (suc at) body body' (subst (λ b. Stands program b body) next stands) stands' in
        same least' most' greedy' body' e f;
  }
    where
      same : (least' most' : ℕ) (greedy' : Bool) (body' : Instruction) → code.single_loop least most greedy ≡ code.single_loop least' most' greedy' → body ≡ body'
          → (exit_ends_by new at o ≡ single_beyond program v dir old at greedy' body' o) × (ends_by new at o ≡ single_end program v dir old at least' most' greedy' body' o)
      same least' most' greedy' body' e f =
          let a : least ≡ least' = cc in
          let b : most ≡ most' = cc in
          let g : greedy ≡ greedy' = cc in (
            exits at o ∙ put-here at o (single_beyond program v dir old at greedy body o) (exit_ends_by old)
                ∙ ap (λ x. single_beyond program v dir old at x body o) g ∙ ap (λ j. single_beyond program v dir old at greedy' j o) f,
            ends at o ∙ put-here at o (single_end program v dir old at least most greedy body o) (ends_by old)
                ∙ ap (λ x. single_end program v dir old at x most greedy body o) a ∙ ap (λ x. single_end program v dir old at least' x greedy body o) b
                ∙ ap (λ x. single_end program v dir old at least' most' x body o) g ∙ ap (λ j. single_end program v dir old at least' most' greedy' j o) f,
          )
