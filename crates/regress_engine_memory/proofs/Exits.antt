-- What is learned of all exits of a one-character loop, one after another, the last one first.
use Rattle.std.specs.Prelude.{reverse}
use Rattle.std.proofs.Common.{◌≡◌, ℕ, zero, suc, true, List, [], ◌∷◌, All, Option, Some, None, sym, ◌∙◌, subst}
use Rattle.std.proofs.lemmas.List.{reverse-append}
use Rattle.std.proofs.lemmas.List.Elements.{All-head, All-tail, All-nil, All-cons, All-append, All-weaker}
use Rattle.regress_meaning.specs.Inputs.{Input}
use Rattle.regress_engine_insn.specs.Instructions.{Instruction, Program}
use Rattle.regress_engine_runs.specs.States.{Marks}
use Rattle.regress_engine_runs.specs.Runs.{advance, one_by_one}
use Rattle.regress_engine_runs.specs.Meets.{referred}
use Rattle.regress_engine_memory.specs.Keys.{Keyed, Key, FailsAt, ExitsFail}
use Rattle.regress_engine_memory.proofs.Unreferring.{advance-any}

module _ (program : Program) (input : Input) (keyed : Keyed) (i : Instruction) (calm : referred i ≡ None) (k : Key) where
  abbrev There : ℕ → Type 0
  There o = FailsAt program input keyed (record k { offset = o })

  -- none further on
  pub exits-last : (groups : List Marks) → FailsAt program input keyed k → advance program input i k.dir groups k.offset ≡ None → ExitsFail program input keyed i k
  unfolding one_by_one
  exits-last groups here stops zero gs = All-cons There k.offset [] here (All-nil There)
  exits-last groups here stops (suc n) gs =
      subst (λ (x : Option ℕ). All There (k.offset ∷ elim x [ None ↦ [] | Some q ↦ one_by_one program input n i k.dir gs q ]))
      (sym (advance-any program input i k.dir gs groups k.offset calm ∙ stops))
      (All-cons There k.offset [] here (All-nil There))

  -- and some
  pub exits-on : (q : ℕ) (groups : List Marks) → FailsAt program input keyed k → advance program input i k.dir groups k.offset ≡ Some q → ExitsFail program input keyed i (record k { offset = q })
      → ExitsFail program input keyed i k
  unfolding one_by_one
  exits-on q groups here takes rest zero gs = All-cons There k.offset [] here (All-nil There)
  exits-on q groups here takes rest (suc n) gs =
      subst (λ (x : Option ℕ). All There (k.offset ∷ elim x [ None ↦ [] | Some q ↦ one_by_one program input n i k.dir gs q ]))
      (sym (advance-any program input i k.dir gs groups k.offset calm ∙ takes))
      (All-cons There k.offset (one_by_one program input n i k.dir gs q) here (rest n gs))

-- keys have the same failures where their classes of live loops are the same
module _ (program : Program) (input : Input) (keyed : Keyed) (k : Key) (classes : ℕ → ℕ) (same : (id : ℕ) → keyed.flow.live k.at id ≡ true → k.classes id ≡ classes id) where
  pub fails-same : (o : ℕ) → FailsAt program input keyed (record k { offset = o }) → FailsAt program input keyed (record k { offset = o; classes = classes })
  fails-same o fails loops groups count has = fails loops groups count (λ id l. has id l ∙ sym (same id l))

  pub exits-same : (i : Instruction) → ExitsFail program input keyed i k → ExitsFail program input keyed i (record k { classes = classes })
  exits-same i fails n groups =
      All-weaker (λ o. FailsAt program input keyed (record k { offset = o })) (λ o. FailsAt program input keyed (record k { offset = o; classes = classes })) fails-same
      (one_by_one program input n i k.dir groups k.offset) (fails n groups)

-- the other way round
pub All-turned : (P : ℕ → Type 0) (os : List ℕ) → All P os → All P (reverse os)
All-turned P [] h = All-nil P
All-turned P (o ∷ os) h =
    subst (All P) (sym (reverse-append (o ∷ []) os))
    (All-append P (reverse os) (o ∷ []) (All-turned P os (All-tail P o os h)) (All-cons P o [] (All-head P o os h) (All-nil P)))
