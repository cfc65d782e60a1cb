-- What an executor learns where it goes back to a record of what was tried.
use Rattle.std.proofs.Common.{◌≡◌, ℕ, true, List, [], ◌∷◌, length, Option}
use Rattle.regress_engine_input.specs.Views.{View, AreOfKind, input_of, reading_of}
use Rattle.regress_engine_insn.specs.Instructions.{Program}
use Rattle.regress_engine_runs.specs.States.{Marks, Whole}
use Rattle.regress_engine_runs.specs.UndoStack.{Work, trying, whole, Comes, ReadOn, meets_tried}
use Rattle.regress_engine_runs.proofs.TriedLemmas.{nothing_left}
use Rattle.regress_engine_search.specs.Search.{Suits}
use Rattle.regress_engine_memory.specs.Flow.{IsFlow}
use Rattle.regress_engine_memory.specs.Keys.{Keyed, Key, AreFree, FailsWhere}
use Rattle.regress_engine_memory.proofs.Forgetting.{forgets}
use Rattle.regress_engine_memory.proofs.Steady.{steady}

module _ (v : View) (all : AreOfKind v.kind v.units) (program : Program) (suits : Suits program v) (keyed : Keyed) (closed : IsFlow keyed.flow program) where
  -- Nothing is left of a state that was tried, and its loops show that none with its key may do more in which some of them are fresh:
  -- from its key no run has an answer where they are, whatever is held.
  pub learns : (k : Key) (fresh : List ℕ) (loops : List (ℕ × ℕ)) (groups : List Marks) (work : Work) → keyed.flow.calm k.at ≡ true → length loops ≡ program.loops
      → AreFree keyed (length v.units) fresh k loops → (n : ℕ) (r : Option Whole) → Comes program (input_of v) k.dir [] (trying [] (whole k.at k.offset loops groups) work) n r
      → ReadOn program (input_of v) (reading_of v) k.dir [] (trying [] (whole k.at k.offset loops groups) work) → FailsWhere program (input_of v) keyed fresh k
  learns k fresh loops groups work calm count free n r comes reads =
      let t : Whole = whole k.at k.offset loops groups in
      forgets keyed program (input_of v) closed k calm (length v.units) fresh loops groups count free
      (steady v all program suits k.dir (t ∷ []) (λ u i met. reads u i (meets_tried met)))
      (nothing_left program (input_of v) t work n r comes)
