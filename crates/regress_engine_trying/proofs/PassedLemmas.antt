-- Places that a lazy loop passes over at once.
use Rattle.std.specs.Prelude.{slice_index, ◌==◌, nat_eq, if◌then◌else◌}
use Rattle.std.proofs.lemmas.Bool.{eqb-false, ne_eqb}
use Rattle.std.proofs.Common.{◌≡◌, ℕ, zero, suc, ◌+◌, ◌-◌, ◌<◌, ◌≤◌, Bool, true, false, [], ◌∷◌, List, Option, Some, None, sym, ap, ap₂, ◌∙◌, subst, arith}
use Rattle.regress_meaning.specs.Meaning.{Forward}
use Rattle.regress_meaning.specs.Steps.{passed}
use Rattle.regress_engine_input.specs.Views.{AreOfKind, direction_of, input_of}
use Rattle.regress_engine_insn.specs.Instructions.{Instruction, Program, Stands, byte_seq, char}
use Rattle.regress_engine_runs.specs.States.{Marks}
use Rattle.regress_engine_runs.specs.Runs.{advance}
use Rattle.regress_engine_search.specs.Ready.{IsBody}
use Rattle.regress_engine_search.specs.Search.{Suits}
use Rattle.regress_engine_search.proofs.ReadyLemmas.{body-next}
use Rattle.regress_engine_singles.specs.Failing.{IsDead, TakesNothing}
use Rattle.regress_engine_singles.specs.Passing.{IsAsciiAhead}
use Rattle.regress_engine_singles.proofs.ByteLemmas.{other-there}
use Rattle.regress_engine_undo.specs.Dead.{TakesFrom}
use Rattle.regress_engine_undo.proofs.DeadLemmas.{takes-same, takes-over, takes-then}
use Rattle.regress_engine_trying.specs.Trying.{World, IsPassed, advanced}

-- no place is passed
pub passed-none : (w : World) (i j : Instruction) (forward : Bool) (left o : ℕ) → IsPassed w i j forward left o o
passed-none w i j forward left o = record {
  low = omega arith;
  room = omega arith;
  taken = λ groups k from less. absurd (omega (arith, from, less));
  none = λ groups k from less. absurd (omega (arith, from, less));
}

-- or those at which a byte is taken that is not the first of some bytes
pub passed-other : (w : World) (i j : Instruction) (left o near b : ℕ) (rest : List ℕ) → i ≡ byte_seq (b ∷ rest) → o ≤ near → near - o ≤ left
    → ((program : Program) (groups : List Marks) (k : ℕ) → o ≤ k → k < near → Some (suc k) ≡ advance program (input_of w.view) j Forward groups k)
    → ((k : ℕ) → o ≤ k → k < near → (slice_index w.view.units k == b) ≡ false) → IsPassed w i j true left o near
passed-other w i j left o near b rest is low room each other = record {
  low = low;
  room = room;
  taken = λ groups k from less. each w.program groups k from less;
  none = λ groups k from less. subst (λ x. None ≡ advance w.program (input_of w.view) x Forward groups k) (sym is) (other-there w.view b rest k (other k from less));
}

-- or such at which another character of ASCII stands than the one that is taken
pub passed-char : (w : World) (i j : Instruction) (left o near b : ℕ) → i ≡ char b → o ≤ near → near - o ≤ left
    → ((program : Program) (groups : List Marks) (k : ℕ) → o ≤ k → k < near → Some (suc k) ≡ advance program (input_of w.view) j Forward groups k)
    → ((k : ℕ) → o ≤ k → k < near → IsAsciiAhead w.view k) → ((k : ℕ) → o ≤ k → k < near → (slice_index w.view.units k == b) ≡ false) → IsPassed w i j true left o near
passed-char w i j left o near b is low room each low_ahead other = record {
  low = low;
  room = room;
  taken = λ groups k from less. each w.program groups k from less;
  none = λ groups k from less. subst (λ x. None ≡ advance w.program (input_of w.view) x Forward groups k) (sym is) (not-taken k (low_ahead k from less) (other k from less));
}
  where
    not-taken : (k : ℕ) → IsAsciiAhead w.view k → (slice_index w.view.units k == b) ≡ false → None ≡ passed (nat_eq b) ((input_of w.view).next Forward k)
    not-taken k ahead differs = sym (ap (passed (nat_eq b)) ahead.next ∙ ap (λ t. if t then Some (suc k) else None) (ne_eqb b (slice_index w.view.units k) (λ e. eqb-false (slice_index w.view.units k) b differs (sym e))))

module _ (w : World) (at : ℕ) (i j : Instruction) (forward : Bool) (here : Stands w.program (at - 1) j)
    (dead : (o : ℕ) → TakesNothing w.program (input_of w.view) (direction_of forward) i o → IsDead w.program (input_of w.view) (direction_of forward) at o) where
  -- each place leads to the next
  takes-each : (n left o : ℕ) → n ≤ left → ((groups : List Marks) (k : ℕ) → o ≤ k → k < o + n → Some (suc k) ≡ advanced w j forward groups k)
      → ((groups : List Marks) (k : ℕ) → o ≤ k → k < o + n → None ≡ advanced w i forward groups k) → TakesFrom w.program (input_of w.view) forward at o left (Some (o + n, left - n))
  takes-each zero left o room taken none =
      let end : o ≡ o + zero = omega arith in
      let few : left ≡ left - zero = omega arith in
      subst (λ x. TakesFrom w.program (input_of w.view) forward at o left (Some x)) (ap₂ (λ (a b : ℕ). (a, b)) end few) (takes-same w.program (input_of w.view) forward at o left)
  takes-each (suc n) left o room taken none =
      let end : suc o + n ≡ o + suc n = omega arith in
      let few : left - 1 - n ≡ left - suc n = omega arith in
      takes-then w.program (input_of w.view) forward at o left (suc o) (left - 1) (Some (o + suc n, left - suc n))
      (takes-over w.program (input_of w.view) forward at o left (suc o) j here (dead o (λ groups. none groups o (omega arith) (omega arith))) (λ e. absurd (omega (arith, room, e)))
      (λ groups. sym (taken groups o (omega arith) (omega arith))))
      (subst (λ x. TakesFrom w.program (input_of w.view) forward at (suc o) (left - 1) (Some x)) (ap₂ (λ (a b : ℕ). (a, b)) end few)
      (takes-each n (left - 1) (suc o) (omega (arith, room)) (λ groups k from less. taken groups k (omega (arith, from)) (omega (arith, less))) (λ groups k from less. none groups k (omega (arith, from)) (omega (arith, less)))))

  -- so all lead to the last
  pub passed-takes : (left o near : ℕ) → IsPassed w i j forward left o near → TakesFrom w.program (input_of w.view) forward at o left (Some (near, left - (near - o)))
  passed-takes left o near passed =
      let low = passed.low in
      let end : o + (near - o) ≡ near = omega (arith, low) in
      subst (λ q. TakesFrom w.program (input_of w.view) forward at o left (Some (q, left - (near - o)))) end
      (takes-each (near - o) left o passed.room (λ groups k from less. passed.taken groups k from (omega (arith, less, end))) (λ groups k from less. passed.none groups k from (omega (arith, less, end))))

  module _ (all : AreOfKind w.view.kind w.view.units) (suits : Suits w.program w.view) where
    -- and the body may be asked there
    body-each : (n o : ℕ) → ((groups : List Marks) (k : ℕ) → o ≤ k → k < o + n → Some (suc k) ≡ advanced w j forward groups k) → IsBody w.program w.view at o → IsBody w.program w.view at (o + n)
    body-each zero o taken body = let same : o ≡ o + zero = omega arith in subst (IsBody w.program w.view at) same body
    body-each (suc n) o taken body =
        let end : suc o + n ≡ o + suc n = omega arith in
        subst (IsBody w.program w.view at) end
        (body-each n (suc o) (λ groups k from less. taken groups k (omega (arith, from)) (omega (arith, less)))
        (body-next w.view all w.program suits at o (suc o) j (direction_of forward) [] body here (sym (taken [] o (omega arith) (omega arith)))))

    pub passed-body : (left o near : ℕ) → IsPassed w i j forward left o near → IsBody w.program w.view at o → IsBody w.program w.view at near
    passed-body left o near passed body =
        let low = passed.low in
        let end : o + (near - o) ≡ near = omega (arith, low) in
        subst (IsBody w.program w.view at) end (body-each (near - o) o (λ groups k from less. passed.taken groups k from (omega (arith, less, end))) body)
