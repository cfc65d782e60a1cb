-- What is written of a state.
use Rattle.std.specs.Prelude.{get_or, slice_set}
use Rattle.std.proofs.Common.{◌≡◌, ℕ, suc, ◌+◌, ◌<◌, ◌≤◌, List, length, ap, ◌∙◌, arith}
use Rattle.regress_engine_runs.specs.States.{Whole, Marks, unset, mixed}
use Rattle.regress_engine_runs.specs.Runs.{count_of, one_more}
use Rattle.regress_engine_runs.specs.UndoStack.{whole}
use Rattle.regress_engine_runs.proofs.MixedGroups.{mixed-more}

-- a state with these data
pub whole-is : {at a : ℕ} {offset o : ℕ} {loops ls : List (ℕ × ℕ)} {groups gs : List Marks} → at ≡ a → offset ≡ o → loops ≡ ls → groups ≡ gs → whole at offset loops groups ≡ whole a o ls gs
whole-is p q r s = λ i. whole (p i) (q i) (r i) (s i)

-- an address, told otherwise
pub at-is : (s : Whole) (a b : ℕ) → a ≡ b → record s { at = a } ≡ record s { at = b }
at-is s a b e = λ i. record s { at = e i }

pub next-is : (n : ℕ) → n + 1 ≡ suc n
next-is n = omega arith

-- one more iteration
pub iterated : (id begin count : ℕ) (s : Whole) → count ≡ count_of id s → record s { at = begin + 1; loops = slice_set s.loops id (count + 1, s.offset) } ≡ one_more id begin s
iterated id begin count s e =
    let more : count + 1 ≡ suc (count_of id s) = omega (arith, e) in
    let on : begin + 1 ≡ suc begin = omega arith in
    (λ i. record s { at = on i; loops = slice_set s.loops id (more i, s.offset) })

-- one more group is taken
pub carried : (s j t : Whole) (g first : ℕ) (others : List Marks) (m : Marks) → t ≡ record j { groups = slice_set j.groups g m } → j ≡ record s { groups = mixed 0 first g others s.groups }
    → m ≡ get_or others g unset → first ≤ g → length others ≡ length s.groups → g < length s.groups → t ≡ record s { groups = mixed 0 first (g + 1) others s.groups }
carried s j t g first others m is before same from count there =
    is ∙ ap (λ (w : Whole). record w { groups = slice_set w.groups g m }) before
    ∙ ap (λ (ms : List Marks). record s { groups = ms }) (ap (slice_set (mixed 0 first g others s.groups) g) same ∙ mixed-more 0 g g first others s.groups unset (omega arith) from count there)
