-- What a repetition may choose.
use Rattle.std.specs.Prelude.{nat_lt, nat_le}
use Rattle.std.proofs.Common.{◌≡◌, ℕ, [], ◌∷◌, Bool, true, false, refl}
use Rattle.regress_engine_insn.specs.Instructions.{LoopFields}
use Rattle.regress_engine_runs.specs.States.{Whole}
use Rattle.regress_engine_runs.specs.Runs.{count_of, one_more, ordered, choices}

-- the choices, by the tests
pub choices-are : (f : LoopFields) (begin : ℕ) (s : Whole) (g m o : Bool) → f.greedy ≡ g → nat_lt (count_of f.loop_id s) f.most ≡ m → nat_le f.least (count_of f.loop_id s) ≡ o
    → choices f begin s ≡ ordered g m o (one_more f.loop_id begin s) (record s { at = f.exit })
choices-are f begin s g m o greedy more out = (λ i. ordered (greedy i) (more i) (out i) (one_more f.loop_id begin s) (record s { at = f.exit }))

pub ordered-none : (g : Bool) (s t : Whole) → ordered g false false s t ≡ []
ordered-none true s t = refl
ordered-none false s t = refl

pub ordered-out : (g : Bool) (s t : Whole) → ordered g false true s t ≡ t ∷ []
ordered-out true s t = refl
ordered-out false s t = refl

pub ordered-more : (g : Bool) (s t : Whole) → ordered g true false s t ≡ s ∷ []
ordered-more true s t = refl
ordered-more false s t = refl
