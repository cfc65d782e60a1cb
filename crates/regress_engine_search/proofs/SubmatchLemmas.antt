-- How what is run by itself goes on, by its kind.
use Rattle.std.proofs.Common.{◌≡◌, ℕ, Bool, true, false, [], ◌∷◌, Some, None, if◌then◌else◌, refl, arith}
use Rattle.regress_front_nodes.specs.TreeMeaning.{submatch_direction}
use Rattle.regress_front_nodes.specs.Trees.{Submatch, lookaround, atomic}
use Rattle.regress_engine_input.specs.Views.{direction_of}
use Rattle.regress_engine_runs.specs.States.{Whole, mixed}
use Rattle.regress_engine_runs.specs.Runs.{after_submatch}
use Rattle.regress_engine_search.proofs.InsnLemmas.{direction_of-direction}
use Rattle.regress_engine_search.specs.Submatches.{is_negated, end_offset, reads_forward}

-- its contents are read in this direction
pub direction_of-submatch : (kind : Submatch) (forward : Bool) → submatch_direction kind (direction_of forward) ≡ direction_of (reads_forward kind forward)
direction_of-submatch (lookaround negated backward) forward = direction_of-direction backward
direction_of-submatch atomic forward = refl

-- where its contents have no answer
pub after-none : (kind : Submatch) (first last continuation : ℕ) (s : Whole)
    → after_submatch kind first last continuation s None ≡ (if is_negated kind then record s { at = continuation } ∷ [] else [])
after-none (lookaround true backward) first last continuation s = refl
after-none (lookaround false backward) first last continuation s = refl
after-none atomic first last continuation s = refl

-- where they have one, and it is negated
pub after-negated : (kind : Submatch) (first last continuation : ℕ) (s t : Whole) → is_negated kind ≡ true → after_submatch kind first last continuation s (Some t) ≡ []
after-negated (lookaround true backward) first last continuation s t e = refl
after-negated (lookaround false backward) first last continuation s t e = absurd (grind arith)
after-negated atomic first last continuation s t e = absurd (grind arith)

-- and where it is not
pub after-some : (kind : Submatch) (first last continuation : ℕ) (s t : Whole) → is_negated kind ≡ false
    → after_submatch kind first last continuation s (Some t) ≡ record s { at = continuation; offset = end_offset kind s.offset t.offset; groups = mixed 0 first last t.groups s.groups } ∷ []
after-some (lookaround true backward) first last continuation s t e = absurd (grind arith)
after-some (lookaround false backward) first last continuation s t e = refl
after-some atomic first last continuation s t e = refl
