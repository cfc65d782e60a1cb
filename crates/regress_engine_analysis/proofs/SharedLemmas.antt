-- Facts that addresses share, while they are told.
use Rattle.std.specs.Prelude.{slice_set, get_or, replicate}
use Rattle.std.proofs.Common.{◌≡◌, ◌≢◌, ℕ, zero, suc, ◌+◌, ◌<◌, ◌≤◌, ◌⊎◌, inl, inr, List, [], ◌∷◌, ◌++◌, length, true, All, Option, Some, None, refl, sym, ap, ap₂, ◌∙◌, subst, arith}
use Rattle.std.proofs.lemmas.Bool.{cases_lt}
use Rattle.std.proofs.lemmas.List.{map-set, get_or-map, get_or_append_left, get_or-append-add, length-map}
use Rattle.regress_front_bytes.specs.Bitmaps.{byte_bitmap_contains}
use Rattle.regress_front_bytes.specs.declared.bitmaps.ByteBitmap.{ByteBitmap}
use Rattle.regress_engine_insn.specs.Instructions.{Instruction, Program, Stands}
use Rattle.regress_engine_insn.specs.Instructions as code
use Rattle.regress_engine_analysis.specs.declared.facts.Facts.{Facts}
use Rattle.regress_engine_analysis.specs.declared.facts.Known.{Known}
use Rattle.regress_engine_analysis.specs.declared.facts.Known.TheVariants.{Nothing}
use Rattle.regress_engine_analysis.specs.MayBegin.{begins, begins_at, may_begin_with}
use Rattle.regress_engine_analysis.specs.Planned.{firsts, known_of}
use Rattle.regress_engine_analysis.specs.Shared.{no_facts, placed}
use Rattle.regress_engine_analysis.proofs.ElementLemmas.{get-set_same, get-set_other}
use Rattle.regress_engine_analysis.proofs.MayBeginLemmas.{told-more}
use Rattle.regress_engine_analysis.proofs.PlanLemmas.{first-read}

-- one fact more changes nothing of those that have places
placed-kept : (facts : List Facts) (f : Facts) (places : List ℕ) → All (λ k. k < length facts) places → placed (facts ++ f ∷ []) places ≡ placed facts places
placed-kept facts f [] within = refl
placed-kept facts f (k ∷ ks) within =
    ap₂ (λ (x : Facts) (xs : List Facts). x ∷ xs) (get_or_append_left facts (f ∷ []) no_facts k (within 0 0 (omega arith)))
    (placed-kept facts f ks (λ j d inside. within (suc j) d (omega (arith, inside))))

-- the same facts everywhere
pub placed-one : (f : Facts) (count : ℕ) → placed (f ∷ []) (replicate count 0) ≡ replicate count f
placed-one f zero = refl
placed-one f (suc count) = ap (λ (xs : List Facts). f ∷ xs) (placed-one f count)

-- an address has facts of its own
pub placed-put : (facts : List Facts) (f : Facts) (places : List ℕ) (at : ℕ) → All (λ k. k < length facts) places
    → placed (facts ++ f ∷ []) (slice_set places at (length facts)) ≡ slice_set (placed facts places) at f
placed-put facts f places at within =
    map-set (λ k. get_or (facts ++ f ∷ []) k no_facts) places at (length facts)
    ∙ ap₂ (λ (xs : List Facts) (x : Facts). slice_set xs at x) (placed-kept facts f places within) last
  where
    last : get_or (facts ++ f ∷ []) (length facts) no_facts ≡ f
    last = let end : length facts + 0 ≡ length facts = omega arith in subst (λ k. get_or (facts ++ f ∷ []) k no_facts ≡ f) end (get_or-append-add facts (f ∷ []) 0 no_facts)

-- or those of another
pub placed-share : (facts : List Facts) (places : List ℕ) (at other place : ℕ) → other < length places → place ≡ get_or places other place
    → placed facts (slice_set places at place) ≡ slice_set (placed facts places) at (get_or (placed facts places) other no_facts)
placed-share facts places at other place inside is =
    map-set (λ k. get_or facts k no_facts) places at place
    ∙ ap (slice_set (placed facts places) at) (ap (λ k. get_or facts k no_facts) is ∙ sym (get_or-map (λ k. get_or facts k no_facts) places other place no_facts inside))

-- what holds of what is known of each address, once it is known of one more
pub known-set : (P : ℕ → Known → Type 0) (facts : List Facts) (at : ℕ) (f : Facts) → at < length facts → P at f.known
    → ((k : ℕ) → P k (known_of facts k)) → (k : ℕ) → P k (known_of (slice_set facts at f) k)
known-set P facts at f inside here all k = by_order (cases_lt k at) (cases_lt at k)
  where
    by_facts : Option Facts → Known
    by_facts x = elim x [ None ↦ Nothing | Some g ↦ g.known ]

    other : k ≢ at → P k (known_of (slice_set facts at f) k)
    other apart = subst (P k) (ap by_facts (sym (get-set_other facts at k f apart))) (all k)

    by_order : (k < at) ⊎ (at ≤ k) → (at < k) ⊎ (k ≤ at) → P k (known_of (slice_set facts at f) k)
    by_order (inl less) _ = other (λ e. absurd (omega (arith, less, e)))
    by_order (inr from) (inl less) = other (λ e. absurd (omega (arith, less, e)))
    by_order (inr from) (inr to) =
        let same : at ≡ k = omega (arith, from, to) in
        subst (λ j. P j (known_of (slice_set facts at f) j)) same (subst (P at) (ap by_facts (sym (get-set_same facts at f inside))) here)

-- the first bytes of one address more are told
pub told-put : (program : Program) (facts : List Facts) (at : ℕ) (f : Facts) → at < length facts
    → ((next b : ℕ) → at < next → next < length facts → b < 256 → may_begin_with (firsts facts) next b ≡ begins_at program (may_begin_with (firsts facts)) next b)
    → ((b : ℕ) → b < 256 → byte_bitmap_contains f.first b ≡ begins_at program (may_begin_with (firsts facts)) at b)
    → (next b : ℕ) → at ≤ next → next < length facts → b < 256
    → may_begin_with (firsts (slice_set facts at f)) next b ≡ begins_at program (may_begin_with (firsts (slice_set facts at f))) next b
told-put program facts at f there told here next b from inside small =
    let size : length (firsts facts) ≡ length facts = length-map facts (λ g. g.first) in
    subst (λ (sets : List ByteBitmap). may_begin_with sets next b ≡ begins_at program (may_begin_with sets) next b) (sym (map-set (λ g. g.first) facts at f))
    (told-more program (firsts facts) at f.first (omega (arith, there, size))
    (λ far c less within. told far c less (omega (arith, within, size))) here next b from (omega (arith, inside, size)) small)

-- where the same character stands, matches begin with the same bytes
pub char-shares : (program : Program) (facts : List Facts) (at other b : ℕ) → ((c : ℕ) × Stands program at (code.char c) × Stands program other (code.char c))
    → other < length facts → may_begin_with (firsts facts) other b ≡ begins_at program (may_begin_with (firsts facts)) other b
    → byte_bitmap_contains (get_or facts other no_facts).first b ≡ begins_at program (may_begin_with (firsts facts)) at b
char-shares program facts at other b (c, here, there) inside told =
    sym (first-read facts other b no_facts inside) ∙ told
    ∙ ap (λ (x : Option Instruction). elim x [ None ↦ true | Some i ↦ begins program (may_begin_with (firsts facts)) i other b ]) there
    ∙ sym (ap (λ (x : Option Instruction). elim x [ None ↦ true | Some i ↦ begins program (may_begin_with (firsts facts)) i at b ]) here)
