-- The sets of first bytes, while they are told.
use Rattle.std.specs.Prelude.{slice_get, slice_set, nat_lt}
use Rattle.std.proofs.lemmas.Bool.{cases_lt, ltb-true}
use Rattle.std.proofs.Common.{◌≡◌, ℕ, suc, ◌<◌, ◌≤◌, ◌||◌, ◌&&◌, ◌==◌, ◌≢◌, not, Bool, true, false, List, length, Option, Some, None, ◌⊎◌, inl, inr, refl, sym, ap, ◌∙◌, subst, arith}
use Rattle.regress_front_bytes.specs.Bitmaps.{byte_bitmap_contains}
use Rattle.regress_front_bytes.specs.declared.bitmaps.ByteBitmap.{ByteBitmap}
use Rattle.regress_front_nodes.specs.Trees.{atomic}
use Rattle.regress_engine_insn.specs.Instructions.{Instruction, Program}
use Rattle.regress_engine_insn.specs.Instructions as code
use Rattle.regress_meaning.specs.Meaning.{is_line_end}
use Rattle.regress_engine_analysis.specs.MayBegin.{begins, begins_at, behind, may_begin_with, may_lead}
use Rattle.regress_engine_analysis.proofs.ElementLemmas.{get-set_same, get-set_other}

-- the set that was put at an address, and the others
stand-same : (sets : List ByteBitmap) (at b : ℕ) (set : ByteBitmap) → at < length sets → may_begin_with (slice_set sets at set) at b ≡ byte_bitmap_contains set b
stand-same sets at b set there = ap (λ (x : Option ByteBitmap). elim x [ None ↦ true | Some y ↦ byte_bitmap_contains y b ]) (get-set_same sets at set there)

stand-other : (sets : List ByteBitmap) (at next b : ℕ) (set : ByteBitmap) → next ≢ at → may_begin_with (slice_set sets at set) next b ≡ may_begin_with sets next b
stand-other sets at next b set other = ap (λ (x : Option ByteBitmap). elim x [ None ↦ true | Some y ↦ byte_bitmap_contains y b ]) (get-set_other sets at next set other)

-- The first bytes of an address are told by those behind it alone.
module _ (program : Program) (f g : ℕ → ℕ → Bool) (at b : ℕ) (same : (next : ℕ) → at < next → f next b ≡ g next b) where
  behind-same : (next : ℕ) → behind f at next b ≡ behind g at next b
  behind-same next = by_test (nat_lt at next) refl
    where
      by_test : (t : Bool) → nat_lt at next ≡ t → behind f at next b ≡ behind g at next b
      by_test false e = rw e refl
      by_test true e = ap (λ t. not (nat_lt at next) || t) (same next (ltb-true at next e))

  pub begins-same : (i : Instruction) → begins program f i at b ≡ begins program g i at b
  begins-same (code.byte_seq bs) = refl
  begins-same (code.byte_set cs) = refl
  begins-same (code.bracket k) = refl
  begins-same (code.ascii_bracket cs) = refl
  begins-same (code.line_start multiline) = behind-same (suc at)
  begins-same (code.line_end multiline) = ap (λ t. multiline && may_lead is_line_end b && t) (behind-same (suc at))
  begins-same (code.boundary inverted folded) = behind-same (suc at)
  begins-same (code.submatch atomic first last continuation) = behind-same (suc at)
  begins-same (code.begin_group k) = behind-same (suc at)
  begins-same (code.end_group k) = behind-same (suc at)
  begins-same (code.reset_group k) = behind-same (suc at)
  begins-same (code.jump a) = behind-same a
  begins-same (code.alt a) = (λ i. behind-same (suc at) i || behind-same a i)
  begins-same (code.enter_loop fields) = (λ i. behind-same (suc at) i || (fields.least == 0 && behind-same fields.exit i))
  begins-same (code.single_loop least most greedy) = (λ i. behind-same (suc at) i || (least == 0 && behind-same (suc (suc at)) i))
  begins-same _ = refl

  begins-same-at : begins_at program f at b ≡ begins_at program g at b
  begins-same-at = by_insn (slice_get program.instructions at)
    where
      by_insn : (x : Option Instruction) → elim x as (λ _. Bool) [ None ↦ true | Some i ↦ begins program f i at b ] ≡ elim x as (λ _. Bool) [ None ↦ true | Some i ↦ begins program g i at b ]
      by_insn None = refl
      by_insn (Some i) = begins-same i

-- one set more is told
pub told-more : (program : Program) (sets : List ByteBitmap) (at : ℕ) (set : ByteBitmap) → at < length sets
    → ((next b : ℕ) → at < next → next < length sets → b < 256 → may_begin_with sets next b ≡ begins_at program (may_begin_with sets) next b)
    → ((b : ℕ) → b < 256 → byte_bitmap_contains set b ≡ begins_at program (may_begin_with sets) at b)
    → (next b : ℕ) → at ≤ next → next < length sets → b < 256 → may_begin_with (slice_set sets at set) next b ≡ begins_at program (may_begin_with (slice_set sets at set)) next b
told-more program sets at set there told here next b from inside small = by_order (cases_lt at next)
  where
    new : List ByteBitmap
    new = slice_set sets at set

    kept : (o : ℕ) → at ≤ o → begins_at program (may_begin_with sets) o b ≡ begins_at program (may_begin_with new) o b
    kept o near = begins-same-at program (may_begin_with sets) (may_begin_with new) o b (λ far less. sym (stand-other sets at far b set (λ e. omega (arith, less, near, e))))

    by_order : (at < next) ⊎ (next ≤ at) → may_begin_with new next b ≡ begins_at program (may_begin_with new) next b
    by_order (inl less) = stand-other sets at next b set (λ e. omega (arith, less, e)) ∙ told next b less inside small ∙ kept next from
    by_order (inr more) =
        let same : at ≡ next = omega (arith, from, more) in
        subst (λ o. may_begin_with new o b ≡ begins_at program (may_begin_with new) o b) same (stand-same sets at b set there ∙ here b small ∙ kept at (omega arith))
