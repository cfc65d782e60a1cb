-- Where it goes on from several ways, and tables of that.
use Rattle.std.specs.Prelude.{get_or, cond, nat_lt, slice_get}
use Rattle.std.proofs.Common.{◌≡◌, ℕ, zero, suc, ◌+◌, ◌<◌, ◌≤◌, Bool, true, false, not, Option, None, Some, List, [], ◌∷◌, ◌++◌, length, refl, sym, ap, ◌∙◌, subst, arith}
use Rattle.std.proofs.lemmas.List.{get_or_append_left, get_or-append-add, length-append}
use Rattle.regress_front_bytes.specs.declared.bitmaps.ByteBitmap.{ByteBitmap}
use Rattle.regress_engine_insn.specs.Instructions.{Instruction, Program, Stands}
use Rattle.regress_engine_insn.specs.Instructions as code
use Rattle.regress_engine_analysis.specs.declared.facts.Known.{Known}
use Rattle.regress_engine_analysis.specs.declared.facts.Known.TheVariants.{Nothing, Possessive, Turn, Ways}
use Rattle.regress_engine_analysis.specs.declared.ways.Ways as table
use Rattle.regress_engine_analysis.specs.MayBegin.{may_begin_with}
use Rattle.regress_engine_analysis.specs.Planned.{IsSo}
use Rattle.regress_engine_analysis.specs.Ways.{AreWays, HasWays, goes_on, next_way, no_ways, one_of, second_at, second_way}

-- what may not be is not, and what is not lacked is
pub lacked : (t : Bool) → not t ≡ true → t ≡ false
lacked false e = refl
lacked true e = absurd (cc e)

pub held : (t : Bool) → not t ≡ false → t ≡ true
held true e = refl
held false e = absurd (cc e)

-- two ways stand where there is a second one
pub second-stands : (program : Program) (at second : ℕ) → second_at program at ≡ Some second → Stands program at (code.alt second)
second-stands program at second e = by_insn (slice_get program.instructions at) refl e
  where
    by_order : (b : Bool) (other : ℕ) → cond b (Some other) None ≡ Some second → code.alt other ≡ code.alt second
    by_order true other f = cc
    by_order false other f = absurd cc

    second-is : (i : Instruction) → second_way at i ≡ Some second → i ≡ code.alt second
    second-is (code.alt other) f = by_order (nat_lt at other) other f
    second-is _ f = absurd cc

    by_insn : (x : Option Instruction) → slice_get program.instructions at ≡ x → (elim x as (λ _. Option ℕ) [ None ↦ None | Some i ↦ second_way at i ]) ≡ Some second
        → slice_get program.instructions at ≡ Some (code.alt second)
    by_insn None is f = absurd cc
    by_insn (Some i) is f = is ∙ ap Some (second-is i f)

module _ (program : Program) (sets : List ByteBitmap) (byte : ℕ) where
  -- one of two ways, by those by which a match may begin
  abbrev by_second : ℕ → Option ℕ → Option ℕ
  by_second at x = elim x [ None ↦ None | Some second ↦ one_of (may_begin_with sets (at + 1) byte) (may_begin_with sets second byte) (at + 1) second ]

  -- no match begins by the first
  pub next-second : (at second : ℕ) → second_at program at ≡ Some second → may_begin_with sets (at + 1) byte ≡ false → next_way program sets byte at ≡ Some second
  unfolding next_way
  next-second at second e first = ap (by_second at) e ∙ ap (λ b. one_of b (may_begin_with sets second byte) (at + 1) second) first

  -- or none by the second
  pub next-first : (at second : ℕ) → second_at program at ≡ Some second → may_begin_with sets (at + 1) byte ≡ true → may_begin_with sets second byte ≡ false
      → next_way program sets byte at ≡ Some (at + 1)
  unfolding next_way
  next-first at second e first other =
      ap (by_second at) e ∙ ap (λ b. one_of b (may_begin_with sets second byte) (at + 1) second) first ∙ ap (λ b. one_of true b (at + 1) second) other

  -- or one may by each
  pub next-both : (at second : ℕ) → second_at program at ≡ Some second → may_begin_with sets (at + 1) byte ≡ true → may_begin_with sets second byte ≡ true
      → next_way program sets byte at ≡ None
  unfolding next_way
  next-both at second e first other =
      ap (by_second at) e ∙ ap (λ b. one_of b (may_begin_with sets second byte) (at + 1) second) first ∙ ap (λ b. one_of true b (at + 1) second) other

  -- or there are not two
  pub next-none : (at : ℕ) → second_at program at ≡ None → next_way program sets byte at ≡ None
  unfolding next_way
  next-none at e = ap (by_second at) e

  -- in so many steps, enough of them, it goes on from an address at another
  abbrev pub GoesOn : (at end : ℕ) → Type 0
  GoesOn at end = (k : ℕ) × (goes_on program sets byte k at ≡ end) × (length program.instructions ≤ k + at)

  -- one step is done
  pub goes-step : (at next end : ℕ) → at < length program.instructions → at < next → next_way program sets byte at ≡ Some next → GoesOn at end → GoesOn next end
  unfolding goes_on
  goes-step at next end inside less step (zero, is, all) = absurd (omega (arith, inside, all))
  goes-step at next end inside less step (suc k, is, all) =
      (k, sym (ap (λ (x : Option ℕ). elim x [ None ↦ at | Some to ↦ goes_on program sets byte k to ]) step) ∙ is, omega (arith, less, all))

  -- none is left
  pub goes-done : (at end : ℕ) → next_way program sets byte at ≡ None → GoesOn at end → at ≡ end
  unfolding goes_on
  goes-done at end none (zero, is, all) = is
  goes-done at end none (suc k, is, all) = sym (ap (λ (x : Option ℕ). elim x [ None ↦ at | Some to ↦ goes_on program sets byte k to ]) none) ∙ is

  -- What holds of an address holds of that at which it goes on, if each step keeps it.
  module _ (P : ℕ → Type 0)
      (on_second : (at second : ℕ) → Stands program at (code.alt second) → may_begin_with sets (at + 1) byte ≡ false → P at → P second)
      (on_first : (at second : ℕ) → Stands program at (code.alt second) → may_begin_with sets second byte ≡ false → P at → P (at + 1)) where
    -- by one of two ways
    one-keeps : (at second next : ℕ) (first other : Bool) → Stands program at (code.alt second) → may_begin_with sets (at + 1) byte ≡ first → may_begin_with sets second byte ≡ other
        → one_of first other (at + 1) second ≡ Some next → P at → P next
    one-keeps at second next false other here e f is so = let same : second ≡ next = cc in subst P same (on_second at second here e so)
    one-keeps at second next true false here e f is so = let same : at + 1 ≡ next = cc in subst P same (on_first at second here f so)
    one-keeps at second next true true here e f is so = absurd cc

    -- by one step
    next-keeps : (at next : ℕ) → next_way program sets byte at ≡ Some next → P at → P next
    unfolding next_way
    next-keeps at next is so = by_ways (second_at program at) refl is
      where
        by_ways : (x : Option ℕ) → second_at program at ≡ x → by_second at x ≡ Some next → P next
        by_ways None e f = absurd cc
        by_ways (Some second) e f = one-keeps at second next _ _ (second-stands program at second e) refl refl f so

    -- by so many
    pub goes-keeps : (k at : ℕ) → P at → P (goes_on program sets byte k at)
    unfolding goes_on
    goes-keeps zero at so = so
    goes-keeps (suc k) at so = by_next (next_way program sets byte at) refl (goes-keeps k)
      where
        by_next : (x : Option ℕ) → next_way program sets byte at ≡ x → ((to : ℕ) → P to → P (goes_on program sets byte k to))
            → P (elim x as (λ _. ℕ) [ None ↦ at | Some to ↦ goes_on program sets byte k to ])
        by_next None e more = so
        by_next (Some to) e more = more to (next-keeps at to e so)

module _ (program : Program) (sets : List ByteBitmap) (tables : List table.Ways) (t : table.Ways) where
  -- one table more changes none of the others
  has-more : (at k : ℕ) → HasWays program sets tables at k → HasWays program sets (tables ++ t ∷ []) at k
  has-more at k (inside, led) = (
    omega (arith, inside, length-append tables (t ∷ [])),
    subst (AreWays program sets at) (sym (get_or_append_left tables (t ∷ []) no_ways k inside)) led,
  )

  -- so what is known stays so
  pub so-more : (at : ℕ) (known : Known) → IsSo program sets tables at known → IsSo program sets (tables ++ t ∷ []) at known
  so-more at Nothing so = so
  so-more at Possessive so = so
  so-more at (Turn turn) so = so
  so-more at (Ways k) so = has-more at k so

  -- and the last is the one that was added
  pub has-last : (at : ℕ) → AreWays program sets at t → HasWays program sets (tables ++ t ∷ []) at (length tables)
  has-last at led = (
    omega (arith, length-append tables (t ∷ [])),
    subst (AreWays program sets at) (sym last) led,
  )
    where
      last : get_or (tables ++ t ∷ []) (length tables) no_ways ≡ t
      last = let end : length tables + 0 ≡ length tables = omega arith in subst (λ k. get_or (tables ++ t ∷ []) k no_ways ≡ t) end (get_or-append-add tables (t ∷ []) 0 no_ways)
