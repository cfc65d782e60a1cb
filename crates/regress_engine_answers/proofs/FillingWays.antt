-- A table of answers is filled from one level to the next.
use Rattle.std.proofs.Common.{◌≡◌, ℕ, suc, ◌+◌, ◌-◌, ◌*◌, ◌<◌, ◌≤◌, true, false, length, get_or, Result, Ok, Err, OnOk, sym, ap, ◌∙◌, subst, arith}
use Rattle.std.proofs.lemmas.Option.{slice_get-get_or}
use Rattle.std.specs.Global.{Vec}
use Rattle.std.specs.Prelude.{slice_get}
use Rattle.regress_engine_input.specs.Views.{View, AreOfKind}
use Rattle.regress_engine_insn.specs.Instructions.{Instruction, Program, Stands}
use Rattle.regress_engine_insn.specs.Instructions as code
use Rattle.regress_engine_search.specs.Search.{Suits}
use Rattle.regress_engine_memory.specs.Flow.{Flow}
use Rattle.regress_engine_memory.specs.declared.bits.Bits.{Bits}
use Rattle.regress_engine_linear.specs.Answered.{IsAnswered, one_beyond}
use Rattle.regress_engine_answers.specs.AnswerTables.{exits_by, in_set, told_by}
use Rattle.regress_engine_answers.specs.Filled.{AreRight, IsFilledTo, way_of}
use Rattle.regress_engine_linear.specs.Linear.{IsLinear, too_long}
use Rattle.regress_engine_linear.specs.RankTables.{ArePlaced, Heights, address_at, ranking_of}
use Rattle.regress_engine_answers.specs.declared.answers.Answers.{Answers}
use Rattle.regress_engine_answers.specs.Filled.{AreExitsKnown}

-- what is so where a call succeeds, from two things that are
pub ok-two : {T E P Q R : Type 0} (r : Result T E) → (P → Q → R) → OnOk r P → OnOk r Q → OnOk r R
ok-two (Ok x) both p q = both p q
ok-two (Err e) both p q = tt

module _ (flow : Flow) (h : Heights) (v : View) (all : AreOfKind v.kind v.units) (program : Program) (suits : Suits program v) (linear : IsLinear flow h program)
    (short : suc (length v.units) < too_long) where
  abbrev last : ℕ
  last = length v.units

  -- where an address stands in the order an instruction stands
  pub order-stands : (k : ℕ) → k < length h.order → (i : Instruction) × Stands program (address_at h k) i
  order-stands k within =
      (get_or program.instructions (address_at h k) code.fail, slice_get-get_or program.instructions (address_at h k) code.fail (linear.placed.there k within))

  -- addresses are placed as they are ranked
  pub placed-ranks : ArePlaced h (length h.ranks)
  placed-ranks = subst (ArePlaced h) (sym linear.count) linear.placed

  module _ (a : Answers) where
    -- an empty table
    pub empty-filled : ((at q : ℕ) → told_by a at q ≡ false) → ((at q : ℕ) → exits_by a at q ≡ false) → IsFilledTo flow h program v a 0
    empty-filled none none-behind = record {
      right = λ at q within inside less. absurd (omega (arith, less));
      fresh = λ at q inside unpast. (none at q, none-behind at q);
      ends = λ at q within inside less. absurd (omega (arith, less));
      spots = λ at q is. let never : true ≡ false = sym is ∙ none at q in absurd (cc never);
    }

    -- at last all that it tells is so
    pub filled-right : (k : ℕ) → length h.order ≤ k → IsFilledTo flow h program v a k → AreRight flow h program v a
    filled-right k whole filled at q within inside =
        (filled.right at q within inside (let less = placed-ranks.index at within in omega (arith, whole, less))).0

    -- and so is what it tells of exits
    pub filled-exits : (k : ℕ) → length h.order ≤ k → IsFilledTo flow h program v a k → AreExitsKnown flow h program v a
    filled-exits k whole filled at o within inside =
        (filled.right at o within inside (let less = placed-ranks.index at within in omega (arith, whole, less))).1

    -- another table that tells the same
    module _ (b : Answers) (offsets : b.offsets ≡ a.offsets) (exits : b.exits ≡ a.exits) where
      pub right-again : AreRight flow h program v a → AreRight flow h program v b
      right-again right at q within inside =
          subst (λ (os : Vec Bits). IsAnswered flow (ranking_of h) program v (way_of flow h program v at) at q (in_set (slice_get os.items at) q)) (sym offsets) (right at q within inside)

      pub exits-again : AreExitsKnown flow h program v a → AreExitsKnown flow h program v b
      exits-again known at o within inside least most greedy body here there place =
          ap (λ (os : Vec Bits). in_set (slice_get os.items at) o) exits
          ∙ known at o within inside least most greedy body here there place
          ∙ ap (λ (os : Vec Bits). one_beyond (λ c q. in_set (slice_get os.items c) q) program v (way_of flow h program v at) at body o) (sym offsets)

spread : (n a d : ℕ) → n * (a + d) ≡ n * a + n * d
spread n a d = omega arith

-- as many up to an index, and from there on
pub parted : (n from to : ℕ) → from ≤ to → n * to ≡ n * from + n * (to - from)
parted n from to low = let whole : to ≡ from + (to - from) = omega (arith, low) in ap (λ x. n * x) whole ∙ spread n from (to - from)

-- once more as many
pub mul-more : (n m : ℕ) → (n + 1) * m ≡ n * m + m
mul-more n m = omega arith
