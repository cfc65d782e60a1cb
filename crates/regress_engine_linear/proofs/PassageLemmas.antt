-- A test of the instructions that stand inside of contents is one of all instructions.
use Rattle.std.specs.Prelude.{map, nat_le}
use Rattle.std.proofs.Common.{◌≡◌, ℕ, zero, suc, ◌+◌, ◌<◌, ◌≤◌, ◌⊎◌, inl, inr, ◌&&◌, ◌||◌, Bool, true, false, List, [], ◌∷◌, drop, length, get_or, refl, sym, ap, ap₂, ◌∙◌, arith}
use Rattle.std.proofs.lemmas.Bool.{le-leb}
use Rattle.std.proofs.lemmas.Bool.Decides.{nat_tests}
use Rattle.regress_front_nodes.specs.Trees.{Submatch}
use Rattle.regress_engine_insn.specs.Instructions.{Instruction}
use Rattle.regress_engine_insn.specs.Instructions as code
use Rattle.regress_engine_insn.specs.InsnViews.{instruction}
use Rattle.regress_engine_insn.specs.declared.insn.Insn.{Insn}
use Rattle.regress_engine_insn.specs.declared.insn.Insn.TheVariants.{Goal}
use Rattle.regress_engine_memory.specs.Passing.{all_pass}
use Rattle.regress_engine_memory.proofs.TableLemmas.{tested, tested-end, tested-on}
use Rattle.regress_engine_linear.specs.Linear.{leads_through, stays_inside}
use Rattle.regress_engine_linear.specs.LinearTests.{is_asked, is_asked_inside}
use Rattle.regress_engine_linear.specs.declared.contents.Asked.{Asked}

module _ (asked : Asked) (at first last end : ℕ) where
  abbrev test : ℕ → Instruction → Bool
  test = is_asked_inside asked at first last end

  abbrev has : ℕ → Instruction → Bool
  has = is_asked asked at first last end

  -- what stands before passes
  before-passes : (b : ℕ) (i : Instruction) → b ≤ at → test b i ≡ true
  before-passes b i low = ap (λ (x : Bool). x || (nat_le end b || has b i)) (le-leb b at low)

  -- what stands behind passes
  behind-passes : (b : ℕ) (i : Instruction) → end ≤ b → test b i ≡ true
  behind-passes b i high = by_value (nat_le b at) (has b i) (le-leb end b high)
    where
      by_value : (x y : Bool) → nat_le end b ≡ true → (x || (nat_le end b || y)) ≡ true
      by_value true y e = refl
      by_value false y e = ap (λ (z : Bool). z || y) e

  -- what stands inside passes if it is as it is asked to be
  pub inside-is : (b : ℕ) (i : Instruction) → at < b → b < end → test b i ≡ has b i
  inside-is b i after ahead = let x : nat_le b at ≡ false = grind (arith, nat_tests) in let y : nat_le end b ≡ false = grind (arith, nat_tests) in
      ap₂ (λ (p q : Bool). p || (q || has b i)) x y

  all-behind : (b : ℕ) (is : List Instruction) → end ≤ b → all_pass test b is ≡ true
  all-behind b [] high = refl
  all-behind b (i ∷ is) high = ap₂ (λ (x y : Bool). x && y) (behind-passes b i high) (all-behind (suc b) is (omega (arith, high)))

  module _ (insns : List Insn) where
    -- so those before need not be tested
    pub tested-from : (b : ℕ) → b ≤ suc at → b ≤ length insns → tested test insns b ≡ tested test insns 0
    tested-from zero low within = refl
    tested-from (suc b) low within =
        let next : suc b ≡ b + 1 = omega arith in
        ap (tested test insns) next ∙ sym (tested-on test insns b Goal true (omega (arith, within)) (before-passes b (instruction (get_or insns b Goal)) (omega (arith, low))))
        ∙ tested-from b (omega (arith, low)) (omega (arith, within))

    -- nor those behind
    pub tested-behind : (b : ℕ) → (end ≤ b) ⊎ (length insns ≤ b) → tested test insns b ≡ true
    tested-behind b (inl high) = all-behind b (drop b (map instruction insns)) high
    tested-behind b (inr past) = tested-end test insns b past

-- what stands inside of contents ends inside, and its groups are inside
pub fits-inside : (singles : Bool) (kind : Submatch) (at low high continuation first last end : ℕ) → leads_through singles first last end at (code.submatch kind low high continuation) ≡ true
    → (continuation < end) × (first ≤ low) × (high ≤ last)
fits-inside singles kind at low high continuation first last end leads =
    grind (arith, nat_tests, leads)

-- so it does where contents may have loops
pub stays-fits : (kind : Submatch) (b low high continuation first last at end : ℕ) → stays_inside first last at end b (code.submatch kind low high continuation) ≡ true
    → (at < continuation) × (continuation < end) × (first ≤ low) × (high ≤ last)
stays-fits kind b low high continuation first last at end stays = grind (arith, nat_tests, stays)

-- What stands in contents without loops, and in others inside of these, from behind an address up to before another, leads through those.
pub through-of : (singles : Bool) (first last end low high at continuation b : ℕ) (i : Instruction) → leads_through singles first last end b i ≡ true
    → stays_inside low high at continuation b i ≡ true → leads_through singles low high continuation b i ≡ true
through-of singles first last end low high at continuation b code.goal leads stays = refl
through-of singles first last end low high at continuation b code.fail leads stays = refl
through-of singles first last end low high at continuation b (code.back k icase) leads stays = leads
through-of singles first last end low high at continuation b (code.enter_loop f) leads stays = leads
through-of singles first last end low high at continuation b (code.loop_again begin) leads stays = leads
through-of singles first last end low high at continuation b (code.single_loop least most greedy) leads stays = grind (arith, nat_tests, leads, stays)
through-of singles first last end low high at continuation b (code.jump a) leads stays = grind (arith, nat_tests, leads, stays)
through-of singles first last end low high at continuation b (code.alt a) leads stays = grind (arith, nat_tests, leads, stays)
through-of singles first last end low high at continuation b (code.begin_group k) leads stays = stays
through-of singles first last end low high at continuation b (code.end_group k) leads stays = stays
through-of singles first last end low high at continuation b (code.reset_group k) leads stays = stays
through-of singles first last end low high at continuation b (code.submatch kind low' high' continuation') leads stays = grind (arith, nat_tests, leads, stays)
through-of singles first last end low high at continuation b (code.char c) leads stays = stays
through-of singles first last end low high at continuation b (code.char_set cs) leads stays = stays
through-of singles first last end low high at continuation b (code.byte_set bs) leads stays = stays
through-of singles first last end low high at continuation b (code.byte_seq bs) leads stays = stays
through-of singles first last end low high at continuation b code.any leads stays = stays
through-of singles first last end low high at continuation b code.any_in_line leads stays = stays
through-of singles first last end low high at continuation b (code.bracket k) leads stays = stays
through-of singles first last end low high at continuation b (code.ascii_bracket cs) leads stays = stays
through-of singles first last end low high at continuation b (code.line_start multiline) leads stays = stays
through-of singles first last end low high at continuation b (code.line_end multiline) leads stays = stays
through-of singles first last end low high at continuation b (code.boundary inverted folded) leads stays = stays
