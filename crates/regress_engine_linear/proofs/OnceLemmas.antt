-- How far back the instructions from an address on may lead, and how long lookarounds with loops are, one by one.
use Rattle.std.specs.Prelude.{map, min, slice_get, nat_lt}
use Rattle.std.proofs.Common.{◌≡◌, ℕ, zero, suc, ◌+◌, ◌-◌, ◌<◌, ◌≤◌, inl, inr, ◌&&◌, Bool, true, false, List, [], ◌∷◌, Some, drop, length, get_or, sym, ap, ◌∙◌, subst, arith, length-drop}
use Rattle.std.proofs.Math.ListN.{set}
use Rattle.std.proofs.Math.Nat.{min-le_left, min-le_right}
use Rattle.std.proofs.Math.Seq.{drop-cons}
use Rattle.std.proofs.lemmas.Bool.{cases_eq, le-leb, lt-leb}
use Rattle.std.proofs.lemmas.List.{drop_all, get_or-drop, get_or-map, get_or-set_other, get_or-set_same, length-map}
use Rattle.std.proofs.lemmas.Option.{get_or_from_slice_get, slice_get-get_or, slice_get_within}
use Rattle.regress_engine_insn.specs.Instructions.{Instruction, Program, Stands}
use Rattle.regress_engine_insn.specs.Instructions as code
use Rattle.regress_engine_insn.specs.InsnViews.{instruction}
use Rattle.regress_engine_insn.specs.declared.insn.Insn.{Insn}
use Rattle.regress_engine_linear.specs.Linear.{is_text_start, lead_back, leads_back, loop_size, loop_sizes}
use Rattle.regress_engine_linear.specs.LinearTests.{AreOnce, are_short}

least-on : (is : List Instruction) (base k : ℕ) (i : Instruction) → slice_get is k ≡ Some i → lead_back base is ≤ leads_back (base + k) i
least-on [] base k i here = absurd (cc here)
least-on (j ∷ is) base zero i here =
    let same : j ≡ i = cc in
    let at : base + 0 ≡ base = omega arith in
    subst (λ a. lead_back base (j ∷ is) ≤ leads_back a i) (sym at)
    (subst (λ x. lead_back base (j ∷ is) ≤ leads_back base x) same (min-le_left (leads_back base j) (lead_back (suc base) is)))
least-on (j ∷ is) base (suc k) i here =
    let at : base + suc k ≡ suc base + k = omega arith in
    let low = min-le_right (leads_back base j) (lead_back (suc base) is) in
    let rest = least-on is (suc base) k i here in
    subst (λ a. lead_back base (j ∷ is) ≤ leads_back a i) (sym at) (omega (arith, low, rest))

-- no instruction from behind an address on leads further back than they do together
pub lead-back-le : (program : Program) (y b : ℕ) (i : Instruction) → Stands program b i → y < b → lead_back (suc y) (drop (suc y) program.instructions) ≤ leads_back b i
lead-back-le program y b i here after =
    let is = program.instructions in
    let k : ℕ = b - suc y in
    let from : suc y + k ≡ b = omega (arith, after) in
    let within = slice_get_within is b i here in
    let long = length-drop (suc y) is in
    let value : get_or (drop (suc y) is) k code.fail ≡ i =
    get_or-drop (suc y) is k code.fail ∙ ap (λ n. get_or is n code.fail) from ∙ get_or_from_slice_get is b i code.fail here in
    let there : slice_get (drop (suc y) is) k ≡ Some i = slice_get-get_or (drop (suc y) is) k code.fail (omega (arith, long, within, from)) ∙ ap Some value in
    subst (λ n. lead_back (suc y) (drop (suc y) is) ≤ leads_back n i) from (least-on (drop (suc y) is) (suc y) k i there)

module _ (insns : List Insn) where
  -- how far back those from an address on lead
  abbrev pub back-from : ℕ → ℕ
  back-from at = lead_back at (drop at (map instruction insns))

  -- as far as the first of them, or as those behind it
  pub back-on : (at : ℕ) (d : Insn) → at < length insns → back-from at ≡ min (leads_back at (instruction (get_or insns at d))) (back-from (suc at))
  back-on at d within =
      let long = length-map insns instruction in
      ap (lead_back at) (drop-cons (map instruction insns) at (instruction d) (omega (arith, long, within)))
      ∙ ap (λ (i : Instruction). min (leads_back at i) (back-from (suc at))) (get_or-map instruction insns at d (instruction d) within)

  -- behind the last there is none
  pub back-end : (at : ℕ) → length insns ≤ at → back-from at ≡ at
  back-end at past = let long = length-map insns instruction in ap (lead_back at) (drop_all at (map instruction insns) (omega (arith, long, past)))

  -- it is told of an address whether it is visited at most once, where a match begins at the start of the text alone or not
  abbrev pub IsToldOnce : (starts : Bool) → List Bool → (at : ℕ) → Type 0
  IsToldOnce starts once at = get_or once at false ≡ (starts && nat_lt at (back-from (suc at)))

  -- and of one before
  pub told-more : (starts : Bool) (once : List Bool) (at : ℕ) → at < length once → ((k : ℕ) → suc at ≤ k → k < length insns → IsToldOnce starts once k)
      → (k : ℕ) → at ≤ k → k < length insns → IsToldOnce starts (set once at (starts && nat_lt at (back-from (suc at)))) k
  told-more starts once at there told k low within = elim (cases_eq k at) [
    | inl e ↦ subst (λ n. IsToldOnce starts (set once at (starts && nat_lt at (back-from (suc at)))) n) (sym e)
        (get_or-set_same once at (starts && nat_lt at (back-from (suc at))) false there)
    | inr other ↦ get_or-set_other once at k (starts && nat_lt at (back-from (suc at))) false other ∙ told k (omega (arith, low, other)) within
  ]

  pub told-once : (program : Program) (once : List Bool) (starts : Bool) → program.instructions ≡ map instruction insns → starts ≡ is_text_start (slice_get (map instruction insns) 0)
      → length once ≡ length insns → ((k : ℕ) → k < length insns → IsToldOnce starts once k) → AreOnce once program
  told-once program once starts are begins count told =
      let long = length-map insns instruction in
      let same = ap length are in
      record {
        count = omega (arith, count, long, same);
        each = λ at within.
            told at (omega (arith, long, same, within))
            ∙ ap (λ b. b && nat_lt at (back-from (suc at))) begins
            ∙ ap (λ (is : List Instruction). is_text_start (slice_get is 0) && nat_lt at (lead_back (suc at) (drop (suc at) is))) (sym are);
      }

module _ (program : Program) (insns : List Insn) where
  -- how long those from an address on are together
  abbrev pub sizes-from : ℕ → ℕ
  sizes-from at = loop_sizes program at (drop at (map instruction insns))

  -- as long as the first of them, with those behind it
  pub sizes-on : (at : ℕ) (d : Insn) → at < length insns → sizes-from at ≡ loop_size program at (instruction (get_or insns at d)) + sizes-from (at + 1)
  sizes-on at d within =
      let long = length-map insns instruction in
      let next : suc at ≡ at + 1 = omega arith in
      ap (loop_sizes program at) (drop-cons (map instruction insns) at (instruction d) (omega (arith, long, within)))
      ∙ ap (λ (i : Instruction). loop_size program at i + sizes-from (suc at)) (get_or-map instruction insns at d (instruction d) within)
      ∙ ap (λ n. loop_size program at (instruction (get_or insns at d)) + sizes-from n) next

  -- behind the last none is left
  pub sizes-end : (at : ℕ) → length insns ≤ at → sizes-from at ≡ 0
  sizes-end at past = let long = length-map insns instruction in ap (loop_sizes program at) (drop_all at (map instruction insns) (omega (arith, long, past)))

  module _ (are : program.instructions ≡ map instruction insns) where
    sizes-all : loop_sizes program 0 program.instructions ≡ sizes-from 0
    sizes-all = ap (loop_sizes program 0) are

    -- they are no longer than the program
    pub short-is : sizes-from 0 ≤ length insns → true ≡ are_short program
    short-is few =
        let long = length-map insns instruction in
        let same = ap length are in
        let all = sizes-all in
        sym (le-leb (loop_sizes program 0 program.instructions) (length program.instructions) (omega (arith, few, long, same, all)))

    -- or longer
    pub short-not : length insns < sizes-from 0 → false ≡ are_short program
    short-not many =
        let long = length-map insns instruction in
        let same = ap length are in
        let all = sizes-all in
        sym (lt-leb (loop_sizes program 0 program.instructions) (length program.instructions) (omega (arith, many, long, same, all)))
