-- The chunks of a literal, one by one.
use Rattle.std.specs.Prelude.{min}
use Rattle.std.proofs.Common.{◌≡◌, ℕ, zero, suc, ◌<◌, ◌≤◌, ◌⊎◌, inl, inr, List, [], ◌∷◌, ◌++◌, length, map, take, drop, refl, sym, ap, ap₂, ◌∙◌, arith, length-drop, append_assoc}
use Rattle.std.proofs.lemmas.Bool.{cases_lt}
use Rattle.std.proofs.lemmas.List.{map-append, take_all, drop_all}
use Rattle.regress_engine_insn.specs.declared.insn.Insn.{Insn}
use Rattle.regress_engine_insn.specs.declared.insn.Insn.TheVariants as insn
use Rattle.regress_engine_insn.specs.Instructions.{Instruction, char, byte_seq}
use Rattle.regress_engine_insn.specs.InsnViews.{instruction}
use Rattle.regress_engine_insn.specs.Layout.{most_bytes, chunks}

-- a larger bound changes nothing
chunks-enough : (n m : ℕ) (bs : List ℕ) → length bs ≤ n → length bs ≤ m → chunks n bs ≡ chunks m bs
chunks-enough zero zero bs few enough = refl
chunks-enough zero (suc m) [] few enough = refl
chunks-enough zero (suc m) (b ∷ bs) few enough = absurd (omega arith)
chunks-enough (suc n) zero [] few enough = refl
chunks-enough (suc n) zero (b ∷ bs) few enough = absurd (omega arith)
chunks-enough (suc n) (suc m) [] few enough = refl
chunks-enough (suc n) (suc m) (b ∷ bs) few enough =
    let rest = length-drop most_bytes (b ∷ bs) in
    ap (λ (cs : List (List ℕ)). take most_bytes (b ∷ bs) ∷ cs)
    (chunks-enough n m (drop most_bytes (b ∷ bs)) (omega (arith, rest, few)) (omega (arith, rest, enough)))

-- the first chunk, and those of the rest
chunks-whole : (bs : List ℕ) → 0 < length bs → chunks (length bs) bs ≡ take most_bytes bs ∷ chunks (length (drop most_bytes bs)) (drop most_bytes bs)
chunks-whole [] some = absurd (omega arith)
chunks-whole (b ∷ bs) some =
    let rest = length-drop most_bytes (b ∷ bs) in
    ap (λ (cs : List (List ℕ)). take most_bytes (b ∷ bs) ∷ cs)
    (chunks-enough (length bs) (length (drop most_bytes (b ∷ bs))) (drop most_bytes (b ∷ bs)) (omega (arith, rest)) (omega arith))

pub chunks-first : (bs : List ℕ) (k : ℕ) → 0 < length bs → k ≡ min (length bs) most_bytes
    → chunks (length bs) bs ≡ take k bs ∷ chunks (length (drop k bs)) (drop k bs)
chunks-first bs k some least = chunks-whole bs some ∙ by_length (cases_lt (length bs) most_bytes)
  where
    by_length : (length bs < most_bytes) ⊎ (most_bytes ≤ length bs)
        → take most_bytes bs ∷ chunks (length (drop most_bytes bs)) (drop most_bytes bs) ≡ take k bs ∷ chunks (length (drop k bs)) (drop k bs)
    by_length (inl short) =
        let all : k ≡ length bs = omega (arith, least) in
        let front : take most_bytes bs ≡ take k bs = take_all most_bytes bs (omega arith) ∙ sym (take_all k bs (omega (arith, all))) in
        let rest : drop most_bytes bs ≡ drop k bs = drop_all most_bytes bs (omega arith) ∙ sym (drop_all k bs (omega (arith, all))) in
        ap₂ (λ (c r : List ℕ). c ∷ chunks (length r) r) front rest
    by_length (inr long) =
        let same : most_bytes ≡ k = omega (arith, least) in
        ap (λ (n : ℕ). take n bs ∷ chunks (length (drop n bs)) (drop n bs)) same

-- one more chunk is told
pub chunks-told : (insns : List Insn) (one : Insn) (bs : List ℕ) (k : ℕ) (all : List Instruction) → 0 < length bs → k ≡ min (length bs) most_bytes
    → instruction one ≡ byte_seq (take k bs) → map instruction insns ++ map byte_seq (chunks (length bs) bs) ≡ all
    → map instruction (insns ++ one ∷ []) ++ map byte_seq (chunks (length (drop k bs)) (drop k bs)) ≡ all
chunks-told insns one bs k all some least is told =
    let rest = map byte_seq (chunks (length (drop k bs)) (drop k bs)) in
    ap (λ (is : List Instruction). is ++ rest) (map-append instruction insns (one ∷ []))
    ∙ append_assoc (map instruction insns) (instruction one ∷ []) rest
    ∙ ap (λ (i : Instruction). map instruction insns ++ (i ∷ rest)) is
    ∙ ap (λ (cs : List (List ℕ)). map instruction insns ++ map byte_seq cs) (sym (chunks-first bs k some least))
    ∙ told

-- an instruction for each character
pub characters-told : (cs : List ℕ) → map instruction (map (λ c. insn.Char c) cs) ≡ map char cs
characters-told [] = refl
characters-told (c ∷ cs) = ap (λ (is : List Instruction). char c ∷ is) (characters-told cs)
