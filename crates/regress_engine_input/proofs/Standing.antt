-- A word stands in a text from an offset on, or up to it, as a test and as a splitting of the text.
use Rattle.std.specs.Prelude.{nat_le, slice_range}
use Rattle.std.proofs.Common.{◌≡◌, ℕ, ◌+◌, ◌-◌, ◌≤◌, Bool, true, false, ◌&&◌, List, ◌++◌, append_assoc, length, take, drop, min, Some, None, if◌then◌else◌, option_map, refl, sym, ap, ap₂, ◌∙◌, arith, length-append, length-take}
use Rattle.std.specs.Cmp.Lexicographic as texts
use Rattle.std.proofs.Math.Seq.{take-append_seam, drop-append_seam, take-add}
use Rattle.std.proofs.lemmas.List.{take-append-drop}
use Rattle.std.proofs.lemmas.Bool.{leb-true, and_parts}
use Rattle.regress_meaning.specs.Text.{same_text}
use Rattle.regress_front_nodes.proofs.NodeLemmas.{same_text-same}
use Rattle.regress_engine_input.proofs.Tests.{le-true}
use Rattle.regress_front_nodes.specs.ByteInputs.{placed}

module _ (text : List ℕ) (o : ℕ) (word : List ℕ) where
  -- it stands there, by a test
  abbrev pub stands_right : Bool
  stands_right = same_text word (slice_range text o (o + length word))

  abbrev pub stands_left : Bool
  stands_left = nat_le (length word) o && same_text word (slice_range text (o - length word) o)

  pub right-split : stands_right ≡ true → (rest : List ℕ) × (drop o text ≡ word ++ rest)
  right-split h =
      let size : o + length word - o ≡ length word = omega arith in
      let e : word ≡ take (length word) (drop o text) = texts.same_text word (slice_range text o (o + length word)) (sym h) ∙ ap (λ n. take n (drop o text)) size in
      (drop (length word) (drop o text), sym (take-append-drop (length word) (drop o text)) ∙ ap (λ w. w ++ drop (length word) (drop o text)) (sym e))

  pub split-right : (rest : List ℕ) → drop o text ≡ word ++ rest → stands_right ≡ true
  split-right rest e =
      let size : o + length word - o ≡ length word = omega arith in
      let f : slice_range text o (o + length word) ≡ word = ap₂ take size e ∙ take-append_seam word rest in
      ap (same_text word) f ∙ same_text-same word

  pub left-split : stands_left ≡ true → (front : List ℕ) × (take o text ≡ front ++ word)
  left-split h =
      let room : length word ≤ o = leb-true (length word) o (and_parts (nat_le (length word) o) (same_text word (slice_range text (o - length word) o)) h).0 in
      let size : o - (o - length word) ≡ length word = omega arith in
      let e : word ≡ take (length word) (drop (o - length word) text) =
      texts.same_text word (slice_range text (o - length word) o) (sym (and_parts (nat_le (length word) o) (same_text word (slice_range text (o - length word) o)) h).1)
      ∙ ap (λ n. take n (drop (o - length word) text)) size in
      let sum : o ≡ (o - length word) + length word = omega arith in
      (take (o - length word) text, ap (λ n. take n text) sum ∙ take-add (o - length word) (length word) text ∙ ap (λ w. take (o - length word) text ++ w) (sym e))

  pub split-left : o ≤ length text → (front : List ℕ) → take o text ≡ front ++ word → stands_left ≡ true
  split-left inside front e =
      let a = length-append front word in
      let b = ap length e in
      let c = length-take o text in
      let d : min o (length text) ≡ o = omega arith in
      let at : o - length word ≡ length front = omega (arith, a, b, c, d) in
      let size : o - (o - length word) ≡ length word = omega (arith, a, b, c, d) in
      let whole : text ≡ front ++ (word ++ drop o text) = sym (take-append-drop o text) ∙ ap (λ w. w ++ drop o text) e ∙ append_assoc front word (drop o text) in
      let behind : drop (o - length word) text ≡ word ++ drop o text = ap₂ drop at whole ∙ drop-append_seam front (word ++ drop o text) in
      let f : slice_range text (o - length word) o ≡ word = ap₂ take size behind ∙ take-append_seam word (drop o text) in
      ap₂ (λ a b. a && b) (le-true (length word) o (omega (arith, a, b, c, d))) (ap (same_text word) f ∙ same_text-same word)

-- a word found beside a place, where it is the word asked for
pub placed-if : (word found : List ℕ) (b : Bool) (q : ℕ) → placed word (if b then Some (found, q) else None) ≡ (if b && same_text word found then Some q else None)
placed-if word found true q = refl
placed-if word found false q = refl

-- two tests that say the same lead to the same place
pub same_place : (f : ℕ → ℕ) (a b : Bool) (o q : ℕ) → (a ≡ true → b ≡ true) → (b ≡ true → a ≡ true) → (b ≡ true → o ≡ f q)
    → (if a then Some o else None) ≡ option_map f (if b then Some q else None)
same_place f true true o q h g e = ap (λ x. Some x) (e refl)
same_place f true false o q h g e = let x = h refl in absurd (cc)
same_place f false true o q h g e = let x = g refl in absurd (cc)
same_place f false false o q h g e = refl
