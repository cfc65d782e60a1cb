-- What replacing leaves as it is, and what a replacement text without `$` gives.
use Rattle.std.proofs.Common.{◌≡◌, ◌≢◌, ℕ, List, [], ◌∷◌, ◌++◌, take, drop, map, All, codes, slice_range, ne_eqb, refl, sym, ap, ap₂, ◌∙◌, append-nil, append_assoc}
use Rattle.std.proofs.lemmas.List.Elements.{All-head, All-tail}
use Rattle.std.proofs.lemmas.List.Folds.{drop_split}
use Rattle.regress_meaning.specs.Laws.{ItemsRise}
use Rattle.regress_meaning.specs.Matches.{Item}
use Rattle.regress_meaning.specs.Offsets.{Reading, offset, told}
use Rattle.regress_meaning.specs.Parts.{parts_from, joined, parts}
use Rattle.regress_front_bytes.proofs.TextLemmas.{offset-le}
use Rattle.regress_replacing.specs.Replacing.{number_after, given_behind, expansion, replaced_from, replaced}
use Rattle.regress.specs.Behind.{LieBehind}
use Rattle.regress.proofs.RisingLemmas.{behind-front}
use Rattle.regress.proofs.ReplacingLemmas.{replaced-more, replaced-end}

-- `$0` stands for the whole match
whole-expansion : (names : List (List ℕ)) (text : List ℕ) (i : Item) → expansion names (codes "$0") text i ≡ slice_range text i.start i.end
unfolding given_behind number_after
whole-expansion names text i = append-nil (slice_range text i.start i.end)

-- each item replaced by itself
each-itself : (names : List (List ℕ)) (text : List ℕ) (at : ℕ) (items : List Item) → LieBehind at items
    → replaced_from text at items (map (expansion names (codes "$0") text) items) ≡ drop at text
each-itself names text at [] order = replaced-end text at
each-itself names text at (i ∷ items) order =
    let new = map (expansion names (codes "$0") text) items in
    replaced-more text at i items (expansion names (codes "$0") text i) new
    ∙ rw (whole-expansion names text i, each-itself names text i.end items order.2, append_assoc, ← drop_split text i.start i.end order.1) (sym (drop_split text at i.start order.0))

-- items that lie one behind the other do so told in offsets
told-order : (r : Reading) (at : ℕ) (items : List Item) → LieBehind at items → LieBehind (offset r at) (map (told r) items)
told-order r at [] order = tt
told-order r at (i ∷ items) order = (offset-le r at i.start order.0, offset-le r i.start i.end order.1, told-order r i.end items order.2)

first-order : (at : ℕ) (items : List Item) → LieBehind at items → LieBehind at (take 1 items)
first-order at [] order = tt
first-order at (i ∷ items) order = (order.0, order.1, tt)

-- a text with all its items replaced by themselves, and with the first
module _ (names : List (List ℕ)) (text : List ℕ) (r : Reading) (items : List Item) (rises : ItemsRise items) where
  order : LieBehind 0 (map (told r) items)
  order = told-order r 0 items (behind-front items rises)

  pub all-back : replaced text (map (told r) items) (map (expansion names (codes "$0") text) (map (told r) items)) ≡ text
  all-back = each-itself names text 0 (map (told r) items) order

  pub first-back : replaced text (take 1 (map (told r) items)) (map (expansion names (codes "$0") text) (take 1 (map (told r) items))) ≡ text
  first-back = each-itself names text 0 (take 1 (map (told r) items)) (first-order 0 (map (told r) items) order)

-- ---- the parts between items

-- parts with new texts in the gaps are the text with these in the place of its items
joined-from : (text : List ℕ) (at : ℕ) (items : List Item) (new : Item → List ℕ)
    → joined (parts_from text at items) (map new items) ≡ replaced_from text at items (map new items)
unfolding parts_from replaced_from
joined-from text at [] new = append-nil (drop at text)
joined-from text at (i ∷ items) new = ap (λ (rest : List ℕ). slice_range text at i.start ++ new i ++ rest) (joined-from text i.end items new)

pub joined-parts : (text : List ℕ) (items : List Item) (new : Item → List ℕ) → joined (parts text items) (map new items) ≡ replaced text items (map new items)
joined-parts text items new = joined-from text 0 items new

-- `$0` gives what an item takes of the text
whole-expansions : (names : List (List ℕ)) (text : List ℕ) (items : List Item)
    → map (expansion names (codes "$0") text) items ≡ map (λ i. slice_range text i.start i.end) items
whole-expansions names text [] = refl
whole-expansions names text (i ∷ items) =
    ap₂ (λ (new : List ℕ) (news : List (List ℕ)). new ∷ news) (whole-expansion names text i) (whole-expansions names text items)

-- with what the items take of it, they are the text
pub parts-back : (text : List ℕ) (r : Reading) (items : List Item) → ItemsRise items
    → joined (parts text (map (told r) items)) (map (λ i. slice_range text i.start i.end) (map (told r) items)) ≡ text
parts-back text r items rises =
    let all = map (told r) items in
    joined-parts text all (λ i. slice_range text i.start i.end) ∙ ap (replaced text all) (sym (whole-expansions [] text all)) ∙ all-back [] text r items rises

-- a text without `$` stands for itself
module _ (by_number : ℕ → List ℕ) (by_name : List ℕ → List ℕ) where
  given-itself : (t : List ℕ) → All (λ b. b ≢ 0x24) t → given_behind by_number by_name 0 t ≡ t
  unfolding given_behind
  given-itself [] none = refl
  given-itself (c ∷ t) none =
      rw (ne_eqb c 0x24 (All-head (λ b. b ≢ 0x24) c t none), given-itself t (All-tail (λ b. b ≢ 0x24) c t none)) refl

pub plain-expansions : (names : List (List ℕ)) (replacement text : List ℕ) → All (λ b. b ≢ 0x24) replacement → (items : List Item)
    → map (expansion names replacement text) items ≡ map (λ _. replacement) items
plain-expansions names replacement text none [] = refl
plain-expansions names replacement text none (i ∷ items) =
    ap₂ (λ (new : List ℕ) (news : List (List ℕ)). new ∷ news) (given-itself _ _ replacement none) (plain-expansions names replacement text none items)
