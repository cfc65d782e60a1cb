-- Trees of words: literals, sequences of them, and choices between these, as in `ca(?:se|tch)`.
use Rattle.std.specs.Prelude.{◌≡◌, ℕ, Bool, true, false, ◌&&◌, List, [], ◌∷◌, ◌++◌, map, filter, nat_eq, chars}
use Rattle.std.specs.List.{flat_map, starts_with}
use Rattle.regress_front_nodes.specs.Trees.{Tree, empty, bytes, cat, no_part, alt}
use Rattle.regress_front_nodes.specs.Forms.{is_cat}

-- The tree holds nothing but literals, sequences and choices.
abbrev pub is_of_words : Tree → Bool
is_of_words empty = true
is_of_words (bytes bs) = true
is_of_words (cat a b) = is_of_words a && is_of_words b && is_cat b
is_of_words no_part = true
is_of_words (alt a b) = is_of_words a && is_of_words b
is_of_words _ = false

-- The words of such a tree, the preferred first: read forward it matches these and no others.
abbrev pub words : Tree → List (List ℕ)
words empty = [] ∷ []
words (bytes bs) = chars bs ∷ []
words (cat a b) = flat_map (λ x. map (λ y. x ++ y) (words b)) (words a)
words no_part = [] ∷ []
words (alt a b) = words a ++ words b
words _ = []

-- Each text begins with the same words of both lists, in the same order.
abbrev pub AreFoundAlike : List (List ℕ) → List (List ℕ) → Type 0
AreFoundAlike xs ys = (text : List ℕ) → filter (starts_with nat_eq text) xs ≡ filter (starts_with nat_eq text) ys
