-- Words that share what they begin with, and the trees that are made of them.
use Rattle.std.specs.Prelude.{◌≡◌, ◌≤◌, ◌<◌, ◌+◌, ◌-◌, ◌*◌, ℕ, Bool, true, false, ◌&&◌, ◌==◌, List, [], ◌∷◌, length, map, drop, max, count_by, slice_range, Vec, All}
use Rattle.std.specs.declared.alloc.Global.{Global}
use Rattle.regress_front_nodes.specs.Trees.{Tree, empty, bytes, alt}
use Rattle.regress_front_nodes.specs.Sizes.{size}
use Rattle.regress_front_nodes.specs.WellFormed.{AreLawful}
use Rattle.regress_front_rules.specs.Words.{is_of_words, words, AreFoundAlike}
use Rattle.regress_front_rules.specs.Weight.{bulk}

-- it is a choice between literals, one or more, where `Empty` counts as a literal of no character
abbrev pub is_choice_of_literals : Tree → Bool
is_choice_of_literals empty = true
is_choice_of_literals (bytes bs) = true
is_choice_of_literals (alt a b) = is_choice_of_literals a && is_choice_of_literals b
is_choice_of_literals _ = false

-- the characters of each word
abbrev pub spelled : List (Vec ℕ Global) → List (List ℕ)
spelled ws = map (λ w. w.items) ws

-- what stands in each word behind so many characters
abbrev pub behind : ℕ → List (List ℕ) → List (List ℕ)
behind from ws = map (drop from) ws

-- each word is at least so long
abbrev pub AreLong : ℕ → List (List ℕ) → Type 0
AreLong from ws = All (λ w. from ≤ length w) ws

-- each word has, from the first place up to before the second, these characters
abbrev pub AreSame : (from end : ℕ) → List ℕ → List (List ℕ) → Type 0
AreSame from end part ws = All (λ w. (end ≤ length w) × (slice_range w from end ≡ part)) ws

-- one node less than what is saved where words share so many characters; a word of no more than these leaves `Empty`
abbrev pub IsWorth : (from end : ℕ) → List (List ℕ) → Type 0
IsWorth from end ws = count_by (λ w. length w == end) ws + 1 ≤ (length ws - 1) * (end - from)

-- how many nodes a choice between the words has where none share anything, and one more
abbrev pub size_apart : List (List ℕ) → ℕ
size_apart [] = 0
size_apart (w ∷ ws) = max 1 (length w) + 1 + size_apart ws

-- the bulk of such a choice, and one more
abbrev pub bulk_apart : List (List ℕ) → ℕ
bulk_apart [] = 0
bulk_apart (w ∷ ws) = 4 * length w + 2 + bulk_apart ws

-- The tree is made of these words, or of words that are found alike. It is no larger than they are apart, and where some share what they begin
-- with it is lighter.
pub record IsMadeOf (ws : List (List ℕ)) (shared : Bool) (t : Tree) : Type 0 where
  pub of_words : is_of_words t ≡ true
  pub found : AreFoundAlike (words t) ws
  pub lawful : AreLawful 0 t
  pub small : size t + 1 ≤ size_apart ws
  pub light : bulk t + 1 ≤ bulk_apart ws
  pub lighter : shared ≡ true → bulk t + 1 < bulk_apart ws
