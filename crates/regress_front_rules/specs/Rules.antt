-- The rules by which a tree is rewritten. Only the joining of literals looks at the direction in which the tree is read, and
-- the sharing of what words begin with asks that it is read forward.
use Rattle.std.specs.Prelude.{◌≡◌, ℕ, zero, suc, ◌-◌, ◌<◌, ◌≤◌, Bool, true, false, List, [], ◌∷◌, ◌++◌, encode_utf8, Option, nat_le, if◌then◌else◌}
use Rattle.regress_meaning.specs.TableParts.{is_surrogate}
use Rattle.regress_meaning.specs.Meaning.{Direction, Forward, Backward}
use Rattle.regress_front_nodes.specs.Trees.{Tree, empty, char, bytes, char_set, cat_of, no_part, alt, capture, bracket, submatch, Submatch, loop, single_loop}
use Rattle.regress_front_nodes.specs.TreeMeaning.{submatch_direction, bracket_has}
use Rattle.regress_front_nodes.specs.Characters.{Takes}
use Rattle.regress_front_nodes.specs.Singles.{takes_one}
use Rattle.regress_front_nodes.specs.Sizes.{size}
use Rattle.regress_front_nodes.specs.WellFormed.{AreLawful}
use Rattle.regress_front_rules.specs.NormalForm.{is_lost_cat, is_unrollable, is_idle, has_no_group}
use Rattle.regress_front_rules.specs.Words.{is_of_words, words, AreFoundAlike}
use Rattle.regress_front_rules.specs.Weight.{bulk}

-- it is lawful, as a part of a tree of some number of groups
abbrev pub HasLaws : Tree → Type 0
HasLaws t = (n : ℕ) × AreLawful n t

-- Two literals as one. Parts stand in the order in which they are read, a literal in that of the text: so where a tree is
-- read backward, the bytes of the second stand before those of the first.
abbrev pub joined : Direction → List ℕ → List ℕ → List ℕ
joined Forward xs ys = xs ++ ys
joined Backward xs ys = ys ++ xs

-- so many copies of a part before other parts
abbrev pub copies : ℕ → Tree → List Tree → List Tree
copies zero a rest = rest
copies (suc n) a rest = a ∷ copies n a rest

-- A loop as copies of its body, and what is left of it, with the maximum less the copies. An unbounded maximum counts as
-- `usize::MAX`, and what is left has `usize::MAX` less the copies, so that the two agree on texts of every length.
abbrev pub unrolled : Tree → (first last least most : ℕ) → Bool → Tree
unrolled a first last least most greedy = cat_of (copies least a (loop a first last zero (most - least) greedy ∷ []))

-- it is a `Bracket`
abbrev pub is_bracket : Tree → Bool
is_bracket (bracket inverted intervals) = true
is_bracket _ = false

-- what is repeated at least so often and never takes a character, once, or nothing where it may be left out
abbrev pub once : Tree → ℕ → Tree
once a least = if nat_le 1 least then a else empty

-- One rule makes the second tree of the first, where it is read in this direction.
pub data RewritesAtRoot (dir : Direction) : Tree → Tree → Type 0 where
  -- a `Cat` among the parts of a `Cat` gives its parts in its place
  flattens : (ts us vs : List Tree) → RewritesAtRoot dir (cat_of (ts ++ cat_of us ∷ vs)) (cat_of (ts ++ (us ++ vs)))
  -- `Empty` among the parts of a `Cat` is left out
  drops_empty : (ts vs : List Tree) → RewritesAtRoot dir (cat_of (ts ++ empty ∷ vs)) (cat_of (ts ++ vs))
  -- a `Cat` of one part is that part
  is_one_part : {t : Tree} → RewritesAtRoot dir (cat_of (t ∷ [])) t
  -- a `Cat` of no part is `Empty`
  is_no_part : RewritesAtRoot dir no_part empty
  -- two literals side by side are one
  joins : (ts vs : List Tree) (xs ys : List ℕ) → RewritesAtRoot dir (cat_of (ts ++ bytes xs ∷ bytes ys ∷ vs)) (cat_of (ts ++ bytes (joined dir xs ys) ∷ vs))
  -- a character, but no surrogate, is a literal
  spells : {c : ℕ} → is_surrogate c ≡ false → RewritesAtRoot dir (char c) (bytes (encode_utf8 c))
  -- a `Bracket` is any simpler tree with its members: a set, any character, or a set of none
  lists : {inverted : Bool} {intervals : List (ℕ × ℕ)} {t : Tree} → is_bracket t ≡ false → Takes t (bracket_has inverted intervals) → RewritesAtRoot dir (bracket inverted intervals) t
  -- an `Alt` of two `Empty`s is `Empty`
  is_empty_choice : RewritesAtRoot dir (alt empty empty) empty
  -- a `Cat` without group and `Goal` fails where a part always does
  is_lost : (ts : List Tree) → is_lost_cat (cat_of ts) ≡ true → RewritesAtRoot dir (cat_of ts) (char_set [])
  -- a loop over a small body begins with copies of it
  unrolls : {a : Tree} {first last least most : ℕ} {greedy : Bool} → is_unrollable (loop a first last least most greedy) ≡ true
      → RewritesAtRoot dir (loop a first last least most greedy) (unrolled a first last least most greedy)
  -- a loop over what takes one character is a one-character loop
  loops_one : {a : Tree} {first last least most : ℕ} {greedy : Bool} → takes_one a ≡ true
      → RewritesAtRoot dir (loop a first last least most greedy) (single_loop a least most greedy)
  -- a loop over what never takes a character is that once, or nothing
  idles : {a : Tree} {first last least most : ℕ} {greedy : Bool} → is_idle a ≡ true → RewritesAtRoot dir (loop a first last least most greedy) (once a least)
  -- a loop that is never entered, and holds no group, is `Empty`
  skips : {a : Tree} {first last least most : ℕ} {greedy : Bool} → most ≡ 0 → has_no_group a ≡ true → RewritesAtRoot dir (loop a first last least most greedy) empty
  -- a choice between words is any lighter tree of these words that is no larger: words share what they begin with
  shares : {a b u : Tree} → dir ≡ Forward → is_of_words (alt a b) ≡ true → is_of_words u ≡ true → AreFoundAlike (words (alt a b)) (words u)
      → AreLawful 0 u → size u ≤ size (alt a b) → bulk u < bulk (alt a b) → RewritesAtRoot dir (alt a b) u

-- One rule makes the second tree of the first, there or somewhere below. The direction is that in which the first is read.
pub data Rewrites : Direction → Tree → Tree → Type 0 where
  -- the tree itself
  there : {dir : Direction} {t u : Tree} → RewritesAtRoot dir t u → Rewrites dir t u
  -- one of the parts of a `Cat`, with those before and behind
  in_part : {dir : Direction} {a b : Tree} (ts vs : List Tree) → Rewrites dir a b → Rewrites dir (cat_of (ts ++ a ∷ vs)) (cat_of (ts ++ b ∷ vs))
  -- the first arm of an `Alt`
  in_first : {dir : Direction} {a b c : Tree} → Rewrites dir a b → Rewrites dir (alt a c) (alt b c)
  -- the second arm
  in_second : {dir : Direction} {a b c : Tree} → Rewrites dir b c → Rewrites dir (alt a b) (alt a c)
  -- the contents of a capture group
  in_capture : {dir : Direction} {k : ℕ} {name : Option (List ℕ)} {a b : Tree} → Rewrites dir a b → Rewrites dir (capture k name a) (capture k name b)
  -- the contents of what is matched by itself, in the direction in which they are read
  in_submatch : {dir : Direction} {kind : Submatch} {first last : ℕ} {a b : Tree} → Rewrites (submatch_direction kind dir) a b
      → Rewrites dir (submatch kind first last a) (submatch kind first last b)
  -- what a loop repeats
  in_loop : {dir : Direction} {first last least most : ℕ} {greedy : Bool} {a b : Tree} → Rewrites dir a b
      → Rewrites dir (loop a first last least most greedy) (loop b first last least most greedy)
  -- what a one-character loop repeats
  in_single_loop : {dir : Direction} {least most : ℕ} {greedy : Bool} {a b : Tree} → Rewrites dir a b
      → Rewrites dir (single_loop a least most greedy) (single_loop b least most greedy)

-- Rules make the second tree of the first, one after another, or none does.
pub data Reaches (dir : Direction) : Tree → Tree → Type 0 where
  -- none
  stays : {t : Tree} → Reaches dir t t
  -- one, and then others
  and_then : {t u v : Tree} → Rewrites dir t u → Reaches dir u v → Reaches dir t v
