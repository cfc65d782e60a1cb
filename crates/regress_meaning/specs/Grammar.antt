-- Which tree a text of code points spells ("Patterns", and Annex B's "Regular Expressions Patterns"). Each relation is between
-- a text, the tree at its front and the text behind it; where groups are opened, also how many were opened before the
-- tree and after it. What follows is asked about only where the cases would else overlap.
use Rattle.std.specs.Prelude.{◌≡◌, ℕ, suc, ◌≤◌, Bool, true, false, not, ◌||◌, ◌&&◌, ◌==◌, List, [], ◌∷◌, ◌++◌, None, Some, length, drop, is_some, if◌then◌else◌, nat_eq}
use Rattle.std.specs.List.{list_any, starts_with}
use lib.Chars.{codes}
use Rattle.regress_meaning.specs.Text.{holds, ◌∈◌, is_at, span}
use Rattle.regress_meaning.specs.Table.{Table}
use Rattle.regress_meaning.specs.Class.{Class, no_string, range, strings, union, intersection, difference, nested, may_hold_strings, among}
use Rattle.regress_meaning.specs.Pattern.{Pattern, names_of, nothing, character, any, class, class_escape, sequence, choice, capture, grouped, atomic, modified, repeated, look, reference, line_start, line_end, word_boundary}
use Rattle.regress_meaning.specs.Flags.{Options, is_unicode, settings_of}
use Rattle.regress_meaning.specs.Tokens.{Mode, Bounds, bounds_at, name_at, Escape, point, set, groups, escape_at, class_escape_at}

-- an alternative ends here
abbrev pub ends_alternative : List ℕ → Bool
ends_alternative [] = true
ends_alternative (c ∷ t) = c ∈ "|)"

-- a disjunction ends here: the text does, or its parenthesis
abbrev pub ends_disjunction : List ℕ → Bool
ends_disjunction [] = true
ends_disjunction (c ∷ t) = c == 0x29

-- no `?` stands here, which would make the quantifier before it lazy ("Quantifier")
abbrev pub greedy_at : List ℕ → Bool
greedy_at t = not (is_at (λ c. c == 0x3F) t)

-- what follows that mark
abbrev pub after_mark : List ℕ → List ℕ
after_mark t = if greedy_at t then t else drop 1 t

-- the tree of an escape outside a class
abbrev pub tree_of : Escape → Pattern
tree_of (point c) = character c
tree_of (set s) = class_escape s
tree_of (groups ks) = reference ks

-- a class of one code point
abbrev pub class_of : ℕ → Class
class_of c = range c c

-- the letters that modifiers may switch
abbrev pub is_flag : ℕ → Bool
is_flag c = c ∈ "ims"

-- no letter stands twice
abbrev pub all_differ : List ℕ → Bool
all_differ [] = true
all_differ (c ∷ cs) = not (holds cs c) && all_differ cs

-- two marks side by side that a `v` class keeps for later ("ClassSetReservedDoublePunctuator")
abbrev pub reserved_pair : List ℕ → Bool
reserved_pair [] = false
reserved_pair (c ∷ t) = c ∈ "&!#$%*+,.:;<=>?@^`~" && is_at (λ d. d == c) t

-- the class of a member
abbrev pub member_class : Escape → Class
member_class (point c) = class_of c
member_class (set s) = s
member_class (groups ks) = no_string

-- a dash and behind it one more member
abbrev pub dash_before_member : List ℕ → Bool
dash_before_member [] = false
dash_before_member (c ∷ t) = c == 0x2D && not (is_at (λ d. d == 0x5D) t)

-- the member is a code point
abbrev pub is_point : Escape → Bool
is_point (point c) = true
is_point _ = false

module _ (m : Mode) where
  -- c may stand for itself; without Unicode mode so may `]`, `}` and a `{` that begins no quantifier ("PatternCharacter",
  -- "ExtendedPatternCharacter")
  abbrev pub is_pattern_character : ℕ → List ℕ → Bool
  is_pattern_character c t = if m.unicode then not (c ∈ "^$\\.*+?()[]{}|") else (not (c ∈ "^$\\.*+?()[|{") || (c == 0x7B && not (is_some (bounds_at (c ∷ t)))))

  -- A member of a class without `v`: a code point or a set ("ClassAtom").
  pub data Member : List ℕ → Escape → List ℕ → Type 0 where
    as_itself : {c : ℕ} {r : List ℕ} → (c ∈ "\\]") ≡ false → Member (c ∷ r) (point c) r
    escaped : {e : Escape} {t r : List ℕ} → class_escape_at m t ≡ Some (e, r) → Member (0x5C ∷ t) e r

  -- The members up to the closing bracket ("NonemptyClassRanges"). Without Unicode mode a dash beside a set is itself.
  pub data Members : List ℕ → Class → List ℕ → Type 0 where
    no_member : {r : List ℕ} → Members (0x5D ∷ r) no_string r
    single : {t u r : List ℕ} {e : Escape} {s : Class} → Member t e u → dash_before_member u ≡ false → Members u s r → Members t (union (member_class e) s) r
    from_to : {t u v r : List ℕ} {a b : ℕ} {s : Class} → Member t (point a) (0x2D ∷ u) → dash_before_member (0x2D ∷ u) ≡ true → Member u (point b) v → a ≤ b → Members v s r → Members t (union (range a b) s) r
    loose : {t u v r : List ℕ} {d e : Escape} {s : Class} → m.unicode ≡ false → Member t d (0x2D ∷ u) → dash_before_member (0x2D ∷ u) ≡ true → Member u e v → (is_point d && is_point e) ≡ false → Members v s r → Members t (union (member_class d) (union (class_of 0x2D) (union (member_class e) s))) r

  -- One code point in a `v` class ("ClassSetCharacter").
  pub data SetCharacter : List ℕ → ℕ → List ℕ → Type 0 where
    bare : {c : ℕ} {r : List ℕ} → (c ∈ "()[]{}/-\\|") ≡ false → reserved_pair (c ∷ r) ≡ false → SetCharacter (c ∷ r) c r
    backspace : {r : List ℕ} → SetCharacter (0x5C ∷ 0x62 ∷ r) 8 r
    punctuator : {c : ℕ} {r : List ℕ} → (c ∈ "&-!#%,:;<=>@`~") ≡ true → SetCharacter (0x5C ∷ c ∷ r) c r
    of_escape : {c : ℕ} {t r : List ℕ} → escape_at m t ≡ Some (point c, r) → SetCharacter (0x5C ∷ t) c r

  -- A string of `\q{..}`, up to `|` or `}` ("ClassString").
  pub data SetString : List ℕ → List ℕ → List ℕ → Type 0 where
    no_more : {t : List ℕ} → (is_at (λ c. c ∈ "|}") t) ≡ true → SetString t [] t
    and_then : {t u r cs : List ℕ} {c : ℕ} → SetCharacter t c u → SetString u cs r → SetString t (c ∷ cs) r

  -- The strings of `\q{..}` ("ClassStringDisjunction").
  pub data SetStrings : List ℕ → List (List ℕ) → List ℕ → Type 0 where
    last_string : {t r cs : List ℕ} → SetString t cs (0x7D ∷ r) → SetStrings t (cs ∷ []) r
    more_strings : {t u r cs : List ℕ} {ss : List (List ℕ)} → SetString t cs (0x7C ∷ u) → SetStrings u ss r → SetStrings t (cs ∷ ss) r

  mutual
    -- "ClassSetOperand"
    pub data Operand : List ℕ → Class → List ℕ → Type 0 where
      one_character : {t r : List ℕ} {c : ℕ} → SetCharacter t c r → Operand t (class_of c) r
      of_class : {t r : List ℕ} {s : Class} → escape_at m t ≡ Some (set s, r) → Operand (0x5C ∷ t) s r
      of_strings : {t r : List ℕ} {ss : List (List ℕ)} → SetStrings t ss r → Operand (0x5C ∷ 0x71 ∷ 0x7B ∷ t) (strings ss) r
      inner : {t r : List ℕ} {s : Class} → is_at (λ c. c == 0x5E) t ≡ false → Contents t s (0x5D ∷ r) → Operand (0x5B ∷ t) (nested false s) r
      inner_negated : {t r : List ℕ} {s : Class} → Contents t s (0x5D ∷ r) → may_hold_strings s ≡ false → Operand (0x5B ∷ 0x5E ∷ t) (nested true s) r

    -- up to the closing bracket, which is left ("ClassContents" with `v`)
    pub data Contents : List ℕ → Class → List ℕ → Type 0 where
      of_union : {t r : List ℕ} {s : Class} → Union t s r → Contents t s r
      of_intersection : {t u r : List ℕ} {a s : Class} → Operand t a u → Intersection a u s r → Contents t s r
      of_difference : {t u r : List ℕ} {a s : Class} → Operand t a u → Difference a u s r → Contents t s r

    -- operands and ranges side by side ("ClassUnion")
    pub data Union : List ℕ → Class → List ℕ → Type 0 where
      union_end : {r : List ℕ} → Union (0x5D ∷ r) no_string (0x5D ∷ r)
      union_range : {t u v r : List ℕ} {a b : ℕ} {s : Class} → SetCharacter t a (0x2D ∷ u) → SetCharacter u b v → a ≤ b → Union v s r → Union t (union (range a b) s) r
      union_operand : {t u r : List ℕ} {a s : Class} → Operand t a u → is_at (λ c. c == 0x2D) u ≡ false → Union u s r → Union t (union a s) r

    -- behind what is joined so far: `&&` and one more operand, at least once ("ClassIntersection")
    pub data Intersection : Class → List ℕ → Class → List ℕ → Type 0 where
      last_and : {t r : List ℕ} {a b : Class} → is_at (λ c. c == 0x26) t ≡ false → Operand t b (0x5D ∷ r) → Intersection a (0x26 ∷ 0x26 ∷ t) (intersection a b) (0x5D ∷ r)
      more_and : {t u r : List ℕ} {a b s : Class} → is_at (λ c. c == 0x26) t ≡ false → Operand t b u → Intersection (intersection a b) u s r → Intersection a (0x26 ∷ 0x26 ∷ t) s r

    -- the same with `--` ("ClassSubtraction")
    pub data Difference : Class → List ℕ → Class → List ℕ → Type 0 where
      last_minus : {t r : List ℕ} {a b : Class} → Operand t b (0x5D ∷ r) → Difference a (0x2D ∷ 0x2D ∷ t) (difference a b) (0x5D ∷ r)
      more_minus : {t u r : List ℕ} {a b s : Class} → Operand t b u → Difference (difference a b) u s r → Difference a (0x2D ∷ 0x2D ∷ t) s r

  -- behind the opening bracket of a class, up to its end ("CharacterClass")
  pub data ClassBody : List ℕ → Class → List ℕ → Type 0 where
    of_members : {t r : List ℕ} {s : Class} → m.sets ≡ false → Members t s r → ClassBody t s r
    of_contents : {t r : List ℕ} {s : Class} → m.sets ≡ true → Contents t s (0x5D ∷ r) → ClassBody t s r

  mutual
    -- alternatives between `|` ("Disjunction")
    pub data Disjunction : List ℕ → ℕ → Pattern → ℕ → List ℕ → Type 0 where
      one : {t r : List ℕ} {k l : ℕ} {p : Pattern} → Alternative t k p l r → ends_disjunction r ≡ true → Disjunction t k p l r
      more : {t u r : List ℕ} {k l n : ℕ} {p q : Pattern} → Alternative t k p l (0x7C ∷ u) → Disjunction u l q n r → Disjunction t k (choice p q) n r

    -- terms one after another ("Alternative")
    pub data Alternative : List ℕ → ℕ → Pattern → ℕ → List ℕ → Type 0 where
      done : {t : List ℕ} {k : ℕ} → ends_alternative t ≡ true → Alternative t k nothing k t
      next : {t u r : List ℕ} {k l n : ℕ} {p q : Pattern} → Term t k p l u → Alternative u l q n r → Alternative t k (sequence p q) n r

    -- an assertion, or an atom perhaps with a quantifier ("Term", "Assertion")
    pub data Term : List ℕ → ℕ → Pattern → ℕ → List ℕ → Type 0 where
      start : {r : List ℕ} {k : ℕ} → Term (0x5E ∷ r) k line_start k r
      end : {r : List ℕ} {k : ℕ} → Term (0x24 ∷ r) k line_end k r
      boundary : {r : List ℕ} {k : ℕ} → Term (0x5C ∷ 0x62 ∷ r) k (word_boundary false) k r
      no_boundary : {r : List ℕ} {k : ℕ} → Term (0x5C ∷ 0x42 ∷ r) k (word_boundary true) k r
      behind : {t r : List ℕ} {k l : ℕ} {p : Pattern} → Disjunction t k p l (0x29 ∷ r) → Term (0x28 ∷ 0x3F ∷ 0x3C ∷ 0x3D ∷ t) k (look false true p) l r
      not_behind : {t r : List ℕ} {k l : ℕ} {p : Pattern} → Disjunction t k p l (0x29 ∷ r) → Term (0x28 ∷ 0x3F ∷ 0x3C ∷ 0x21 ∷ t) k (look true true p) l r
      ahead : {t r : List ℕ} {k l : ℕ} {p : Pattern} → Lookahead t k p l r → bounds_at r ≡ None → Term t k p l r
      -- without Unicode mode a lookahead may have a quantifier
      repeated_ahead : {t u v : List ℕ} {k l : ℕ} {p : Pattern} {b : Bounds} → m.unicode ≡ false → Lookahead t k p l u → bounds_at u ≡ Some (b, v) → b.least ≤ b.most → Term t k (repeated p k l b.least b.most (greedy_at v)) l (after_mark v)
      once : {t r : List ℕ} {k l : ℕ} {p : Pattern} → Atom t k p l r → bounds_at r ≡ None → Term t k p l r
      quantified : {t u v : List ℕ} {k l : ℕ} {p : Pattern} {b : Bounds} → Atom t k p l u → bounds_at u ≡ Some (b, v) → b.least ≤ b.most → Term t k (repeated p k l b.least b.most (greedy_at v)) l (after_mark v)

    -- what may have a quantifier without Unicode mode ("QuantifiableAssertion")
    pub data Lookahead : List ℕ → ℕ → Pattern → ℕ → List ℕ → Type 0 where
      positive : {t r : List ℕ} {k l : ℕ} {p : Pattern} → Disjunction t k p l (0x29 ∷ r) → Lookahead (0x28 ∷ 0x3F ∷ 0x3D ∷ t) k (look false false p) l r
      negative : {t r : List ℕ} {k l : ℕ} {p : Pattern} → Disjunction t k p l (0x29 ∷ r) → Lookahead (0x28 ∷ 0x3F ∷ 0x21 ∷ t) k (look true false p) l r

    -- "Atom", "ExtendedAtom"
    pub data Atom : List ℕ → ℕ → Pattern → ℕ → List ℕ → Type 0 where
      dot : {r : List ℕ} {k : ℕ} → Atom (0x2E ∷ r) k any k r
      plain : {c : ℕ} {r : List ℕ} {k : ℕ} → is_pattern_character c r ≡ true → Atom (c ∷ r) k (character c) k r
      escape : {t r : List ℕ} {k : ℕ} {e : Escape} → is_at (λ c. c ∈ "bB") t ≡ false → escape_at m t ≡ Some (e, r) → Atom (0x5C ∷ t) k (tree_of e) k r
      a_class : {t r : List ℕ} {k : ℕ} {s : Class} → is_at (λ c. c == 0x5E) t ≡ false → ClassBody t s r → Atom (0x5B ∷ t) k (class false s) k r
      a_negated_class : {t r : List ℕ} {k : ℕ} {s : Class} → ClassBody t s r → may_hold_strings s ≡ false → Atom (0x5B ∷ 0x5E ∷ t) k (class true s) k r
      group : {t r : List ℕ} {k l : ℕ} {p : Pattern} → is_at (λ c. c == 0x3F) t ≡ false → Disjunction t (suc k) p l (0x29 ∷ r) → Atom (0x28 ∷ t) k (capture k None p) l r
      named_group : {t u r name : List ℕ} {k l : ℕ} {p : Pattern} → is_at (λ c. c ∈ "=!") t ≡ false → name_at m.table t ≡ Some (name, u) → Disjunction u (suc k) p l (0x29 ∷ r) → Atom (0x28 ∷ 0x3F ∷ 0x3C ∷ t) k (capture k (Some name) p) l r
      uncaptured : {t r : List ℕ} {k l : ℕ} {p : Pattern} → Disjunction t k p l (0x29 ∷ r) → Atom (0x28 ∷ 0x3F ∷ 0x3A ∷ t) k (grouped p) l r
      atomic_group : {t r : List ℕ} {k l : ℕ} {p : Pattern} → Disjunction t k p l (0x29 ∷ r) → Atom (0x28 ∷ 0x3F ∷ 0x3E ∷ t) k (atomic p) l r
      modifiers : {t u r on : List ℕ} {k l : ℕ} {p : Pattern} → span is_flag t ≡ (on, 0x3A ∷ u) → (length on == 0) ≡ false → all_differ on ≡ true → Disjunction u k p l (0x29 ∷ r) → Atom (0x28 ∷ 0x3F ∷ t) k (modified (settings_of on) (settings_of []) p) l r
      modifiers_off : {t u v r on off : List ℕ} {k l : ℕ} {p : Pattern} → span is_flag t ≡ (on, 0x2D ∷ u) → span is_flag u ≡ (off, 0x3A ∷ v) → (length (on ++ off) == 0) ≡ false → all_differ (on ++ off) ≡ true → Disjunction v k p l (0x29 ∷ r) → Atom (0x28 ∷ 0x3F ∷ t) k (modified (settings_of on) (settings_of off) p) l r

-- a group's name, where it has one
abbrev pub is_name : List ℕ → Bool
is_name name = not (length name == 0)

-- some name stands in both lists
abbrev pub share_a_name : List (List ℕ) → List (List ℕ) → Bool
share_a_name xs ys = list_any (λ x. is_name x && among ys x) xs

-- No name stands twice but in different alternatives of one disjunction ("MightBothParticipate").
abbrev pub names_apart : Pattern → Bool
names_apart (sequence a b) = names_apart a && names_apart b && not (share_a_name (names_of a) (names_of b))
names_apart (choice a b) = names_apart a && names_apart b
names_apart (capture k None a) = names_apart a
names_apart (capture k (Some name) a) = names_apart a && not (share_a_name (name ∷ []) (names_of a))
names_apart (grouped a) = names_apart a
names_apart (atomic a) = names_apart a
names_apart (modified on off a) = names_apart a
names_apart (repeated a from to least most greedy) = names_apart a
names_apart (look negated backward a) = names_apart a
names_apart _ = true

-- an opening `(?<` that begins no lookbehind
abbrev pub opens_name : List ℕ → Bool
opens_name t = starts_with nat_eq t (codes "(?<") && not (is_at (λ c. c ∈ "=!") (drop 3 t))

-- Such an opening stands outside a class; a backslash and what follows it are passed over ("ParsePattern", where it asks
-- whether there are group names).
unfoldable pub holds_a_name : (in_class passed : Bool) → List ℕ → Bool
holds_a_name in_class passed [] = false
holds_a_name in_class true (c ∷ t) = holds_a_name in_class false t
holds_a_name true false (c ∷ t) = holds_a_name (not (c == 0x5D)) (c == 0x5C) t
holds_a_name false false (c ∷ t) = opens_name (c ∷ t) || holds_a_name (c == 0x5B) (c == 0x5C) t

-- The mode of a text whose groups have these names.
abbrev pub mode_of : Table → Options → List ℕ → List (List ℕ) → Mode
mode_of table o text names = record {
  table = table;
  unicode = is_unicode o;
  sets = o.sets;
  named = is_unicode o || holds_a_name false false text;
  names = names;
}

-- The whole text spells the tree: the names that its references and escapes were read with are those of its own groups.
pub record Spells (table : Table) (o : Options) (text : List ℕ) (p : Pattern) : Type 0 where
  pub whole : Disjunction (mode_of table o text (names_of p)) text 0 p (length (names_of p)) []
  pub apart : names_apart p ≡ true
