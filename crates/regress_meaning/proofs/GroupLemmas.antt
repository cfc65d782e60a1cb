-- A pattern in `(?:..)` or in `(?>..)`: the text that spells it, and what it matches.
use Rattle.std.proofs.Common.{◌≡◌, ℕ, ◌+◌, take, drop, ◌-◌, Bool, true, false, not, ◌&&◌, ◌||◌, ◌==◌, nat_eq, eqb-true, List, [], ◌∷◌, length, append-nil, map-id, Option, codes, refl, sym, ap, ap₂, subst₂, ◌∙◌}
use Rattle.std.proofs.lemmas.List.Concat.{flat_map_single}
use Rattle.std.specs.List.{flat_map}
use Rattle.std.proofs.lemmas.Bool.{and_right}
use Rattle.std.specs.List.{starts_with}
use Rattle.regress_meaning.specs.Text.{◌∈◌, is_at}
use Rattle.regress_meaning.specs.Table.{Table}
use Rattle.regress_meaning.specs.Class.{Class}
use Rattle.regress_meaning.specs.Pattern.{Pattern, Settings, names_of, nothing, sequence, grouped, atomic, repeated}
use Rattle.regress_meaning.specs.Flags.{Options, is_unicode, first_settings}
use Rattle.regress_meaning.specs.Meaning.{State, Forward, Context, outcomes}
use Rattle.regress_meaning.specs.Tokens.{Mode, bounds_at, Escape}
use Rattle.regress_meaning.specs.Grammar.{ends_alternative, ends_disjunction, greedy_at, after_mark, is_flag, reserved_pair, dash_before_member, is_pattern_character, Member, as_itself, escaped, Members, no_member, single, from_to, loose, SetCharacter, bare, backspace, punctuator, of_escape, SetString, no_more, and_then, SetStrings, last_string, more_strings, Operand, one_character, of_class, of_strings, inner, inner_negated, Contents, of_union, of_intersection, of_difference, Union, union_end, union_range, union_operand, Intersection, last_and, more_and, Difference, last_minus, more_minus, ClassBody, of_members, of_contents, Disjunction, one, more, Alternative, done, next, Term, start, end, boundary, no_boundary, behind, not_behind, ahead, repeated_ahead, once, quantified, Lookahead, positive, negative, Atom, dot, plain, escape, a_class, a_negated_class, group, named_group, uncaptured, atomic_group, modifiers, modifiers_off, is_name, share_a_name, opens_name, holds_a_name, mode_of, Spells}
use Rattle.regress_meaning.specs.Laws.{in_group, in_atomic_group}
use Rattle.regress_meaning.proofs.Extension.{cond_apply, closed, closed_rest, at_word, at_none, is_at_more, span_more, bounds_more, is_some_more, name_more, escape_more, class_escape_more}
use Rattle.regress_meaning.specs.Matches.{Item, item_at, attempt, first_match, match_list, first_from, list_from}

-- a group that captures nothing opens no group of its own
pub names-grouped : (p : Pattern) → names_of (sequence (grouped p) nothing) ≡ names_of p
names-grouped p = append-nil (names_of p)

-- nothing behind the group: each outcome of the group is one of the whole
pub outcomes-grouped : (context : Context) (p : Pattern) (e : Settings) (s : State) →
    outcomes context (sequence (grouped p) nothing) Forward e s ≡ outcomes context p Forward e s
unfolding outcomes
outcomes-grouped context p e s = flat_map_single (λ t. t) (outcomes context p Forward e s) ∙ map-id (outcomes context p Forward e s)

pub attempt-grouped : (table : Table) (o : Options) (p : Pattern) (text : List ℕ) (q : ℕ) →
    attempt table o (sequence (grouped p) nothing) text q ≡ attempt table o p text q
unfolding attempt
attempt-grouped table o p text q =
    rw (names-grouped p, outcomes-grouped (record { text = text; table = table; unicode = is_unicode o }) p (first_settings o))

-- both patterns have the same match list
pub group-matches : (table : Table) (o : Options) (p : Pattern) (text : List ℕ) (place : ℕ) →
    match_list table o (sequence (grouped p) nothing) text place ≡ match_list table o p text place
unfolding match_list first_match
group-matches table o p text place =
    ap (λ (f : ℕ → Option Item). list_from (λ q. first_from f (length text + 1 - q) q) (length text + 1 - place) place)
    (λ i. λ q. attempt-grouped table o p text q i)

-- an atomic group opens no group of its own
pub names-atomic : (p : Pattern) → names_of (sequence (atomic p) nothing) ≡ names_of p
names-atomic p = append-nil (names_of p)

-- the first outcome alone gives the item that all outcomes give
item-first : (q : ℕ) (ss : List State) → item_at q (flat_map (λ s. s ∷ []) (take 1 ss)) ≡ item_at q ss
item-first q [] = refl
item-first q (s ∷ ss) = refl

pub attempt-atomic : (table : Table) (o : Options) (p : Pattern) (text : List ℕ) (q : ℕ) →
    attempt table o (sequence (atomic p) nothing) text q ≡ attempt table o p text q
unfolding attempt outcomes
attempt-atomic table o p text q = rw (names-atomic p) (item-first q _)

-- both patterns have the same match list
pub atomic-matches : (table : Table) (o : Options) (p : Pattern) (text : List ℕ) (place : ℕ) →
    match_list table o (sequence (atomic p) nothing) text place ≡ match_list table o p text place
unfolding match_list first_match
atomic-matches table o p text place =
    ap (λ (f : ℕ → Option Item). list_from (λ q. first_from f (length text + 1 - q) q) (length text + 1 - place) place)
    (λ i. λ q. attempt-atomic table o p text q i)

-- What is asked of the text behind a tree is so, or not, also where `)` follows.
module _ (w : List ℕ) where
  ends_alternative_more : (t : List ℕ) → ends_alternative (closed w t) ≡ ends_alternative t
  ends_alternative_more [] = refl
  ends_alternative_more (c ∷ t) = refl

  ends_disjunction_more : (t : List ℕ) → ends_disjunction (closed w t) ≡ ends_disjunction t
  ends_disjunction_more [] = refl
  ends_disjunction_more (c ∷ t) = refl

  greedy_more : (t : List ℕ) → greedy_at (closed w t) ≡ greedy_at t
  greedy_more t = ap not (is_at_more w (λ c. c == 0x3F) refl t)

  after_mark_more : (t : List ℕ) → after_mark (closed w t) ≡ closed w (after_mark t)
  after_mark_more [] = refl
  after_mark_more (c ∷ t) = sym (cond_apply (closed w) (not (c == 0x3F)) (c ∷ t) t)

  dash_more : (t : List ℕ) → dash_before_member (closed w t) ≡ dash_before_member t
  dash_more [] = refl
  dash_more (c ∷ t) = ap (λ b. c == 0x2D && not b) (is_at_more w (λ d. d == 0x5D) refl t)

  reserved_more : (c : ℕ) (t : List ℕ) → reserved_pair (closed w (c ∷ t)) ≡ reserved_pair (c ∷ t)
  reserved_more c [] = go (0x29 == c) refl
    where
      go : (b : Bool) → (0x29 == c) ≡ b →
          (c ∈ "&!#$%*+,.:;<=>?@^`~" && (0x29 == c)) ≡ (c ∈ "&!#$%*+,.:;<=>?@^`~" && false)
      go true e = rw (← (eqb-true 0x29 c e)) refl
      go false e = rw e refl
  reserved_more c (d ∷ t) = refl

  -- what follows a quantifier
  quantifier_more : (P : Bool → List ℕ → Type 0) (v : List ℕ) →
      P (greedy_at (closed w v)) (after_mark (closed w v)) → P (greedy_at v) (closed w (after_mark v))
  quantifier_more P v h = subst₂ P (greedy_more v) (after_mark_more v) h

  module _ (m : Mode) where
    plain_more : (c : ℕ) (t : List ℕ) → is_pattern_character m c (closed w t) ≡ is_pattern_character m c t
    plain_more c t = rw (is_some_more w (bounds_more w (c ∷ t)))

    member_more : {t r : List ℕ} {e : Escape} → Member m t e r → Member m (closed w t) e (closed w r)
    member_more (as_itself h) = as_itself h
    member_more (escaped {t = t} h) = escaped (at_word w (class_escape_more w m t) h)

    members_more : {t r : List ℕ} {s : Class} → Members m t s r → Members m (closed w t) s (closed w r)
    members_more no_member = no_member
    members_more (single {u = u} a h b) = single (member_more a) (dash_more u ∙ h) (members_more b)
    members_more (from_to {u = u} a h b le c) = from_to (member_more a) (dash_more (0x2D ∷ u) ∙ h) (member_more b) le (members_more c)
    members_more (loose {u = u} h a k b e c) = loose h (member_more a) (dash_more (0x2D ∷ u) ∙ k) (member_more b) e (members_more c)

    set_character_more : {t r : List ℕ} {c : ℕ} → SetCharacter m t c r → SetCharacter m (closed w t) c (closed w r)
    set_character_more (bare {c = c} {r = r} h k) = bare h (reserved_more c r ∙ k)
    set_character_more backspace = backspace
    set_character_more (punctuator h) = punctuator h
    set_character_more (of_escape {t = t} h) = of_escape (at_word w (escape_more w m t) h)

    set_string_more : {t r cs : List ℕ} → SetString m t cs r → SetString m (closed w t) cs (closed w r)
    set_string_more (no_more {t = t} h) = no_more (is_at_more w (λ c. c ∈ "|}") refl t ∙ h)
    set_string_more (and_then a b) = and_then (set_character_more a) (set_string_more b)

    set_strings_more : {t r : List ℕ} {ss : List (List ℕ)} → SetStrings m t ss r → SetStrings m (closed w t) ss (closed w r)
    set_strings_more (last_string a) = last_string (set_string_more a)
    set_strings_more (more_strings a b) = more_strings (set_string_more a) (set_strings_more b)

    mutual
      operand_more : {t r : List ℕ} {s : Class} → Operand m t s r → Operand m (closed w t) s (closed w r)
      operand_more (one_character a) = one_character (set_character_more a)
      operand_more (of_class {t = t} h) = of_class (at_word w (escape_more w m t) h)
      operand_more (of_strings a) = of_strings (set_strings_more a)
      operand_more (inner {t = t} h a) = inner (is_at_more w (λ c. c == 0x5E) refl t ∙ h) (contents_more a)
      operand_more (inner_negated a h) = inner_negated (contents_more a) h

      contents_more : {t r : List ℕ} {s : Class} → Contents m t s r → Contents m (closed w t) s (closed w r)
      contents_more (of_union a) = of_union (union_more a)
      contents_more (of_intersection a b) = of_intersection (operand_more a) (intersection_more b)
      contents_more (of_difference a b) = of_difference (operand_more a) (difference_more b)

      union_more : {t r : List ℕ} {s : Class} → Union m t s r → Union m (closed w t) s (closed w r)
      union_more union_end = union_end
      union_more (union_range a b le c) = union_range (set_character_more a) (set_character_more b) le (union_more c)
      union_more (union_operand {u = u} a h b) = union_operand (operand_more a) (is_at_more w (λ c. c == 0x2D) refl u ∙ h) (union_more b)

      intersection_more : {a s : Class} {t r : List ℕ} → Intersection m a t s r → Intersection m a (closed w t) s (closed w r)
      intersection_more (last_and {t = t} h b) = last_and (is_at_more w (λ c. c == 0x26) refl t ∙ h) (operand_more b)
      intersection_more (more_and {t = t} h b c) = more_and (is_at_more w (λ c. c == 0x26) refl t ∙ h) (operand_more b) (intersection_more c)

      difference_more : {a s : Class} {t r : List ℕ} → Difference m a t s r → Difference m a (closed w t) s (closed w r)
      difference_more (last_minus b) = last_minus (operand_more b)
      difference_more (more_minus b c) = more_minus (operand_more b) (difference_more c)

    class_body_more : {t r : List ℕ} {s : Class} → ClassBody m t s r → ClassBody m (closed w t) s (closed w r)
    class_body_more (of_members h a) = of_members h (members_more a)
    class_body_more (of_contents h a) = of_contents h (contents_more a)

    mutual
      -- a tree that ends where the text does ends as well before `)`
      pub disjunction_more : {t r : List ℕ} {k l : ℕ} {p : Pattern} → Disjunction m t k p l r → Disjunction m (closed w t) k p l (closed w r)
      disjunction_more (one {r = r} a h) = one (alternative_more a) (ends_disjunction_more r ∙ h)
      disjunction_more (more a b) = more (alternative_more a) (disjunction_more b)

      alternative_more : {t r : List ℕ} {k l : ℕ} {p : Pattern} → Alternative m t k p l r → Alternative m (closed w t) k p l (closed w r)
      alternative_more (done {t = t} h) = done (ends_alternative_more t ∙ h)
      alternative_more (next a b) = next (term_more a) (alternative_more b)

      term_more : {t r : List ℕ} {k l : ℕ} {p : Pattern} → Term m t k p l r → Term m (closed w t) k p l (closed w r)
      term_more start = start
      term_more end = end
      term_more boundary = boundary
      term_more no_boundary = no_boundary
      term_more (behind a) = behind (disjunction_more a)
      term_more (not_behind a) = not_behind (disjunction_more a)
      term_more (ahead {r = r} a h) = ahead (lookahead_more a) (at_none w (bounds_more w r) h)
      term_more (repeated_ahead {t = t} {u = u} {v = v} {k = k} {l = l} {p = p} {b = b} h a e le) =
          quantifier_more (λ g x. Term m (closed w t) k (repeated p k l b.least b.most g) l x) v
          (repeated_ahead h (lookahead_more a) (at_word w (bounds_more w u) e) le)
      term_more (once {r = r} a h) = once (atom_more a) (at_none w (bounds_more w r) h)
      term_more (quantified {t = t} {u = u} {v = v} {k = k} {l = l} {p = p} {b = b} a e le) =
          quantifier_more (λ g x. Term m (closed w t) k (repeated p k l b.least b.most g) l x) v
          (quantified (atom_more a) (at_word w (bounds_more w u) e) le)

      lookahead_more : {t r : List ℕ} {k l : ℕ} {p : Pattern} → Lookahead m t k p l r → Lookahead m (closed w t) k p l (closed w r)
      lookahead_more (positive a) = positive (disjunction_more a)
      lookahead_more (negative a) = negative (disjunction_more a)

      atom_more : {t r : List ℕ} {k l : ℕ} {p : Pattern} → Atom m t k p l r → Atom m (closed w t) k p l (closed w r)
      atom_more dot = dot
      atom_more (plain {c = c} {r = r} h) = plain (plain_more c r ∙ h)
      atom_more (escape {t = t} h e) = escape (is_at_more w (λ c. c ∈ "bB") refl t ∙ h) (at_word w (escape_more w m t) e)
      atom_more (a_class {t = t} h a) = a_class (is_at_more w (λ c. c == 0x5E) refl t ∙ h) (class_body_more a)
      atom_more (a_negated_class a h) = a_negated_class (class_body_more a) h
      atom_more (group {t = t} h a) = group (is_at_more w (λ c. c == 0x3F) refl t ∙ h) (disjunction_more a)
      atom_more (named_group {t = t} h e a) = named_group (is_at_more w (λ c. c ∈ "=!") refl t ∙ h)
          (at_word w (name_more w m.table t) e) (disjunction_more a)
      atom_more (uncaptured a) = uncaptured (disjunction_more a)
      atom_more (atomic_group a) = atomic_group (disjunction_more a)
      atom_more (modifiers {t = t} e h k a) = modifiers (span_more w is_flag refl t ∙ ap (closed_rest w) e) h k (disjunction_more a)
      atom_more (modifiers_off {t = t} {u = u} e f h k a) =
          modifiers_off (span_more w is_flag refl t ∙ ap (closed_rest w) e)
          (span_more w is_flag refl u ∙ ap (closed_rest w) f) h k (disjunction_more a)

-- where the mark is not there, what follows it is not asked
lost : (a b c d : Bool) → ((a && (b && false)) && c) ≡ ((a && (b && false)) && d)
lost true true c d = refl
lost true false c d = refl
lost false b c d = refl

-- a `)` behind a text makes no opening of a name, and unmakes none
opens_name_more : (w : List ℕ) (c : ℕ) (t : List ℕ) → opens_name (closed w (c ∷ t)) ≡ opens_name (c ∷ t)
opens_name_more w c [] = lost (nat_eq 0x28 c) false (not (is_at (λ d. d ∈ "=!") (drop 1 w))) true
opens_name_more w c (d ∷ []) = lost (nat_eq 0x28 c) (nat_eq 0x3F d) (not (is_at (λ d. d ∈ "=!") w)) true
opens_name_more w c (d ∷ e ∷ t) = ap (λ b. starts_with nat_eq (c ∷ d ∷ e ∷ []) (codes "(?<") && not b) (is_at_more w (λ c. c ∈ "=!") refl t)

-- nor does what follows it, where that opens none
module _ (w : List ℕ) (none : (in_class : Bool) → holds_a_name in_class false w ≡ false) where
  pub holds_a_name_more : (in_class passed : Bool) (t : List ℕ) → holds_a_name in_class passed (closed w t) ≡ holds_a_name in_class passed t
  unfolding holds_a_name
  holds_a_name_more in_class true [] = none in_class
  holds_a_name_more true false [] = none true
  holds_a_name_more false false [] = none false
  holds_a_name_more in_class true (c ∷ t) = holds_a_name_more in_class false t
  holds_a_name_more true false (c ∷ t) = holds_a_name_more (not (c == 0x5D)) (c == 0x5C) t
  holds_a_name_more false false (c ∷ t) = ap₂ ◌||◌ (opens_name_more w c t) (holds_a_name_more (c == 0x5B) (c == 0x5C) t)

-- nothing follows a group around all
none-behind : (in_class : Bool) → holds_a_name in_class false [] ≡ false
unfolding holds_a_name
none-behind in_class = refl

-- `(?:` and `)` open no name
names-in_group : (source : List ℕ) → holds_a_name false false (in_group source) ≡ holds_a_name false false source
unfolding holds_a_name
names-in_group source = holds_a_name_more [] none-behind false false source

-- the mode is that of the source
mode-grouped : (table : Table) (o : Options) (source : List ℕ) (p : Pattern) →
    mode_of table o (in_group source) (names_of (sequence (grouped p) nothing)) ≡ mode_of table o source (names_of p)
mode-grouped table o source p = rw (names-in_group source, names-grouped p)

-- no name is shared with a tree that has none
pub shares-no_name : (names : List (List ℕ)) → share_a_name names [] ≡ false
shares-no_name [] = refl
shares-no_name (name ∷ names) = rw (and_right (is_name name) false refl) (shares-no_name names)

-- a text in `(?:..)` spells the tree that the text spells, in a group that captures nothing
pub group-spelled : (table : Table) (o : Options) (source : List ℕ) (p : Pattern) →
    Spells table o source p → Spells table o (in_group source) (sequence (grouped p) nothing)
unfolding bounds_at
group-spelled table o source p s = record {
  whole = subst₂ (λ m n. Disjunction m (in_group source) 0 (sequence (grouped p) nothing) n [])
      (sym (mode-grouped table o source p)) (sym (ap length (names-grouped p)))
      (one (next (once (uncaptured (disjunction_more [] (mode_of table o source (names_of p)) s.whole)) refl) (done refl)) refl);
  apart = rw (s.apart, shares-no_name (names_of p));
}

-- the match list of a text in `(?:..)` is that of the text, where a text spells at most one tree
pub transparent : (table : Table) (o : Options) (source : List ℕ) (p q : Pattern) →
    (one_tree : (a b : Pattern) → Spells table o (in_group source) a → Spells table o (in_group source) b → a ≡ b) →
    Spells table o source p → Spells table o (in_group source) q → (text : List ℕ) (place : ℕ) →
    match_list table o q text place ≡ match_list table o p text place
transparent table o source p q one_tree s t text place =
    ap (λ r. match_list table o r text place)
    (one_tree q (sequence (grouped p) nothing) t (group-spelled table o source p s)) ∙ group-matches table o p text place

-- `(?>` and `)` open no name
names-in_atomic_group : (source : List ℕ) → holds_a_name false false (in_atomic_group source) ≡ holds_a_name false false source
unfolding holds_a_name
names-in_atomic_group source = holds_a_name_more [] none-behind false false source

-- the mode is that of the source
mode-atomic : (table : Table) (o : Options) (source : List ℕ) (p : Pattern) →
    mode_of table o (in_atomic_group source) (names_of (sequence (atomic p) nothing)) ≡ mode_of table o source (names_of p)
mode-atomic table o source p = rw (names-in_atomic_group source, names-atomic p)

-- a text in `(?>..)` spells the tree that the text spells, in an atomic group
pub atomic-spelled : (table : Table) (o : Options) (source : List ℕ) (p : Pattern) →
    Spells table o source p → Spells table o (in_atomic_group source) (sequence (atomic p) nothing)
unfolding bounds_at
atomic-spelled table o source p s = record {
  whole = subst₂ (λ m n. Disjunction m (in_atomic_group source) 0 (sequence (atomic p) nothing) n [])
      (sym (mode-atomic table o source p)) (sym (ap length (names-atomic p)))
      (one (next (once (atomic_group (disjunction_more [] (mode_of table o source (names_of p)) s.whole)) refl) (done refl)) refl);
  apart = rw (s.apart, shares-no_name (names_of p));
}

-- the match list of a text in `(?>..)` is that of the text, where a text spells at most one tree
pub transparent-atomic : (table : Table) (o : Options) (source : List ℕ) (p q : Pattern) →
    (one_tree : (a b : Pattern) → Spells table o (in_atomic_group source) a → Spells table o (in_atomic_group source) b → a ≡ b) →
    Spells table o source p → Spells table o (in_atomic_group source) q → (text : List ℕ) (place : ℕ) →
    match_list table o q text place ≡ match_list table o p text place
transparent-atomic table o source p q one_tree s t text place =
    ap (λ r. match_list table o r text place)
    (one_tree q (sequence (atomic p) nothing) t (atomic-spelled table o source p s)) ∙ atomic-matches table o p text place
