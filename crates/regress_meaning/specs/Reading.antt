-- The reading function: it finds the tree that a text spells, or nothing. The grammar says what a tree is; this says how it is
-- found, from the left, each construct by its first code points, with no way back.
use Rattle.std.specs.Prelude.{◌≡◌, ℕ, zero, suc, ◌+◌, ◌*◌, ◌≤◌, Bool, true, false, not, ◌&&◌, ◌==◌, nat_le, List, [], ◌∷◌, ◌++◌, length, drop, Option, Some, None, option_and_then, option_map, if◌then◌else◌}
use Rattle.regress_meaning.specs.Text.{◌∈◌, is_at, span}
use Rattle.regress_meaning.specs.Table.{Table}
use Rattle.regress_meaning.specs.Class.{Class, may_hold_strings}
use Rattle.regress_meaning.specs.Pattern.{Pattern, names_of, nothing, character, any, class, sequence, choice, capture, grouped, atomic, modified, repeated, look, line_start, line_end, word_boundary}
use Rattle.regress_meaning.specs.Flags.{Options, settings_of}
use Rattle.regress_meaning.specs.Tokens.{Mode, Bounds, bounds_at, name_at, guard, Escape, escape_at}
use Rattle.regress_meaning.specs.Grammar.{ends_alternative, greedy_at, after_mark, tree_of, is_flag, all_differ, is_pattern_character, names_apart, mode_of}
use Rattle.regress_meaning.specs.ReadingClass.{read_class}
use Rattle.regress_meaning.specs.Scan.{scanned_names}

-- What begins at the front of a text, as far as its first code points tell, and the text behind them.
pub data Opening : Type 0 where
  -- an assertion without contents
  assertion : Pattern → List ℕ → Opening
  -- an atom without contents
  single : Pattern → List ℕ → Opening
  lookahead : (negated : Bool) → List ℕ → Opening
  lookbehind : (negated : Bool) → List ℕ → Opening
  group : List ℕ → Opening
  named_group : List ℕ → List ℕ → Opening
  uncaptured : List ℕ → Opening
  atomic_group : List ℕ → Opening
  modifiers : (on off : List ℕ) → List ℕ → Opening
  no_term : Opening

-- an atom of an escape, where one was read
abbrev pub of_escape : Option (Escape × List ℕ) → Opening
of_escape None = no_term
of_escape (Some (e, r)) = single (tree_of e) r

-- an atom of a class, where one was read; a negated one holds no strings
abbrev pub of_class : Bool → Option (Class × List ℕ) → Opening
of_class negated None = no_term
of_class negated (Some (s, r)) = if negated && may_hold_strings s then no_term else single (class negated s) r

-- a group of a name, where one was read
abbrev pub of_name : Option (List ℕ × List ℕ) → Opening
of_name None = no_term
of_name (Some (name, r)) = named_group name r

-- modifiers whose letters are some, each once
abbrev pub of_letters : (letters on off : List ℕ) → List ℕ → Opening
of_letters letters on off r =
    if not (length letters == 0) && all_differ letters && is_at (λ c. c == 0x3A) r then modifiers on off (drop 1 r) else no_term

-- behind `(?`, where modifiers may stand
unfoldable pub modifiers_at : List ℕ → Opening
modifiers_at t =
    let (on, r) = span is_flag t in
    let (off, s) = span is_flag (drop 1 r) in
    if is_at (λ c. c == 0x2D) r then of_letters (on ++ off) on off s else of_letters on on [] r

module _ (m : Mode) where
  -- behind a backslash
  unfoldable pub escape_opening : List ℕ → Opening
  escape_opening t =
      if is_at (λ c. c ∈ "bB") t then assertion (word_boundary (is_at (λ c. c == 0x42) t)) (drop 1 t)
      else of_escape (escape_at m t)

  -- behind `[`
  unfoldable pub class_opening : List ℕ → Opening
  class_opening t = if is_at (λ c. c == 0x5E) t then of_class true (read_class m (drop 1 t)) else of_class false (read_class m t)

  -- behind `(?<`
  unfoldable pub angle_opening : List ℕ → Opening
  angle_opening t =
      if is_at (λ c. c ∈ "=!") t then lookbehind (is_at (λ c. c == 0x21) t) (drop 1 t)
      else of_name (name_at m.table t)

  -- behind `(?`
  unfoldable pub question_opening : List ℕ → Opening
  question_opening t =
      if is_at (λ c. c ∈ "=!") t then lookahead (is_at (λ c. c == 0x21) t) (drop 1 t)
      else if is_at (λ c. c == 0x3A) t then uncaptured (drop 1 t)
      else if is_at (λ c. c == 0x3E) t then atomic_group (drop 1 t)
      else if is_at (λ c. c == 0x3C) t then angle_opening (drop 1 t)
      else modifiers_at t

  -- behind `(`
  unfoldable pub parenthesis_opening : List ℕ → Opening
  parenthesis_opening t = if is_at (λ c. c == 0x3F) t then question_opening (drop 1 t) else group t

  -- What begins at the front of a text.
  unfoldable pub opening : List ℕ → Opening
  opening [] = no_term
  opening (c ∷ t) =
      if c == 0x5E then assertion line_start t
      else if c == 0x24 then assertion line_end t
      else if c == 0x5C then escape_opening t
      else if c == 0x2E then single any t
      else if c == 0x5B then class_opening t
      else if c == 0x28 then parenthesis_opening t
      else if is_pattern_character m c t then single (character c) t
      else no_term

-- A tree at the front of a text, how many groups were opened up to its end, and the text behind it.
pub record Front : Type 0 where
  pub tree : Pattern
  pub opened : ℕ
  pub rest : List ℕ

-- with a quantifier that was read behind it, if it may have one
unfoldable pub bounded : Bool → ℕ → Front → Option (Bounds × List ℕ) → Option Front
bounded allowed k f None = Some f
bounded allowed k f (Some (b, r)) =
    guard (allowed && nat_le b.least b.most)
    (Some (record { tree = repeated f.tree k f.opened b.least b.most (greedy_at r); opened = f.opened; rest = after_mark r }))

-- with the quantifier that stands behind it, if it may have one; k groups were opened before it
unfoldable pub quantified : Bool → ℕ → Front → Option Front
quantified allowed k f = bounded allowed k f (bounds_at f.rest)

-- contents up to their closing parenthesis, as a tree of their own
unfoldable pub closed : (Pattern → Pattern) → Front → Option Front
closed wrap f = guard (is_at (λ c. c == 0x29) f.rest) (Some (record { tree = wrap f.tree; opened = f.opened; rest = drop 1 f.rest }))

-- contents in parentheses, with the quantifier behind them
unfoldable pub closed_and_quantified : Bool → ℕ → (Pattern → Pattern) → Option Front → Option Front
closed_and_quantified allowed k wrap None = None
closed_and_quantified allowed k wrap (Some f) = option_and_then (quantified allowed k) (closed wrap f)

-- one term, by its opening; `read` reads the contents of parentheses, k groups were opened before
unfoldable pub read_term : Mode → (List ℕ → ℕ → Option Front) → ℕ → Opening → Option Front
read_term m read k (assertion p r) = Some (record { tree = p; opened = k; rest = r })
read_term m read k (single p r) = quantified true k (record { tree = p; opened = k; rest = r })
read_term m read k (lookahead negated t) = closed_and_quantified (not m.unicode) k (look negated false) (read t k)
read_term m read k (lookbehind negated t) = option_and_then (closed (look negated true)) (read t k)
read_term m read k (group t) = closed_and_quantified true k (capture k None) (read t (suc k))
read_term m read k (named_group name t) = closed_and_quantified true k (capture k (Some name)) (read t (suc k))
read_term m read k (uncaptured t) = closed_and_quantified true k grouped (read t k)
read_term m read k (atomic_group t) = closed_and_quantified true k atomic (read t k)
read_term m read k (modifiers on off t) = closed_and_quantified true k (modified (settings_of on) (settings_of off)) (read t k)
read_term m read k no_term = None

-- two fronts as one, the second behind the first
abbrev pub joined_by : (Pattern → Pattern → Pattern) → Front → Front → Front
joined_by join f g = record { tree = join f.tree g.tree; opened = g.opened; rest = g.rest }

-- an alternative alone, or with the rest of the disjunction behind the `|` that stands there
unfoldable pub alternatives_if : (bar : Bool) → (List ℕ → ℕ → Option Front) → Front → Option Front
alternatives_if true read f = option_map (joined_by choice f) (read (drop 1 f.rest) f.opened)
alternatives_if false read f = Some f

-- an alternative, and the rest of the disjunction where there is one
unfoldable pub alternatives : (List ℕ → ℕ → Option Front) → Front → Option Front
alternatives read f = alternatives_if (is_at (λ c. c == 0x7C) f.rest) read f

-- a term, and the rest of the alternative
unfoldable pub terms : (List ℕ → ℕ → Option Front) → Front → Option Front
terms read f = option_map (joined_by sequence f) (read f.rest f.opened)

-- an alternative: nothing where the text ends one at once, and else a term and the rest
unfoldable pub read_terms : Mode → (inner rest : List ℕ → ℕ → Option Front) → List ℕ → ℕ → Option Front
read_terms m inner rest t k =
    if ends_alternative t
    then Some (record { tree = nothing; opened = k; rest = t })
    else option_and_then (terms rest) (read_term m inner k (opening m t))

module _ (m : Mode) where
  unfoldable mutual
    -- A disjunction, with k groups opened before it. The first number bounds how deep the calls go.
    pub read_disjunction : ℕ → List ℕ → ℕ → Option Front
    read_disjunction zero t k = None
    read_disjunction (suc n) t k = option_and_then (alternatives (read_disjunction n)) (read_alternative n t k)

    -- An alternative, likewise.
    pub read_alternative : ℕ → List ℕ → ℕ → Option Front
    read_alternative zero t k = None
    read_alternative (suc n) t k = read_terms m (read_disjunction n) (read_alternative n) t k

-- The disjunction at the front of a text, with k groups opened before it.
unfoldable pub disjunction_at : Mode → List ℕ → ℕ → Option Front
disjunction_at m t k = read_disjunction m (3 * length t + 3) t k

-- The alternative at the front of a text, likewise.
unfoldable pub alternative_at : Mode → List ℕ → ℕ → Option Front
alternative_at m t k = read_alternative m (3 * length t + 2) t k

-- The term at the front of a text, likewise.
unfoldable pub term_at : Mode → List ℕ → ℕ → Option Front
term_at m t k = read_term m (disjunction_at m) k (opening m t)

-- a front that is the whole text, and whose names stand apart
unfoldable pub whole_tree : Front → Option Pattern
whole_tree f = guard (length f.rest == 0 && names_apart f.tree) (Some f.tree)

-- The tree that a text spells.
unfoldable pub read_pattern : Table → Options → List ℕ → Option Pattern
read_pattern table o text = option_and_then whole_tree (disjunction_at (mode_of table o text (scanned_names table o text)) text 0)

-- what is read leaves no more than the text, and opens its groups behind those opened before
abbrev pub GoesForward : List ℕ → ℕ → Option Front → Type 0
GoesForward t k o = (f : Front) → o ≡ Some f → (f.opened ≡ k + length (names_of f.tree)) × (length f.rest ≤ length t)

-- The functions read step by step: a disjunction by its first alternative, an alternative by its first term.
pub record ReadsBySteps (m : Mode) (t : List ℕ) (k : ℕ) : Type 0 where
  pub disjunction : disjunction_at m t k ≡ option_and_then (alternatives (disjunction_at m)) (alternative_at m t k)
  pub alternative : alternative_at m t k ≡ (if ends_alternative t
      then Some (record { tree = nothing; opened = k; rest = t })
      else option_and_then (terms (alternative_at m)) (term_at m t k))
  pub disjunction_forward : GoesForward t k (disjunction_at m t k)
  pub alternative_forward : GoesForward t k (alternative_at m t k)
  pub term_forward : GoesForward t k (term_at m t k)
