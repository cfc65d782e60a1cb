-- What the answer for a whole text says of what the text spells.
use Rattle.std.specs.Prelude.{count_by}
use Rattle.std.proofs.lemmas.Bool.{eqb-true}
use Rattle.std.proofs.Common.{◌≡◌, ℕ, zero, suc, ◌-◌, ◌≤◌, ◌<◌, ◌↔◌, Bool, true, false, not, ◌&&◌, ◌==◌, List, [], ◌∷◌, ◌++◌, length, drop, Option, Some, None, option_and_then, option_map, unwrap_or, Result, Ok, Err, subst, slice_get, is_some, suc-ne-zero, refl, ap, ◌∙◌, length-append, arith}
use Rattle.std.specs.Prelude.{if◌then◌else◌}
use Rattle.regress_meaning.specs.Text.{is_at}
use Rattle.regress_meaning.specs.Table.{Table}
use Rattle.regress_meaning.specs.Pattern.{Pattern, names_of}
use Rattle.regress_meaning.specs.Flags.{Options}
use Rattle.regress_meaning.specs.Tokens.{Mode, guard, name_at}
use Rattle.regress_meaning.specs.Grammar.{Spells, mode_of, names_apart, opens_name}
use Rattle.regress_meaning.specs.Limits.{SpellsNone, PassesGroups, WithinLimits, depth, quantifiers, opens_group, most_groups}
use Rattle.regress_meaning.specs.Scan.{after_escape, opened_groups, group_names, scanned_names}
use Rattle.regress_meaning.specs.Reading.{Front, disjunction_at, whole_tree, read_pattern, ReadsBySteps}
use Rattle.regress_front_core.specs.declared.error.Error.{Error}
use Rattle.regress_front_core.specs.declared.error.Error.TheVariants.{Syntax as SyntaxError, TooDeep, TooManyGroups, TooManyLoops, TooLarge, OutOfMemory}
use Rattle.regress_front_tokens.specs.declared.syntax.Syntax.{Syntax}
use Rattle.regress_front_tokens.specs.Trees.{tree}
use Rattle.regress_front_core.specs.Refusals.{MayRefuse}
use Rattle.regress_front_syntax.specs.Parsing.{IsRefusal, IsWholeAnswer, whole_at}
use Rattle.regress_front_tokens.proofs.CountLemmas.{count-less, count-opening}
use Rattle.regress_front_syntax.proofs.AnswerLemmas.{at}

-- a text with no first code point is empty
pub empty-text : (t : List ℕ) → is_some (slice_get t 0) ≡ false → t ≡ []
empty-text [] e = refl
empty-text (c ∷ t) e = absurd (cc)

left-length : (t : List ℕ) → is_some (slice_get t 0) ≡ true → (length t == 0) ≡ false
left-length [] e = absurd (cc)
left-length (c ∷ t) e = go (length (c ∷ t) == 0) refl
  where
    go : (b : Bool) → (length (c ∷ t) == 0) ≡ b → b ≡ false
    go false e = refl
    go true e = absurd (suc-ne-zero (length t) (eqb-true (suc (length t)) 0 e))

module _ (m : Mode) (t : List ℕ) where
  -- text is left behind what was read
  pub left-none : (f : Front) → disjunction_at m t 0 ≡ Some f → is_some (slice_get f.rest 0) ≡ true → whole_at m t ≡ None
  unfolding whole_tree
  left-none f e left = ap (option_and_then whole_tree) e ∙ rw (left-length f.rest left) refl

  -- its names don't stand apart
  pub alike-none : (p : Pattern) (k : ℕ) (u : List ℕ) → disjunction_at m t 0 ≡ Some (record { tree = p; opened = k; rest = u }) → names_apart p ≡ false → whole_at m t ≡ None
  unfolding whole_tree
  alike-none p k u e alike = ap (option_and_then whole_tree) e ∙ go (length u == 0) (names_apart p) alike
    where
      go : (a b : Bool) → b ≡ false → guard (a && b) (Some p) ≡ None
      go true false h = refl
      go true true h = absurd (cc)
      go false b h = refl

  pub apart-whole : (p : Pattern) (k : ℕ) (u : List ℕ) → disjunction_at m t 0 ≡ Some (record { tree = p; opened = k; rest = u }) → u ≡ [] → names_apart p ≡ true → whole_at m t ≡ Some p
  unfolding whole_tree
  apart-whole p k u e none apart = ap (option_and_then whole_tree) e ∙ rw (none, apart) refl

  -- the front of a whole text
  whole-front : (o : Option Front) (p : Pattern) → option_and_then whole_tree o ≡ Some p → (f : Front) × (o ≡ Some f) × (f.tree ≡ p)
  unfolding whole_tree
  whole-front None p e = absurd (cc)
  whole-front (Some f) p e = go (length f.rest == 0 && names_apart f.tree) e
    where
      go : (b : Bool) → guard b (Some f.tree) ≡ Some p → (g : Front) × (◌≡◌ {A = Option Front} (Some f) (Some g)) × (g.tree ≡ p)
      go true e = (f, refl, (cc))
      go false e = absurd (cc)

  -- what is refused of the disjunction is refused of the whole
  pub whole-refused : ReadsBySteps m t 0 → (e : Error) → IsRefusal (at 0 0 0 t) (disjunction_at m t 0) e → IsWholeAnswer (whole_at m t) t (Err e)
  whole-refused steps (SyntaxError message) none = ap (option_and_then whole_tree) none
  whole-refused steps TooDeep (fronts, counted) =
      ((λ p e. let (f, read, tree) = whole-front (disjunction_at m t 0) p e in let deep = fronts f read in let same : depth f.tree ≡ depth p = ap depth tree in omega arith), (λ none. omega arith))
  whole-refused steps TooManyGroups (fronts, counted) = (
    (λ p e. let (f, read, tree) = whole-front (disjunction_at m t 0) p e in let many = fronts f read in
        let opened = (steps.disjunction_forward f read).0 in
        let same : length (names_of f.tree) ≡ length (names_of p) = ap (λ q. length (names_of q)) tree in omega arith),
    (λ none. omega arith),
  )
  whole-refused steps TooManyLoops (fronts, counted) =
      ((λ p e. let (f, read, tree) = whole-front (disjunction_at m t 0) p e in let many = fronts f read in let same : quantifiers f.tree ≡ quantifiers p = ap quantifiers tree in omega arith), (λ none. omega arith))
  whole-refused steps TooLarge r = r
  whole-refused steps OutOfMemory r = r

-- what is answered to a text in a mode, where that is another text in another mode
pub answer-moved : (m n : Mode) (u t : List ℕ) (r : Result Syntax Error) → u ≡ t → m ≡ n → IsWholeAnswer (whole_at m u) u r → IsWholeAnswer (whole_at n t) t r
answer-moved m n u t r text mode answer =
    subst (λ (k : Mode). IsWholeAnswer (whole_at k t) t r) mode (subst (λ v. IsWholeAnswer (whole_at m v) v r) text answer)

-- a text whose mode is that of its scan
module _ (table : Table) (o : Options) (t : List ℕ) where
  -- the mode in which the text is read
  abbrev pub text_mode : Mode
  text_mode = mode_of table o t (scanned_names table o t)

  module _ (decides : (p : Pattern) → Spells table o t p ↔ (read_pattern table o t ≡ Some p)) where
    read-spells : (p : Pattern) → whole_at text_mode t ≡ Some p → Spells table o t p
    unfolding read_pattern
    read-spells p e = (decides p).1 e

    spells-read : (p : Pattern) → Spells table o t p → whole_at text_mode t ≡ Some p
    unfolding read_pattern
    spells-read p s = (decides p).0 s

    none-spelled : whole_at text_mode t ≡ None → SpellsNone table o t
    none-spelled none p s = let some = spells-read p s in cc

    -- where the text spells none, none is read
    none-read : SpellsNone table o t → whole_at text_mode t ≡ None
    none-read none = go (whole_at text_mode t) refl
      where
        go : (x : Option Pattern) → whole_at text_mode t ≡ x → x ≡ None
        go None e = refl
        go (Some p) e = absurd (none p (read-spells p e))

    pub spelled : (s : Syntax) → IsWholeAnswer (whole_at text_mode t) t (Ok s) → Spells table o t (tree s) × WithinLimits (tree s)
    spelled s (read, within) = (read-spells (tree s) read, within)

    pub refused : (e : Error) → IsWholeAnswer (whole_at text_mode t) t (Err e) → MayRefuse table o t e
    refused (SyntaxError message) none = none-spelled none
    refused TooDeep (trees, counted) = ((λ p s. trees p (spells-read p s)), (λ none. counted (none-read none)))
    refused TooManyGroups (trees, counted) = ((λ p s. trees p (spells-read p s)), (λ none. counted (none-read none)))
    refused TooManyLoops (trees, counted) = ((λ p s. trees p (spells-read p s)), (λ none. counted (none-read none)))
    refused TooLarge r = r
    refused OutOfMemory r = r

-- a scan finds a group only at a parenthesis, and at most one

-- what a scan finds and what follows
abbrev Found : Type 0
Found = List (List ℕ) × List ℕ

opened-one : (table : Table) (named : Bool) (c : ℕ) (t : List ℕ) → length (opened_groups table named c t).0 ≤ 1
opened-one table named c t = go (c == 0x5C) (not (c == 0x28)) (not (is_at (λ d. d == 0x3F) t)) (opens_name (c ∷ t)) (name_at table (drop 2 t))
  where
    most_one : Found → Type 0
    most_one found = length found.0 ≤ 1

    go : (w x y z : Bool) (n : Option (List ℕ × List ℕ))
        → most_one (if w then ([], after_escape table named t) else if x then ([], t) else if y then ([] ∷ [], t) else if z then unwrap_or (option_map (λ (name, r). (name ∷ [], r)) n) ([], t) else ([], t))
    go true x y z n = omega arith
    go false true y z n = omega arith
    go false false true z n = omega arith
    go false false false true None = omega arith
    go false false false true (Some (name, r)) = omega arith
    go false false false false n = omega arith

opened-none : (table : Table) (named : Bool) (c : ℕ) (t : List ℕ) → (c == 0x28) ≡ false → length (opened_groups table named c t).0 ≡ 0
opened-none table named c t h = rw h (go (c == 0x5C))
  where
    none : Found → Type 0
    none found = length found.0 ≡ 0

    go : (w : Bool) → none (if w then ([], after_escape table named t) else ([], t))
    go true = refl
    go false = refl

opened-more : (table : Table) (named : Bool) (c : ℕ) (t : List ℕ) (behind : List (List ℕ)) → length behind ≤ count_by opens_group t → length ((opened_groups table named c t).0 ++ behind) ≤ count_by opens_group (c ∷ t)
opened-more table named c t behind few = go (c == 0x28) refl
  where
    go : (b : Bool) → (c == 0x28) ≡ b → length ((opened_groups table named c t).0 ++ behind) ≤ count_by opens_group (c ∷ t)
    go true e =
        let opens : opens_group c ≡ true = rw (eqb-true c 0x28 e) refl in
        let counted = count-opening opens_group c t opens in
        omega (arith, length-append (opened_groups table named c t).0 behind, opened-one table named c t, few)
    go false e = let more = count-less opens_group c t in omega (arith, length-append (opened_groups table named c t).0 behind, opened-none table named c t e, few)

scanned-few : (table : Table) (named in_class : Bool) (n : ℕ) (t : List ℕ) → length (group_names table named in_class n t) ≤ count_by opens_group t
unfolding group_names
scanned-few table named in_class n [] = omega arith
scanned-few table named in_class (suc n) (c ∷ t) = let rest = scanned-few table named in_class n t in let more = count-less opens_group c t in omega arith
scanned-few table named true zero (c ∷ t) = let rest = scanned-few table named (not (c == 0x5D)) (if c == 0x5C then 1 else 0) t in let more = count-less opens_group c t in omega arith
scanned-few table named false zero (c ∷ t) =
    let r = (opened_groups table named c t).1 in
    opened-more table named c t (group_names table named (c == 0x5B) (length t - length r) t) (scanned-few table named (c == 0x5B) (length t - length r) t)

-- more groups than there may be
pub groups-passed : (table : Table) (o : Options) (t : List ℕ) → ((p : Pattern) → Spells table o t p → scanned_names table o t ≡ names_of p) → most_groups < length (scanned_names table o t) → PassesGroups table o t
groups-passed table o t scan many =
    ((λ p s. let same = ap length (scan p s) in omega arith), (λ none. let few = scanned-few table (mode_of table o t []).named false 0 t in omega arith))
