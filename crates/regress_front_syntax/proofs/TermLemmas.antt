-- What is answered for a term, by its first code point.
use Rattle.std.specs.Prelude.{OnOk, if◌then◌else◌}
use Rattle.std.proofs.Common.{◌≡◌, ℕ, ◌+◌, ◌<◌, ◌≤◌, Bool, true, false, ◌&&◌, ◌==◌, List, [], ◌∷◌, length, drop, Option, Some, None, Result, Ok, Err, refl, sym, ap, ◌∙◌, subst, eqb-true, length-drop, arith}
use Rattle.regress_meaning.specs.Text.{◌∈◌, is_at}
use Rattle.regress_meaning.specs.Class as meaning
use Rattle.regress_meaning.specs.Class.{may_hold_strings}
use Rattle.regress_meaning.specs.Pattern.{Pattern, names_of, any, class, line_start, line_end, word_boundary}
use Rattle.regress_meaning.specs.Tokens.{Mode, Escape, point, set, groups, escape_at}
use Rattle.regress_meaning.specs.Grammar.{tree_of}
use Rattle.regress_meaning.specs.Laws.{LeavesLess}
use Rattle.regress_meaning.specs.Limits.{class_depth, depth, quantifiers, opens_nesting, greatest_depth}
use Rattle.regress_meaning.specs.ReadingClass.{read_class}
use Rattle.regress_meaning.specs.Reading.{Front, Opening, assertion, single, lookahead, lookbehind, group, named_group, uncaptured, atomic_group, modifiers, no_term, of_class, opening, escape_opening, class_opening, parenthesis_opening, quantified, read_term, disjunction_at, term_at}
use Rattle.regress_front_core.specs.declared.error.Error.{Error}
use Rattle.regress_front_core.specs.declared.error.Error.TheVariants.{Syntax as SyntaxError, TooDeep, TooManyGroups, TooManyLoops, TooLarge, OutOfMemory}
use Rattle.regress_front_tokens.specs.declared.escape.Escape.{Escape as EscapeValue}
use Rattle.regress_front_tokens.specs.declared.syntax.Syntax.{Syntax}
use Rattle.regress_front_tokens.specs.Escapes.{escape_view}
use Rattle.regress_front_tokens.specs.Readings.{IsRead}
use Rattle.regress_front_tokens.specs.Words.{stands_for_itself}
use Rattle.regress_front_syntax.specs.Parsing.{Place, Leads, Grows, front_to, IsRefusal, IsAnswer, IsRepetition, character_opening}
use Rattle.regress_front_classes.specs.Nesting.{IsBracketAnswer}
use Rattle.regress_front_tokens.proofs.CountLemmas.{count-opening}
use Rattle.regress_front_syntax.proofs.AnswerLemmas.{at, Leads_drop, quantified-keeps}

-- A tree without parts.
pub record IsLeaf (p : Pattern) : Type 0 where
  pub names : length (names_of p) ≡ 0
  pub deep : depth p ≡ 0
  pub loops : quantifiers p ≡ 0

pub tree_of-leaf : (e : Escape) → IsLeaf (tree_of e)
tree_of-leaf (point c) = record { names = refl; deep = refl; loops = refl }
tree_of-leaf (set s) = record { names = refl; deep = refl; loops = refl }
tree_of-leaf (groups ks) = record { names = refl; deep = refl; loops = refl }

pub leaf-grows : (n k r : ℕ) (t u : List ℕ) (p : Pattern) → IsLeaf p → n ≤ greatest_depth → Leads (at n k r t) (at n k r u) → Grows (at n k r t) (at n k r u) p
leaf-grows n k r t u p leaf shallow leads = record {
  counted = (let names = leaf.names in omega arith);
  deep = (let deep = leaf.deep in omega arith);
  loops = (let loops = leaf.loops in omega arith);
  leads = leads;
}

-- a text that begins with d
begins : (d : ℕ) (t : List ℕ) → is_at (λ c. c == d) t ≡ true → t ≡ d ∷ drop 1 t
begins d [] h = cc
begins d (c ∷ t) h = ap (λ x. x ∷ t) (eqb-true c d h)

-- what leaves no more of a smaller text leaves no more of the text
pub progress-through : {A : Type 0} (result : Result A Error) (a b c : ℕ) → b ≤ c → OnOk result (a ≤ b) → OnOk result (a ≤ c)
progress-through (Ok s) a b c less h = omega arith
progress-through (Err e) a b c less h = tt

-- an assertion without contents was read
pub assertion-answer : (n k r : ℕ) (t : List ℕ) (there : Place) (p q : Pattern) (read : Option Front) → IsLeaf p → n ≤ greatest_depth
    → read ≡ Some (record { tree = p; opened = k; rest = drop 1 t }) → q ≡ p → there.nesting ≡ n → there.opened ≡ k → there.repeated ≡ r → there.text ≡ drop 1 t
    → (read ≡ Some (front_to there q)) × Grows (at n k r t) there q
assertion-answer n k r t there p q read leaf shallow found same level opened repeated text =
    let place : there ≡ at n k r (drop 1 t) = λ i. record { nesting = level i; opened = opened i; repeated = repeated i; text = text i } in
    rw (place, same) (found, leaf-grows n k r t (drop 1 t) p leaf shallow (Leads_drop n k r t))

-- an atom without contents was read, and the quantifier behind it
pub single-answer : (n k r : ℕ) (t u : List ℕ) (there next : Place) (p q : Pattern) (read : Option Front) (result : Result Syntax Error) → Grows (at n k r t) (at n k r u) p
    → read ≡ quantified true k (record { tree = p; opened = k; rest = u }) → q ≡ p → there.nesting ≡ n → there.opened ≡ k → there.repeated ≡ r → there.text ≡ u
    → IsRepetition true k q there next result → IsAnswer (at n k r t) next read result
single-answer n k r t u there next p q read result grows found same level opened repeated text behind =
    let place : there ≡ at n k r u = λ i. record { nesting = level i; opened = opened i; repeated = repeated i; text = text i } in
    let moved : IsRepetition true k p (at n k r u) next result = rw (place, same) at behind in
    subst (λ o. IsAnswer (at n k r t) next o result) (sym found) (moved (at n k r t) grows)

-- an answer at a text, where another begins behind its mark
pub answer_behind : (mark n k r : ℕ) (t u : List ℕ) (next : Place) (read other : Option Front) (result : Result Syntax Error) → t ≡ mark ∷ u → other ≡ read
    → IsAnswer (at n k r (mark ∷ u)) next read result → IsAnswer (at n k r t) next other result
answer_behind mark n k r t u next read other result same e a = rw (same, e) a

module _ (m : Mode) (k : ℕ) (t : List ℕ) where
  term-read : (o : Opening) → opening m t ≡ o → term_at m t k ≡ read_term m (disjunction_at m) k o
  unfolding term_at
  term-read o e = ap (read_term m (disjunction_at m) k) e

  pub start-read : is_at (λ c. c == 0x5E) t ≡ true → term_at m t k ≡ Some (record { tree = line_start; opened = k; rest = drop 1 t })
  unfolding read_term opening
  start-read h = term-read _ (ap (opening m) (begins 0x5E t h))

  pub end-read : is_at (λ c. c == 0x24) t ≡ true → term_at m t k ≡ Some (record { tree = line_end; opened = k; rest = drop 1 t })
  unfolding read_term opening
  end-read h = term-read _ (ap (opening m) (begins 0x24 t h))

  pub dot-read : is_at (λ c. c == 0x2E) t ≡ true → term_at m t k ≡ quantified true k (record { tree = any; opened = k; rest = drop 1 t })
  unfolding read_term opening
  dot-read h = term-read _ (ap (opening m) (begins 0x2E t h))

  pub backslash-read : is_at (λ c. c == 0x5C) t ≡ true → term_at m t k ≡ read_term m (disjunction_at m) k (escape_opening m (drop 1 t))
  unfolding opening
  backslash-read h = term-read _ (ap (opening m) (begins 0x5C t h))

  pub bracket-read : is_at (λ c. c == 0x5B) t ≡ true → term_at m t k ≡ read_term m (disjunction_at m) k (class_opening m (drop 1 t))
  unfolding opening
  bracket-read h = term-read _ (ap (opening m) (begins 0x5B t h))

  pub parenthesis-read : is_at (λ c. c == 0x28) t ≡ true → term_at m t k ≡ read_term m (disjunction_at m) k (parenthesis_opening m (drop 1 t))
  unfolding opening
  parenthesis-read h = term-read _ (ap (opening m) (begins 0x28 t h))

  pub mark-stands : (mark : ℕ) → is_at (λ c. c == mark) t ≡ true → t ≡ mark ∷ drop 1 t
  mark-stands mark h = begins mark t h

  -- read of an escape
  pub boundary-read : is_at (λ c. c ∈ "bB") t ≡ true
      → read_term m (disjunction_at m) k (escape_opening m t) ≡ Some (record { tree = word_boundary (is_at (λ c. c == 0x42) t); opened = k; rest = drop 1 t })
  unfolding read_term escape_opening
  boundary-read h = rw h refl

  pub escape-read : (e : Escape) (u : List ℕ) → is_at (λ c. c ∈ "bB") t ≡ false → escape_at m t ≡ Some (e, u)
      → read_term m (disjunction_at m) k (escape_opening m t) ≡ quantified true k (record { tree = tree_of e; opened = k; rest = u })
  unfolding read_term escape_opening
  escape-read e u h found = rw (h, found) refl

  pub escape-refused : (here : Place) (e : Error) (u : List ℕ) → is_at (λ c. c ∈ "bB") t ≡ false → IsRead {A = EscapeValue} escape_view (escape_at m) t (Err e) u
      → IsRefusal here (read_term m (disjunction_at m) k (escape_opening m t)) e
  unfolding read_term escape_opening
  escape-refused here (SyntaxError message) u h none = rw (h, none) refl
  escape-refused here OutOfMemory u h none = tt
  escape-refused here TooDeep u h none = absurd none
  escape-refused here TooManyGroups u h none = absurd none
  escape-refused here TooManyLoops u h none = absurd none
  escape-refused here TooLarge u h none = absurd none

  -- read of a character
  pub character-read : (c : ℕ) (u : List ℕ) → stands_for_itself m.unicode t ≡ true → t ≡ c ∷ u
      → read_term m (disjunction_at m) k (character_opening m t) ≡ quantified true k (record { tree = Rattle.regress_meaning.specs.Pattern.character c; opened = k; rest = u })
  unfolding read_term
  character-read c u h same =
      let stands : stands_for_itself m.unicode (c ∷ u) ≡ true = rw same at h in
      let shown : character_opening m (c ∷ u) ≡ single (Rattle.regress_meaning.specs.Pattern.character c) u = ap (λ (b : Bool). if b then single (Rattle.regress_meaning.specs.Pattern.character c) u else no_term) stands in
      ap (λ t. read_term m (disjunction_at m) k (character_opening m t)) same ∙ ap (read_term m (disjunction_at m) k) shown

no_character : (m : Mode) (t : List ℕ) → stands_for_itself m.unicode t ≡ false → character_opening m t ≡ no_term
no_character m [] h = refl
no_character m (c ∷ t) h = ap (λ (b : Bool). if b then single (Rattle.regress_meaning.specs.Pattern.character c) t else no_term) h

pub character-refused : (m : Mode) (k : ℕ) (t : List ℕ) → stands_for_itself m.unicode t ≡ false → read_term m (disjunction_at m) k (character_opening m t) ≡ None
unfolding read_term
character-refused m k t h = ap (read_term m (disjunction_at m) k) (no_character m t h)

-- where no mark stands, a character may
character-opens : (m : Mode) (t : List ℕ) → is_at (λ c. c == 0x28) t ≡ false → is_at (λ c. c == 0x5E) t ≡ false → is_at (λ c. c == 0x24) t ≡ false → is_at (λ c. c == 0x5C) t ≡ false
    → is_at (λ c. c == 0x2E) t ≡ false → is_at (λ c. c == 0x5B) t ≡ false → opening m t ≡ character_opening m t
unfolding opening
character-opens m [] a b c d e f = refl
character-opens m (x ∷ t) a b c d e f = rw (b, c, d, e, f, a) refl

pub other-read : (m : Mode) (k : ℕ) (t : List ℕ) → is_at (λ c. c == 0x28) t ≡ false → is_at (λ c. c == 0x5E) t ≡ false → is_at (λ c. c == 0x24) t ≡ false → is_at (λ c. c == 0x5C) t ≡ false
    → is_at (λ c. c == 0x2E) t ≡ false → is_at (λ c. c == 0x5B) t ≡ false → term_at m t k ≡ read_term m (disjunction_at m) k (character_opening m t)
other-read m k t a b c d e f = term-read m k t _ (character-opens m t a b c d e f)

-- what a class begins: one atom, or nothing
abbrev OnlySingle : Opening → Type 0
OnlySingle (single p r) = Unit {0}
OnlySingle no_term = Unit {0}
OnlySingle _ = ⊥

of_class-single : (negated : Bool) (o : Option (meaning.Class × List ℕ)) → OnlySingle (of_class negated o)
of_class-single negated None = tt
of_class-single negated (Some (s, r)) = go (negated && may_hold_strings s)
  where
    go : (b : Bool) → OnlySingle (if b then no_term else single (class negated s) r)
    go true = tt
    go false = tt

class_opening-single : (m : Mode) (t : List ℕ) → OnlySingle (class_opening m t)
unfolding class_opening
class_opening-single m t = go (is_at (λ c. c == 0x5E) t)
  where
    go : (b : Bool) → OnlySingle (if b then of_class true (read_class m (drop 1 t)) else of_class false (read_class m t))
    go true = of_class-single true (read_class m (drop 1 t))
    go false = of_class-single false (read_class m t)

-- and it leaves no more than the text
of_class-less : (n : ℕ) (negated : Bool) (o : Option (meaning.Class × List ℕ)) (p : Pattern) (r : List ℕ) → ((s : meaning.Class) (u : List ℕ) → o ≡ Some (s, u) → length u ≤ n) → of_class negated o ≡ single p r → length r ≤ n
of_class-less n negated None p r less e = absurd (cc)
of_class-less n negated (Some (s, u)) p r less e = go (negated && may_hold_strings s) e
  where
    rest_of : Opening → List ℕ
    rest_of (single p r) = r
    rest_of _ = []

    go : (b : Bool) → (if b then no_term else single (class negated s) u) ≡ single p r → length r ≤ n
    go true e = absurd (cc)
    go false e = let same : u ≡ r = ap rest_of e in rw (← same) (less s u refl)

pub class_opening-less : (m : Mode) (t : List ℕ) (p : Pattern) (r : List ℕ) → ((u : List ℕ) → LeavesLess m u) → class_opening m t ≡ single p r → length r ≤ length t
unfolding class_opening
class_opening-less m t p r less e = go (is_at (λ c. c == 0x5E) t) e
  where
    go : (b : Bool) → (if b then of_class true (read_class m (drop 1 t)) else of_class false (read_class m t)) ≡ single p r → length r ≤ length t
    go true e = of_class-less (length t) true (read_class m (drop 1 t)) p r (λ s u h. let shorter = (less (drop 1 t)).class s u h in omega (arith, length-drop 1 t)) e
    go false e = of_class-less (length t) false (read_class m t) p r (λ s u h. let shorter = (less t).class s u h in omega arith) e

pub class-read : (m : Mode) (k : ℕ) (t u : List ℕ) (p : Pattern) → class_opening m t ≡ single p u → read_term m (disjunction_at m) k (class_opening m t) ≡ quantified true k (record { tree = p; opened = k; rest = u })
unfolding read_term
class-read m k t u p e = ap (read_term m (disjunction_at m) k) e

-- a class that is refused
pub class-refused : (m : Mode) (n k r : ℕ) (t u : List ℕ) (e : Error) → IsBracketAnswer n m t (Err e) u → IsRefusal (at n k r (0x5B ∷ t)) (read_term m (disjunction_at m) k (class_opening m t)) e
unfolding read_term
class-refused m n k r t u (SyntaxError message) none = rw none refl
class-refused m n k r t u TooDeep (deep, counted) =
    ((λ f e. go f (class_opening m t) refl (class_opening-single m t) e), (let mark = count-opening opens_nesting 0x5B t refl in omega arith))
  where
    go : (f : Front) (o : Opening) → class_opening m t ≡ o → OnlySingle o → read_term m (disjunction_at m) k o ≡ Some f → greatest_depth < n + depth f.tree
    go f (single p r) same only e =
        let (opened, level, loops) = (quantified-keeps true k).kept (record { tree = p; opened = k; rest = r }) f e in
        let bound = deep p r same in
        omega arith
    go f no_term same only e = absurd (cc)
    go f (assertion p r) same only e = absurd only
    go f (lookahead negated r) same only e = absurd only
    go f (lookbehind negated r) same only e = absurd only
    go f (group r) same only e = absurd only
    go f (named_group name r) same only e = absurd only
    go f (uncaptured r) same only e = absurd only
    go f (atomic_group r) same only e = absurd only
    go f (modifiers on off r) same only e = absurd only
class-refused m n k r t u OutOfMemory h = tt
class-refused m n k r t u TooManyGroups h = absurd h
class-refused m n k r t u TooManyLoops h = absurd h
class-refused m n k r t u TooLarge h = absurd h

-- a class that was read
pub class-grows : (n k r : ℕ) (t u : List ℕ) (negated : Bool) (c : meaning.Class) → n + class_depth c + 1 ≤ greatest_depth → Leads (at n k r t) (at n k r u) → Grows (at n k r t) (at n k r u) (class negated c)
class-grows n k r t u negated c deep leads = record { counted = omega arith; deep = omega arith; loops = omega arith; leads = leads }
