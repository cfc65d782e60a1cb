-- The names of the groups in a spelled tree are of code points that may stand in a name.
use Rattle.std.proofs.Common.{◌≡◌, ℕ, zero, suc, true, ◌==◌, ◌||◌, List, [], ◌∷◌, ◌++◌, length, All}
use Rattle.std.proofs.lemmas.Bool.{or_left}
use Rattle.std.proofs.lemmas.List.Elements.{All-nil, All-cons, All-append}
use Rattle.regress_meaning.proofs.Inversion.{Gives, gives-none, gives-some, gives-if, gives-guard, gives-map, gives-then, gives-any}
use Rattle.regress_meaning.specs.Text.{is_at}
use Rattle.regress_meaning.specs.Table.{Table}
use Rattle.regress_meaning.specs.Pattern.{Pattern, names_of}
use Rattle.regress_meaning.specs.Flags.{Options}
use Rattle.regress_meaning.specs.Tokens.{Mode, begins_name, continues_name, name_point, name_rest, name_at, Escape, point, set, groups}
use Rattle.regress_meaning.specs.Grammar.{tree_of, Disjunction, one, more, Alternative, done, next, Term, start, end, boundary, no_boundary, behind, not_behind, ahead, repeated_ahead, once, quantified, Lookahead, positive, negative, Atom, dot, plain, escape, a_class, a_negated_class, group, named_group, uncaptured, atomic_group, modifiers, modifiers_off, mode_of, Spells}

-- each code point may stand in a name
abbrev IsName : Table → List ℕ → Type 0
IsName table name = All (λ c. continues_name table c ≡ true) name

-- and so in each of these
abbrev AreNames : Table → List (List ℕ) → Type 0
AreNames table names = All (IsName table) names

no_names : (table : Table) → AreNames table []
no_names table = All-nil (IsName table)

one_more : (table : Table) (name : List ℕ) (names : List (List ℕ)) → IsName table name → AreNames table names
    → AreNames table (name ∷ names)
one_more table name names h k = All-cons (IsName table) name names h k

both : (table : Table) (xs ys : List (List ℕ)) → AreNames table xs → AreNames table ys → AreNames table (xs ++ ys)
both table xs ys h k = All-append (IsName table) xs ys h k

-- what may begin a name may stand in it
pub begins-continues : (table : Table) (c : ℕ) → begins_name table c ≡ true → continues_name table c ≡ true
begins-continues table c e =
    or_left (begins_name table c || table.is_id_continue c || c == 0x200C) (c == 0x200D)
    (or_left (begins_name table c || table.is_id_continue c) (c == 0x200C)
    (or_left (begins_name table c) (table.is_id_continue c) e))

name_rest-names : (table : Table) (n : ℕ) (t : List ℕ) → Gives (λ (p : List ℕ × List ℕ). IsName table p.0) (name_rest table n t)
unfolding name_rest
name_rest-names table zero t = gives-none
name_rest-names table (suc n) t =
    gives-if (is_at (λ d. d == 0x3E) t) (λ _. gives-some (All-nil (λ c. continues_name table c ≡ true)))
    (λ _. gives-then _ (name_point t) (gives-any (name_point t)) (λ p _. gives-guard (continues_name table p.0)
    (λ e. gives-map _ (name_rest table n p.1) (name_rest-names table n p.1)
    (λ q h. All-cons (λ c. continues_name table c ≡ true) p.0 q.0 e h))))

name_at-names : (table : Table) (t : List ℕ) → Gives (λ (p : List ℕ × List ℕ). IsName table p.0) (name_at table t)
unfolding name_at
name_at-names table t =
    gives-then _ (name_point t) (gives-any (name_point t)) (λ p _. gives-guard (begins_name table p.0)
    (λ e. gives-map _ (name_rest table (length p.1) p.1) (name_rest-names table (length p.1) p.1)
    (λ q h. All-cons (λ c. continues_name table c ≡ true) p.0 q.0 (begins-continues table p.0 e) h)))

escape-names : (table : Table) (e : Escape) → AreNames table (names_of (tree_of e))
escape-names table (point c) = no_names table
escape-names table (set s) = no_names table
escape-names table (groups ks) = no_names table

mutual
  Disjunction-names : (m : Mode) {t r : List ℕ} {k l : ℕ} {p : Pattern} → Disjunction m t k p l r → AreNames m.table (names_of p)
  Disjunction-names m (one h e) = Alternative-names m h
  Disjunction-names m (more {p = p} {q = q} h i) =
      both m.table (names_of p) (names_of q) (Alternative-names m h) (Disjunction-names m i)

  Alternative-names : (m : Mode) {t r : List ℕ} {k l : ℕ} {p : Pattern} → Alternative m t k p l r → AreNames m.table (names_of p)
  Alternative-names m (done e) = no_names m.table
  Alternative-names m (next {p = p} {q = q} h i) =
      both m.table (names_of p) (names_of q) (Term-names m h) (Alternative-names m i)

  Term-names : (m : Mode) {t r : List ℕ} {k l : ℕ} {p : Pattern} → Term m t k p l r → AreNames m.table (names_of p)
  Term-names m start = no_names m.table
  Term-names m end = no_names m.table
  Term-names m boundary = no_names m.table
  Term-names m no_boundary = no_names m.table
  Term-names m (behind h) = Disjunction-names m h
  Term-names m (not_behind h) = Disjunction-names m h
  Term-names m (ahead h n) = Lookahead-names m h
  Term-names m (repeated_ahead un h e le) = Lookahead-names m h
  Term-names m (once h n) = Atom-names m h
  Term-names m (quantified h e le) = Atom-names m h

  Lookahead-names : (m : Mode) {t r : List ℕ} {k l : ℕ} {p : Pattern} → Lookahead m t k p l r → AreNames m.table (names_of p)
  Lookahead-names m (positive h) = Disjunction-names m h
  Lookahead-names m (negative h) = Disjunction-names m h

  Atom-names : (m : Mode) {t r : List ℕ} {k l : ℕ} {p : Pattern} → Atom m t k p l r → AreNames m.table (names_of p)
  Atom-names m dot = no_names m.table
  Atom-names m (plain e) = no_names m.table
  Atom-names m (escape {e = e} n h) = escape-names m.table e
  Atom-names m (a_class n h) = no_names m.table
  Atom-names m (a_negated_class h n) = no_names m.table
  Atom-names m (group {p = p} n h) =
      one_more m.table [] (names_of p) (All-nil (λ c. continues_name m.table c ≡ true)) (Disjunction-names m h)
  Atom-names m (named_group {t = t} {name = name} {p = p} n e h) =
      one_more m.table name (names_of p) ((name_at-names m.table t).holds e) (Disjunction-names m h)
  Atom-names m (uncaptured h) = Disjunction-names m h
  Atom-names m (atomic_group h) = Disjunction-names m h
  Atom-names m (modifiers e n d h) = Disjunction-names m h
  Atom-names m (modifiers_off e f n d h) = Disjunction-names m h

pub Spells-names : (table : Table) (o : Options) (text : List ℕ) (p : Pattern) → Spells table o text p
    → All (All (λ c. continues_name table c ≡ true)) (names_of p)
Spells-names table o text p h = Disjunction-names (mode_of table o text (names_of p)) h.whole
