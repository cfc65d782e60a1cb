-- No group in a spelled tree has the empty text for its name.
use Rattle.std.proofs.Common.{ℕ, List, [], length}
use Rattle.std.specs.Prelude.{◌≢◌}
use Rattle.regress_meaning.proofs.Inversion.{Gives, gives-guard, gives-map, gives-then, gives-any}
use Rattle.regress_meaning.specs.Table.{Table}
use Rattle.regress_meaning.specs.Pattern.{Pattern}
use Rattle.regress_meaning.specs.Flags.{Options}
use Rattle.regress_meaning.specs.Named.{HoldsNoEmptyName}
use Rattle.regress_meaning.specs.Tokens.{Mode, begins_name, name_point, name_rest, name_at, Escape, point, set, groups}
use Rattle.regress_meaning.specs.Grammar.{tree_of, Disjunction, one, more, Alternative, done, next, Term, start, end, boundary, no_boundary, behind, not_behind, ahead, repeated_ahead, once, quantified, Lookahead, positive, negative, Atom, dot, plain, escape, a_class, a_negated_class, group, named_group, uncaptured, atomic_group, modifiers, modifiers_off, mode_of, Spells}
use Rattle.regress_meaning.specs.Pattern.{names_of}

-- a name that is read is not empty
name_at-some : (table : Table) (t : List ℕ) → Gives (λ (p : List ℕ × List ℕ). p.0 ≢ []) (name_at table t)
unfolding name_at
name_at-some table t =
    gives-then _ (name_point t) (gives-any (name_point t)) (λ p _. gives-guard (begins_name table p.0)
    (λ e. gives-map _ (name_rest table (length p.1) p.1) (gives-any (name_rest table (length p.1) p.1)) (λ q h k. cc)))

escape-some : (e : Escape) → HoldsNoEmptyName (tree_of e)
escape-some (point c) = tt
escape-some (set s) = tt
escape-some (groups ks) = tt

mutual
  Disjunction-some : (m : Mode) {t r : List ℕ} {k l : ℕ} {p : Pattern} → Disjunction m t k p l r → HoldsNoEmptyName p
  Disjunction-some m (one h e) = Alternative-some m h
  Disjunction-some m (more h i) = (Alternative-some m h, Disjunction-some m i)

  Alternative-some : (m : Mode) {t r : List ℕ} {k l : ℕ} {p : Pattern} → Alternative m t k p l r → HoldsNoEmptyName p
  Alternative-some m (done e) = tt
  Alternative-some m (next h i) = (Term-some m h, Alternative-some m i)

  Term-some : (m : Mode) {t r : List ℕ} {k l : ℕ} {p : Pattern} → Term m t k p l r → HoldsNoEmptyName p
  Term-some m start = tt
  Term-some m end = tt
  Term-some m boundary = tt
  Term-some m no_boundary = tt
  Term-some m (behind h) = Disjunction-some m h
  Term-some m (not_behind h) = Disjunction-some m h
  Term-some m (ahead h n) = Lookahead-some m h
  Term-some m (repeated_ahead un h e le) = Lookahead-some m h
  Term-some m (once h n) = Atom-some m h
  Term-some m (quantified h e le) = Atom-some m h

  Lookahead-some : (m : Mode) {t r : List ℕ} {k l : ℕ} {p : Pattern} → Lookahead m t k p l r → HoldsNoEmptyName p
  Lookahead-some m (positive h) = Disjunction-some m h
  Lookahead-some m (negative h) = Disjunction-some m h

  Atom-some : (m : Mode) {t r : List ℕ} {k l : ℕ} {p : Pattern} → Atom m t k p l r → HoldsNoEmptyName p
  Atom-some m dot = tt
  Atom-some m (plain e) = tt
  Atom-some m (escape {e = e} n h) = escape-some e
  Atom-some m (a_class n h) = tt
  Atom-some m (a_negated_class h n) = tt
  Atom-some m (group n h) = (tt, Disjunction-some m h)
  Atom-some m (named_group {t = t} n e h) = ((name_at-some m.table t).holds e, Disjunction-some m h)
  Atom-some m (uncaptured h) = Disjunction-some m h
  Atom-some m (atomic_group h) = Disjunction-some m h
  Atom-some m (modifiers e n d h) = Disjunction-some m h
  Atom-some m (modifiers_off e f n d h) = Disjunction-some m h

pub Spells-some : (table : Table) (o : Options) (text : List ℕ) (p : Pattern) → Spells table o text p → HoldsNoEmptyName p
Spells-some table o text p h = Disjunction-some (mode_of table o text (names_of p)) h.whole
