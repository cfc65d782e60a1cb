-- In a tree that is spelled without `v` no class has strings in it, and such a class stands for no strings but those of one
-- code point.
use Rattle.std.proofs.Common.{◌≡◌, ℕ, Bool, true, false, ◌==◌, ◌&&◌, List, [], is_some, refl}
use Rattle.std.proofs.lemmas.Bool.{and_parts}
use Rattle.regress_meaning.proofs.Inversion.{Gives, gives-none, gives-some, gives-if, gives-guard, gives-map, gives-then, gives-any}
use Rattle.regress_meaning.proofs.EscapeKinds.{HoldsOfEach, escape_at-each, class_escape_at-each}
use Rattle.regress_meaning.specs.Table.{Table}
use Rattle.regress_meaning.specs.Class.{Class, no_string, range, digits, spaces, words, property, sequences, strings, union, intersection, difference, complement, nested, value_of}
use Rattle.regress_meaning.specs.Pattern.{Pattern, names_of}
use Rattle.regress_meaning.specs.Flags.{Options}
use Rattle.regress_meaning.specs.Tokens.{Mode, class_letter, key_at, property_of, property_at, Escape, point, set, groups}
use Rattle.regress_meaning.specs.Grammar.{tree_of, member_class, Member, as_itself, escaped, Members, no_member, single, from_to, loose, ClassBody, of_members, of_contents, Disjunction, one, more, Alternative, done, next, Term, start, end, boundary, no_boundary, behind, not_behind, ahead, repeated_ahead, once, quantified, Lookahead, positive, negative, Atom, dot, plain, escape, a_class, a_negated_class, group, named_group, uncaptured, atomic_group, modifiers, modifiers_off, mode_of, Spells}
use Rattle.regress_meaning.specs.Points.{ClassHoldsNoStrings, HoldsNoStrings}

-- what an escape stands for has no strings in it
abbrev EscapeHoldsNoStrings : Escape → Type 0
EscapeHoldsNoStrings e = HoldsNoStrings (tree_of e)

class_letter-plain : (c : ℕ) → Gives ClassHoldsNoStrings (class_letter c)
class_letter-plain c =
    gives-if (c == 0x64) (λ _. gives-some tt) (λ _.
    gives-if (c == 0x44) (λ _. gives-some tt) (λ _.
    gives-if (c == 0x73) (λ _. gives-some tt) (λ _.
    gives-if (c == 0x53) (λ _. gives-some tt) (λ _.
    gives-if (c == 0x77) (λ _. gives-some tt) (λ _.
    gives-if (c == 0x57) (λ _. gives-some tt) (λ _. gives-none))))))

member_class-plain : (e : Escape) → EscapeHoldsNoStrings e → ClassHoldsNoStrings (member_class e)
member_class-plain (point c) h = tt
member_class-plain (set s) h = h
member_class-plain (groups ks) h = tt

module _ (m : Mode) (without : m.sets ≡ false) where
  property_of-plain : (key : List ℕ) → Gives ClassHoldsNoStrings (property_of m key)
  property_of-plain key = gives-if (is_some (m.table.property key)) (λ _. gives-some tt)
      (λ _. gives-guard (m.sets && is_some (m.table.sequences key))
      (λ e. let with = (and_parts m.sets (is_some (m.table.sequences key)) e).0 in cc))

  property_at-plain : (c : ℕ) (t : List ℕ) → Gives (λ (p : Class × List ℕ). ClassHoldsNoStrings p.0) (property_at m c t)
  unfolding property_at
  property_at-plain c t = gives-then _ (key_at t) (gives-any (key_at t)) (λ p k. gives-if (c == 0x70)
      (λ _. gives-map _ (property_of m p.0) (property_of-plain p.0) (λ s h. h))
      (λ _. gives-guard (is_some (m.table.property p.0)) (λ _. gives-some tt)))

  each-plain : HoldsOfEach m EscapeHoldsNoStrings
  each-plain = record {
    of_point = λ c. tt;
    of_letter = class_letter-plain;
    of_key = property_at-plain;
    of_number = λ k. tt;
    of_name = λ name. tt;
  }

  Member-plain : {t r : List ℕ} {e : Escape} → Member m t e r → ClassHoldsNoStrings (member_class e)
  Member-plain (as_itself h) = tt
  Member-plain (escaped {e = e} {t = t} h) =
      member_class-plain e ((class_escape_at-each m EscapeHoldsNoStrings each-plain t).holds h)

  Members-plain : {t r : List ℕ} {s : Class} → Members m t s r → ClassHoldsNoStrings s
  Members-plain no_member = tt
  Members-plain (single h n k) = (Member-plain h, Members-plain k)
  Members-plain (from_to h n i le k) = (tt, Members-plain k)
  Members-plain (loose un h n i p k) = (Member-plain h, (tt, (Member-plain i, Members-plain k)))

  ClassBody-plain : {t r : List ℕ} {s : Class} → ClassBody m t s r → ClassHoldsNoStrings s
  ClassBody-plain (of_members n h) = Members-plain h
  ClassBody-plain (of_contents n h) = cc

  mutual
    Disjunction-plain : {t r : List ℕ} {k l : ℕ} {p : Pattern} → Disjunction m t k p l r → HoldsNoStrings p
    Disjunction-plain (one h e) = Alternative-plain h
    Disjunction-plain (more h i) = (Alternative-plain h, Disjunction-plain i)

    Alternative-plain : {t r : List ℕ} {k l : ℕ} {p : Pattern} → Alternative m t k p l r → HoldsNoStrings p
    Alternative-plain (done e) = tt
    Alternative-plain (next h i) = (Term-plain h, Alternative-plain i)

    Term-plain : {t r : List ℕ} {k l : ℕ} {p : Pattern} → Term m t k p l r → HoldsNoStrings p
    Term-plain start = tt
    Term-plain end = tt
    Term-plain boundary = tt
    Term-plain no_boundary = tt
    Term-plain (behind h) = Disjunction-plain h
    Term-plain (not_behind h) = Disjunction-plain h
    Term-plain (ahead h n) = Lookahead-plain h
    Term-plain (repeated_ahead un h e le) = Lookahead-plain h
    Term-plain (once h n) = Atom-plain h
    Term-plain (quantified h e le) = Atom-plain h

    Lookahead-plain : {t r : List ℕ} {k l : ℕ} {p : Pattern} → Lookahead m t k p l r → HoldsNoStrings p
    Lookahead-plain (positive h) = Disjunction-plain h
    Lookahead-plain (negative h) = Disjunction-plain h

    Atom-plain : {t r : List ℕ} {k l : ℕ} {p : Pattern} → Atom m t k p l r → HoldsNoStrings p
    Atom-plain dot = tt
    Atom-plain (plain e) = tt
    Atom-plain (escape {t = t} n h) = (escape_at-each m EscapeHoldsNoStrings each-plain t).holds h
    Atom-plain (a_class n h) = ClassBody-plain h
    Atom-plain (a_negated_class h n) = ClassBody-plain h
    Atom-plain (group n h) = Disjunction-plain h
    Atom-plain (named_group n e h) = Disjunction-plain h
    Atom-plain (uncaptured h) = Disjunction-plain h
    Atom-plain (atomic_group h) = Disjunction-plain h
    Atom-plain (modifiers e n d h) = Disjunction-plain h
    Atom-plain (modifiers_off e f n d h) = Disjunction-plain h

pub Spells-plain : (table : Table) (o : Options) (text : List ℕ) (p : Pattern) → o.sets ≡ false
    → Spells table o text p → HoldsNoStrings p
Spells-plain table o text p e h = Disjunction-plain (mode_of table o text (names_of p)) e h.whole

-- such a class stands for single code points alone
pub value-plain : (table : Table) (folded : Bool) (s : Class) → ClassHoldsNoStrings s → (value_of table folded s).others ≡ []
unfolding value_of
value-plain table folded no_string h = refl
value-plain table folded (range a b) h = refl
value-plain table folded digits h = refl
value-plain table folded spaces h = refl
value-plain table folded words h = refl
value-plain table folded (property key) h = refl
value-plain table folded (sequences key) h = absurd h
value-plain table folded (strings ss) h = absurd h
value-plain table folded (union a b) h = rw (value-plain table folded a h.0, value-plain table folded b h.1) refl
value-plain table folded (intersection a b) h = rw (value-plain table folded a h.0) refl
value-plain table folded (difference a b) h = rw (value-plain table folded a h.0) refl
value-plain table folded (complement a) h = refl
value-plain table folded (nested true a) h = refl
value-plain table folded (nested false a) h = value-plain table folded a h
