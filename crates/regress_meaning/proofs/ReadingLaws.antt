-- The reading function decides the grammar, and a text spells at most one tree.
use Rattle.std.proofs.lemmas.Bool.{and_parts}
use Rattle.std.proofs.Common.{◌≡◌, ℕ, suc, ◌+◌, ◌*◌, Bool, true, false, ◌&&◌, ◌||◌, ◌==◌, ◌↔◌, List, [], ◌∷◌, length, Option, Some, refl, sym, ap, ◌∙◌, subst, eqb-true, zero-add, le_refl, suc-ne-zero}
use Rattle.regress_meaning.specs.Table.{Table}
use Rattle.regress_meaning.specs.Pattern.{Pattern, names_of}
use Rattle.regress_meaning.specs.Flags.{Options}
use Rattle.regress_meaning.specs.Grammar.{Disjunction, Spells, mode_of, names_apart}
use Rattle.regress_meaning.specs.Scan.{scanned_names}
use Rattle.regress_meaning.specs.Reading.{Front, disjunction_at, whole_tree, read_pattern}
use Rattle.regress_meaning.proofs.Inversion.{and_then-some, guard-some}
use Rattle.regress_meaning.proofs.NumberingLemmas.{Disjunction-counts}
use Rattle.regress_meaning.proofs.ScanLemmas.{names-scanned}
use Rattle.regress_meaning.proofs.ReadingSound.{read_disjunction-sound}
use Rattle.regress_meaning.proofs.ReadingComplete.{read_disjunction-complete}

-- a list of no length is empty
empty : (t : List ℕ) → (length t == 0) ≡ true → t ≡ []
empty [] h = refl
empty (c ∷ t) h = absurd (suc-ne-zero (length t) (eqb-true (suc (length t)) 0 h))

module _ (table : Table) (o : Options) (text : List ℕ) where
  -- `v` is a Unicode mode
  mode_coherent : (names : List (List ℕ)) → (mode_of table o text names).sets ≡ true → (mode_of table o text names).unicode ≡ true
  mode_coherent names h = or_right o.unicode h
    where
      or_right : (b : Bool) {c : Bool} → c ≡ true → (b || c) ≡ true
      or_right true e = refl
      or_right false e = e

  -- a derivation of the whole text, whatever names it was made with, makes the text spell the tree, if those were scanned
  spelled : (p : Pattern) (l : ℕ) → Disjunction (mode_of table o text (scanned_names table o text)) text 0 p l [] → names_apart p ≡ true → Spells table o text p
  spelled p l d h =
      let names = names-scanned table o text p (scanned_names table o text) l d in
      let counted : l ≡ length (names_of p) = Disjunction-counts (mode_of table o text (scanned_names table o text)) d ∙ zero-add (length (names_of p)) in
      let scanned : l ≡ length (scanned_names table o text) = counted ∙ ap length names in
      record { whole = rw (names, ← scanned) d; apart = h }

  whole-spelled : (f : Front) (p : Pattern) → Disjunction (mode_of table o text (scanned_names table o text)) text 0 f.tree f.opened f.rest → whole_tree f ≡ Some p → Spells table o text p
  unfolding whole_tree
  whole-spelled f p d e =
      let (test, given) = guard-some (length f.rest == 0 && names_apart f.tree) e in
      let (ended, apart) = and_parts (length f.rest == 0) (names_apart f.tree) test in
      let same : f.tree ≡ p = cc in
      subst (Spells table o text) same (spelled f.tree f.opened (rw (empty f.rest ended) at d) apart)

  -- What is read is spelled.
  pub read_pattern-sound : (p : Pattern) → read_pattern table o text ≡ Some p → Spells table o text p
  unfolding read_pattern disjunction_at
  read_pattern-sound p e =
      let m = mode_of table o text (scanned_names table o text) in
      let (f, taken, whole) = and_then-some whole_tree (disjunction_at m text 0) e in
      whole-spelled f p (read_disjunction-sound m (3 * length text + 3) text 0 f taken) whole

  -- What is spelled is read.
  pub read_pattern-complete : (p : Pattern) → Spells table o text p → read_pattern table o text ≡ Some p
  unfolding read_pattern whole_tree disjunction_at
  read_pattern-complete p s =
      let names = names-scanned table o text p (names_of p) (length (names_of p)) s.whole in
      let d = rw names at s.whole in
      rw (read_disjunction-complete (mode_of table o text (scanned_names table o text)) (mode_coherent (scanned_names table o text)) (3 * length text + 3) (le_refl (3 * length text + 3)) d, s.apart) refl

  pub read_pattern-decides : (p : Pattern) → Spells table o text p ↔ (read_pattern table o text ≡ Some p)
  read_pattern-decides p = (read_pattern-complete p, read_pattern-sound p)

  -- A text spells at most one tree.
  pub one_tree : (p q : Pattern) → Spells table o text p → Spells table o text q → p ≡ q
  one_tree p q s u = let same : ◌≡◌ {A = Option Pattern} (Some p) (Some q) = sym (read_pattern-complete p s) ∙ read_pattern-complete q u in cc

  pub names-spelled : (p : Pattern) → Spells table o text p → scanned_names table o text ≡ names_of p
  names-spelled p s = sym (names-scanned table o text p (names_of p) (length (names_of p)) s.whole)
