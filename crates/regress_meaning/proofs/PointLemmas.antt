-- A tree that a text of code points spells holds code points alone, and its ranges are in order.
use Rattle.std.proofs.Common.{◌≡◌, ℕ, Bool, List, [], Some, All, subst, arith}
use Rattle.std.proofs.lemmas.Bool.{cond_both}
use Rattle.std.proofs.lemmas.List.Elements.{All-nil, All-cons, recursion_from_All}
use Rattle.regress_meaning.specs.Text.{span}
use Rattle.regress_meaning.specs.Table.{Table}
use Rattle.regress_meaning.specs.TableParts.{is_code_point}
use Rattle.regress_meaning.specs.Class.{Class}
use Rattle.regress_meaning.specs.Pattern.{Pattern, names_of}
use Rattle.regress_meaning.specs.Flags.{Options}
use Rattle.regress_meaning.specs.Tokens.{Mode, Bounds, bounds_at, Escape, point, set, groups}
use Rattle.regress_meaning.specs.Grammar.{greedy_at, after_mark, is_flag, member_class, Member, as_itself, escaped, Members, no_member, single, from_to, loose, SetCharacter, bare, backspace, punctuator, of_escape, SetString, no_more, and_then, SetStrings, last_string, more_strings, Operand, one_character, of_class, of_strings, inner, inner_negated, Contents, of_union, of_intersection, of_difference, Union, union_end, union_range, union_operand, Intersection, last_and, more_and, Difference, last_minus, more_minus, ClassBody, of_members, of_contents, Disjunction, one, more, Alternative, done, next, Term, start, end, boundary, no_boundary, behind, not_behind, ahead, repeated_ahead, once, quantified, Lookahead, positive, negative, Atom, dot, plain, escape, a_class, a_negated_class, group, named_group, uncaptured, atomic_group, modifiers, modifiers_off, mode_of, Spells}
use Rattle.regress_meaning.specs.Points.{ClassIsOfPoints, IsOfPoints}
use Rattle.regress_meaning.proofs.PointWords.{ArePoints, EscapeIsOfPoints, drop-points, span-points, bounds-points, name-points, escape_at-points, class_escape_at-points}

-- what is known of something read, and of the text behind the mark that ends it
past_one : {A B C : Type 0} → A × (B × C) → A × C
past_one h = (h.0, h.1.1)

member_class-points : (e : Escape) → EscapeIsOfPoints e → ClassIsOfPoints (member_class e)
member_class-points (point c) h = (omega arith, h)
member_class-points (set s) h = h
member_class-points (groups ks) h = tt

Member-points : (m : Mode) {t r : List ℕ} {e : Escape} → ArePoints t → Member m t e r → EscapeIsOfPoints e × ArePoints r
Member-points m a (as_itself h) = a
Member-points m a (escaped {t = t} h) = (class_escape_at-points m t a.1).holds h

Members-points : (m : Mode) {t r : List ℕ} {s : Class} → ArePoints t → Members m t s r → ClassIsOfPoints s × ArePoints r
Members-points m a no_member = (tt, a.1)
Members-points m a (single {e = e} h n k) =
    let first = Member-points m a h in
    let rest = Members-points m first.1 k in
    ((member_class-points e first.0, rest.0), rest.1)
Members-points m a (from_to h n i le k) =
    let low = Member-points m a h in
    let high = Member-points m low.1.1 i in
    let rest = Members-points m high.1 k in
    (((le, high.0), rest.0), rest.1)
Members-points m a (loose {d = d} {e = e} un h n i p k) =
    let first = Member-points m a h in
    let second = Member-points m first.1.1 i in
    let rest = Members-points m second.1 k in
    ((member_class-points d first.0, ((omega arith, omega arith), (member_class-points e second.0, rest.0))), rest.1)

SetCharacter-points : (m : Mode) {t r : List ℕ} {c : ℕ} → ArePoints t → SetCharacter m t c r → is_code_point c × ArePoints r
SetCharacter-points m a (bare h k) = a
SetCharacter-points m a backspace = (omega arith, a.1.1)
SetCharacter-points m a (punctuator h) = a.1
SetCharacter-points m a (of_escape {t = t} h) = (escape_at-points m t a.1).holds h

SetString-points : (m : Mode) {t r cs : List ℕ} → ArePoints t → SetString m t cs r → All is_code_point cs × ArePoints r
SetString-points m a (no_more h) = (All-nil is_code_point, a)
SetString-points m a (and_then {cs = cs} {c = c} h k) =
    let first = SetCharacter-points m a h in
    let rest = SetString-points m first.1 k in
    (All-cons is_code_point c cs first.0 rest.0, rest.1)

SetStrings-points : (m : Mode) {t r : List ℕ} {ss : List (List ℕ)} → ArePoints t → SetStrings m t ss r → All (All is_code_point) ss × ArePoints r
SetStrings-points m a (last_string {cs = cs} h) =
    let first = SetString-points m a h in
    (All-cons (All is_code_point) cs [] first.0 (All-nil (All is_code_point)), first.1.1)
SetStrings-points m a (more_strings {cs = cs} {ss = ss} h k) =
    let first = SetString-points m a h in
    let rest = SetStrings-points m first.1.1 k in
    (All-cons (All is_code_point) cs ss first.0 rest.0, rest.1)

mutual
  Operand-points : (m : Mode) {t r : List ℕ} {s : Class} → ArePoints t → Operand m t s r → ClassIsOfPoints s × ArePoints r
  Operand-points m a (one_character h) =
      let first = SetCharacter-points m a h in
      ((omega arith, first.0), first.1)
  Operand-points m a (of_class {t = t} h) = (escape_at-points m t a.1).holds h
  Operand-points m a (of_strings h) = SetStrings-points m a.1.1.1 h
  Operand-points m a (inner n h) = past_one (Contents-points m a.1 h)
  Operand-points m a (inner_negated h n) = past_one (Contents-points m a.1.1 h)

  Contents-points : (m : Mode) {t r : List ℕ} {s : Class} → ArePoints t → Contents m t s r → ClassIsOfPoints s × ArePoints r
  Contents-points m a (of_union h) = Union-points m a h
  Contents-points m a (of_intersection h k) =
      let first = Operand-points m a h in
      Intersection-points m first.0 first.1 k
  Contents-points m a (of_difference h k) =
      let first = Operand-points m a h in
      Difference-points m first.0 first.1 k

  Union-points : (m : Mode) {t r : List ℕ} {s : Class} → ArePoints t → Union m t s r → ClassIsOfPoints s × ArePoints r
  Union-points m a union_end = (tt, a)
  Union-points m a (union_range h i le k) =
      let low = SetCharacter-points m a h in
      let high = SetCharacter-points m low.1.1 i in
      let rest = Union-points m high.1 k in
      (((le, high.0), rest.0), rest.1)
  Union-points m a (union_operand h n k) =
      let first = Operand-points m a h in
      let rest = Union-points m first.1 k in
      ((first.0, rest.0), rest.1)

  Intersection-points : (m : Mode) {joined : Class} {t r : List ℕ} {s : Class} → ClassIsOfPoints joined → ArePoints t
      → Intersection m joined t s r → ClassIsOfPoints s × ArePoints r
  Intersection-points m j a (last_and n h) =
      let last = Operand-points m a.1.1 h in
      ((j, last.0), last.1)
  Intersection-points m j a (more_and n h k) =
      let first = Operand-points m a.1.1 h in
      Intersection-points m (j, first.0) first.1 k

  Difference-points : (m : Mode) {joined : Class} {t r : List ℕ} {s : Class} → ClassIsOfPoints joined → ArePoints t
      → Difference m joined t s r → ClassIsOfPoints s × ArePoints r
  Difference-points m j a (last_minus h) =
      let last = Operand-points m a.1.1 h in
      ((j, last.0), last.1)
  Difference-points m j a (more_minus h k) =
      let first = Operand-points m a.1.1 h in
      Difference-points m (j, first.0) first.1 k

ClassBody-points : (m : Mode) {t r : List ℕ} {s : Class} → ArePoints t → ClassBody m t s r → ClassIsOfPoints s × ArePoints r
ClassBody-points m a (of_members n h) = Members-points m a h
ClassBody-points m a (of_contents n h) = past_one (Contents-points m a h)

-- what a span leaves, given by an equation
span-rest : (test : ℕ → Bool) (t : List ℕ) {front r : List ℕ} → ArePoints t → span test t ≡ (front, r) → ArePoints r
span-rest test t a e = subst (λ p. ArePoints p.1) e (span-points test t a).1

after_mark-points : (t : List ℕ) → ArePoints t → ArePoints (after_mark t)
after_mark-points t a = cond_both (greedy_at t) _ _ ArePoints (λ _. a) (λ _. drop-points 1 t a)

-- what a quantifier leaves, given by an equation
bounds-rest : (t : List ℕ) {b : Bounds} {r : List ℕ} → ArePoints t → bounds_at t ≡ Some (b, r) → ArePoints (after_mark r)
bounds-rest t {r = r} a e = after_mark-points r ((bounds-points t a).holds e).1

mutual
  Disjunction-points : (m : Mode) {t r : List ℕ} {k l : ℕ} {p : Pattern} → ArePoints t → Disjunction m t k p l r → IsOfPoints p × ArePoints r
  Disjunction-points m a (one h e) = Alternative-points m a h
  Disjunction-points m a (more h i) =
      let first = Alternative-points m a h in
      let rest = Disjunction-points m first.1.1 i in
      ((first.0, rest.0), rest.1)

  Alternative-points : (m : Mode) {t r : List ℕ} {k l : ℕ} {p : Pattern} → ArePoints t → Alternative m t k p l r → IsOfPoints p × ArePoints r
  Alternative-points m a (done e) = (tt, a)
  Alternative-points m a (next h i) =
      let first = Term-points m a h in
      let rest = Alternative-points m first.1 i in
      ((first.0, rest.0), rest.1)

  Term-points : (m : Mode) {t r : List ℕ} {k l : ℕ} {p : Pattern} → ArePoints t → Term m t k p l r → IsOfPoints p × ArePoints r
  Term-points m a start = (tt, a.1)
  Term-points m a end = (tt, a.1)
  Term-points m a boundary = (tt, a.1.1)
  Term-points m a no_boundary = (tt, a.1.1)
  Term-points m a (behind h) = past_one (Disjunction-points m a.1.1.1.1 h)
  Term-points m a (not_behind h) = past_one (Disjunction-points m a.1.1.1.1 h)
  Term-points m a (ahead h n) = Lookahead-points m a h
  Term-points m a (repeated_ahead {u = u} un h e le) =
      let body = Lookahead-points m a h in
      (body.0, bounds-rest u body.1 e)
  Term-points m a (once h n) = Atom-points m a h
  Term-points m a (quantified {u = u} h e le) =
      let body = Atom-points m a h in
      (body.0, bounds-rest u body.1 e)

  Lookahead-points : (m : Mode) {t r : List ℕ} {k l : ℕ} {p : Pattern} → ArePoints t → Lookahead m t k p l r → IsOfPoints p × ArePoints r
  Lookahead-points m a (positive h) = past_one (Disjunction-points m a.1.1.1 h)
  Lookahead-points m a (negative h) = past_one (Disjunction-points m a.1.1.1 h)

  Atom-points : (m : Mode) {t r : List ℕ} {k l : ℕ} {p : Pattern} → ArePoints t → Atom m t k p l r → IsOfPoints p × ArePoints r
  Atom-points m a dot = (tt, a.1)
  Atom-points m a (plain e) = a
  Atom-points m a (escape {t = t} n h) = (escape_at-points m t a.1).holds h
  Atom-points m a (a_class n h) = ClassBody-points m a.1 h
  Atom-points m a (a_negated_class h n) = ClassBody-points m a.1.1 h
  Atom-points m a (group n h) =
      let held = past_one (Disjunction-points m a.1 h) in
      ((tt, held.0), held.1)
  Atom-points m a (named_group {t = t} n e h) =
      let name = (name-points m.table t a.1.1.1).holds e in
      let held = past_one (Disjunction-points m name.1 h) in
      ((name.0, held.0), held.1)
  Atom-points m a (uncaptured h) = past_one (Disjunction-points m a.1.1.1 h)
  Atom-points m a (atomic_group h) = past_one (Disjunction-points m a.1.1.1 h)
  Atom-points m a (modifiers {t = t} e n d h) = past_one (Disjunction-points m (span-rest is_flag t a.1.1 e).1 h)
  Atom-points m a (modifiers_off {t = t} {u = u} e f n d h) =
      past_one (Disjunction-points m (span-rest is_flag u (span-rest is_flag t a.1.1 e).1 f).1 h)

pub Spells-points : (table : Table) (o : Options) (text : List ℕ) (p : Pattern) → All is_code_point text → Spells table o text p → IsOfPoints p
Spells-points table o text p a h =
    (Disjunction-points (mode_of table o text (names_of p)) (recursion_from_All is_code_point text a) h.whole).0
