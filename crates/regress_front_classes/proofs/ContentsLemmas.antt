-- How the contents of a class with `v` are read, and how deep they nest.
use Rattle.std.specs.Prelude.{if◌then◌else◌}
use Rattle.std.proofs.Common.{◌≡◌, ℕ, suc, zero, ◌+◌, ◌*◌, ◌<◌, ◌≤◌, Bool, true, false, not, ◌&&◌, ◌==◌, nat_le, max, List, [], ◌∷◌, ◌++◌, length, map, drop, count_by, fold, Option, Some, None, option_map, option_and_then, Result, Ok, Err, refl, sym, ap, ◌∙◌, arith, subst, length-drop, le_refl, eqb-true, ◌-◌}
use Rattle.std.proofs.Math.Nat.{le-max_left, le-max_right, max-le, le_trans}
use Rattle.std.proofs.lemmas.List.{drop-drop}
use Rattle.std.proofs.lemmas.Option.{same_Some}
use Rattle.regress_meaning.specs.Text.{is_at}
use Rattle.regress_meaning.specs.Class.{Class, no_string, range, union, intersection, difference, nested, may_hold_strings}
use Rattle.regress_meaning.specs.Pattern.{Pattern, class}
use Rattle.regress_meaning.specs.Tokens.{Mode, Reads, guard}
use Rattle.regress_meaning.specs.Grammar.{class_of}
use Rattle.regress_meaning.specs.Limits.{class_depth, depth, opens_nesting, greatest_depth}
use Rattle.regress_meaning.specs.Laws.{ContentsBySteps}
use Rattle.regress_meaning.specs.Reading.{single, no_term, of_class, class_opening}
use Rattle.regress_meaning.specs.ReadingClass.{closes_class, two_at, SetItem, one_point, any_class, item_class, read_set_character, behind_bracket, read_range, union_from, read_operand, read_intersection, read_difference, operand_at, contents_at, union_at, intersection_at, difference_at, read_class}
use Rattle.regress_front_core.specs.declared.error.Error.{Error}
use Rattle.regress_front_core.specs.declared.error.Error.TheVariants.{Syntax, TooDeep, TooManyGroups, TooManyLoops, TooLarge, OutOfMemory}
use Rattle.regress_front_tokens.specs.Cursors.{unread, SameText}
use Rattle.regress_front_tokens.specs.declared.cursor.Cursor.{Cursor}
use Rattle.regress_front_tokens.specs.Readings.{IsRead}
use Rattle.regress_front_tokens.specs.Trees.{class_view, union_of}
use Rattle.regress_front_tokens.specs.declared.syntax.Class.{Class as ClassValue}
use Rattle.regress_front_classes.specs.Classes.{boxed_view, item_view, item_depth, members_at, union_before}
use Rattle.regress_front_classes.specs.Nesting.{IsNested, IsBracketAnswer}
use Rattle.regress_meaning.proofs.Inversion.{and_then-some, map-some, guard-some}
use Rattle.regress_meaning.proofs.ReadSteps.{on_true, on_false, on_some, on_guard}
use Rattle.regress_front_tokens.proofs.CountLemmas.{count-less, count-opening}
use Rattle.regress_front_classes.proofs.ClassLemmas.{before, with_member}

-- the parts of what was read

-- the two parts of an answer
pair-some : {A : Type 0} {a b : A} {r q : List ℕ} → ◌≡◌ {A = Option (A × List ℕ)} (Some (a, r)) (Some (b, q)) → (a ≡ b) × (r ≡ q)
pair-some {a = a} {b = b} {r = r} {q = q} e = let same = same_Some (a, r) (b, q) e in (ap (λ x. x.0) same, ap (λ x. x.1) same)

-- whatever the whole gives, the part gives something, and it is no larger
abbrev pub Rests : {X Y : Type 0} → (X → ℕ) → (Y → ℕ) → Option (X × List ℕ) → Option (Y × List ℕ) → Type 0
Rests {X = X} {Y = Y} small large part whole = (y : Y) (q : List ℕ) → whole ≡ Some (y, q) → (x : X) × (p : List ℕ) × (part ≡ Some (x, p)) × (small x ≤ large y)

pub rests-there : {X Y : Type 0} {small : X → ℕ} {large : Y → ℕ} {part : Option (X × List ℕ)} {here there : Option (Y × List ℕ)} → here ≡ there → Rests small large part there → Rests small large part here
rests-there e h = λ y q k. h y q (sym e ∙ k)

pub rests-then : {X Y : Type 0} {small : X → ℕ} {large : Y → ℕ} (f : X × List ℕ → Option (Y × List ℕ)) (part : Option (X × List ℕ))
    → ((x : X × List ℕ) (y : Y) (q : List ℕ) → f x ≡ Some (y, q) → small x.0 ≤ large y) → Rests small large part (option_and_then f part)
rests-then f part h = λ y q e. let (x, read, k) = and_then-some f part e in (x.0, x.1, read, h x y q k)

rests-none : {X Y : Type 0} {small : X → ℕ} {large : Y → ℕ} {part : Option (X × List ℕ)} (whole : Option (Y × List ℕ)) → Rests small large part whole → part ≡ None → whole ≡ None
rests-none None h e = refl
rests-none (Some (y, q)) h e = let (x, p, read, deep) = h y q refl in absurd (cc)

-- What stops a part stops the whole.
pub IsNested-stopped : {A B C D : Type 0} (part : A → B) (small : B → ℕ) (whole : C → D) (large : D → ℕ) (nesting : ℕ) (there : Reads B) (here : Reads D) (t u r s : List ℕ) (e : Error)
    → Rests small large (there u) (here t) → count_by opens_nesting u ≤ count_by opens_nesting t
    → IsNested part small nesting there u (Err e) r → IsNested whole large nesting here t (Err e) s
IsNested-stopped part small whole large nesting there here t u r s (Syntax message) rests fewer h = rests-none (here t) rests h
IsNested-stopped part small whole large nesting there here t u r s TooDeep rests fewer h =
    (λ y q e. let (x, p, read, deep) = rests y q e in let over = h.0 x p read in omega arith, omega (arith, h.1))
IsNested-stopped part small whole large nesting there here t u r s OutOfMemory rests fewer h = h
IsNested-stopped part small whole large nesting there here t u r s TooManyGroups rests fewer h = h
IsNested-stopped part small whole large nesting there here t u r s TooManyLoops rests fewer h = h
IsNested-stopped part small whole large nesting there here t u r s TooLarge rests fewer h = h

-- The same where the part holds no brackets.
pub IsRead-nested : {A B C D : Type 0} (part : A → B) (whole : C → D) (large : D → ℕ) (nesting : ℕ) (there : Reads B) (here : Reads D) (t u r s : List ℕ) (e : Error)
    → (there u ≡ None → here t ≡ None) → IsRead part there u (Err e) r → IsNested whole large nesting here t (Err e) s
IsRead-nested part whole large nesting there here t u r s (Syntax message) f h = f h
IsRead-nested part whole large nesting there here t u r s OutOfMemory f h = h
IsRead-nested part whole large nesting there here t u r s TooDeep f h = absurd h
IsRead-nested part whole large nesting there here t u r s TooManyGroups f h = h
IsRead-nested part whole large nesting there here t u r s TooManyLoops f h = h
IsRead-nested part whole large nesting there here t u r s TooLarge f h = h

-- What is read there is read here.
pub IsNested-there : {A B : Type 0} (view : A → B) (size : B → ℕ) (nesting : ℕ) (here there : Reads B) (t u : List ℕ) (result : Result A Error) (r : List ℕ)
    → here t ≡ there u → count_by opens_nesting u ≤ count_by opens_nesting t → IsNested view size nesting there u result r → IsNested view size nesting here t result r
IsNested-there view size nesting here there t u (Ok x) r e fewer h = (e ∙ h.0, h.1)
IsNested-there view size nesting here there t u (Err f) r e fewer h =
    IsNested-stopped view size view size nesting there here t u r r f (λ y q k. (y, q, sym e ∙ k, le_refl (size y))) fewer h

-- The same where it holds no brackets.
pub IsNested-flat : {A B : Type 0} (view : A → B) (size : B → ℕ) (nesting : ℕ) (here there : Reads B) (t u : List ℕ) (result : Result A Error) (r : List ℕ)
    → here t ≡ there u → nesting ≤ 256 → ((x : B) (q : List ℕ) → there u ≡ Some (x, q) → size x ≡ 0) → IsRead view there u result r → IsNested view size nesting here t result r
IsNested-flat view size nesting here there t u (Ok x) r e shallow flat h = (e ∙ h, (let none = flat (view x) r h in omega arith))
IsNested-flat view size nesting here there t u (Err f) r e shallow flat h = IsRead-nested view view size nesting there here t u r r f (λ none. e ∙ none) h

-- A later place of a text has no more openings behind it.

count-drop : (test : ℕ → Bool) (n : ℕ) (xs : List ℕ) → count_by test (drop n xs) ≤ count_by test xs
count-drop test zero xs = le_refl (count_by test xs)
count-drop test (suc n) [] = le_refl 0
count-drop test (suc n) (x ∷ xs) = le_trans (count-drop test n xs) (count-less test x xs)

rear : (test : ℕ → Bool) (xs : List ℕ) (p q : ℕ) → p ≤ length xs → q ≤ length xs → length (drop q xs) ≤ length (drop p xs) → count_by test (drop q xs) ≤ count_by test (drop p xs)
rear test xs p q a b less =
    let further : p ≤ q = omega (arith, length-drop p xs, length-drop q xs) in
    let sum : p + (q - p) ≡ q = omega arith in
    let same : drop (q - p) (drop p xs) ≡ drop q xs = drop-drop (q - p) p xs ∙ ap (λ n. drop n xs) sum in
    rw (← same) (count-drop test (q - p) (drop p xs))

pub fewer : (c d : Cursor) → SameText c d → length (unread d) ≤ length (unread c) → count_by opens_nesting (unread d) ≤ count_by opens_nesting (unread c)
fewer c d kept less =
    let same : unread d ≡ drop d.position c.points.now = ap (drop d.position) kept in
    let inside : d.position ≤ length c.points.now = subst (λ xs. d.position ≤ length xs) kept d.within in
    rw same (rear opens_nesting c.points.now c.position d.position c.within inside (subst (λ xs. length xs ≤ length (unread c)) same less))

-- unions

range-depth : (m : Mode) (i : SetItem) (t : List ℕ) (a : Class) (r : List ℕ) → read_range m i t ≡ Some (a, r) → class_depth a ≡ item_depth i
unfolding read_range
range-depth m (one_point c) t a r e = go (is_at (λ c. c == 0x2D) t) e
  where
    go : (b : Bool) → ◌≡◌ {A = Option (Class × List ℕ)} (elim b [
      | true ↦ option_and_then (λ (last, s). guard (nat_le c last) (Some (range c last, s))) (read_set_character m (drop 1 t))
      | false ↦ Some (class_of c, t)
    ]) (Some (a, r)) → class_depth a ≡ 0
    go true h =
        let (x, read, k) = and_then-some _ (read_set_character m (drop 1 t)) h in
        let (ordered, given) = guard-some (nat_le c x.0) k in
        ap class_depth (sym (pair-some given).0)
    go false h = ap class_depth (sym (pair-some h).0)
range-depth m (any_class s) t a r e =
    let (none, given) = guard-some (not (is_at (λ c. c == 0x2D) t)) e in
    ap class_depth (sym (pair-some given).0)

pub union_from-is : (m : Mode) (rest : Reads Class) (i : SetItem) (t u : List ℕ) (a : Class) → read_range m i t ≡ Some (a, u) → union_from m rest i t ≡ option_map (with_member a) (rest u)
union_from-is m rest i t u a e = on_some _ e refl

union_from-deep : (m : Mode) (rest : Reads Class) (i : SetItem) (t : List ℕ) (y : Class) (q : List ℕ) → union_from m rest i t ≡ Some (y, q) → item_depth i ≤ class_depth y
union_from-deep m rest i t y q e =
    let (x, read, k) = and_then-some _ (read_range m i t) e in
    let (z, further, given) = map-some (with_member x.0) (rest x.1) k in
    let same : union x.0 z.0 ≡ y = ap (λ (w : Class × List ℕ). w.0) given in
    let first : item_depth i ≤ class_depth (union x.0 z.0) = subst (λ n. n ≤ class_depth (union x.0 z.0)) (range-depth m i t x.0 x.1 read) (le-max_left (class_depth x.0) (class_depth z.0)) in
    subst (λ k. item_depth i ≤ class_depth k) same first

before-depth : (ks : List Class) (s : Class) → class_depth s ≤ class_depth (union_before ks s)
before-depth [] s = le_refl (class_depth s)
before-depth (k ∷ ks) s = le_trans (before-depth ks s) (le-max_right (class_depth k) (class_depth (union_before ks s)))

-- what stands behind members is no deeper than all of it
pub rests-before : {X : Type 0} {small : X → ℕ} {part : Option (X × List ℕ)} (ks : List Class) {o : Option (Class × List ℕ)} → Rests small class_depth part o → Rests small class_depth part (option_map (before ks) o)
rests-before {small = small} ks {o = o} h = λ y q e.
    let (z, read, given) = map-some (before ks) o e in
    let (x, p, taken, deep) = h z.0 z.1 read in
    let same : union_before ks z.0 ≡ y = ap (λ (w : Class × List ℕ). w.0) given in
    (x, p, taken, subst (λ k. small x ≤ class_depth k) same (le_trans deep (before-depth ks z.0)))

pub union_of-depth : (ks : List Class) (a : Class) (n : ℕ) → class_depth (union_of ks) ≤ n → class_depth a ≤ n → class_depth (union_of (ks ++ a ∷ [])) ≤ n
union_of-depth [] a n h k = max-le k (omega arith)
union_of-depth (b ∷ ks) a n h k =
    max-le (le_trans (le-max_left (class_depth b) (class_depth (union_of ks))) h)
    (union_of-depth ks a n (le_trans (le-max_right (class_depth b) (class_depth (union_of ks))) h) k)

-- a member is as deep as its item
pub member-shallow : (m : Mode) (i : SetItem) (t : List ℕ) (a : Class) (r : List ℕ) (n : ℕ) → read_range m i t ≡ Some (a, r) → n + item_depth i ≤ 256 → n + class_depth a ≤ 256
member-shallow m i t a r n e h = rw (range-depth m i t a r e) h

module _ (m : Mode) (t : List ℕ) (steps : ContentsBySteps m t) where
  pub union-closes : closes_class t ≡ true → union_at m t ≡ Some (no_string, t)
  union-closes h = steps.union_step ∙ on_true _ h refl

  pub union-more : (i : SetItem) (u v : List ℕ) (a : Class) → closes_class t ≡ false → operand_at m t ≡ Some (i, u) → read_range m i u ≡ Some (a, v) → union_at m t ≡ option_map (with_member a) (union_at m v)
  union-more i u v a h e k = steps.union_step ∙ on_false _ h (on_some _ e (union_from-is m (λ v. union_at m v) i u v a k))

  pub union-rests : closes_class t ≡ false → Rests item_depth class_depth (operand_at m t) (union_at m t)
  union-rests h = rests-there (steps.union_step ∙ on_false _ h refl) (rests-then _ (operand_at m t) (λ x y q e. union_from-deep m (λ v. union_at m v) x.0 x.1 y q e))

-- what is joined is as deep as each of its parts

pub intersection-deep : (m : Mode) (n : ℕ) (a : Class) (t : List ℕ) (y : Class) (q : List ℕ) → read_intersection m n a t ≡ Some (y, q) → class_depth a ≤ class_depth y
unfolding read_operand
intersection-deep m zero a t y q e = cc
intersection-deep m (suc n) a t y q e = go (two_at 0x26 0x26 t && not (is_at (λ c. c == 0x26) (drop 2 t))) (λ z v k. intersection-deep m n z v y q k) e
  where
    last : (x : SetItem × List ℕ) (b : Bool)
        → ((z : Class) (v : List ℕ) → read_intersection m n z v ≡ Some (y, q) → class_depth z ≤ class_depth y)
        → ◌≡◌ {A = Option (Class × List ℕ)} (elim b [ true ↦ Some (intersection a (item_class x.0), x.1) | false ↦ read_intersection m n (intersection a (item_class x.0)) x.1 ]) (Some (y, q)) → class_depth a ≤ class_depth y
    last x true deeper h = subst (λ k. class_depth a ≤ class_depth k) (pair-some h).0 (le-max_left (class_depth a) (item_depth x.0))
    last x false deeper h = le_trans (le-max_left (class_depth a) (item_depth x.0)) (deeper (intersection a (item_class x.0)) x.1 h)

    go : (b : Bool)
        → ((z : Class) (v : List ℕ) → read_intersection m n z v ≡ Some (y, q) → class_depth z ≤ class_depth y)
        → ◌≡◌ {A = Option (Class × List ℕ)} (elim b [
          | true ↦ option_and_then (λ (i, u). elim (closes_class u) [
            | true ↦ Some (intersection a (item_class i), u)
            | false ↦ read_intersection m n (intersection a (item_class i)) u
          ]) (read_operand m n (drop 2 t))
          | false ↦ None
        ]) (Some (y, q)) → class_depth a ≤ class_depth y
    go true deeper h = let (x, read, k) = and_then-some _ (read_operand m n (drop 2 t)) h in last x (closes_class x.1) deeper k
    go false deeper h = cc

pub intersection_at-deep : (m : Mode) (a : Class) (t : List ℕ) (y : Class) (q : List ℕ) → intersection_at m a t ≡ Some (y, q) → class_depth a ≤ class_depth y
unfolding intersection_at
intersection_at-deep m a t y q e = intersection-deep m (2 * length t + 2) a t y q e

-- the same, once one operand more is read
intersection-last : (m : Mode) (a : Class) (i : SetItem) (u : List ℕ) (b : Bool) (y : Class) (q : List ℕ)
    → ◌≡◌ {A = Option (Class × List ℕ)} (elim b [ true ↦ Some (intersection a (item_class i), u) | false ↦ intersection_at m (intersection a (item_class i)) u ]) (Some (y, q)) → item_depth i ≤ class_depth y
intersection-last m a i u true y q h = subst (λ k. item_depth i ≤ class_depth k) (pair-some h).0 (le-max_right (class_depth a) (item_depth i))
intersection-last m a i u false y q h = le_trans (le-max_right (class_depth a) (item_depth i)) (intersection_at-deep m (intersection a (item_class i)) u y q h)

module _ (m : Mode) (t : List ℕ) (steps : ContentsBySteps m t) (a : Class) where
  pub intersection-refused : (two_at 0x26 0x26 t && not (is_at (λ c. c == 0x26) (drop 2 t))) ≡ false → intersection_at m a t ≡ None
  intersection-refused h = steps.intersection_step a ∙ on_false _ h refl

  pub intersection-more : (i : SetItem) (u : List ℕ) → (two_at 0x26 0x26 t && not (is_at (λ c. c == 0x26) (drop 2 t))) ≡ true → operand_at m (drop 2 t) ≡ Some (i, u) → closes_class u ≡ false → intersection_at m a t ≡ intersection_at m (intersection a (item_class i)) u
  intersection-more i u h e goes_on = steps.intersection_step a ∙ on_true _ h (on_some _ e (on_false _ goes_on refl))

  pub intersection-ends : (i : SetItem) (u : List ℕ) → (two_at 0x26 0x26 t && not (is_at (λ c. c == 0x26) (drop 2 t))) ≡ true → operand_at m (drop 2 t) ≡ Some (i, u) → closes_class u ≡ true → intersection_at m a t ≡ Some (intersection a (item_class i), u)
  intersection-ends i u h e closes = steps.intersection_step a ∙ on_true _ h (on_some _ e (on_true _ closes refl))

  pub intersection-rests : (two_at 0x26 0x26 t && not (is_at (λ c. c == 0x26) (drop 2 t))) ≡ true → Rests item_depth class_depth (operand_at m (drop 2 t)) (intersection_at m a t)
  intersection-rests h = rests-there (steps.intersection_step a ∙ on_true _ h refl) (rests-then _ (operand_at m (drop 2 t)) (λ x y q e. intersection-last m a x.0 x.1 (closes_class x.1) y q e))

  pub intersection-part : (whole : Option (Class × List ℕ)) (u : List ℕ) → whole ≡ intersection_at m a t → u ≡ drop 2 t → (two_at 0x26 0x26 t && not (is_at (λ c. c == 0x26) (drop 2 t))) ≡ true → Rests item_depth class_depth (operand_at m u) whole
  intersection-part whole u state e h = subst (λ v. Rests item_depth class_depth (operand_at m v) whole) (sym e) (rests-there state (intersection-rests h))

pub difference-deep : (m : Mode) (n : ℕ) (a : Class) (t : List ℕ) (y : Class) (q : List ℕ) → read_difference m n a t ≡ Some (y, q) → class_depth a ≤ class_depth y
unfolding read_operand
difference-deep m zero a t y q e = cc
difference-deep m (suc n) a t y q e = go (two_at 0x2D 0x2D t) (λ z v k. difference-deep m n z v y q k) e
  where
    last : (x : SetItem × List ℕ) (b : Bool)
        → ((z : Class) (v : List ℕ) → read_difference m n z v ≡ Some (y, q) → class_depth z ≤ class_depth y)
        → ◌≡◌ {A = Option (Class × List ℕ)} (elim b [ true ↦ Some (difference a (item_class x.0), x.1) | false ↦ read_difference m n (difference a (item_class x.0)) x.1 ]) (Some (y, q)) → class_depth a ≤ class_depth y
    last x true deeper h = subst (λ k. class_depth a ≤ class_depth k) (pair-some h).0 (le-max_left (class_depth a) (item_depth x.0))
    last x false deeper h = le_trans (le-max_left (class_depth a) (item_depth x.0)) (deeper (difference a (item_class x.0)) x.1 h)

    go : (b : Bool)
        → ((z : Class) (v : List ℕ) → read_difference m n z v ≡ Some (y, q) → class_depth z ≤ class_depth y)
        → ◌≡◌ {A = Option (Class × List ℕ)} (elim b [
          | true ↦ option_and_then (λ (i, u). elim (closes_class u) [
            | true ↦ Some (difference a (item_class i), u)
            | false ↦ read_difference m n (difference a (item_class i)) u
          ]) (read_operand m n (drop 2 t))
          | false ↦ None
        ]) (Some (y, q)) → class_depth a ≤ class_depth y
    go true deeper h = let (x, read, k) = and_then-some _ (read_operand m n (drop 2 t)) h in last x (closes_class x.1) deeper k
    go false deeper h = cc

pub difference_at-deep : (m : Mode) (a : Class) (t : List ℕ) (y : Class) (q : List ℕ) → difference_at m a t ≡ Some (y, q) → class_depth a ≤ class_depth y
unfolding difference_at
difference_at-deep m a t y q e = difference-deep m (2 * length t + 2) a t y q e

-- the same, once one operand more is read
difference-last : (m : Mode) (a : Class) (i : SetItem) (u : List ℕ) (b : Bool) (y : Class) (q : List ℕ)
    → ◌≡◌ {A = Option (Class × List ℕ)} (elim b [ true ↦ Some (difference a (item_class i), u) | false ↦ difference_at m (difference a (item_class i)) u ]) (Some (y, q)) → item_depth i ≤ class_depth y
difference-last m a i u true y q h = subst (λ k. item_depth i ≤ class_depth k) (pair-some h).0 (le-max_right (class_depth a) (item_depth i))
difference-last m a i u false y q h = le_trans (le-max_right (class_depth a) (item_depth i)) (difference_at-deep m (difference a (item_class i)) u y q h)

module _ (m : Mode) (t : List ℕ) (steps : ContentsBySteps m t) (a : Class) where
  pub difference-refused : (two_at 0x2D 0x2D t) ≡ false → difference_at m a t ≡ None
  difference-refused h = steps.difference_step a ∙ on_false _ h refl

  pub difference-more : (i : SetItem) (u : List ℕ) → (two_at 0x2D 0x2D t) ≡ true → operand_at m (drop 2 t) ≡ Some (i, u) → closes_class u ≡ false → difference_at m a t ≡ difference_at m (difference a (item_class i)) u
  difference-more i u h e goes_on = steps.difference_step a ∙ on_true _ h (on_some _ e (on_false _ goes_on refl))

  pub difference-ends : (i : SetItem) (u : List ℕ) → (two_at 0x2D 0x2D t) ≡ true → operand_at m (drop 2 t) ≡ Some (i, u) → closes_class u ≡ true → difference_at m a t ≡ Some (difference a (item_class i), u)
  difference-ends i u h e closes = steps.difference_step a ∙ on_true _ h (on_some _ e (on_true _ closes refl))

  pub difference-rests : (two_at 0x2D 0x2D t) ≡ true → Rests item_depth class_depth (operand_at m (drop 2 t)) (difference_at m a t)
  difference-rests h = rests-there (steps.difference_step a ∙ on_true _ h refl) (rests-then _ (operand_at m (drop 2 t)) (λ x y q e. difference-last m a x.0 x.1 (closes_class x.1) y q e))

  pub difference-part : (whole : Option (Class × List ℕ)) (u : List ℕ) → whole ≡ difference_at m a t → u ≡ drop 2 t → (two_at 0x2D 0x2D t) ≡ true → Rests item_depth class_depth (operand_at m u) whole
  difference-part whole u state e h = subst (λ v. Rests item_depth class_depth (operand_at m v) whole) (sym e) (rests-there state (difference-rests h))

-- one `&&` and no third mark
pub both_marks : (t u : List ℕ) → two_at 0x26 0x26 t ≡ true → u ≡ drop 2 t → is_at (λ c. c == 0x26) u ≡ false → (two_at 0x26 0x26 t && not (is_at (λ c. c == 0x26) (drop 2 t))) ≡ true
both_marks t u h e k = let none : is_at (λ c. c == 0x26) (drop 2 t) ≡ false = ap (is_at (λ c. c == 0x26)) (sym e) ∙ k in rw (h, none) refl

pub no_marks : (t : List ℕ) → two_at 0x26 0x26 t ≡ false → (two_at 0x26 0x26 t && not (is_at (λ c. c == 0x26) (drop 2 t))) ≡ false
no_marks t h = rw h refl

pub third_mark : (t u : List ℕ) → two_at 0x26 0x26 t ≡ true → u ≡ drop 2 t → is_at (λ c. c == 0x26) u ≡ true → (two_at 0x26 0x26 t && not (is_at (λ c. c == 0x26) (drop 2 t))) ≡ false
third_mark t u h e k = let more : is_at (λ c. c == 0x26) (drop 2 t) ≡ true = ap (is_at (λ c. c == 0x26)) (sym e) ∙ k in rw (h, more) refl

-- one operand more is joined

fold-end : (op : Class → Class → Class) (f : Class) (old : List ClassValue) (x : ClassValue) → fold op f (map class_view (old ++ x ∷ [])) ≡ op (fold op f (map class_view old)) (class_view x)
fold-end op f [] x = refl
fold-end op f (y ∷ ys) x = fold-end op (op f (class_view y)) ys x

pub fold-push : (op : Class → Class → Class) (f : Class) (old new : List ClassValue) (x : ClassValue) (a : Class) → new ≡ old ++ x ∷ [] → class_view x ≡ a → fold op f (map class_view new) ≡ op (fold op f (map class_view old)) a
fold-push op f old new x a e v = ap (λ xs. fold op f (map class_view xs)) e ∙ fold-end op f old x ∙ ap (op (fold op f (map class_view old))) v

pub joined-shallow : (n a b : ℕ) → n + a ≤ 256 → n + b ≤ 256 → n + max a b ≤ 256
joined-shallow n a b h k = let both : max a b ≤ 256 - n = max-le (omega arith) (omega arith) in omega arith

pub pushed-shallow : (op : Class → Class → Class) (f : Class) (old new : List ClassValue) (x : ClassValue) (a : Class) (n : ℕ) → ((b c : Class) → class_depth (op b c) ≡ max (class_depth b) (class_depth c))
    → new ≡ old ++ x ∷ [] → class_view x ≡ a → n + class_depth (fold op f (map class_view old)) ≤ 256 → n + class_depth a ≤ 256 → n + class_depth (fold op f (map class_view new)) ≤ 256
pushed-shallow op f old new x a n deep e v h k =
    let is = ap class_depth (fold-push op f old new x a e v) ∙ deep (fold op f (map class_view old)) a in
    subst (λ d. n + d ≤ 256) (sym is) (joined-shallow n (class_depth (fold op f (map class_view old))) (class_depth a) h k)

-- contents, by what stands behind their first operand

module _ (m : Mode) (t : List ℕ) (steps : ContentsBySteps m t) where
  pub contents-rests : closes_class t ≡ false → Rests item_depth class_depth (operand_at m t) (contents_at m t)
  contents-rests h = rests-there (steps.contents_step ∙ on_false _ h refl) (rests-then _ (operand_at m t) (λ x y q e. go x (two_at 0x26 0x26 x.1) (two_at 0x2D 0x2D x.1) y q e))
    where
      go : (x : SetItem × List ℕ) (a b : Bool) (y : Class) (q : List ℕ)
          → ◌≡◌ {A = Option (Class × List ℕ)} (elim a [
            | true ↦ intersection_at m (item_class x.0) x.1
            | false ↦ elim b [ true ↦ difference_at m (item_class x.0) x.1 | false ↦ union_from m (λ v. union_at m v) x.0 x.1 ]
          ]) (Some (y, q)) → item_depth x.0 ≤ class_depth y
      go x true b y q e = intersection_at-deep m (item_class x.0) x.1 y q e
      go x false true y q e = difference_at-deep m (item_class x.0) x.1 y q e
      go x false false y q e = union_from-deep m (λ v. union_at m v) x.0 x.1 y q e

  pub contents-intersection : (i : SetItem) (u : List ℕ) → closes_class t ≡ false → operand_at m t ≡ Some (i, u) → two_at 0x26 0x26 u ≡ true → contents_at m t ≡ intersection_at m (item_class i) u
  contents-intersection i u h e k = steps.contents_step ∙ on_false _ h (on_some _ e (on_true _ k refl))

  pub contents-difference : (i : SetItem) (u : List ℕ) → closes_class t ≡ false → operand_at m t ≡ Some (i, u) → two_at 0x26 0x26 u ≡ false → two_at 0x2D 0x2D u ≡ true
      → contents_at m t ≡ difference_at m (item_class i) u
  contents-difference i u h e k l = steps.contents_step ∙ on_false _ h (on_some _ e (on_false _ k (on_true _ l refl)))

  pub contents-union : (i : SetItem) (u : List ℕ) → closes_class t ≡ false → operand_at m t ≡ Some (i, u) → two_at 0x26 0x26 u ≡ false → two_at 0x2D 0x2D u ≡ false
      → contents_at m t ≡ union_from m (λ v. union_at m v) i u
  contents-union i u h e k l = steps.contents_step ∙ on_false _ h (on_some _ e (on_false _ k (on_false _ l refl)))

-- classes in brackets

-- the class of an inner bracket, where its body was read
abbrev inner : Bool → Option (Class × List ℕ) → Option (SetItem × List ℕ)
inner negated o = option_and_then (λ (s, r). guard (not (negated && may_hold_strings s)) (Some (any_class (nested negated s), r))) o

inner-none : (negated : Bool) (o : Option (Class × List ℕ)) → of_class negated o ≡ no_term → inner negated o ≡ None
inner-none negated None e = refl
inner-none negated (Some (s, r)) e = go (negated && may_hold_strings s) e
  where
    go : (b : Bool) → (if b then no_term else single (class negated s) r) ≡ no_term → guard {A = SetItem × List ℕ} (not b) (Some (any_class (nested negated s), r)) ≡ None
    go true e = refl
    go false e = cc

inner-some : (negated n : Bool) (o : Option (Class × List ℕ)) (a : Class) (q : List ℕ) → of_class negated o ≡ single (class n a) q → inner negated o ≡ Some (any_class (nested n a), q)
inner-some negated n None a q e = cc
inner-some negated n (Some (s, r)) a q e = go (negated && may_hold_strings s) e
  where
    go : (b : Bool) → (if b then no_term else single (class negated s) r) ≡ single (class n a) q → guard {A = SetItem × List ℕ} (not b) (Some (any_class (nested negated s), r)) ≡ Some (any_class (nested n a), q)
    go true e = cc
    go false e =
        let same_negated : negated ≡ n = cc in
        let same : s ≡ a = cc in
        let same_rest : r ≡ q = cc in
        rw (same_negated, same, same_rest) refl

inner-deep : (negated : Bool) (o : Option (Class × List ℕ)) (i : SetItem) (q : List ℕ) → inner negated o ≡ Some (i, q) → (p : Pattern) × (of_class negated o ≡ single p q) × (depth p ≡ item_depth i)
inner-deep negated None i q e = cc
inner-deep negated (Some (s, r)) i q e = go (negated && may_hold_strings s) e
  where
    go : (b : Bool) → guard {A = SetItem × List ℕ} (not b) (Some (any_class (nested negated s), r)) ≡ Some (i, q)
        → (p : Pattern) × ((if b then no_term else single (class negated s) r) ≡ single p q) × (depth p ≡ item_depth i)
    go true e = cc
    go false e =
        (class negated s, ap (single (class negated s)) (pair-some e).1, ap item_depth (pair-some e).0)

-- a class whose body was read is an atom, if it is not a negated one of strings

pub opened-refused : (negated : Bool) (o : Option (Class × List ℕ)) (s : Class) (r : List ℕ) → o ≡ Some (s, r) → (negated && may_hold_strings s) ≡ true → of_class negated o ≡ no_term
opened-refused negated o s r e h = ap (of_class negated) e ∙ ap (λ b. if b then no_term else single (class negated s) r) h

pub opened-single : (negated : Bool) (o : Option (Class × List ℕ)) (s : Class) (r : List ℕ) → o ≡ Some (s, r) → (negated && may_hold_strings s) ≡ false → of_class negated o ≡ single (class negated s) r
opened-single negated o s r e h = ap (of_class negated) e ∙ ap (λ b. if b then no_term else single (class negated s) r) h

-- an atom of a class is one bracket deeper than its body
pub opened-deep : (negated : Bool) (o : Option (Class × List ℕ)) (p : Pattern) (q : List ℕ) → of_class negated o ≡ single p q → (s : Class) × (o ≡ Some (s, q)) × (depth p ≡ class_depth s + 1)
opened-deep negated None p q e = cc
opened-deep negated (Some (s, r)) p q e = go (negated && may_hold_strings s) e
  where
    go : (b : Bool) → (if b then no_term else single (class negated s) r) ≡ single p q → (a : Class) × (◌≡◌ {A = Option (Class × List ℕ)} (Some (s, r)) (Some (a, q))) × (depth p ≡ class_depth a + 1)
    go true e = cc
    go false e =
        let same : class negated s ≡ p = cc in
        let same_rest : r ≡ q = cc in
        (s, ap (λ (t : List ℕ). Some (s, t)) same_rest, rw (← same) refl)

-- behind the bracket, whether a `^` stands there
pub opening-caret : (m : Mode) (t : List ℕ) → is_at (λ c. c == 0x5E) t ≡ true → class_opening m t ≡ of_class true (read_class m (drop 1 t))
unfolding class_opening
opening-caret m t h = ap (λ b. if b then of_class true (read_class m (drop 1 t)) else of_class false (read_class m t)) h

pub opening-plain : (m : Mode) (t : List ℕ) → is_at (λ c. c == 0x5E) t ≡ false → class_opening m t ≡ of_class false (read_class m t)
unfolding class_opening
opening-plain m t h = ap (λ b. if b then of_class true (read_class m (drop 1 t)) else of_class false (read_class m t)) h

pub class-sets : (m : Mode) (t : List ℕ) → m.sets ≡ true → read_class m t ≡ behind_bracket (contents_at m t)
unfolding read_class contents_at
class-sets m t h = on_true _ h refl

pub class-members : (m : Mode) (t : List ℕ) → m.sets ≡ false → read_class m t ≡ members_at m t
unfolding read_class
class-members m t h = on_false _ h refl

pub class-rests : (m : Mode) (t : List ℕ) → m.sets ≡ true → Rests class_depth class_depth (contents_at m t) (read_class m t)
class-rests m t sets = rests-there (class-sets m t sets) (rests-then _ (contents_at m t) (λ x y q e.
    let (closes, given) = guard-some (closes_class x.1) e in subst (λ k. class_depth x.0 ≤ class_depth k) (pair-some given).0 (le_refl (class_depth x.0))))

pub class-closed : (m : Mode) (t : List ℕ) (s : Class) (r : List ℕ) → m.sets ≡ true → contents_at m t ≡ Some (s, r) → closes_class r ≡ true → read_class m t ≡ Some (s, drop 1 r)
class-closed m t s r sets e closes = class-sets m t sets ∙ on_some _ e (on_guard _ closes)

pub off-right : (a b : Bool) → b ≡ false → (a && b) ≡ false
off-right true b e = e
off-right false b e = refl

-- behind a `^`, if it stands there
pub opening-is : (m : Mode) (t u : List ℕ) (negated : Bool) → negated ≡ is_at (λ c. c == 0x5E) t → u ≡ (if negated then drop 1 t else t) → class_opening m t ≡ of_class negated (read_class m u)
opening-is m t u true h e = opening-caret m t (sym h) ∙ ap (λ v. of_class true (read_class m v)) (sym e)
opening-is m t u false h e = opening-plain m t (sym h) ∙ ap (λ v. of_class false (read_class m v)) (sym e)

pub eaten-less : (b : Bool) (t u : List ℕ) → u ≡ (if b then drop 1 t else t) → length u ≤ length t
eaten-less true t u e = omega (arith, ap length e, length-drop 1 t)
eaten-less false t u e = omega (arith, ap length e)

drop-next : (t : List ℕ) → drop 2 t ≡ drop 1 (drop 1 t)
drop-next [] = refl
drop-next (c ∷ t) = refl

module _ (m : Mode) (t : List ℕ) (steps : ContentsBySteps m t) (sets : m.sets ≡ true) (bracket : is_at (λ c. c == 0x5B) t ≡ true) where
  -- an inner class is an atom of a class, nested
  operand-opening : (negated : Bool) × (o : Option (Class × List ℕ)) × (class_opening m (drop 1 t) ≡ of_class negated o) × (operand_at m t ≡ inner negated o)
  operand-opening = go (is_at (λ c. c == 0x5E) (drop 1 t)) refl
    where
      go : (b : Bool) → is_at (λ c. c == 0x5E) (drop 1 t) ≡ b → (negated : Bool) × (o : Option (Class × List ℕ)) × (class_opening m (drop 1 t) ≡ of_class negated o) × (operand_at m t ≡ inner negated o)
      go true h = (
        true,
        read_class m (drop 1 (drop 1 t)),
        opening-caret m (drop 1 t) h,
        steps.operand_step ∙ on_true _ bracket (on_true _ h (ap (inner true) (ap (λ u. behind_bracket (contents_at m u)) (drop-next t) ∙ sym (class-sets m (drop 1 (drop 1 t)) sets)))),
      )
      go false h = (
        false,
        read_class m (drop 1 t),
        opening-plain m (drop 1 t) h,
        steps.operand_step ∙ on_true _ bracket (on_false _ h (ap (inner false) (sym (class-sets m (drop 1 t) sets)))),
      )

  pub operand-none : class_opening m (drop 1 t) ≡ no_term → operand_at m t ≡ None
  operand-none e = let (negated, o, opens, is) = operand-opening in is ∙ inner-none negated o (sym opens ∙ e)

  pub operand-nested : (n : Bool) (a : Class) (q : List ℕ) → class_opening m (drop 1 t) ≡ single (class n a) q → operand_at m t ≡ Some (any_class (nested n a), q)
  operand-nested n a q e = let (negated, o, opens, is) = operand-opening in is ∙ inner-some negated n o a q (sym opens ∙ e)

  pub operand-deep : (i : SetItem) (q : List ℕ) → operand_at m t ≡ Some (i, q) → (p : Pattern) × (class_opening m (drop 1 t) ≡ single p q) × (depth p ≡ item_depth i)
  operand-deep i q e =
      let (negated, o, opens, is) = operand-opening in
      let (p, opened, deep) = inner-deep negated o i q (sym is ∙ e) in
      (p, opens ∙ opened, deep)

  pub bracket-fewer : count_by opens_nesting t ≡ suc (count_by opens_nesting (drop 1 t))
  bracket-fewer = counted t bracket
    where
      counted : (t : List ℕ) → is_at (λ c. c == 0x5B) t ≡ true → count_by opens_nesting t ≡ suc (count_by opens_nesting (drop 1 t))
      counted [] h = cc
      counted (c ∷ t) h = count-opening opens_nesting c t (rw (eqb-true c 0x5B h) refl)

-- What was answered for the inner class is what was answered for the operand.
pub bracket-refused : (m : Mode) (t : List ℕ) (steps : ContentsBySteps m t) (sets : m.sets ≡ true) (bracket : is_at (λ c. c == 0x5B) t ≡ true) (nesting : ℕ) (e : Error) (r s : List ℕ)
    → IsBracketAnswer nesting m (drop 1 t) (Err e) r → IsNested item_view item_depth nesting (operand_at m) t (Err e) s
bracket-refused m t steps sets bracket nesting (Syntax message) r s h = operand-none m t steps sets bracket h
bracket-refused m t steps sets bracket nesting TooDeep r s h = (
  λ i q e. let (p, opened, deep) = operand-deep m t steps sets bracket i q e in let over = h.0 p q opened in omega arith,
  omega (arith, h.1, bracket-fewer m t steps sets bracket),
)
bracket-refused m t steps sets bracket nesting OutOfMemory r s h = h
bracket-refused m t steps sets bracket nesting TooManyGroups r s h = h
bracket-refused m t steps sets bracket nesting TooManyLoops r s h = h
bracket-refused m t steps sets bracket nesting TooLarge r s h = h

-- What was answered for the body of a class is what was answered for the class.
pub opening-refused : (m : Mode) (t u : List ℕ) (negated : Bool) (nesting : ℕ) (e : Error) (r s : List ℕ) → class_opening m t ≡ of_class negated (read_class m u)
    → count_by opens_nesting u ≤ count_by opens_nesting t → IsNested boxed_view class_depth (nesting + 1) (read_class m) u (Err e) r → IsBracketAnswer nesting m t (Err e) s
opening-refused m t u negated nesting (Syntax message) r s opens fewer h = opens ∙ ap (of_class negated) h
opening-refused m t u negated nesting TooDeep r s opens fewer h = (
  λ p q e. let (a, read, deep) = opened-deep negated (read_class m u) p q (sym opens ∙ e) in let over = h.0 a q read in omega arith,
  omega (arith, h.1),
)
opening-refused m t u negated nesting OutOfMemory r s opens fewer h = h
opening-refused m t u negated nesting TooManyGroups r s opens fewer h = h
opening-refused m t u negated nesting TooManyLoops r s opens fewer h = h
opening-refused m t u negated nesting TooLarge r s opens fewer h = h

-- Where as many brackets are open as may be, each class nests too deeply.
pub opening-too_deep : (m : Mode) (t : List ℕ) (nesting : ℕ) (s : List ℕ) → nesting ≡ 256 → IsBracketAnswer nesting m t (Err TooDeep) s
opening-too_deep m t nesting s full = (λ p q e. go p q e (is_at (λ c. c == 0x5E) t) refl, omega arith)
  where
    go : (p : Pattern) (q : List ℕ) → class_opening m t ≡ single p q → (b : Bool) → is_at (λ c. c == 0x5E) t ≡ b → greatest_depth < nesting + depth p
    go p q e true h = let (a, read, deep) = opened-deep true (read_class m (drop 1 t)) p q (sym (opening-caret m t h) ∙ e) in omega arith
    go p q e false h = let (a, read, deep) = opened-deep false (read_class m t) p q (sym (opening-plain m t h) ∙ e) in omega arith
