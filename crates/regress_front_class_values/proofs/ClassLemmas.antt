-- Sets and strings that classes stand for.
use Rattle.std.proofs.Common.{◌≡◌, ℕ, ◌+◌, ◌<◌, Bool, true, false, not, cond, ◌&&◌, ◌||◌, ◌==◌, List, [], ◌∷◌, ◌++◌, length, take, get_or, filter, All, refl, sym, ap, subst, ◌∙◌, inl, inr, arith, Vec, Global, Some, append-nil}
use Rattle.std.proofs.Math.Path.{fun_ext}
use Rattle.std.specs.List.{list_any}
use Rattle.std.proofs.lemmas.Bool.{and_parts, eqb-true, cases_Bool, or_cases, false≢true, and_right, cond-false, cond-true, or_right, and_from, eq-eqb, agree_below_at}
use Rattle.std.proofs.lemmas.Bool.Decides.{nat_tests}
use Rattle.std.proofs.lemmas.List.{take_more, map-append, get_or-map, length-map}
use Rattle.std.proofs.lemmas.List.Elements.{filter-append, All-get_or, All-head, All-tail}
use Rattle.std.specs.Ordering.{is_eq}
use Rattle.std.proofs.lemmas.Map.Text.{is_eq-slice_cmp}
use Rattle.std.proofs.lemmas.List.Folds.{list_any-append}
use Rattle.regress_meaning.specs.Text.{between, same_text}
use Rattle.regress_meaning.specs.Table.{closure}
use Rattle.regress_meaning.specs.TableParts.{in_intervals, is_code_point, entry, ascii_lower}
use Rattle.regress_meaning.specs.Class.{Strings, among, of_list, only, is_ascii_word, is_word}
use Rattle.regress_front_tables.specs.declared.tables.Tables.{Tables}
use Rattle.regress_front_tables.specs.TableViews.{table}
use Rattle.regress_front_sets.specs.declared.interval.Interval.{Interval}
use Rattle.regress_front_sets.specs.declared.code_point_set.CodePointSet.{CodePointSet}
use Rattle.regress_front_sets.specs.Intervals.{ends_of}
use Rattle.regress_front_sets.specs.Sets.{in_set}
use Rattle.regress_front_class_values.specs.ClassValues.{lists, by_order}
use Rattle.std.proofs.Math.Bool.{or-false, and-true}
use Rattle.regress_meaning.proofs.TableLemmas.{same_bool, some_below-from, some_below-true}

-- ---- sets

-- what is no member of the complement of one set, and of another
pub difference-by_complements : (a b inside : Bool) → (a ≡ true → inside ≡ true) → (inside && not ((inside && not a) || b)) ≡ (a && not b)
difference-by_complements true b inside h = rw (h refl) refl
difference-by_complements false b true h = refl
difference-by_complements false b false h = refl

-- what is a member of one set, and no member of the complement of another
pub intersection-by_complement : (a b inside : Bool) → (a ≡ true → inside ≡ true) → (a && not (inside && not b)) ≡ (a && b)
intersection-by_complement true true inside h = rw (h refl) refl
intersection-by_complement true false inside h = rw (h refl) refl
intersection-by_complement false b inside h = refl

-- ---- strings, as lists of code points

one_more : (l : List ℕ) (d : ℕ) → length l ≡ 1 → l ≡ get_or l 0 d ∷ []
one_more [] d h = absurd (omega arith)
one_more (x ∷ []) d h = refl
one_more (x ∷ y ∷ l) d h = absurd (omega arith)

same_text-long : (c : ℕ) (s : List ℕ) → (length s == 1) ≡ false → same_text (c ∷ []) s ≡ false
same_text-long c [] h = refl
same_text-long c (x ∷ []) h = absurd (false≢true (sym h))
same_text-long c (x ∷ y ∷ s) h = and_right _ _ refl

-- one more string of one code point
pub of_list-single : (ss : List (List ℕ)) (s : List ℕ) (test : ℕ → Bool) (d : ℕ) → length s ≡ 1 → ((c : ℕ) → test c ≡ ((of_list ss).singles c || (c == get_or s 0 d)))
    → ◌≡◌ {A = Strings} (record { singles = test; others = (of_list ss).others }) (of_list (ss ++ s ∷ []))
of_list-single ss s test d one h =
    let is = one_more s d one in
    let single : (c : ℕ) → test c ≡ (of_list (ss ++ s ∷ [])).singles c = λ c.
    h c ∙ ap (λ b. among ss (c ∷ []) || b) (sym (or-false _ ∙ ap (same_text (c ∷ [])) is ∙ and-true _)) ∙ sym (list_any-append (same_text (c ∷ [])) ss (s ∷ [])) in
    let others : (of_list ss).others ≡ (of_list (ss ++ s ∷ [])).others = sym (filter-append (λ s. not (length s == 1)) ss (s ∷ []) ∙ rw one (append-nil _)) in
    λ i. record { singles = fun_ext single i; others = others i }

-- one more string of another length
pub of_list-other : (ss : List (List ℕ)) (s : List ℕ) → (length s == 1) ≡ false
    → ◌≡◌ {A = Strings} (record { singles = (of_list ss).singles; others = (of_list ss).others ++ s ∷ [] }) (of_list (ss ++ s ∷ []))
of_list-other ss s long =
    let single : (c : ℕ) → (of_list ss).singles c ≡ (of_list (ss ++ s ∷ [])).singles c = λ c.
    sym (list_any-append (same_text (c ∷ [])) ss (s ∷ []) ∙ rw (same_text-long c s long) (or-false _)) in
    let others : (of_list ss).others ++ s ∷ [] ≡ (of_list (ss ++ s ∷ [])).others = sym (filter-append (λ s. not (length s == 1)) ss (s ∷ []) ∙ rw long refl) in
    λ i. record { singles = fun_ext single i; others = others i }

-- a string more at the end of those taken
pub lists-more : (strings : List (Vec ℕ Global)) (k : ℕ) (s : Vec ℕ Global) → k < length strings → s ≡ get_or strings k s → lists (take (k + 1) strings) ≡ lists (take k strings) ++ s.items ∷ []
lists-more strings k s inside is =
    ap lists (take_more strings k s inside ∙ ap (λ (s : Vec ℕ Global). take k strings ++ s ∷ []) (sym is)) ∙ map-append (λ (s : Vec ℕ Global). s.items) (take k strings) (s ∷ [])

-- a test of strings, and the same of them as lists
pub among-lists : (strings : List (Vec ℕ Global)) (s : List ℕ) → list_any (λ (t : Vec ℕ Global). same_text s t.items) strings ≡ among (lists strings) s
among-lists [] s = refl
among-lists (t ∷ strings) s = ap (λ b. same_text s t.items || b) (among-lists strings s)

-- a string is found by order among strings exactly if it stands among them
pub member-among : (s : Vec ℕ Global) (strings : List (Vec ℕ Global)) → list_any (λ (t : Vec ℕ Global). is_eq (by_order s t)) strings ≡ among (lists strings) s.items
member-among s [] = refl
member-among s (t ∷ strings) = rw (is_eq-slice_cmp s.items t.items) (ap (λ b. same_text s.items t.items || b) (member-among s strings))

-- what passes of strings, and the same of them as lists
pub filter-lists : (test : List ℕ → Bool) (strings : List (Vec ℕ Global)) → lists (filter (λ (t : Vec ℕ Global). test t.items) strings) ≡ filter test (lists strings)
filter-lists test [] = refl
filter-lists test (t ∷ strings) = elim (test t.items) as (λ b. lists (cond b (t ∷ filter (λ (t : Vec ℕ Global). test t.items) strings) (filter (λ (t : Vec ℕ Global). test t.items) strings)) ≡ cond b (t.items ∷ filter test (lists strings)) (filter test (lists strings))) [
  | true ↦ ap (λ (ts : List (List ℕ)). t.items ∷ ts) (filter-lists test strings)
  | false ↦ filter-lists test strings
]

-- no code point
pub only-none : (s : CodePointSet) → s.intervals.items ≡ [] → only (in_set s) ≡ of_list []
unfolding in_intervals
only-none s e = ap (λ (intervals : List Interval). only (in_intervals (ends_of intervals))) e

pub in_set-none : (s : CodePointSet) → s.intervals.items ≡ [] → in_set s ≡ (λ c. false)
unfolding in_intervals
in_set-none s e = ap (λ (intervals : List Interval). in_intervals (ends_of intervals)) e

-- each string of a list of strings of code points is of code points
pub string-points : (strings : List (Vec ℕ Global)) (k : ℕ) (s : Vec ℕ Global) → All (All is_code_point) (lists strings) → k < length strings → s ≡ get_or strings k s
    → All is_code_point s.items
string-points strings k s points inside is =
    let at : get_or (lists strings) k [] ≡ s.items = get_or-map (λ (s : Vec ℕ Global). s.items) strings k s [] inside ∙ ap (λ (s : Vec ℕ Global). s.items) (sym is) in
    subst (All is_code_point) at (All-get_or (All is_code_point) (lists strings) k [] (omega (arith, length-map strings (λ (s : Vec ℕ Global). s.items))) points)

-- ---- keys

-- what holds of each entry holds of the one under a key
pub entry-all : {A : Type 0} (P : A → Type 0) (es : List (List ℕ × A)) (key : List ℕ) (x : A) → All (λ e. P e.1) es → entry key es ≡ Some x → P x
unfolding entry
entry-all P [] key x h e = cc
entry-all {A} P (f ∷ es) key x h e =
    elim (cases_Bool (same_text key f.0)) [
      | inl same ↦ let is : Some f.1 ≡ Some x = sym (cond-true _ _ _ same) ∙ e in let value : f.1 ≡ x = cc in subst P value (All-head (λ (e : List ℕ × A). P e.1) f es h)
      | inr other ↦ entry-all P es key x (All-tail (λ (e : List ℕ × A). P e.1) f es h) (sym (cond-false _ _ _ other) ∙ e)
    ]

-- ---- word characters

word-below : (d : ℕ) → is_ascii_word d ≡ true → d < 0x80
word-below d h = grind (arith, nat_tests)

-- a word character in lower case is one
stays_word : ℕ → Bool
stays_word d = not (is_ascii_word d) || is_ascii_word (ascii_lower d)

word-lower : (d : ℕ) → is_ascii_word d ≡ true → is_ascii_word (ascii_lower d) ≡ true
unfolding stays_word
word-lower d h = rw h at (agree_below_at stays_word (λ _. true) 0x80 d refl (word-below d h))

-- what folds to a word character
pub folded-words : (tables : Tables) (c : ℕ) → ((d : ℕ) → (table tables).fold ((table tables).fold d) ≡ (table tables).fold d)
    → closure (table tables).fold is_ascii_word c ≡ is_word (table tables) true c
unfolding closure is_word
folded-words tables c again = same_bool _ _
    (λ h.
    let r = some_below-true _ _ h in
    let parts = and_parts _ _ r.2 in
    let lower = (tables.lawful.ascii_case r.0 (word-below r.0 parts.0)).0 in
    or_right _ _ (ap is_ascii_word (sym (eqb-true _ _ parts.1) ∙ lower) ∙ word-lower r.0 parts.0))
    (λ h. elim (or_cases _ _ h) [
      | inl own ↦ let small = word-below c own in some_below-from _ c _ (omega (arith, small)) (and_from _ _ own (eq-eqb _ _ refl))
      | inr folds ↦ let small = word-below ((table tables).fold c) folds in some_below-from _ ((table tables).fold c) _ (omega (arith, small)) (and_from _ _ folds (eq-eqb _ _ (again c)))
    ])

pub plain-words : (tables : Tables) (c : ℕ) → is_ascii_word c ≡ is_word (table tables) false c
unfolding is_word
plain-words tables c = sym (or-false (is_ascii_word c))

-- one interval
pub in_intervals-one : (first last : ℕ) → in_intervals ((first, last) ∷ []) ≡ between first last
unfolding in_intervals
in_intervals-one first last = fun_ext (λ (c : ℕ). or-false (between first last c))
