-- What nodes of characters and classes match.
use Rattle.std.proofs.Common.{◌≡◌, ℕ, suc, ◌<◌, ◌≤◌, Bool, true, false, not, cond, ◌&&◌, ◌||◌, ◌==◌, nat_lt, List, [], ◌∷◌, length, get_or, filter, sum_by, All, refl, sym, ap, subst, ◌∙◌, inl, inr, arith, Vec, Global, vec_len, if◌then◌else◌}
use lib.Pointwise.{bytes_decides}
use Rattle.std.specs.List.{list_any}
use Rattle.std.specs.List.Sorted.{IsPermutation, IsSortedBy}
use Rattle.std.proofs.lemmas.Bool.{eqb-true, eq-eqb, ne_eqb, cases_Bool, ltb-false, both_ways, le-leb, leb-true, and_parts, cond-true, cond-false, true_from_ne_false}
use Rattle.std.proofs.lemmas.List.Folds.{list_any_at}
use Rattle.std.specs.Ordering.{is_lt, nat_cmp}
use Rattle.std.specs.declared.cmp.Ordering.TheVariants.{Less, Equal, Greater}
use Rattle.std.proofs.lemmas.List.Elements.{All-map, All-filter}
use Rattle.std.proofs.lemmas.List.Sorted.{sorted_far, sum_by-IsPermutation, list_any-IsPermutation, IsStrictWeakOrder-by_number, IsStrictWeakOrder-flip}
use Rattle.std.proofs.lemmas.Map.Views.{All-map-IsPermutation}
use Rattle.regress_meaning.specs.Text.{same_text, holds}
use Rattle.regress_meaning.specs.Table.{Table, canon, last_code_point}
use Rattle.regress_meaning.specs.Meaning.{same}
use Rattle.regress_meaning.specs.Pattern.{Settings}
use Rattle.regress_front_tables.specs.Folding.{Lists}
use Rattle.regress_front_sets.specs.declared.code_point_set.CodePointSet.{CodePointSet}
use Rattle.regress_front_sets.specs.Intervals.{ends_of}
use Rattle.regress_front_sets.specs.Sets.{in_set}
use Rattle.regress_front_nodes.specs.Trees.{char, char_set, bracket}
use Rattle.regress_meaning.specs.TableParts.{is_code_point}
use Rattle.regress_meaning.specs.Class.{among}
use Rattle.regress_front_nodes.specs.Characters.{Takes}
use Rattle.regress_front_tree.specs.Lowering.{AreByLength, LengthsFall}
use Rattle.regress_front_class_values.specs.ClassValues.{lists}
use Rattle.regress_front_class_values.proofs.ClassLemmas.{among-lists, filter-lists}
use Rattle.regress_front_costs.proofs.SumLemmas.{sum_by-map}
use Rattle.std.proofs.Math.Bool.{or-false}

-- ---- strings of a class

-- how many there are, as it is stored
pub stored_length : (t : Vec ℕ Global) → vec_len t ≡ length t.items
stored_length t = omega (arith, t.ok.0)

empty_text : (s : List ℕ) → (length s == 0) ≡ same_text [] s
empty_text [] = refl
empty_text (x ∷ s) = ne_eqb (length (x ∷ s)) 0 (λ e. omega arith)

-- a test for the empty string, and the same of strings as lists
pub among-empty : (strings : List (Vec ℕ Global)) → list_any (λ (t : Vec ℕ Global). vec_len t == 0) strings ≡ among (lists strings) []
among-empty [] = refl
among-empty (t ∷ strings) =
    let here : (vec_len t == 0) ≡ same_text [] t.items = ap (λ (n : ℕ). n == 0) (stored_length t) ∙ empty_text t.items in
    ap (λ b. b || list_any (λ (t : Vec ℕ Global). vec_len t == 0) strings) here ∙ ap (λ b. same_text [] t.items || b) (among-empty strings)

-- a string that is not empty
abbrev pub is_longer : List ℕ → Bool
is_longer s = not (length s == 0)

kept-step : (is_empty same rest none others : Bool) → (same ≡ true → is_empty ≡ none) → rest ≡ (not none && others)
    → cond (not is_empty) (same || rest) rest ≡ (not none && (same || others))
kept-step true true rest none others h e = e ∙ ap (λ b. not b && others) (sym (h refl)) ∙ ap (λ b. not b && true) (h refl)
kept-step false true rest none others h e = ap (λ b. not b && true) (h refl)
kept-step true false rest none others h e = e
kept-step false false rest none others h e = e

any-cond : (test : List ℕ → Bool) (b : Bool) (ss ts : List (List ℕ)) → list_any test (cond b ss ts) ≡ cond b (list_any test ss) (list_any test ts)
any-cond test true ss ts = refl
any-cond test false ss ts = refl

-- the strings of a list but the empty one
among-longer : (ss : List (List ℕ)) (r : List ℕ) → among (filter is_longer ss) r ≡ (is_longer r && among ss r)
among-longer [] r = elim (is_longer r) as (λ b. false ≡ (b && false)) [ true ↦ refl | false ↦ refl ]
among-longer (s ∷ ss) r =
    any-cond (same_text r) (is_longer s) (s ∷ filter is_longer ss) (filter is_longer ss)
    ∙ kept-step (length s == 0) (same_text r s) (among (filter is_longer ss) r) (length r == 0) (among ss r)
    (λ same. ap (λ (t : List ℕ). length t == 0) (sym ((bytes_decides r s).0 same))) (among-longer ss r)

-- no string is longer than one before it
Falls : List (Vec ℕ Global) → Type 0
Falls strings = (i j : ℕ) (d : Vec ℕ Global) → i ≤ j → j < length strings → vec_len (get_or strings j d) ≤ vec_len (get_or strings i d)

lengths-fall : (strings : List (Vec ℕ Global)) → Falls strings → LengthsFall (lists strings)
unfolding Falls
lengths-fall [] h = tt
lengths-fall (s ∷ strings) h = (
  All-map (λ r. length r ≤ length s.items) (λ (t : Vec ℕ Global). t.items) strings
      (λ k d l. let longest = h 0 (suc k) d (omega arith) (omega (arith, l)) in omega (arith, longest, stored_length s, stored_length (get_or strings k d))),
  lengths-fall strings (λ i j d le l. h (suc i) (suc j) d (omega (arith, le)) (omega (arith, l))),
)

-- by which strings are sorted: the longer before the shorter
abbrev pub goes_before : Vec ℕ Global → Vec ℕ Global → Bool
goes_before s t = nat_lt (vec_len t) (vec_len s)

-- strings but the empty one, sorted so
pub sorted-by_length : (strings kept ordered : List (Vec ℕ Global)) (sorted : List (List ℕ)) → kept ≡ filter (λ (s : Vec ℕ Global). is_longer s.items) strings
    → IsPermutation kept ordered → IsSortedBy goes_before ordered → sorted ≡ lists ordered → All (All is_code_point) (lists strings) → AreByLength sorted (lists strings)
unfolding Falls
sorted-by_length strings kept ordered sorted is_kept moved order is points =
    let longer : lists kept ≡ filter is_longer (lists strings) = ap lists is_kept ∙ filter-lists is_longer strings in
    let far : Falls ordered = λ i j d le l. ltb-false _ _ (sorted_far goes_before (IsStrictWeakOrder-flip _ (IsStrictWeakOrder-by_number vec_len)) ordered order i j d le l) in
    record {
      members = λ r.
          ap (λ (ss : List (List ℕ)). among ss r) is ∙ sym (among-lists ordered r)
          ∙ sym (list_any-IsPermutation (λ (t : Vec ℕ Global). same_text r t.items) kept ordered moved)
          ∙ among-lists kept r ∙ ap (λ (ss : List (List ℕ)). among ss r) longer ∙ among-longer (lists strings) r;
      order = subst LengthsFall (sym is) (lengths-fall ordered far);
      points = subst (All (All is_code_point)) (sym is) (All-map-IsPermutation (λ (s : Vec ℕ Global). s.items) (All is_code_point) kept ordered moved
          (subst (All (All is_code_point)) (sym longer) (All-filter is_longer (All is_code_point) (lists strings) points)));
      often = λ f.
          ap (sum_by f) is ∙ sum_by-map f (λ (s : Vec ℕ Global). s.items) ordered
          ∙ sum_by-IsPermutation (λ (s : Vec ℕ Global). f s.items) kept ordered moved
          ∙ sym (sum_by-map f (λ (s : Vec ℕ Global). s.items) kept) ∙ ap (sum_by f) longer;
    }

only-one : (cs : List ℕ) (c : ℕ) → holds cs c ≡ true → length cs ≡ 1 → (d : ℕ) → holds cs d ≡ (c == d)
only-one [] c own one d = absurd (omega arith)
only-one (x ∷ []) c own one d = let same : x ≡ c = eqb-true x c (sym (or-false (x == c)) ∙ own) in or-false (x == d) ∙ ap (λ (y : ℕ). y == d) same
only-one (x ∷ y ∷ cs) c own one d = absurd (omega arith)

ordered-test : (a b : Bool) → is_lt (cond a Less (cond b Equal Greater)) ≡ a
ordered-test true b = refl
ordered-test false true = refl
ordered-test false false = refl

pub lt-cmp : (m n : ℕ) → is_lt (nat_cmp m n) ≡ nat_lt m n
lt-cmp m n = ordered-test (nat_lt m n) (m == n)

-- ---- characters

eqb-sym : (m n : ℕ) → (m == n) ≡ (n == m)
eqb-sym m n =
    elim (cases_Bool (m == n)) [
      | inl e ↦ e ∙ sym (eq-eqb n m (sym (eqb-true m n e)))
      | inr e ↦ e ∙ sym (ne_eqb n m (λ (p : n ≡ m). both_ways (m == n) e (eq-eqb m n (sym p))))
    ]

module _ (table : Table) (unicode : Bool) (e : Settings) (icase : Bool) (is : e.icase ≡ icase) (cs : List ℕ) (c : ℕ)
    (all : icase ≡ true → Lists (λ d. canon table unicode d == canon table unicode c) cs) where
  -- which code points are listed
  listed : icase ≡ true → (d : ℕ) → is_code_point d → holds cs d ≡ same table unicode e.icase c d
  listed ignored d point =
      (all ignored).members d
      ∙ ap (λ b. b && (canon table unicode d == canon table unicode c)) (le-leb d last_code_point point)
      ∙ eqb-sym (canon table unicode d) (canon table unicode c)
      ∙ sym (cond-true e.icase _ _ (is ∙ ignored))

  alone : icase ≡ false → (d : ℕ) → (c == d) ≡ same table unicode e.icase c d
  alone regarded d = sym (cond-false e.icase _ _ (is ∙ regarded))

  -- nothing else has its canon
  pub takes-one : is_code_point c → holds cs c ≡ true → length cs ≡ 1 → Takes (char c) (same table unicode e.icase c)
  takes-one point own one = record {
    alone = refl;
    members = λ d bound. elim (cases_Bool icase) [
      | inl ignored ↦ sym (only-one cs c own one d) ∙ listed ignored d bound
      | inr regarded ↦ alone regarded d
    ];
    lawful = point;
  }

  -- others have its canon
  pub takes-some : (icase ≡ false → cs ≡ c ∷ []) → (length cs ≡ 1 → ⊥) → length cs ≤ 4 → Takes (char_set cs) (same table unicode e.icase c)
  takes-some itself several few =
      let ignored : icase ≡ true = true_from_ne_false icase (λ regarded. several (ap length (itself regarded))) in
      record {
        alone = refl;
        members = listed ignored;
        lawful = (
          few,
          λ k d l.
              let member : holds cs (get_or cs k d) ≡ true = list_any_at (λ x. x == get_or cs k d) cs k d l (eq-eqb _ _ refl) in
              leb-true _ _ (and_parts _ _ (sym ((all ignored).members (get_or cs k d)) ∙ member)).0,
        );
      }

-- ---- sets

-- a bracket of a set
pub takes-bracket : (invert : Bool) (set : CodePointSet) (test : ℕ → Bool) → in_set set ≡ test
    → Takes (bracket invert (ends_of set.intervals.items)) (λ d. if invert then not (test d) else test d)
takes-bracket invert set test e = record {
  alone = refl;
  members = λ d bound. ap (λ (t : ℕ → Bool). if invert then not (t d) else t d) e;
  lawful = set.canonical;
}
