-- Words that share what they begin with.
use Rattle.std.proofs.Common.{◌≡◌, ℕ, zero, suc, ◌+◌, ◌-◌, ◌*◌, ◌<◌, ◌≤◌, Bool, true, false, ◌&&◌, ◌||◌, ◌==◌, List, [], ◌∷◌, ◌++◌, length, map, take, drop, chars, get_or, nat_eq, slice_range, All, Vec, Global, encode_utf8, encode_utf8_all, IsUtf8, if◌then◌else◌, refl, sym, ap, ◌∙◌, subst, arith, eqb-true, length-append, length-drop, le_of_suc-le-suc}
use Rattle.std.specs.List.{flat_map, filter, count_by, starts_with}
use Rattle.std.proofs.lemmas.Bool.{false≢true, and_parts, and_from}
use Rattle.std.proofs.lemmas.Bool.Decides.{nat_tests}
use Rattle.std.proofs.lemmas.List.{append-nil, map-id, map-append, take-map, drop-map, take-append-drop, take-take, take_more, take_more_same, get_or-drop, length-take, length-map}
use Rattle.std.proofs.lemmas.List.Elements.{All-nil, All-cons, All-head, All-tail, All-append, All-take, All-drop, All-weaker, filter-append}
use Rattle.std.proofs.lemmas.List.Folds.{drop_split}
use Rattle.std.proofs.lemmas.List.Sums.{sum_by-append, sum_by-cons}
use Rattle.std.proofs.lemmas.Str.{chars_from_encodes, encodes-append, length-encode, len_utf8_bounds}
use Rattle.regress_meaning.specs.Meaning.{Forward}
use Rattle.regress_front_nodes.specs.Trees.{Tree, empty, bytes, cat_of, alt}
use Rattle.regress_front_nodes.specs.Sizes.{size}
use Rattle.regress_front_nodes.specs.WellFormed.{AreLawful}
use Rattle.regress_front_rules.specs.Words.{is_of_words, words, AreFoundAlike}
use Rattle.regress_front_rules.specs.Weight.{bulk}
use Rattle.regress_front_rules.specs.Rules as rules
use Rattle.regress_front_rules.specs.Rules.{RewritesAtRoot}
use Rattle.regress_front_rules.proofs.MeasureLemmas.{some-chars}
use Rattle.regress_front_words.specs.Sharing.{is_choice_of_literals, spelled, behind, AreLong, AreSame, IsWorth, size_apart, bulk_apart, IsMadeOf}
use Rattle.regress_front_words.specs.Grouping.{IsRearranged}

-- ---- words apart

pub size-append : (xs ys : List (List ℕ)) → size_apart (xs ++ ys) ≡ size_apart xs + size_apart ys
size-append [] ys = omega arith
size-append (x ∷ xs) ys = omega (arith, size-append xs ys)

pub bulk-append : (xs ys : List (List ℕ)) → bulk_apart (xs ++ ys) ≡ bulk_apart xs + bulk_apart ys
bulk-append [] ys = omega arith
bulk-append (x ∷ xs) ys = omega (arith, bulk-append xs ys)

choice-words : (t : Tree) → is_choice_of_literals t ≡ true → is_of_words t ≡ true
choice-words empty h = refl
choice-words (bytes bs) h = refl
choice-words (alt a b) h =
    let p = and_parts (is_choice_of_literals a) (is_choice_of_literals b) h in and_from (is_of_words a) (is_of_words b) (choice-words a p.0) (choice-words b p.1)
choice-words _ h = absurd (false≢true h)

choice-size : (n : ℕ) (t : Tree) → is_choice_of_literals t ≡ true → AreLawful n t → size t + 1 ≡ size_apart (words t)
choice-size n empty h l = omega arith
choice-size n (bytes bs) h l = omega (arith, some-chars bs l.0 l.1)
choice-size n (alt a b) h l =
    let p = and_parts (is_choice_of_literals a) (is_choice_of_literals b) h in
    omega (arith, choice-size n a p.0 l.0, choice-size n b p.1 l.1, size-append (words a) (words b))
choice-size n _ h l = absurd (false≢true h)

choice-bulk : (t : Tree) → is_choice_of_literals t ≡ true → bulk t + 1 ≡ bulk_apart (words t)
choice-bulk empty h = omega arith
choice-bulk (bytes bs) h = omega arith
choice-bulk (alt a b) h =
    let p = and_parts (is_choice_of_literals a) (is_choice_of_literals b) h in
    omega (arith, choice-bulk a p.0, choice-bulk b p.1, bulk-append (words a) (words b))
choice-bulk _ h = absurd (false≢true h)

-- a choice between literals becomes a tree of its words in which some share what they begin with
pub shared-rule : (a b u : Tree) (n : ℕ) → is_choice_of_literals a ≡ true → is_choice_of_literals b ≡ true → AreLawful n (alt a b)
    → IsMadeOf (words a ++ words b) true u → RewritesAtRoot Forward (alt a b) u
shared-rule a b u n h k l m =
    let both = and_from (is_choice_of_literals a) (is_choice_of_literals b) h k in
    rules.shares refl (choice-words (alt a b) both) m.of_words (λ text. sym (m.found text)) m.lawful
    (omega (arith, m.small, choice-size n (alt a b) both l))
    (omega (arith, m.lighter refl, choice-bulk (alt a b) both))

-- ---- trees of words

pub made-empty : IsMadeOf ([] ∷ []) false empty
made-empty = record {
  of_words = refl;
  found = λ text. refl;
  lawful = tt;
  small = omega arith;
  light = omega arith;
  lighter = λ e. absurd (false≢true e);
}

some-bytes : (cs : List ℕ) → 0 < length cs → 0 < length (encode_utf8_all cs)
some-bytes [] h = absurd (omega arith)
some-bytes (c ∷ cs) h = omega (arith, length-append (encode_utf8 c) (encode_utf8_all cs), length-encode c, (len_utf8_bounds c).0)

pub made-literal : (cs bs : List ℕ) → 0 < length cs → IsUtf8 bs → bs ≡ encode_utf8_all cs → IsMadeOf (cs ∷ []) false (bytes bs)
made-literal cs bs some valid e =
    let same : chars bs ≡ cs = sym (chars_from_encodes cs bs valid (sym e)) in
    record {
      of_words = refl;
      found = λ text. ap (λ (ds : List ℕ). filter (starts_with nat_eq text) (ds ∷ [])) same;
      lawful = (omega (arith, some-bytes cs some, ap length e), valid);
      small = omega (arith, ap length same, some);
      light = omega (arith, ap length same);
      lighter = λ f. absurd (false≢true f);
    }

pub literal-words : (cs bs : List ℕ) → IsUtf8 bs → bs ≡ encode_utf8_all cs → words (bytes bs) ≡ cs ∷ []
literal-words cs bs valid e = ap (λ (ds : List ℕ). ds ∷ []) (sym (chars_from_encodes cs bs valid (sym e)))

-- the same, of words that are found alike
pub made-rearranged : (xs ys : List (List ℕ)) (b : Bool) (t : Tree) → IsRearranged xs ys → IsMadeOf xs b t → IsMadeOf ys b t
made-rearranged xs ys b t h k = record {
  of_words = k.of_words;
  found = λ text. k.found text ∙ h.found text;
  lawful = k.lawful;
  small = omega (arith, k.small, h.small);
  light = omega (arith, k.light, h.light);
  lighter = λ e. omega (arith, k.lighter e, h.light);
}

pub made-either : (xs ys : List (List ℕ)) (a b : Bool) (t u : Tree) → IsMadeOf xs a t → IsMadeOf ys b u → IsMadeOf (xs ++ ys) (a || b) (alt t u)
made-either xs ys a b t u h k = record {
  of_words = and_from (is_of_words t) (is_of_words u) h.of_words k.of_words;
  found = λ text.
      filter-append (starts_with nat_eq text) (words t) (words u) ∙ (λ i. h.found text i ++ k.found text i) ∙ sym (filter-append (starts_with nat_eq text) xs ys);
  lawful = (h.lawful, k.lawful);
  small = omega (arith, h.small, k.small, size-append xs ys);
  light = omega (arith, h.light, k.light, bulk-append xs ys);
  lighter = by_test a h.lighter;
}
  where
    by_test : (c : Bool) → (c ≡ true → bulk t + 1 < bulk_apart xs) → (c || b) ≡ true → bulk (alt t u) + 1 < bulk_apart (xs ++ ys)
    by_test true more e = omega (arith, more refl, k.light, bulk-append xs ys)
    by_test false more e = omega (arith, h.light, k.lighter e, bulk-append xs ys)

-- one character before words that are found alike
found-begun : (c : ℕ) (xs ys : List (List ℕ)) → AreFoundAlike xs ys → AreFoundAlike (map (λ z. c ∷ z) xs) (map (λ z. c ∷ z) ys)
found-begun c xs ys h [] = none xs ∙ sym (none ys)
  where
    none : (zs : List (List ℕ)) → filter (starts_with nat_eq []) (map (λ z. c ∷ z) zs) ≡ []
    none [] = refl
    none (z ∷ zs) = none zs
found-begun c xs ys h (t ∷ text) = by_test (nat_eq c t) refl
  where
    none : nat_eq c t ≡ false → (zs : List (List ℕ)) → filter (starts_with nat_eq (t ∷ text)) (map (λ z. c ∷ z) zs) ≡ []
    none e [] = refl
    none e (z ∷ zs) = rw e (none e zs)

    some : nat_eq c t ≡ true → (zs : List (List ℕ)) → filter (starts_with nat_eq (t ∷ text)) (map (λ z. c ∷ z) zs) ≡ map (λ z. c ∷ z) (filter (starts_with nat_eq text) zs)
    some e [] = refl
    some e (z ∷ zs) = rw e (one (starts_with nat_eq text z) (some e zs))
      where
        one : (b : Bool) → filter (starts_with nat_eq (t ∷ text)) (map (λ z. c ∷ z) zs) ≡ map (λ z. c ∷ z) (filter (starts_with nat_eq text) zs)
            → (if b then (c ∷ z) ∷ filter (starts_with nat_eq (t ∷ text)) (map (λ z. c ∷ z) zs) else filter (starts_with nat_eq (t ∷ text)) (map (λ z. c ∷ z) zs))
            ≡ map (λ z. c ∷ z) (if b then z ∷ filter (starts_with nat_eq text) zs else filter (starts_with nat_eq text) zs)
        one true rest = ap (λ l. (c ∷ z) ∷ l) rest
        one false rest = rest

    by_test : (b : Bool) → nat_eq c t ≡ b → filter (starts_with nat_eq (t ∷ text)) (map (λ z. c ∷ z) xs) ≡ filter (starts_with nat_eq (t ∷ text)) (map (λ z. c ∷ z) ys)
    by_test true e = some e xs ∙ ap (map (λ z. c ∷ z)) (h text) ∙ sym (some e ys)
    by_test false e = none e xs ∙ sym (none e ys)

-- the same characters before words that are found alike
found-begun-all : (part : List ℕ) (xs ys : List (List ℕ)) → AreFoundAlike xs ys → AreFoundAlike (map (λ z. part ++ z) xs) (map (λ z. part ++ z) ys)
found-begun-all [] xs ys h text = ap (filter (starts_with nat_eq text)) (map-id xs) ∙ h text ∙ sym (ap (filter (starts_with nat_eq text)) (map-id ys))
found-begun-all (c ∷ part) xs ys h text =
    ap (filter (starts_with nat_eq text)) (again xs) ∙ found-begun c (map (λ z. part ++ z) xs) (map (λ z. part ++ z) ys) (found-begun-all part xs ys h) text
    ∙ sym (ap (filter (starts_with nat_eq text)) (again ys))
  where
    again : (zs : List (List ℕ)) → map (λ z. c ∷ (part ++ z)) zs ≡ map (λ z. c ∷ z) (map (λ z. part ++ z) zs)
    again [] = refl
    again (z ∷ zs) = ap (λ l. (c ∷ (part ++ z)) ∷ l) (again zs)

-- the same characters before what stands behind them
begun-again : (from end : ℕ) (part : List ℕ) (ws : List (List ℕ)) → from ≤ end → AreSame from end part ws → map (λ y. part ++ y) (behind end ws) ≡ behind from ws
begun-again from end part [] order h = refl
begun-again from end part (w ∷ ws) order h =
    let here = All-head (λ v. (end ≤ length v) × (slice_range v from end ≡ part)) w ws h in
    let rest = begun-again from end part ws order (All-tail (λ v. (end ≤ length v) × (slice_range v from end ≡ part)) w ws h) in
    let one : part ++ drop end w ≡ drop from w = ap (λ p. p ++ drop end w) (sym here.1) ∙ sym (drop_split w from end order) in
    (λ i. one i ∷ rest i)

ended : (ws : List (List ℕ)) → flat_map (λ x. map (λ y. x ++ y) ([] ∷ [])) ws ≡ ws
ended [] = refl
ended (w ∷ ws) = (λ i. append-nil w i ∷ ended ws i)

begun-words : (part : List ℕ) (a t : Tree) → words a ≡ part ∷ [] → words (cat_of (a ∷ t ∷ [])) ≡ map (λ y. part ++ y) (words t)
begun-words part a t e = (λ i. flat_map (λ x. map (λ y. x ++ y) (ended (words t) i)) (e i)) ∙ append-nil (map (λ y. part ++ y) (words t))

-- what words have more than behind a beginning of d characters
behind-sizes : (from end d : ℕ) (ws : List (List ℕ)) → end ≡ from + d → 1 ≤ d → AreLong end ws
    → (size_apart (behind from ws) + count_by (λ w. length w == end) ws ≡ size_apart (behind end ws) + length ws * d)
    × (bulk_apart (behind from ws) ≡ bulk_apart (behind end ws) + 4 * (length ws * d))
behind-sizes from end d [] e some h = (omega arith, omega arith)
behind-sizes from end d (w ∷ ws) e some h =
    let rest = behind-sizes from end d ws e some (All-tail (λ v. end ≤ length v) w ws h) in
    let long : end ≤ length w = All-head (λ v. end ≤ length v) w ws h in
    (ap (λ n. size_apart (behind from (w ∷ ws)) + n) counted ∙ by_test (length w == end) refl long rest.0, omega (arith, rest.1, e, long, length-drop from w, length-drop end w))
  where
    counted : count_by (λ v. length v == end) (w ∷ ws) ≡ (if length w == end then 1 else 0) + count_by (λ v. length v == end) ws
    counted = sum_by-cons (λ (v : List ℕ). if length v == end then 1 else 0) w ws

    by_test : (b : Bool) → (length w == end) ≡ b → end ≤ length w
        → size_apart (behind from ws) + count_by (λ v. length v == end) ws ≡ size_apart (behind end ws) + length ws * d
        → size_apart (behind from (w ∷ ws)) + ((if b then 1 else 0) + count_by (λ v. length v == end) ws) ≡ size_apart (behind end (w ∷ ws)) + length (w ∷ ws) * d
    by_test true f long rest = omega (arith, eqb-true (length w) end f, e, some, rest, length-drop from w, length-drop end w)
    by_test false f long rest =
        let longer : end < length w = grind (arith, nat_tests) in
        omega (arith, longer, e, some, rest, length-drop from w, length-drop end w)

-- what is saved by k words with the same d characters
saved : (k d alone : ℕ) → alone + 1 ≤ (k - 1) * d → (1 ≤ d) × (d + alone + 1 ≤ k * d) × (4 * d + 4 ≤ 4 * (k * d))
saved zero d alone h = absurd (omega (arith, h))
saved (suc k) zero alone h = absurd (let e : suc k - 1 ≡ k = omega arith in omega (arith, rw e at h))
saved (suc k) (suc d) alone h =
    let e : suc k - 1 ≡ k = omega arith in
    let more : alone + 1 ≤ k * suc d = rw e at h in
    (omega arith, omega (arith, more), omega (arith, more))

-- a beginning that words share, and what stands behind it
pub made-begun : (from end : ℕ) (part : List ℕ) (ws : List (List ℕ)) (a t : Tree) (b : Bool) → from ≤ end → IsWorth from end ws → AreSame from end part ws → length part ≡ end - from
    → IsMadeOf (part ∷ []) false a → words a ≡ part ∷ [] → IsMadeOf (behind end ws) b t → IsMadeOf (behind from ws) true (cat_of (a ∷ t ∷ []))
made-begun from end part ws a t b order worth same-part sized h e k =
    let d : ℕ = end - from in
    let gain = saved (length ws) (end - from) (count_by (λ w. length w == end) ws) worth in
    let long : AreLong end ws = All-weaker (λ w. (end ≤ length w) × (slice_range w from end ≡ part)) (λ w. end ≤ length w) (λ w l. l.0) ws same-part in
    let more = behind-sizes from end (end - from) ws (omega (arith, order)) gain.0 long in
    record {
      of_words = and_from (is_of_words a && (is_of_words t && true && true)) true (and_from (is_of_words a) (is_of_words t && true && true) h.of_words (rw k.of_words refl)) refl;
      found = λ text.
          ap (filter (starts_with nat_eq text)) (begun-words part a t e) ∙ found-begun-all part (words t) (behind end ws) k.found text
          ∙ ap (filter (starts_with nat_eq text)) (begun-again from end part ws order same-part);
      lawful = (h.lawful, (k.lawful, tt));
      small = omega (arith, h.small, k.small, sized, gain.0, gain.1, more.0);
      light = omega (arith, h.light, k.light, sized, gain.2, more.1);
      lighter = λ e. omega (arith, h.light, k.light, sized, gain.2, more.1);
    }

-- ---- words that are the same up to a place

pub slice-less : (xs ys : List ℕ) (from end less : ℕ) → less ≤ end → slice_range xs from end ≡ slice_range ys from end → slice_range xs from less ≡ slice_range ys from less
slice-less xs ys from end less h e =
    sym (take-take (less - from) (end - from) (drop from xs) (omega arith)) ∙ ap (take (less - from)) e ∙ take-take (less - from) (end - from) (drop from ys) (omega arith)

pub slice-more : (xs ys : List ℕ) (from end : ℕ) → from ≤ end → end < length xs → end < length ys → get_or xs end 0 ≡ get_or ys end 0 → slice_range xs from end ≡ slice_range ys from end
    → slice_range xs from (end + 1) ≡ slice_range ys from (end + 1)
slice-more xs ys from end order in-x in-y here e =
    let size : end + 1 - from ≡ end - from + 1 = omega arith in
    let place : from + (end - from) ≡ end = omega arith in
    let at-x : get_or (drop from xs) (end - from) 0 ≡ get_or xs end 0 = get_or-drop from xs (end - from) 0 ∙ ap (λ i. get_or xs i 0) place in
    let at-y : get_or (drop from ys) (end - from) 0 ≡ get_or ys end 0 = get_or-drop from ys (end - from) 0 ∙ ap (λ i. get_or ys i 0) place in
    rw size (take_more_same (drop from xs) (drop from ys) (end - from) 0 (omega (arith, length-drop from xs)) (omega (arith, length-drop from ys)) e (at-x ∙ here ∙ sym at-y))

pub slice-none : (xs ys : List ℕ) (from : ℕ) → slice_range xs from from ≡ slice_range ys from from
slice-none xs ys from = let none : from - from ≡ 0 = omega arith in rw none refl

pub length-part : (xs : List ℕ) (from end : ℕ) → end ≤ length xs → length (slice_range xs from end) ≡ end - from
length-part xs from end h = omega (arith, length-take (end - from) (drop from xs), length-drop from xs)

-- words that are the same up to a place are so up to one before it
pub same-less : (from end less : ℕ) (first : List ℕ) (ws : List (List ℕ)) → less ≤ end → AreSame from end (slice_range first from end) ws → AreSame from less (slice_range first from less) ws
same-less from end less first ws h all =
    All-weaker (λ w. (end ≤ length w) × (slice_range w from end ≡ slice_range first from end)) (λ w. (less ≤ length w) × (slice_range w from less ≡ slice_range first from less))
    (λ w l. (omega (arith, h, l.0), slice-less w first from end less h l.1)) ws all

-- one more word
pub spelled-more : (ws : List (Vec ℕ Global)) (i : ℕ) (w : Vec ℕ Global) → i < length ws → w ≡ get_or ws i w → spelled (take (i + 1) ws) ≡ spelled (take i ws) ++ w.items ∷ []
spelled-more ws i w h e =
    ap spelled (take_more ws i w h) ∙ map-append (λ (v : Vec ℕ Global). v.items) (take i ws) (get_or ws i w ∷ []) ∙ ap (λ (v : Vec ℕ Global). spelled (take i ws) ++ v.items ∷ []) (sym e)

pub same-more : (from end : ℕ) (part : List ℕ) (ws vs : List (List ℕ)) (w : List ℕ) → vs ≡ ws ++ w ∷ [] → AreSame from end part ws → end ≤ length w → slice_range w from end ≡ part → AreSame from end part vs
same-more from end part ws vs w e all long same =
    subst (AreSame from end part) (sym e)
    (All-append (λ v. (end ≤ length v) × (slice_range v from end ≡ part)) ws (w ∷ []) all
    (All-cons (λ v. (end ≤ length v) × (slice_range v from end ≡ part)) w [] (long, same) (All-nil (λ v. (end ≤ length v) × (slice_range v from end ≡ part)))))

pub count-more : (end : ℕ) (ws vs : List (List ℕ)) (w : List ℕ) → vs ≡ ws ++ w ∷ []
    → count_by (λ v. length v == end) vs ≡ count_by (λ v. length v == end) ws + (if length w == end then 1 else 0)
count-more end ws vs w e =
    ap (count_by (λ (v : List ℕ). length v == end)) e ∙ sum_by-append (λ (v : List ℕ). if length v == end then 1 else 0) ws (w ∷ [])
    ∙ ap (λ n. count_by (λ (v : List ℕ). length v == end) ws + n) (omega arith)

pub behind-none : (ws : List (List ℕ)) → behind 0 ws ≡ ws
behind-none [] = refl
behind-none (w ∷ ws) = ap (λ vs. w ∷ vs) (behind-none ws)

-- ---- words in vectors

-- what holds of each word holds of one
pub spelled-at : (P : List ℕ → Type 0) (ws : List (Vec ℕ Global)) (i : ℕ) (w : Vec ℕ Global) → i < length ws → w ≡ get_or ws i w → All P (spelled ws) → P w.items
spelled-at P [] i w h e all = absurd (omega (arith, h))
spelled-at P (v ∷ ws) zero w h e all = subst (λ (u : Vec ℕ Global). P u.items) (sym e) (All-head P v.items (spelled ws) all)
spelled-at P (v ∷ ws) (suc i) w h e all = spelled-at P ws i w (le_of_suc-le-suc h) e (All-tail P v.items (spelled ws) all)

pub long-before : (from k : ℕ) (ws vs : List (Vec ℕ Global)) → vs ≡ take k ws → AreLong from (spelled ws) → AreLong from (spelled vs)
long-before from k ws vs e all =
    subst (AreLong from) (take-map (λ (v : Vec ℕ Global). v.items) k ws ∙ sym (ap spelled e)) (All-take (λ w. from ≤ length w) k (spelled ws) all)

pub long-after : (from k : ℕ) (ws vs : List (Vec ℕ Global)) → vs ≡ drop k ws → AreLong from (spelled ws) → AreLong from (spelled vs)
long-after from k ws vs e all =
    subst (AreLong from) (drop-map (λ (v : Vec ℕ Global). v.items) k ws ∙ sym (ap spelled e)) (All-drop (λ w. from ≤ length w) k (spelled ws) all)

-- words that are parted
pub parted : (from k : ℕ) (ws xs ys : List (Vec ℕ Global)) → xs ≡ take k ws → ys ≡ drop k ws → behind from (spelled xs) ++ behind from (spelled ys) ≡ behind from (spelled ws)
parted from k ws xs ys e f =
    sym (map-append (drop from) (spelled xs) (spelled ys)) ∙ ap (behind from) (sym (map-append (λ (v : Vec ℕ Global). v.items) xs ys))
    ∙ ap (λ (vs : List (Vec ℕ Global)). behind from (spelled vs)) ((λ i. e i ++ f i) ∙ take-append-drop k ws)

-- one word alone
pub one-behind : (from : ℕ) (ws : List (Vec ℕ Global)) (w : Vec ℕ Global) → length ws ≡ 1 → w ≡ get_or ws 0 w → behind from (spelled ws) ≡ drop from w.items ∷ []
one-behind from [] w h e = absurd (omega (arith, h))
one-behind from (v ∷ []) w h e = ap (λ (u : Vec ℕ Global). drop from u.items ∷ []) (sym e)
one-behind from (v ∷ u ∷ ws) w h e = absurd (omega (arith, h))

-- the words of two choices, gathered one after another
pub gathered : (xs ys zs : List (Vec ℕ Global)) (us vs : List (List ℕ)) → xs ≡ [] → spelled ys ≡ spelled xs ++ us → spelled zs ≡ spelled ys ++ vs → spelled zs ≡ us ++ vs
gathered xs ys zs us vs e f g = g ∙ ap (λ ts. ts ++ vs) (f ∙ ap (λ (ws : List (Vec ℕ Global)). spelled ws ++ us) e)

-- a choice has a word
choice-some : (t : Tree) → is_choice_of_literals t ≡ true → 0 < length (words t)
choice-some empty h = omega arith
choice-some (bytes bs) h = omega arith
choice-some (alt a b) h =
    let p = and_parts (is_choice_of_literals a) (is_choice_of_literals b) h in omega (arith, choice-some a p.0, length-append (words a) (words b))
choice-some _ h = absurd (false≢true h)

pub some-gathered : (zs : List (Vec ℕ Global)) (a b : Tree) → is_choice_of_literals a ≡ true → spelled zs ≡ words a ++ words b → 0 < length zs
some-gathered zs a b h e =
    omega (arith, choice-some a h, length-append (words a) (words b), ap length e, length-map zs (λ (v : Vec ℕ Global). v.items))

pub some-members : (xs : List ℕ) → (length xs == 0) ≡ false → 0 < length xs
some-members [] h = absurd (false≢true (sym h))
some-members (x ∷ xs) h = omega arith

-- the bytes of one more character
pub encode-more : (cs : List ℕ) (i c : ℕ) → i < length cs → c ≡ get_or cs i c → encode_utf8_all (take i cs) ++ encode_utf8 c ≡ encode_utf8_all (take (i + 1) cs)
encode-more cs i c h e =
    sym (ap encode_utf8_all (take_more cs i c h ∙ ap (λ d. take i cs ++ d ∷ []) (sym e)) ∙ encodes-append (take i cs) (c ∷ [])
    ∙ ap (λ bs. encode_utf8_all (take i cs) ++ bs) (append-nil (encode_utf8 c)))

-- ---- lists that agree

-- the same element at a place from which on two lists agree
pub same-at : {X : Type 0} (ns ms : List X) (i : ℕ) (d : X) → drop i ns ≡ drop i ms → get_or ns i d ≡ get_or ms i d
same-at {X = X} ns ms i d e = sym (get_or-drop-zero ns i d) ∙ ap (λ xs. get_or xs 0 d) e ∙ get_or-drop-zero ms i d
  where
    get_or-drop-zero : (xs : List X) (i : ℕ) (d : X) → get_or (drop i xs) 0 d ≡ get_or xs i d
    get_or-drop-zero [] zero d = refl
    get_or-drop-zero [] (suc i) d = refl
    get_or-drop-zero (x ∷ xs) zero d = refl
    get_or-drop-zero (x ∷ xs) (suc i) d = get_or-drop-zero xs i d
