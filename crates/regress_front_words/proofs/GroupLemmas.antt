-- Words in groups, each of one character.
use Rattle.std.proofs.Common.{◌≡◌, ◌≢◌, ℕ, zero, suc, ◌+◌, ◌<◌, ◌≤◌, Bool, true, false, ◌&&◌, List, [], ◌∷◌, ◌++◌, length, take, drop, get_or, set, nat_eq, slice_get, Option, Some, All, Vec, Global, if◌then◌else◌, refl, sym, ap, ◌∙◌, arith, append_assoc, length-append, le_of_suc-le-suc}
use Rattle.std.specs.List.{filter, starts_with}
use Rattle.std.proofs.lemmas.Bool.{and_parts}
use Rattle.std.proofs.lemmas.Bool.Decides.{nat_tests}
use Rattle.std.proofs.lemmas.List.{append-nil, map-append, take_all, take_more, drop_all}
use Rattle.std.proofs.lemmas.List.Elements.{All-nil, All-cons, All-head, All-tail, All-append, All-weaker, filter-append}
use Rattle.std.proofs.lemmas.Grind.{flat_map-append}
use Rattle.regress_front_sets.proofs.ListLemmas.{All-parts}
use Rattle.regress_front_words.specs.declared.grouping.Group.{Group}
use Rattle.regress_front_words.specs.Sharing.{spelled, behind, AreLong, size_apart, bulk_apart}
use Rattle.regress_front_words.specs.Grouping.{joined, AreGrouped, IsOfOther, IsLast, IsPlaceOf, HasMore, HasMoreAt, AreApart, IsAdded, IsRearranged}
use Rattle.regress_front_words.proofs.ShareLemmas.{size-append, bulk-append}

-- ---- words that go on with different characters

begins-at : (w : List ℕ) (place c : ℕ) → slice_get w place ≡ Some c → (rest : List ℕ) × (drop place w ≡ c ∷ rest)
begins-at [] place c h = absurd (cc)
begins-at (x ∷ w) zero c h = (w, cc)
begins-at (x ∷ w) (suc place) c h = begins-at w place c h

-- no text begins with both
one-begins : (text v w : List ℕ) (c d : ℕ) → c ≢ d → starts_with nat_eq text (d ∷ w) ≡ true → starts_with nat_eq text (c ∷ v) ≡ false
one-begins [] v w c d other h = refl
one-begins (t ∷ text) v w c d other h = by_test (nat_eq c t) refl
  where
    by_test : (b : Bool) → nat_eq c t ≡ b → (b && starts_with nat_eq text v) ≡ false
    by_test false e = refl
    by_test true e =
        let same : nat_eq d t ≡ true = (and_parts (nat_eq d t) (starts_with nat_eq text w) h).0 in
        absurd (other (grind (arith, nat_tests)))

none-found : (text : List ℕ) (place : ℕ) (w : List ℕ) (ys : List (List ℕ)) → All (λ v. AreApart place v w) ys → starts_with nat_eq text (drop place w) ≡ true
    → filter (starts_with nat_eq text) (behind place ys) ≡ []
none-found text place w [] all h = refl
none-found text place w (v ∷ ys) all h =
    let here = All-head (λ v. AreApart place v w) v ys all in
    let first = begins-at v place here.0 here.2 in
    let second = begins-at w place here.1 here.3 in
    let fails : starts_with nat_eq text (drop place v) ≡ false = rw first.1 (one-begins text first.0 second.0 here.0 here.1 here.4 (rw second.1 at h)) in
    rw fails (none-found text place w ys (All-tail (λ v. AreApart place v w) v ys all) h)

-- what stands before elements may stand behind them, where none of these passes beside it
moved : {X : Type 0} (test : X → Bool) (x : X) (ys : List X) → (test x ≡ true → filter test ys ≡ []) → filter test (x ∷ ys) ≡ filter test ys ++ filter test (x ∷ [])
moved {X = X} test x ys none = by_test (test x) none
  where
    by_test : (b : Bool) → (b ≡ true → filter test ys ≡ []) → (if b then x ∷ filter test ys else filter test ys) ≡ filter test ys ++ (if b then x ∷ [] else [])
    by_test true none = rw (none refl) refl
    by_test false none = sym (append-nil (filter test ys))

pub added-rearranged : (place : ℕ) (w : List ℕ) (old more ws vs : List (List ℕ)) → IsAdded place w old more → vs ≡ ws ++ w ∷ [] → IsRearranged (behind place old) (behind place ws)
    → IsRearranged (behind place more) (behind place vs)
added-rearranged place w old more ws vs (xs, ys, e, f, apart) g h =
    let before : behind place old ≡ behind place xs ++ behind place ys = ap (behind place) e ∙ map-append (drop place) xs ys in
    let after : behind place more ≡ behind place xs ++ behind place (w ∷ ys) = ap (behind place) f ∙ map-append (drop place) xs (w ∷ ys) in
    let whole : behind place vs ≡ behind place ws ++ behind place (w ∷ []) = ap (behind place) g ∙ map-append (drop place) ws (w ∷ []) in
    record {
      found = λ text. found text before after whole;
      small = omega (arith, ap size_apart before, ap size_apart after, ap size_apart whole, size-append (behind place xs) (behind place ys), size-append (behind place xs) (behind place (w ∷ ys)), size-append (behind place ws) (behind place (w ∷ [])), h.small);
      light = omega (arith, ap bulk_apart before, ap bulk_apart after, ap bulk_apart whole, bulk-append (behind place xs) (behind place ys), bulk-append (behind place xs) (behind place (w ∷ ys)), bulk-append (behind place ws) (behind place (w ∷ [])), h.light);
    }
  where
    found : (text : List ℕ) → behind place old ≡ behind place xs ++ behind place ys → behind place more ≡ behind place xs ++ behind place (w ∷ ys) → behind place vs ≡ behind place ws ++ behind place (w ∷ [])
        → filter (starts_with nat_eq text) (behind place more) ≡ filter (starts_with nat_eq text) (behind place vs)
    found text before after whole =
        let test = starts_with nat_eq text in
        let one = filter (starts_with nat_eq text) (behind place (w ∷ [])) in
        let first = filter (starts_with nat_eq text) (behind place xs) in
        let second = filter (starts_with nat_eq text) (behind place ys) in
        ap (filter test) after ∙ filter-append test (behind place xs) (behind place (w ∷ ys))
        ∙ ap (λ l. first ++ l) (moved test (drop place w) (behind place ys) (none-found text place w ys apart))
        ∙ sym (append_assoc first second one)
        ∙ ap (λ l. l ++ one) (sym (filter-append test (behind place xs) (behind place ys)) ∙ sym (ap (filter test) before) ∙ h.found text)
        ∙ sym (filter-append test (behind place ws) (behind place (w ∷ []))) ∙ sym (ap (filter test) whole)

pub added-long : (place : ℕ) (w : List ℕ) (old more : List (List ℕ)) → IsAdded place w old more → place ≤ length w → AreLong place old → AreLong place more
added-long place w old more (xs, ys, e, f, apart) long all =
    let parts = All-parts (λ v. place ≤ length v) xs ys (rw e at all) in
    rw f (All-append (λ v. place ≤ length v) xs (w ∷ ys) parts.0 (All-cons (λ v. place ≤ length v) w ys long parts.1))

-- ---- the group of a character

pub others-more : (c : ℕ) (gs : List Group) (k : ℕ) (g : Group) (d : ℕ) → k < length gs → g ≡ get_or gs k g → g.letter ≡ Some d → d ≢ c → All (IsOfOther c) (drop (suc k) gs) → All (IsOfOther c) (drop k gs)
others-more c [] k g d inside e h other all = absurd (omega (arith, inside))
others-more c (x ∷ gs) zero g d inside e h other all = All-cons (IsOfOther c) x gs (d, ap (λ (y : Group). y.letter) (sym e) ∙ h, other) all
others-more c (x ∷ gs) (suc k) g d inside e h other all = others-more c gs k g d (le_of_suc-le-suc inside) e h other all

pub last-here : (c : ℕ) (gs : List Group) (k : ℕ) (g : Group) → k < length gs → g ≡ get_or gs k g → g.letter ≡ Some c → All (IsOfOther c) (drop (suc k) gs) → IsLast c k gs
last-here c [] k g inside e h all = absurd (omega (arith, inside))
last-here c (x ∷ gs) zero g inside e h all = (ap (λ (y : Group). y.letter) (sym e) ∙ h, all)
last-here c (x ∷ gs) (suc k) g inside e h all = last-here c gs k g (le_of_suc-le-suc inside) e h all

pub last-inside : (c k : ℕ) (gs : List Group) → IsLast c k gs → k < length gs
last-inside c k [] h = absurd h
last-inside c zero (g ∷ gs) h = omega arith
last-inside c (suc k) (g ∷ gs) h = omega (arith, last-inside c k gs h)

-- ---- one word more

abbrev pub IsOf : ℕ → Option ℕ → List ℕ → Type 0
IsOf place letter w = slice_get w place ≡ letter

group-more : (place : ℕ) (w : List ℕ) (c : ℕ) (g m : Group) → HasMore w g m → g.letter ≡ Some c → slice_get w place ≡ Some c → All (IsOf place g.letter) (spelled g.words.items) → All (IsOf place m.letter) (spelled m.words.items)
group-more place w c g m h e f all =
    rw (h.0, h.1)
    (All-append (IsOf place g.letter) (spelled g.words.items) (w ∷ []) all (All-cons (IsOf place g.letter) w [] (f ∙ sym e) (All-nil (IsOf place g.letter))))

pub kept-in-group : (place : ℕ) (w : List ℕ) (c : ℕ) (gs : List Group) (k : ℕ) (g m : Group) → IsLast c k gs → g ≡ get_or gs k g → HasMore w g m → slice_get w place ≡ Some c → AreGrouped place gs → AreGrouped place (set gs k m)
kept-in-group place w c [] k g m last e h f all = absurd last
kept-in-group place w c (x ∷ gs) zero g m last e h f all =
    let more : HasMore w x m = rw e at h in
    All-cons (λ (y : Group). All (IsOf place y.letter) (spelled y.words.items)) m gs
    (group-more place w c x m more last.0 f (All-head (λ (y : Group). All (IsOf place y.letter) (spelled y.words.items)) x gs all))
    (All-tail (λ (y : Group). All (IsOf place y.letter) (spelled y.words.items)) x gs all)
kept-in-group place w c (x ∷ gs) (suc k) g m last e h f all =
    All-cons (λ (y : Group). All (IsOf place y.letter) (spelled y.words.items)) x (set gs k m)
    (All-head (λ (y : Group). All (IsOf place y.letter) (spelled y.words.items)) x gs all)
    (kept-in-group place w c gs k g m last e h f (All-tail (λ (y : Group). All (IsOf place y.letter) (spelled y.words.items)) x gs all))

apart-others : (place : ℕ) (w : List ℕ) (c : ℕ) (gs : List Group) → slice_get w place ≡ Some c → All (IsOfOther c) gs → AreGrouped place gs → All (λ v. AreApart place v w) (joined gs)
apart-others place w c [] f others all = All-nil (λ v. AreApart place v w)
apart-others place w c (g ∷ gs) f others all =
    let other = All-head (IsOfOther c) g gs others in
    All-append (λ v. AreApart place v w) (spelled g.words.items) (joined gs)
    (All-weaker (IsOf place g.letter) (λ v. AreApart place v w) (λ v e. (other.0, c, e ∙ other.1, f, other.2)) (spelled g.words.items)
    (All-head (λ (y : Group). All (IsOf place y.letter) (spelled y.words.items)) g gs all))
    (apart-others place w c gs f (All-tail (IsOfOther c) g gs others) (All-tail (λ (y : Group). All (IsOf place y.letter) (spelled y.words.items)) g gs all))

pub added-in-group : (place : ℕ) (w : List ℕ) (c : ℕ) (gs : List Group) (k : ℕ) (g m : Group) → IsLast c k gs → g ≡ get_or gs k g → HasMore w g m → slice_get w place ≡ Some c → AreGrouped place gs → IsAdded place w (joined gs) (joined (set gs k m))
added-in-group place w c [] k g m last e h f all = absurd last
added-in-group place w c (x ∷ gs) zero g m last e h f all =
    let more : HasMore w x m = rw e at h in (
      spelled x.words.items,
      joined gs,
      refl,
      ap (λ l. l ++ joined gs) more.1 ∙ append_assoc (spelled x.words.items) (w ∷ []) (joined gs),
      apart-others place w c gs f last.1 (All-tail (λ (y : Group). All (IsOf place y.letter) (spelled y.words.items)) x gs all),
    )
added-in-group place w c (x ∷ gs) (suc k) g m last e h f all =
    let rest = added-in-group place w c gs k g m last e h f (All-tail (λ (y : Group). All (IsOf place y.letter) (spelled y.words.items)) x gs all) in
    let first = spelled x.words.items in (
      first ++ rest.0,
      rest.1,
      ap (λ l. first ++ l) rest.2 ∙ sym (append_assoc first rest.0 rest.1),
      ap (λ l. first ++ l) rest.3 ∙ sym (append_assoc first rest.0 (w ∷ rest.1)),
      rest.4,
    )

pub kept-alone : (place : ℕ) (w : List ℕ) (gs : List Group) (g : Group) → g.letter ≡ slice_get w place → spelled g.words.items ≡ w ∷ [] → AreGrouped place gs → AreGrouped place (gs ++ g ∷ [])
kept-alone place w gs g e f all =
    let P = λ (y : Group). All (IsOf place y.letter) (spelled y.words.items) in
    let here : All (IsOf place g.letter) (spelled g.words.items) = rw f (All-cons (IsOf place g.letter) w [] (sym e) (All-nil (IsOf place g.letter))) in
    All-append P gs (g ∷ []) all (All-cons P g [] here (All-nil P))

pub added-alone : (place : ℕ) (w : List ℕ) (gs : List Group) (g : Group) → spelled g.words.items ≡ w ∷ [] → IsAdded place w (joined gs) (joined (gs ++ g ∷ []))
added-alone place w gs g f = (
  joined gs,
  [],
  sym (append-nil (joined gs)),
  flat_map-append (λ (y : Group). spelled y.words.items) gs (g ∷ []) ∙ ap (λ l. joined gs ++ l) (append-nil (spelled g.words.items) ∙ f),
  All-nil (λ v. AreApart place v w),
)

pub length-added : (place : ℕ) (w : List ℕ) (old more : List (List ℕ)) → IsAdded place w old more → length more ≡ length old + 1
length-added place w old more (xs, ys, e, f, apart) = omega (arith, ap length e, ap length f, length-append xs ys, length-append xs (w ∷ ys))

-- ---- groups in vectors

-- what is written into a vector through a slice of it
written-back : (n : ℕ) (gs hs : List Group) → length gs ≡ n → length hs ≡ n → take n (hs ++ drop (length hs) gs) ≡ hs
written-back n gs hs e f =
    let none : drop (length hs) gs ≡ [] = drop_all (length hs) gs (omega (arith, e, f)) in
    ap (take n) (ap (λ l. hs ++ l) none ∙ append-nil hs) ∙ take_all n hs (omega (arith, f))

-- where a word joins the last group of its character
pub joins-group : (place : ℕ) (w : List ℕ) (letter : Option ℕ) (k n : ℕ) (gs xs ys hs : List Group) → xs ≡ gs → ys ≡ gs → length gs ≡ n → length hs ≡ n → letter ≡ slice_get w place → IsPlaceOf letter k xs
    → HasMoreAt k w ys hs → AreGrouped place gs
    → AreGrouped place (take n (hs ++ drop (length hs) gs)) × IsAdded place w (joined gs) (joined (take n (hs ++ drop (length hs) gs)))
joins-group place w letter k n gs xs ys hs e f size sized same at more all =
    let here : IsPlaceOf letter k gs = rw e at at in
    let there : HasMoreAt k w gs hs = rw f at more in
    let read : slice_get w place ≡ Some here.0 = sym same ∙ here.1 in
    rw (written-back n gs hs size sized, there.3)
    (kept-in-group place w here.0 gs k there.0 there.1 here.2 there.2 there.4 read all, added-in-group place w here.0 gs k there.0 there.1 here.2 there.2 there.4 read all)

-- the words of one group more
pub joined-more : (ws : List (Vec ℕ Global)) (more vs : List (Vec ℕ Global)) (gs : List Group) (i : ℕ) (g : Group) → i < length gs → vs ≡ more ++ ws → spelled more ≡ joined (take i gs) → ws ≡ (get_or gs i g).words.items
    → spelled vs ≡ joined (take (i + 1) gs)
joined-more ws more vs gs i g inside e f h =
    ap spelled e ∙ map-append (λ (v : Vec ℕ Global). v.items) more ws ∙ (λ i. f i ++ spelled (h i))
    ∙ ap (λ l. joined (take i gs) ++ l) (sym (append-nil (spelled (get_or gs i g).words.items)))
    ∙ sym (flat_map-append (λ (y : Group). spelled y.words.items) (take i gs) (get_or gs i g ∷ [])) ∙ ap joined (sym (take_more gs i g inside))
