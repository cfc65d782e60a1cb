-- Which groups and names a tree has, and how many loops: of parts side by side, and of what has no groups.
use Rattle.std.specs.Prelude.{if◌then◌else◌, cond, IfSome, ◌≢◌}
use Rattle.std.proofs.Common.{◌≡◌, ℕ, zero, suc, ◌+◌, ◌-◌, ◌<◌, ◌≤◌, Bool, true, false, ◌==◌, List, [], ◌∷◌, ◌++◌, length, Option, None, unwrap_or, map, reverse, slice_get, All, refl, sym, ap, ap₂, ◌∙◌, ◌⊎◌, inl, inr, arith}
use Rattle.std.specs.Option.{option_or}
use Rattle.std.proofs.lemmas.Bool.{cases_lt}
use Rattle.std.proofs.lemmas.Bool.Decides.{nat_tests}
use Rattle.std.proofs.lemmas.List.{reverse-append}
use Rattle.std.proofs.lemmas.List.Elements.{All-nil, All-cons, All-head, All-tail, All-append}
use Rattle.std.proofs.lemmas.Option.{slice_get_past}
use Rattle.regress_meaning.specs.TableParts.{is_code_point}
use Rattle.regress_front_nodes.specs.Trees.{Tree, char, byte_set, char_set, cat, no_part, any, any_in_line, capture, back, bracket, string_set, cat_of}
use Rattle.regress_front_nodes.specs.WellFormed.{HoldsNoSingleLoop, group_ids, goals, AreLawful}
use Rattle.regress_front_nodes.specs.Sizes.{loops}
use Rattle.regress_front_nodes.specs.WellFormed.{name_by_number}
use Rattle.regress_front_nodes.specs.Characters.{is_character}
use Rattle.regress_front_nodes.specs.Forms.{in_reading_order}
use Rattle.regress_front_nodes.proofs.CountLemmas.{times, count-append, count-cons}
use Rattle.regress_front_nodes.proofs.OptionLemmas.{option_or-none}
use Rattle.regress_front_tree.proofs.SameLemmas.{Same}

-- A tree has the groups of these numbers, in some order, and these names, and so many loops; k groups were opened before it.
pub record Fits (n k : ℕ) (numbers : List ℕ) (names : List (List ℕ)) (count : ℕ) (t : Tree) : Type 0 where
  pub ids : (i : ℕ) → times i (group_ids t) ≡ times i numbers
  pub lawful : AreLawful n t
  pub no_goal : goals t ≡ 0
  pub looped : loops t ≡ count
  pub named : (i : ℕ) → name_by_number (k + i) t ≡ slice_get names i
  pub none_before : (i : ℕ) → i < k → name_by_number i t ≡ None
  pub plain : HoldsNoSingleLoop t

pub same-fits : {n k count : ℕ} {numbers : List ℕ} {names : List (List ℕ)} {t u : Tree} → Same t u
    → Fits n k numbers names count t → Fits n k numbers names count u
same-fits {n = n} {k = k} s f = record {
  ids = λ i. ap (times i) s.ids ∙ f.ids i;
  lawful = s.lawful n f.lawful;
  no_goal = s.goals ∙ f.no_goal;
  looped = s.loops ∙ f.looped;
  named = λ i. s.named (k + i) ∙ f.named i;
  none_before = λ i h. s.named i ∙ f.none_before i h;
  plain = s.plain f.plain;
}

-- a tree without groups
abbrev pub Leaf : ℕ → ℕ → Tree → Type 0
Leaf n k t = Fits n k [] [] 0 t

pub leaf : {n k : ℕ} (t : Tree) → group_ids t ≡ [] → AreLawful n t → goals t ≡ 0 → loops t ≡ 0
    → ((i : ℕ) → name_by_number i t ≡ None) → HoldsNoSingleLoop t → Leaf n k t
leaf {k = k} t e h g l none plain = record {
  ids = λ i. ap (times i) e;
  lawful = h;
  no_goal = g;
  looped = l;
  named = λ i. none (k + i);
  none_before = λ i h. none i;
  plain = plain;
}

-- a name of the first list, or behind it of the second
get-first : {A : Type 0} (xs ys : List A) (i : ℕ) → i < length xs → slice_get (xs ++ ys) i ≡ slice_get xs i
get-first [] ys i h = absurd (omega arith)
get-first (x ∷ xs) ys zero h = refl
get-first (x ∷ xs) ys (suc i) h = get-first xs ys i (omega arith)

get-second : {A : Type 0} (xs ys : List A) (i : ℕ) → slice_get (xs ++ ys) (length xs + i) ≡ slice_get ys i
get-second [] ys i = ap (slice_get ys) (omega arith)
get-second (x ∷ xs) ys i = let e : suc (length xs) + i ≡ suc (length xs + i) = omega arith in rw e (get-second xs ys i)

-- the first where it is there, or else the second, in either order
abbrev InBothOrders : {A : Type 0} → Option A → Option A → Option A → Type 0
InBothOrders o p q = (option_or o p ≡ q) × (option_or p o ≡ q)

-- of two lists of names, the second behind the first, each name is in one
names-beside : (k l : ℕ) (names second : List (List ℕ)) → l ≡ k + length names → (f g : ℕ → Option (List ℕ))
    → ((i : ℕ) → f (k + i) ≡ slice_get names i) → ((i : ℕ) → i < l → g i ≡ None) → ((i : ℕ) → g (l + i) ≡ slice_get second i)
    → (i : ℕ) → InBothOrders (f (k + i)) (g (k + i)) (slice_get (names ++ second) i)
names-beside k l names second e f g first none behind i = by_place (cases_lt i (length names))
  where
    by_place : (i < length names) ⊎ (length names ≤ i) → InBothOrders (f (k + i)) (g (k + i)) (slice_get (names ++ second) i)
    by_place (inl h) =
        let no : g (k + i) ≡ None = none (k + i) (omega arith) in
        let found : f (k + i) ≡ slice_get (names ++ second) i = first i ∙ sym (get-first names second i h) in
        (rw no (option_or-none (f (k + i)) ∙ found), rw no found)
    by_place (inr h) =
        let j : ℕ = i - length names in
        let no : f (k + i) ≡ None = first i ∙ slice_get_past names i h in
        let found : g (k + i) ≡ slice_get (names ++ second) i =
        ap g (omega arith) ∙ behind j ∙ sym (get-second names second j) ∙ ap (slice_get (names ++ second)) (omega arith) in
        (rw no found, rw no (option_or-none (g (k + i)) ∙ found))

-- the names in a tree
abbrev name_in : Tree → ℕ → Option (List ℕ)
name_in t i = name_by_number i t

-- two trees side by side, in both orders

pub cat-fits : {n k l count more : ℕ} {numbers others : List ℕ} {names second : List (List ℕ)} {t u : Tree}
    → l ≡ k + length names
    → Fits n k numbers names count t → Fits n l others second more u
    → Fits n k (numbers ++ others) (names ++ second) (count + more) (cat t u)
cat-fits {n = n} {k = k} {l = l} {numbers} {others} {names} {second} {t} {u} e a b = record {
  ids = λ i. count-append i (group_ids t) (group_ids u)
      ∙ (ap₂ (λ x y. x + y) (a.ids i) (b.ids i) ∙ sym (count-append i numbers others));
  lawful = (a.lawful, b.lawful);
  no_goal = omega (arith, a.no_goal, b.no_goal);
  looped = ap₂ (λ x y. x + y) a.looped b.looped;
  named = λ i. (names-beside k l names second e (name_in t) (name_in u) a.named b.none_before b.named i).0;
  none_before = λ i h. ap₂ option_or (a.none_before i h) (b.none_before i (omega arith));
  plain = (a.plain, b.plain);
}

pub back-fits : {n k l count more : ℕ} {numbers others : List ℕ} {names second : List (List ℕ)} {t u : Tree}
    → l ≡ k + length names
    → Fits n k numbers names count t → Fits n l others second more u
    → Fits n k (numbers ++ others) (names ++ second) (count + more) (cat u t)
back-fits {n = n} {k = k} {l = l} {numbers} {others} {names} {second} {t} {u} e a b = record {
  ids = λ i. count-append i (group_ids u) (group_ids t)
      ∙ (omega (arith, a.ids i, b.ids i) ∙ sym (count-append i numbers others));
  lawful = (b.lawful, a.lawful);
  no_goal = omega (arith, a.no_goal, b.no_goal);
  looped = omega (arith, a.looped, b.looped);
  named = λ i. (names-beside k l names second e (name_in t) (name_in u) a.named b.none_before b.named i).1;
  none_before = λ i h. ap₂ option_or (b.none_before i (omega arith)) (a.none_before i h);
  plain = (b.plain, a.plain);
}

pub leaf-cat : {n k : ℕ} {t u : Tree} → Leaf n k t → Leaf n k u → Leaf n k (cat t u)
leaf-cat a b = cat-fits (omega arith) a b

-- a tree that takes one character

pub takes-leaf : {n k : ℕ} (t : Tree) → is_character t ≡ true → AreLawful 0 t → Leaf n k t
takes-leaf (char c) e h = leaf (char c) refl h refl refl (λ i. refl) tt
takes-leaf (byte_set bs) e h = leaf (byte_set bs) refl h refl refl (λ i. refl) tt
takes-leaf (char_set cs) e h = leaf (char_set cs) refl h refl refl (λ i. refl) tt
takes-leaf any e h = leaf any refl tt refl refl (λ i. refl) tt
takes-leaf any_in_line e h = leaf any_in_line refl tt refl refl (λ i. refl) tt
takes-leaf (bracket inverted intervals) e h = leaf (bracket inverted intervals) refl h refl refl (λ i. refl) tt
takes-leaf _ e h = absurd (cc)

-- a class's arms

string_set-leaf : {n k : ℕ} (strings : List (List ℕ)) (icase : Bool) → All (All is_code_point) strings
    → Leaf n k (string_set strings icase)
string_set-leaf strings icase h = leaf (string_set strings icase) refl h refl refl (λ i. refl) tt

pub no_part-leaf : {n k : ℕ} → Leaf n k no_part
no_part-leaf = leaf no_part refl tt refl refl (λ i. refl) tt

-- the arms, by whether there is no longer string, and whether there is the empty one
abbrev pub arms_of : Bool → List (List ℕ) → Tree → Bool → Bool → List Tree
arms_of icase strings characters none has_empty =
    (if none then [] else string_set strings icase ∷ []) ++ (characters ∷ (if has_empty then string_set ([] ∷ []) icase ∷ [] else []))

pub class-leaves : {n k : ℕ} (icase : Bool) (strings : List (List ℕ)) (characters : Tree) (none has_empty : Bool)
    → All (All is_code_point) strings → Leaf n k characters → Leaf n k (cat_of (arms_of icase strings characters none has_empty))
class-leaves {n = n} {k = k} icase strings characters none has_empty h a = by_strings none
  where
    behind : (b : Bool) → Leaf n k (cat_of (arms_of icase strings characters true b))
    behind true =
        let points = All-cons (All is_code_point) [] [] (All-nil is_code_point) (All-nil (All is_code_point)) in
        leaf-cat a (leaf-cat (string_set-leaf ([] ∷ []) icase points) no_part-leaf)
    behind false = leaf-cat a no_part-leaf

    by_strings : (b : Bool) → Leaf n k (cat_of (arms_of icase strings characters b has_empty))
    by_strings true = behind has_empty
    by_strings false = leaf-cat (string_set-leaf strings icase h) (behind has_empty)

-- references

pub All-turned : {A : Type 0} (P : A → Type 0) (b : Bool) (xs : List A) → All P xs → All P (in_reading_order b xs)
All-turned P false xs h = h
All-turned P true [] h = h
All-turned P true (x ∷ xs) h =
    let last = All-cons P x [] (All-head P x xs h) (All-nil P) in
    rw (reverse-append (x ∷ []) xs) (All-append P (reverse xs) (x ∷ []) (All-turned P true xs (All-tail P x xs h)) last)

pub back-leaves : {n k : ℕ} (icase : Bool) (js : List ℕ) → All (λ j. j < n) js
    → Leaf n k (cat_of (map (λ j. back (j + 1) icase) js))
back-leaves icase [] h = no_part-leaf
back-leaves {n = n} icase (j ∷ js) h =
    leaf-cat (leaf (back (j + 1) icase) refl (omega arith, omega (arith, All-head (λ j. j < n) j js h)) refl refl (λ i. refl) tt)
    (back-leaves icase js (All-tail (λ j. j < n) j js h))

-- a group

pub capture-fits : {n k j count : ℕ} {numbers : List ℕ} {names : List (List ℕ)} {t : Tree} (name : Option (List ℕ)) → IfSome name (λ text. text ≢ []) → j ≡ k
    → Fits n (suc k) numbers names count t → Fits n k (j ∷ numbers) (unwrap_or name [] ∷ names) count (capture j name t)
capture-fits {k = k} {j = j} {numbers = numbers} {names = names} {t = t} name full e a = record {
  ids = λ i. count-cons i j (group_ids t) ∙ ap (λ x. cond (j == i) 1 0 + x) (a.ids i) ∙ sym (count-cons i j numbers);
  lawful = (full, a.lawful);
  no_goal = a.no_goal;
  looped = a.looped;
  named = by_place;
  none_before = λ i h. let other : (j == i) ≡ false = grind (arith, nat_tests) in rw other (a.none_before i (omega arith));
  plain = a.plain;
}
  where
    by_place : (i : ℕ) → name_by_number (k + i) (capture j name t) ≡ slice_get (unwrap_or name [] ∷ names) i
    by_place zero = let same : (j == (k + 0)) ≡ true = grind (arith, nat_tests) in rw same refl
    by_place (suc i) =
        let other : (j == (k + suc i)) ≡ false = grind (arith, nat_tests) in
        rw other (ap (name_in t) (omega arith) ∙ a.named i)
