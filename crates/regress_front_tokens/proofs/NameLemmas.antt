-- How a group's name is read, one code point after another, and what a property's key is read from.
use Rattle.std.proofs.Common.{◌≡◌, ℕ, zero, suc, ◌<◌, ◌≤◌, ◌==◌, ◌&&◌, ◌||◌, ◌⊎◌, inl, inr, not, Bool, true, false, nat_lt, ◌+◌, cond, List, [], ◌∷◌, ◌++◌, length, take, drop, get_or, Option, Some, None, refl, sym, ap, ◌∙◌, arith, append_assoc, append-nil, lit<, subst}
use Rattle.std.specs.Prelude.{if◌then◌else◌, option_map, option_and_then}
use Rattle.std.proofs.lemmas.Bool.{and_parts, or_cases}
use Rattle.std.proofs.lemmas.List.Elements.{filter_more, filter-append}
use Rattle.regress_meaning.specs.Text.{◌∈◌, is_at, span}
use Rattle.regress_meaning.specs.Table.{Table}
use Rattle.regress_meaning.specs.TableParts.{TableParts, IsLawful, IntervalsRise, in_intervals, is_surrogate, table_of}
use Rattle.regress_front_sets.proofs.IntervalLemmas.{in_intervals-bounded}
use Rattle.regress_meaning.specs.Class.{is_ascii_word}
use Rattle.regress_meaning.specs.Tokens.{Mode, guard, begins_name, continues_name, unicode_escape, name_point, name_rest, name_at, key_at}
use Rattle.std.specs.List.{list_all}
use lib.Utf8.{scalar, low_scalar, encode}
use Rattle.std.specs.Char.{IsScalar}
use Rattle.std.specs.Str.{IsAscii, IsUtf8, chars}
use Rattle.std.proofs.lemmas.Str.{IsAscii-append, IsUtf8-encode, chars-append, chars-nil, chars_past_char}
use Rattle.std.proofs.lemmas.Bool.Decides.{nat_tests}
use Rattle.regress_front_tokens.proofs.ModeLemmas.{any_mode}
use Rattle.regress_front_tokens.proofs.SpanLemmas.{span-passes}
use Rattle.regress_meaning.specs.Laws.{LeavesLess}
use Rattle.regress_front_tokens.specs.Readings.{IsNext, IsReading}
use Rattle.regress_front_tokens.specs.Words.{characters_of}
use Rattle.regress_front_tokens.proofs.TokenLemmas.{some_length}

-- a code point of a name that is written as an escape
pub name_point-escaped : (t : List ℕ) → true ≡ is_at (λ c. c == 0x5C) t → name_point t ≡ guard (is_at (λ d. d == 0x75) (drop 1 t)) (unicode_escape (drop 1 (drop 1 t)))
unfolding name_point
name_point-escaped [] e = cc
name_point-escaped (c ∷ t) e = rw (← e) refl

-- a code point of a name as it stands
pub name_point-plain : (t : List ℕ) (o : Option ℕ) (rest : List ℕ) → false ≡ is_at (λ c. c == 0x5C) t → IsNext t o rest → IsReading (λ c. c) name_point t o rest
unfolding name_point
name_point-plain [] None rest e h = (refl, h.1)
name_point-plain [] (Some c) rest e h = cc
name_point-plain (c ∷ t) None rest e h = cc
name_point-plain (c ∷ t) (Some d) rest e h = rw (← e) (cc)

-- what is read of a name behind its first code point
abbrev pub rest_at : Table → List ℕ → Option (List ℕ × List ℕ)
rest_at table t = name_rest table (length t) t

-- a name goes on with c, or is none
abbrev goes_on : Table → Option (ℕ × List ℕ) → (List ℕ → Option (List ℕ × List ℕ)) → Option (List ℕ × List ℕ)
goes_on table o next = option_and_then (λ (c, r). guard (continues_name table c) (option_map (λ (cs, s). (c ∷ cs, s)) (next r))) o

-- two ways to go on that are the same from what was read on
goes_on-same : (table : Table) (o : Option (ℕ × List ℕ)) (f g : List ℕ → Option (List ℕ × List ℕ)) → ((c : ℕ) (r : List ℕ) → o ≡ Some (c, r) → f r ≡ g r) → goes_on table o f ≡ goes_on table o g
goes_on-same table None f g h = refl
goes_on-same table (Some (c, r)) f g h = rw (h c r refl) refl

nothing_left : name_point [] ≡ None
unfolding name_point
nothing_left = refl

-- what is read at the front of a text leaves less of it, whatever the mode
abbrev pub ReadingLeavesLess : Type 0
ReadingLeavesLess = (m : Mode) (t : List ℕ) → LeavesLess m t

-- two bounds that the text does not pass are the same
name_rest-same : ReadingLeavesLess → (table : Table) (n m : ℕ) (t : List ℕ) → length t ≤ n → length t ≤ m → name_rest table n t ≡ name_rest table m t
unfolding name_rest
name_rest-same less table zero zero [] h k = refl
name_rest-same less table zero (suc m) [] h k = rw nothing_left refl
name_rest-same less table (suc n) zero [] h k = rw nothing_left refl
name_rest-same less table (suc n) (suc m) [] h k = rw nothing_left refl
name_rest-same less table zero m (c ∷ t) h k = absurd (omega arith)
name_rest-same less table (suc n) zero (c ∷ t) h k = absurd (omega arith)
name_rest-same less table (suc n) (suc m) (c ∷ t) h k =
    ap (λ o. if c == 0x3E then Some ([], t) else o)
    (goes_on-same table (name_point (c ∷ t)) (name_rest table n) (name_rest table m) (λ d r e.
    let shorter = (less any_mode (c ∷ t)).name_point d r e in
    name_rest-same less table n m r (omega arith) (omega arith)))

-- what follows is `>`, or one more code point of the name
pub rest_at-is : ReadingLeavesLess → (table : Table) (t : List ℕ) → rest_at table t ≡ (if is_at (λ d. d == 0x3E) t then Some ([], drop 1 t) else goes_on table (name_point t) (rest_at table))
unfolding name_rest
rest_at-is less table [] = rw nothing_left refl
rest_at-is less table (c ∷ t) =
    ap (λ o. if c == 0x3E then Some ([], t) else o)
    (goes_on-same table (name_point (c ∷ t)) (name_rest table (length t)) (rest_at table) (λ d r e.
    let shorter = (less any_mode (c ∷ t)).name_point d r e in
    name_rest-same less table (length t) (length r) r (omega arith) (omega arith)))

-- a name of which some was read, and the rest of it
abbrev pub behind : List ℕ → Option (List ℕ × List ℕ) → Option (List ℕ × List ℕ)
behind name o = option_map (λ (cs, s). (name ++ cs, s)) o

-- one more code point of it
behind-push : (name : List ℕ) (c : ℕ) (o : Option (List ℕ × List ℕ)) → behind name (option_map (λ (cs, s). (c ∷ cs, s)) o) ≡ behind (name ++ (c ∷ [])) o
behind-push name c None = refl
behind-push name c (Some (cs, s)) = rw append_assoc refl

pub behind-point : ReadingLeavesLess → (table : Table) (name t r : List ℕ) (c : ℕ) → false ≡ is_at (λ d. d == 0x3E) t → name_point t ≡ Some (c, r) → continues_name table c ≡ true →
    behind name (rest_at table t) ≡ behind (name ++ (c ∷ [])) (rest_at table r)
behind-point less table name t r c no_end point goes = rw (rest_at-is less, ← no_end, point, goes) (behind-push name c (rest_at table r))

pub behind-no_point : ReadingLeavesLess → (table : Table) (name t : List ℕ) → false ≡ is_at (λ d. d == 0x3E) t → name_point t ≡ None → behind name (rest_at table t) ≡ None
behind-no_point less table name t no_end point = rw (rest_at-is less, ← no_end, point) refl

pub behind-other : ReadingLeavesLess → (table : Table) (name t r : List ℕ) (c : ℕ) → false ≡ is_at (λ d. d == 0x3E) t → name_point t ≡ Some (c, r) → continues_name table c ≡ false → behind name (rest_at table t) ≡ None
behind-other less table name t r c no_end point stops = rw (rest_at-is less, ← no_end, point, stops) refl

pub behind-end : ReadingLeavesLess → (table : Table) (name t : List ℕ) → true ≡ is_at (λ d. d == 0x3E) t → behind name (rest_at table t) ≡ Some (name, drop 1 t)
behind-end less table name t end = rw (rest_at-is less, ← end, append-nil) refl

-- the first code point of a name
pub name_at-first : (table : Table) (t r : List ℕ) (c : ℕ) → name_point t ≡ Some (c, r) → begins_name table c ≡ true → name_at table t ≡ behind (c ∷ []) (rest_at table r)
unfolding name_at
name_at-first table t r c point begins = rw (point, begins) refl

pub name_at-no_point : (table : Table) (t : List ℕ) → name_point t ≡ None → name_at table t ≡ None
unfolding name_at
name_at-no_point table t point = rw point refl

pub name_at-other : (table : Table) (t r : List ℕ) (c : ℕ) → name_point t ≡ Some (c, r) → begins_name table c ≡ false → name_at table t ≡ None
unfolding name_at
name_at-other table t r c point stops = rw (point, stops) refl

-- two tests, one after the other
guard_both : {A : Type 0} (a b : Bool) (o : Option A) → guard (a && b) o ≡ guard a (guard b o)
guard_both true b o = refl
guard_both false b o = refl

guard_three : {A : Type 0} (a b c : Bool) (o : Option A) → guard (a && b && c) o ≡ guard a (guard b (guard c o))
guard_three true true c o = refl
guard_three true false c o = refl
guard_three false b c o = refl

-- the words of a key, by whether the next code point is the one that is wanted
pub key_at-is : (t : List ℕ) → key_at t ≡ guard (is_at (λ c. c == 0x7B) t) (
    let (name, r) = span is_ascii_word (drop 1 t) in
    let (value, s) = span is_ascii_word (drop 1 r) in
    guard (not (length name == 0))
    (if is_at (λ d. d == 0x7D) r then Some (name, drop 1 r)
    else guard (is_at (λ d. d == 0x3D) r) (guard (not (length value == 0)) (guard (is_at (λ d. d == 0x7D) s) (Some (name ++ (0x3D ∷ value), drop 1 s))))))
unfolding key_at
key_at-is [] = refl
key_at-is (c ∷ t) = rw (guard_both, some_length, guard_three, some_length) refl

-- words are ASCII
words-ascii : (ds : List ℕ) → list_all is_ascii_word ds ≡ true → IsAscii ds
words-ascii [] h i = lit< tt
words-ascii (d ∷ ds) h zero = let word = (and_parts (is_ascii_word d) (list_all is_ascii_word ds) h).0 in grind (arith, nat_tests)
words-ascii (d ∷ ds) h (suc i) = words-ascii ds (and_parts (is_ascii_word d) (list_all is_ascii_word ds) h).1 i

cons-ascii : (c : ℕ) (ds : List ℕ) → c < 128 → IsAscii ds → IsAscii (c ∷ ds)
cons-ascii c ds small h zero = small
cons-ascii c ds small h (suc i) = h i

-- ASCII is of characters alone
pub characters-ascii : (cs : List ℕ) → IsAscii cs → characters_of cs ≡ cs
characters-ascii [] h = refl
characters-ascii (c ∷ cs) h = rw (low_scalar c (omega (arith, h 0))) (ap (λ t. c ∷ t) (characters-ascii cs (λ i. h (suc i))))

-- one code point more
pub characters-next : (cs : List ℕ) (k d : ℕ) → k < length cs → characters_of (take (k + 1) cs) ≡ characters_of (take k cs) ++ characters_of (get_or cs k d ∷ [])
characters-next cs k d inside = filter_more scalar cs k d inside

-- what is found behind a test
guarded : {A : Type 0} {x : A} (b : Bool) (o : Option A) → guard b o ≡ Some x → o ≡ Some x
guarded true o e = e
guarded false o e = cc

the_ascii : {p : List ℕ × List ℕ} (key r : List ℕ) → IsAscii key → Some (key, r) ≡ Some p → IsAscii p.0
the_ascii {p = p} key r ascii e = let same : (key, r) ≡ p = cc in subst (λ (q : List ℕ × List ℕ). IsAscii q.0) same ascii

-- keys are ASCII
pub key-ascii : (t : List ℕ) {p : List ℕ × List ℕ} → key_at t ≡ Some p → IsAscii p.0
unfolding key_at
key-ascii [] e = cc
key-ascii (c ∷ t) {p = p} e = by_end (is_at (λ d. d == 0x7D) name.1) (guarded (c == 0x7B && nat_lt 0 (length name.0)) _ e)
  where
    name : List ℕ × List ℕ
    name = span is_ascii_word t

    value : List ℕ × List ℕ
    value = span is_ascii_word (drop 1 name.1)

    names : IsAscii name.0
    names = words-ascii name.0 (span-passes is_ascii_word t refl)

    values : IsAscii (0x3D ∷ value.0)
    values = cons-ascii 0x3D value.0 (lit< tt) (words-ascii value.0 (span-passes is_ascii_word (drop 1 name.1) refl))

    by_end : (b : Bool) → (if b then Some (name.0, drop 1 name.1) else guard (is_at (λ d. d == 0x3D) name.1 && nat_lt 0 (length value.0) && is_at (λ d. d == 0x7D) value.1) (Some (name.0 ++ 0x3D ∷ value.0, drop 1 value.1))) ≡ Some p → IsAscii p.0
    by_end true h = the_ascii name.0 (drop 1 name.1) names h
    by_end false h = the_ascii (name.0 ++ 0x3D ∷ value.0) (drop 1 value.1) (IsAscii-append name.0 (0x3D ∷ value.0) names values) (guarded _ _ h)

-- what a lawful table lets stand in an identifier is a scalar value
identifier-scalar : (intervals : List (ℕ × ℕ)) (c : ℕ) → IntervalsRise intervals → in_intervals intervals c ≡ true → is_surrogate c ≡ false → scalar c ≡ true
identifier-scalar intervals c rise held none = let within = in_intervals-bounded intervals c rise held in grind (arith, nat_tests)

-- and so is each code point of a name
continues-scalar : (parts : TableParts) → IsLawful parts → (c : ℕ) → continues_name (table_of parts) c ≡ true → scalar c ≡ true
continues-scalar parts lawful c h = by_last (or_cases (begins || continues || c == 0x200C) (c == 0x200D) h)
  where
    table : Table
    table = table_of parts

    begins : Bool
    begins = begins_name table c

    continues : Bool
    continues = table.is_id_continue c

    by_start : ((c ∈ "$_") ≡ true) ⊎ (table.is_id_start c ≡ true) → scalar c ≡ true
    by_start (inl k) = grind (arith, nat_tests)
    by_start (inr k) = identifier-scalar parts.id_start c lawful.canonical.0 k ((lawful.identifier c).0 k).1

    by_first : (begins ≡ true) ⊎ (continues ≡ true) → scalar c ≡ true
    by_first (inl k) = by_start (or_cases (c ∈ "$_") (table.is_id_start c) k)
    by_first (inr k) = identifier-scalar parts.id_continue c lawful.canonical.1 k ((lawful.identifier c).1 k).1

    by_joiner : ((begins || continues) ≡ true) ⊎ ((c == 0x200C) ≡ true) → scalar c ≡ true
    by_joiner (inl k) = by_first (or_cases begins continues k)
    by_joiner (inr k) = grind (arith, nat_tests)

    by_last : ((begins || continues || c == 0x200C) ≡ true) ⊎ ((c == 0x200D) ≡ true) → scalar c ≡ true
    by_last (inl k) = by_joiner (or_cases (begins || continues) (c == 0x200C) k)
    by_last (inr k) = grind (arith, nat_tests)

-- a name goes on with a character
pub name_pushed : (parts : TableParts) → IsLawful parts → (old new : List ℕ) (c : ℕ) → new ≡ old ++ characters_of (c ∷ []) → continues_name (table_of parts) c ≡ true
    → new ≡ old ++ (c ∷ [])
name_pushed parts lawful old new c e goes = e ∙ ap (λ b. old ++ cond b (c ∷ []) []) (continues-scalar parts lawful c goes)

-- one character more of a text
pub code_points-push : (text : List ℕ) (c : ℕ) → IsUtf8 text → IsScalar c → chars (text ++ encode c) ≡ chars text ++ (c ∷ [])
code_points-push text c valid is_scalar =
    chars-append text (encode c) valid
    ∙ ap (λ (t : List ℕ). chars text ++ t) (chars_past_char _ [] c (IsUtf8-encode c is_scalar) (sym (append-nil _)) ∙ ap (λ (t : List ℕ). c ∷ t) chars-nil)

-- a key as a text
pub key-text : (t key : List ℕ) {p : List ℕ × List ℕ} → key_at t ≡ Some p → key ≡ characters_of p.0 → key_at t ≡ Some (key, p.1)
key-text t key {p = p} e made = e ∙ ap (λ (k : List ℕ). Some (k, p.1)) (sym (made ∙ characters-ascii p.0 (key-ascii t e)))

-- the characters of a name and a value, put together
pub key-parts : (name value a b c : List ℕ) → a ≡ characters_of name → b ≡ a ++ (0x3D ∷ []) → c ≡ b ++ characters_of value → c ≡ characters_of (name ++ (0x3D ∷ value))
key-parts name value a b c e f g =
    g ∙ ap (λ (t : List ℕ). t ++ characters_of value) (f ∙ ap (λ (t : List ℕ). t ++ (0x3D ∷ [])) e)
    ∙ append_assoc (characters_of name) (0x3D ∷ []) (characters_of value) ∙ sym (filter-append scalar name (0x3D ∷ value))
