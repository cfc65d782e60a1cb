-- The first bytes of characters.
use Rattle.std.proofs.Common.{◌≡◌, ℕ, ◌+◌, ◌<◌, ◌≤◌, ◌⊎◌, ◌↔◌, ◌||◌, Bool, true, false, List, [], ◌∷◌, ◌++◌, length, take, get_or, map, slice_get, Some, All, Global, refl, sym, ap, subst, ◌∙◌, inl, inr, arith}
use Rattle.std.specs.Prelude.{encode_utf8, ◌==◌}
use Rattle.std.specs.List.{list_any}
use Rattle.std.specs.Box.{boxed_slice_items}
use Rattle.std.specs.declared.boxed.BoxedSlice.{BoxedSlice}
use Rattle.regress_meaning.specs.Meaning.{is_some_and}
use Rattle.std.proofs.lemmas.Bool.{eqb-true, eq-eqb}
use Rattle.std.proofs.lemmas.Bool.Decides.{nat_tests}
use Rattle.std.proofs.Math.Bool.{or-false}
use Rattle.std.proofs.lemmas.List.{map-append, take_more, get_or-map, length-map}
use Rattle.std.proofs.lemmas.List.Folds.{list_any-append}
use Rattle.std.proofs.lemmas.List.Elements.{All-head, All-push}
use Rattle.std.proofs.lemmas.Option.{slice_get_within}
use Rattle.std.proofs.lemmas.Str.{encode_ascii}
use Rattle.regress_meaning.specs.Text.{holds, between}
use Rattle.regress_meaning.specs.TableParts.{is_code_point, in_intervals}
use Rattle.regress_front_sets.specs.declared.interval.Interval.{Interval}
use Rattle.regress_front_sets.specs.Intervals.{ends, ends_of, in_interval}
use Rattle.regress_front_sets.specs.FirstBytes.{BeginsSome}
use Rattle.regress_front_sets.proofs.FirstByteLemmas.{lead, lead-first, lead-unique}
use Rattle.regress_engine_scanning.proofs.AsciiLemmas.{All-holds}
use Rattle.regress_engine_prefix.specs.FirstBytes.{BeginsOneOf, AreFirstOf, MayLead, begins_one, AreFirstOfStrings}

-- a first byte may be one
MayLead-lead : (c : ℕ) → c ≤ 0x10_FFFF → MayLead (lead c)
unfolding lead
MayLead-lead c below = grind (arith, nat_tests)

pub MayLead-first : (c b : ℕ) → is_code_point c → slice_get (encode_utf8 c) 0 ≡ Some b → MayLead b
MayLead-first c b below e = subst MayLead (lead-unique c b e) (MayLead-lead c below)

-- each character has a first byte
pub has-lead : (c : ℕ) → slice_get (encode_utf8 c) 0 ≡ Some (lead c)
has-lead c = lead-first c

-- all bytes of such a set may be first bytes
pub MayLead-of : (test set : ℕ → Bool) → AreFirstOf test set → (b : ℕ) → set b ≡ true → MayLead b
MayLead-of test set first b e = let found = (first.each b).0 e in MayLead-first found.0 b found.1 found.3

-- the first byte of a code point that passes is in the set
pub first-in : (test set : ℕ → Bool) → AreFirstOf test set → (c : ℕ) → is_code_point c → test c ≡ true → (b : ℕ) → slice_get (encode_utf8 c) 0 ≡ Some b → set b ≡ true
first-in test set first c below passes b e = (first.each b).1 (c, below, passes, e)

-- no code point, and no byte
pub AreFirstOf-none : (test set : ℕ → Bool) → ((c : ℕ) → test c ≡ false) → ((b : ℕ) → set b ≡ false) → AreFirstOf test set
AreFirstOf-none test set no_point no_byte = record {
  each = λ b. ((λ e. absurd (let no = no_byte b in cc)), (λ found. absurd (let no = no_point found.0 in let yes = found.2 in cc)));
}

by_either : {A : Type 0} (a b : Bool) → (a || b) ≡ true → (a ≡ true → A) → (b ≡ true → A) → A
by_either true b e f g = f refl
by_either false b e f g = g e

to_left : (a b : Bool) → a ≡ true → (a || b) ≡ true
to_left true b e = refl
to_left false b e = absurd (cc)

to_right : (a b : Bool) → b ≡ true → (a || b) ≡ true
to_right true b e = refl
to_right false b e = e

-- more code points, and their first bytes
pub AreFirstOf-more : (test more one set both : ℕ → Bool) → AreFirstOf test set
    → ((c : ℕ) → more c ≡ (test c || one c))
    → ((b : ℕ) → (both b ≡ true) ↔ ((set b ≡ true) ⊎ BeginsOneOf one b))
    → AreFirstOf more both
AreFirstOf-more test more one set both first points bytes = record { each = λ b. (here b, there b) }
  where
    from : (b : ℕ) → (set b ≡ true) ⊎ BeginsOneOf one b → BeginsOneOf more b
    from b (inl old) = let found = (first.each b).0 old in (found.0, found.1, points found.0 ∙ to_left _ _ found.2, found.3)
    from b (inr new) = (new.0, new.1, points new.0 ∙ to_right _ _ new.2, new.3)

    here : (b : ℕ) → both b ≡ true → BeginsOneOf more b
    here b e = from b ((bytes b).0 e)

    there : (b : ℕ) → BeginsOneOf more b → both b ≡ true
    there b (c, below, passes, begins) = by_either (test c) (one c) (sym (points c) ∙ passes)
        (λ old. (bytes b).1 (inl ((first.each b).1 (c, below, old, begins)))) (λ new. (bytes b).1 (inr (c, below, new, begins)))

-- the same code points by another test, and the same bytes
pub AreFirstOf-same : (test same set : ℕ → Bool) → ((c : ℕ) → is_code_point c → test c ≡ same c) → AreFirstOf test set → AreFirstOf same set
AreFirstOf-same test same set alike first = record { each = λ b. (here b, there b) }
  where
    here : (b : ℕ) → set b ≡ true → BeginsOneOf same b
    here b e = let found = (first.each b).0 e in (found.0, found.1, sym (alike found.0 found.1) ∙ found.2, found.3)

    there : (b : ℕ) → BeginsOneOf same b → set b ≡ true
    there b (c, below, passes, begins) = (first.each b).1 (c, below, alike c below ∙ passes, begins)

-- ASCII characters are their own first bytes
pub AreFirstOf-ascii : (bs : List ℕ) (set : ℕ → Bool) → All (λ b. b < 0x80) bs → ((b : ℕ) → set b ≡ holds bs b) → AreFirstOf (holds bs) set
AreFirstOf-ascii bs set low same = record { each = λ b. (here b, there b) }
  where
    here : (b : ℕ) → set b ≡ true → BeginsOneOf (holds bs) b
    here b e =
        let held = sym (same b) ∙ e in
        let below : b < 0x80 = All-holds (λ c. c < 0x80) bs b low held in
        (b, omega arith, held, ap (λ xs. slice_get xs 0) (encode_ascii b below))

    there : (b : ℕ) → BeginsOneOf (holds bs) b → set b ≡ true
    there b (c, code_point, held, begins) =
        let below : c < 0x80 = All-holds (λ d. d < 0x80) bs c low held in
        let first : Some c ≡ Some b = sym (ap (λ xs. slice_get xs 0) (encode_ascii c below)) ∙ begins in
        let is : c ≡ b = cc in same b ∙ subst (λ d. holds bs d ≡ true) is held

-- one interval more
pub in_intervals-more : (xs : List Interval) (i : Interval) (c : ℕ) → in_intervals (ends_of (xs ++ i ∷ [])) c ≡ (in_intervals (ends_of xs) c || in_interval i c)
unfolding in_intervals
in_intervals-more xs i c =
    ap (list_any (λ e. between e.0 e.1 c)) (map-append ends xs (i ∷ [])) ∙ list_any-append (λ e. between e.0 e.1 c) (ends_of xs) (ends i ∷ [])
    ∙ ap (λ b. in_intervals (ends_of xs) c || b) (or-false (in_interval i c))

in_interval-below : (i : Interval) (c : ℕ) → in_interval i c ≡ true → c ≤ 0x10_FFFF
in_interval-below i c e = let top = i.bounded in grind (arith, nat_tests)

-- the first bytes of one interval more
pub AreFirstOf-interval : (xs : List Interval) (k : ℕ) (i : Interval) (set both : ℕ → Bool) → k < length xs → i ≡ get_or xs k i
    → AreFirstOf (in_intervals (ends_of (take k xs))) set
    → ((b : ℕ) → (both b ≡ true) ↔ ((set b ≡ true) ⊎ BeginsSome i b))
    → AreFirstOf (in_intervals (ends_of (take (k + 1) xs))) both
AreFirstOf-interval xs k i set both within is first bytes =
    AreFirstOf-more (in_intervals (ends_of (take k xs))) (in_intervals (ends_of (take (k + 1) xs))) (in_interval i) set both first
    (λ c. ap (λ ys. in_intervals (ends_of ys) c) (take_more xs k i within ∙ ap (λ j. take k xs ++ j ∷ []) (sym is)) ∙ in_intervals-more (take k xs) i c)
    (λ b. ((λ e. to b ((bytes b).0 e)), (λ e. (bytes b).1 (from b e))))
  where
    to : (b : ℕ) → (set b ≡ true) ⊎ BeginsSome i b → (set b ≡ true) ⊎ BeginsOneOf (in_interval i) b
    to b (inl old) = inl old
    to b (inr new) = inr (new.0, in_interval-below i new.0 new.1, new.1, new.2)

    from : (b : ℕ) → (set b ≡ true) ⊎ BeginsOneOf (in_interval i) b → (set b ≡ true) ⊎ BeginsSome i b
    from b (inl old) = inl old
    from b (inr new) = inr (new.0, new.2, new.3)

-- the first bytes of one string more
pub AreFirstOf-string : (before : List (List ℕ)) (string : List ℕ) (c val : ℕ) (set both : ℕ → Bool) → slice_get string 0 ≡ Some c → is_code_point c
    → slice_get (encode_utf8 c) 0 ≡ Some val → ((b : ℕ) → both b ≡ (set b || (val == b))) → AreFirstOf (begins_one before) set
    → AreFirstOf (begins_one (before ++ string ∷ [])) both
AreFirstOf-string before string c val set both begins below first adds known =
    AreFirstOf-more (begins_one before) (begins_one (before ++ string ∷ [])) starts set both known
    (λ d. list_any-append (λ cs. is_some_and (slice_get cs 0) (λ e. e == d)) before (string ∷ []) ∙ ap (λ t. begins_one before d || t) (or-false (starts d)))
    (λ b. (to b, from b))
  where
    starts : ℕ → Bool
    starts d = is_some_and (slice_get string 0) (λ e. e == d)

    to : (b : ℕ) → both b ≡ true → (set b ≡ true) ⊎ BeginsOneOf starts b
    to b e = by_either (set b) (val == b) (sym (adds b) ∙ e) (λ old. inl old)
        (λ new. inr (c, below, rw begins (eq-eqb c c refl), first ∙ ap Some (eqb-true val b new)))

    from : (b : ℕ) → (set b ≡ true) ⊎ BeginsOneOf starts b → both b ≡ true
    from b (inl old) = adds b ∙ to_left (set b) (val == b) old
    from b (inr (d, code_point, begun, byte)) =
        let is : c ≡ d = eqb-true c d (rw begins at begun) in
        let same : Some val ≡ Some b = sym first ∙ ap (λ e. slice_get (encode_utf8 e) 0) is ∙ byte in
        let equal : val ≡ b = cc in adds b ∙ to_right (set b) (val == b) (eq-eqb val b equal)

-- of the strings up to the next
pub AreFirstOfStrings-more : (strings : List (BoxedSlice ℕ Global)) (k : ℕ) (string : BoxedSlice ℕ Global) (c val : ℕ) (set both : ℕ → Bool)
    → k < length strings → string ≡ get_or strings k string → slice_get (boxed_slice_items string) 0 ≡ Some c → is_code_point c
    → slice_get (encode_utf8 c) 0 ≡ Some val → ((b : ℕ) → both b ≡ (set b || (val == b)))
    → AreFirstOfStrings (map boxed_slice_items (take k strings)) set → AreFirstOfStrings (map boxed_slice_items (take (k + 1) strings)) both
AreFirstOfStrings-more strings k string c val set both within is begins below first adds known =
    let items = boxed_slice_items string in
    let front = map boxed_slice_items (take k strings) in
    let more : map boxed_slice_items (take (k + 1) strings) ≡ front ++ items ∷ [] =
    ap (map boxed_slice_items) (take_more strings k string within ∙ ap (λ s. take k strings ++ s ∷ []) (sym is)) ∙ map-append boxed_slice_items (take k strings) (string ∷ []) in
    subst (λ ss. AreFirstOfStrings ss both) (sym more)
    (record {
      some = All-push (λ cs. 0 < length cs) front items known.some (slice_get_within items 0 c begins);
      first = AreFirstOf-string front items c val set both begins below first adds known.first;
    })

-- the first code point of a string of code points is one
pub string-points : (strings : List (BoxedSlice ℕ Global)) (k : ℕ) (string : BoxedSlice ℕ Global) (c : ℕ) → k < length strings → string ≡ get_or strings k string
    → All (All is_code_point) (map boxed_slice_items strings) → slice_get (boxed_slice_items string) 0 ≡ Some c → is_code_point c
string-points strings k string c within is points begins =
    let at : All is_code_point (boxed_slice_items (get_or strings k string)) = subst (All is_code_point) (get_or-map boxed_slice_items strings k string (boxed_slice_items string) within)
    (points k (boxed_slice_items string) (rw length-map within)) in
    first-point (boxed_slice_items string) c (subst (λ s. All is_code_point (boxed_slice_items s)) (sym is) at) begins
  where
    first-point : (cs : List ℕ) (d : ℕ) → All is_code_point cs → slice_get cs 0 ≡ Some d → is_code_point d
    first-point [] d all e = absurd (cc)
    first-point (x ∷ xs) d all e = let same : x ≡ d = cc in subst is_code_point same (All-head is_code_point x xs all)
