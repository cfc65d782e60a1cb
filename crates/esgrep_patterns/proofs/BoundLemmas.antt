-- What is found in so many steps.
use Rattle.std.proofs.Common.{◌≡◌, ◌<◌, Bool, false, ℕ, get_or, Any, zero, suc, ◌+◌, ◌-◌, List, [], ◌∷◌, length, map, chars, Option, Some, None, Result, Ok, Err, IfOk, refl, sym, ap, subst, ◌∙◌, arith}
use Rattle.std.specs.Option.{option_transpose, option_map_or}
use Rattle.std.specs.Result.{IsErrAnd}
use Rattle.std.proofs.lemmas.Bool.{false_from_ne_true}
use Rattle.regress_meaning.specs.Matches.{Item, next_place, list_from, first_match, match_list}
use Rattle.regress_meaning.specs.Offsets.{of_utf8, told}
use Rattle.regress_match.specs.declared.found.Match.{Match}
use Rattle.regress_match.specs.GroupViews.{names_of_match}
use Rattle.regress_matched.specs.Giving.{GivesFound}
use Rattle.regress_engine_code.specs.declared.compiled.CompiledRegex.{CompiledRegex}
use Rattle.regress_engine_search.specs.Search.{Search}
use Rattle.regress_engine_input.specs.Views.{View, utf8}
use Rattle.regress_engine_exec.specs.declared.error.SearchError.{SearchError}
use Rattle.regress_engine_exec.specs.declared.error.SearchError.TheVariants.{OutOfMemory, TooManySteps}
use Rattle.regress_engine_exec.specs.Counting.{CountsStep}
use Rattle.regress_programs.specs.declared.slots.Anchored.TheVariants.{No}
use Rattle.regress_programs.specs.declared.compiled.Compiled.{Compiled}
use Rattle.regress_programs.specs.Counting.{Counts, Stops}
use Rattle.regress_programs.specs.Tables.{byte_table_of}
use Rattle.regress_bounded.specs.declared.bounded.Bounded.{Bounded}
use Rattle.regress_bounded.specs.Coming.{GivesWithin}
use Rattle.regress_bounded.specs.Standing.{compiled_of, steps_of, byte_program_of, may_turn_in_bytes, TakesAllInBytes}
use Rattle.regress_bounded.specs.Stopping.{seen_by}
use Rattle.regress.proofs.IterationLemmas.{first-given}
use Rattle.regress.specs.declared.api.Regex.{Regex}
use Rattle.esgrep_rows.specs.Found.{Found, found_at}
use Rattle.esgrep_patterns.specs.Seeking.{Sought, Hit, sooner, first_hit, leftmost, hits_from, found_hit, found_in, found_of_several, found_of_all, AreHits, IsTooLong}
use Rattle.esgrep_patterns.proofs.HitLemmas.{hit, head-hit}
use Rattle.esgrep_patterns.proofs.SeveralLemmas.{hits-end, hits-go}

-- a match that a step of a bounded iterator gave first is the first hit
pub within-hit : (bytes : List ℕ) (place : ℕ) (s : Sought) (IsMatch : Match → Type 0) (before after : List Item) (given : Option (Result Match SearchError))
    → GivesFound IsMatch before given after
    → before ≡ map (told (of_utf8 bytes)) (match_list s.table s.options s.pattern (chars bytes) place) → ((m : Match) → IsMatch m → names_of_match m ≡ s.names)
    → IfOk (option_transpose given) (λ found. AreHits bytes found (first_hit (chars bytes) place s))
within-hit bytes place s IsMatch before after None gives same named =
    head-hit bytes place s None (first-given IsMatch before after None (told (of_utf8 bytes)) _ gives same) tt
within-hit bytes place s IsMatch before after (Some (Ok m)) gives same named =
    head-hit bytes place s (Some m) (first-given IsMatch before after (Some (Ok m)) (told (of_utf8 bytes)) _ gives same) (named m gives.1)
within-hit bytes place s IsMatch before after (Some (Err e)) gives same named = tt

-- what a call answers is what the iterator gave
pub given-err : {T E : Type 0} (given : Option (Result T E)) (e : E) → option_transpose given ≡ Err e → given ≡ Some (Err e)
given-err None e is = absurd (cc is)
given-err (Some (Ok x)) e is = absurd (cc is)
given-err (Some (Err d)) e is = cc is

pub given-some : {T E : Type 0} (given : Option (Result T E)) (x : T) → option_transpose given ≡ Ok (Some x) → given ≡ Some (Ok x)
given-some None x is = absurd (cc is)
given-some (Some (Ok y)) x is = cc is
given-some (Some (Err d)) x is = absurd (cc is)

-- the error that a `?` hands on is the one that it was given
pub handed-same : {T E : Type 0} (r : Result T E) (x e : E) → IsErrAnd r (λ y. y ≡ x) → r ≡ Err e → x ≡ e
handed-same (Ok v) x e is err = absurd is
handed-same (Err y) x e is err = cc (is, err)

-- a step that had too many steps was a search that takes all that there may be
step-too_long : (s : Search) (from : Option ℕ) (given : Option (Result Match SearchError)) (before after : ℕ)
    → CountsStep (λ e. e ≡ TooManySteps) s from given (Some before) (Some after)
    → (from ≡ None → given ≡ None) → given ≡ Some (Err TooManySteps) → (program : CompiledRegex) (v : View) (steps : ℕ)
    → s.compiled ≡ program → s.view ≡ v → before ≡ steps → (at : ℕ) × Counts No program v at (Some steps) (Some 0)
step-too_long s None given before after counts ended is program v steps made over left = absurd (let none = sym (ended refl) ∙ is in cc none)
step-too_long s (Some at) None before after counts ended is program v steps made over left = absurd (cc is)
step-too_long s (Some at) (Some (Ok m)) before after counts ended is program v steps made over left = absurd (cc is)
step-too_long s (Some at) (Some (Err OutOfMemory)) before after counts ended is program v steps made over left = absurd (cc is)
step-too_long s (Some at) (Some (Err TooManySteps)) before after counts ended is program v steps made over left =
    let all : Counts No s.compiled s.view at (Some before) (Some 0)
    = subst (λ (n : Option ℕ). Counts No s.compiled s.view at (Some before) n) (counts refl).0 (counts refl).1 in (
      at,
      subst (λ (n : ℕ). Counts No program v at (Some n) (Some 0)) left
          (subst (λ (w : View). Counts No program w at (Some before) (Some 0)) over (subst (λ (c : CompiledRegex). Counts No c s.view at (Some before) (Some 0)) made all)),
    )

-- A call of an iterator that had too many steps did not turn to a table, so it began with all that there may be, and its search takes them.
pub within-too_long : {S : Type 0} (search_by : S → Search) (next_from : S → Option ℕ) (budget_of : S → ℕ) (turns_of : S → Bool) (old new : S)
    (given : Option (Result Match SearchError)) → GivesWithin search_by next_from budget_of turns_of old given new → given ≡ Some (Err TooManySteps)
    → (b : Bounded) (text : List ℕ) → (search_by old).compiled ≡ byte_program_of b → (search_by old).view ≡ seen_by (byte_program_of b) utf8 text
    → turns_of old ≡ may_turn_in_bytes b text → (turns_of old ≡ false → budget_of old ≡ steps_of b) → (at : ℕ) × TakesAllInBytes b No utf8 text at
within-too_long search_by next_from budget_of turns_of old new given step is b text made over turns left =
    let stays : turns_of old ≡ false = false_from_ne_true (turns_of old) (λ yes. step.never yes is) in
    let (at, takes) = step-too_long (search_by old) (next_from old) given (budget_of old) (budget_of new) step.counted step.ended is (byte_program_of b) (seen_by (byte_program_of b) utf8 text)
    (steps_of b) made over (left stays) in
    (at, (sym turns ∙ stays, takes))

-- where a regex with a number of steps takes all of them, the search for it is too long
pub all-too_long : (regex : Regex) (b : Bounded) (steps : ℕ) → compiled_of b ≡ regex.compiled → steps_of b ≡ steps → (text : List ℕ) (at : ℕ)
    → TakesAllInBytes b No utf8 text at → IsTooLong (Some steps) text regex
all-too_long regex b steps same many text at takes = (
  at,
  subst (λ (c : Compiled). Stops (byte_table_of c) No c.byte_program (seen_by c.byte_program utf8 text) at (Some steps)) same
      (subst (λ (n : ℕ). Stops (byte_table_of (compiled_of b)) No (compiled_of b).byte_program (seen_by (compiled_of b).byte_program utf8 text) at (Some n)) many takes),
)

-- the leftmost match of one pattern is its first
one-leftmost : (text : List ℕ) (s : Sought) (place : ℕ) → leftmost text (s ∷ []) place ≡ first_hit text place s
one-leftmost text s place = by (first_hit text place s)
  where
    by : (h : Option Hit) → sooner None h ≡ h
    by None = refl
    by (Some h) = refl

-- no more items are found, and an item is found and then those behind it
list-end : (found : ℕ → Option Item) (n place : ℕ) → found place ≡ None → list_from found (suc n) place ≡ []
unfolding list_from
list-end found n place none = ap (λ (x : Option Item). option_map_or (λ i. i ∷ list_from found n (next_place i)) x []) none

list-go : (found : ℕ → Option Item) (n place : ℕ) (i : Item) → found place ≡ Some i → list_from found (suc n) place ≡ i ∷ list_from found n (next_place i)
unfolding list_from
list-go found n place i some = ap (λ (x : Option Item). option_map_or (λ i. i ∷ list_from found n (next_place i)) x []) some

-- the hits of one pattern are its items
one-hits : (text : List ℕ) (s : Sought) (n place : ℕ)
    → hits_from text (s ∷ []) n place ≡ map (λ i. record { item = i; names = s.names }) (list_from (first_match s.table s.options s.pattern text) n place)
unfolding hits_from list_from
one-hits text s zero place = refl
one-hits text s (suc n) place = by (first_match s.table s.options s.pattern text place) refl (λ i. one-hits text s n (next_place i))
  where
    by : (x : Option Item) → first_match s.table s.options s.pattern text place ≡ x
        → ((i : Item) → hits_from text (s ∷ []) n (next_place i) ≡ map (λ i. record { item = i; names = s.names }) (list_from (first_match s.table s.options s.pattern text) n (next_place i)))
        → hits_from text (s ∷ []) (suc n) place ≡ map (λ i. record { item = i; names = s.names }) (list_from (first_match s.table s.options s.pattern text) (suc n) place)
    by None is rest =
        hits-end text (s ∷ []) (suc n) place (one-leftmost text s place ∙ ap (hit s) is)
        ∙ sym (ap (map (λ i. record { item = i; names = s.names })) (list-end (first_match s.table s.options s.pattern text) n place is))
    by (Some i) is rest =
        hits-go text (s ∷ []) n place (record { item = i; names = s.names }) (one-leftmost text s place ∙ ap (hit s) is)
        ∙ ap (λ (hs : List Hit). record { item = i; names = s.names } ∷ hs) (rest i)
        ∙ sym (ap (map (λ i. record { item = i; names = s.names })) (list-go (first_match s.table s.options s.pattern text) n place i is))

-- the match list of a pattern is what is found from one place on
list-whole : (s : Sought) (text : List ℕ) → match_list s.table s.options s.pattern text 0 ≡ list_from (first_match s.table s.options s.pattern text) (length text + 1) 0
unfolding match_list first_match
list-whole s text =
    let all : length text + 1 - 0 ≡ length text + 1 = omega arith in
    ap (λ n. list_from (first_match s.table s.options s.pattern text) n 0) all

-- of one pattern the hits of several are its matches
pub one-several : (s : Sought) (template : Option (List ℕ)) (text : List ℕ)
    → found_in s.table s.options s.pattern template s.names text ≡ found_of_several (s ∷ []) template text
one-several s template text =
    let items = list_from (first_match s.table s.options s.pattern (chars text)) (length (chars text) + 1) 0 in
    ap (λ is. map (found_at template s.names text) (map (told (of_utf8 text)) is)) (list-whole s (chars text))
    ∙ shown items ∙ sym (ap (map (found_hit template text)) (one-hits (chars text) s (length (chars text) + 1) 0))
  where
    shown : (items : List Item) → map (found_at template s.names text) (map (told (of_utf8 text)) items) ≡ map (found_hit template text) (map (λ i. record { item = i; names = s.names }) items)
    shown [] = refl
    shown (i ∷ items) = ap (λ (fs : List Found). found_at template s.names text (told (of_utf8 text) i) ∷ fs) (shown items)

-- so the hits are found of however many patterns
pub all-several : (ss : List Sought) (template : Option (List ℕ)) (text : List ℕ) → found_of_all ss template text ≡ found_of_several ss template text
all-several [] template text = refl
all-several (s ∷ []) template text = one-several s template text
all-several (s ∷ t ∷ ss) template text = refl

-- one of some regexes is, whose search is too long
pub any-too_long : (P : Regex → Type 0) (regexes : List Regex) (k : ℕ) (regex : Regex) → regex ≡ get_or regexes k regex → k < length regexes → P regex → Any P regexes
any-too_long P regexes k regex is below long = (k, regex, below, sym is, long)
