-- What a pattern matches: the ordered list of its outcomes from a state, the most preferred first. The standard's
-- matchers take a continuation and answer its first success; the list holds all that a continuation may be tried on, in
-- that order ("Notation", "CompileSubpattern").
use Rattle.std.specs.Prelude.{ℕ, zero, suc, ◌+◌, ◌-◌, Bool, true, false, not, ◌&&◌, ◌||◌, ◌==◌, List, [], ◌∷◌, ◌++◌, length, take, Option, Some, None, if◌then◌else◌, slice_get, slice_set, slice_range, filter, map, reverse, nat_lt, nat_le, min, max}
use Rattle.std.specs.List.{flat_map, list_any, list_all}
use lib.Pointwise.{pointwise}
use Rattle.regress_meaning.specs.Table.{Table, canon, closure}
use Rattle.regress_meaning.specs.Class.{Strings, value_of, is_word, longest}
use Rattle.regress_meaning.specs.Pattern.{Pattern, Settings, nothing, character, any, class, class_escape, sequence, choice, capture, grouped, atomic, modified, repeated, look, reference, line_start, line_end, word_boundary}

-- A place in the text, and of each group the range of places that it took, if any ("Notation").
pub record State : Type 0 where
  pub place : ℕ
  pub groups : List (Option (ℕ × ℕ))

-- in which direction the text is read ("CompileSubpattern")
pub data Direction : Type 0 where
  Forward : Direction
  Backward : Direction

-- from a state to the states that may follow, in order
abbrev pub Outcomes : Type 0
Outcomes = State → List State

-- there is a value, and it passes
abbrev pub is_some_and : {A : Type 0} → Option A → (A → Bool) → Bool
is_some_and None test = false
is_some_and (Some a) test = test a

-- the text, the table and the mode that hold for the whole pattern
pub record Context : Type 0 where
  pub text : List ℕ
  pub table : Table
  pub unicode : Bool

-- a line terminator ("LineTerminator")
abbrev pub is_line_end : ℕ → Bool
is_line_end c = c == 0xA || c == 0xD || c == 0x2028 || c == 0x2029

-- two code points are equal, or where case is ignored have equal canons
abbrev pub same : Table → Bool → Bool → ℕ → ℕ → Bool
same table unicode icase c d = if icase then canon table unicode c == canon table unicode d else c == d

-- two strings are, one by one
abbrev pub same_all : Table → Bool → Bool → List ℕ → List ℕ → Bool
same_all table unicode icase cs ds = pointwise (same table unicode icase) cs ds

-- c is a member, or where case is ignored in the closure
abbrev pub closed : Table → Bool → Bool → (ℕ → Bool) → ℕ → Bool
closed table unicode icase members c = if icase then closure (canon table unicode) members c else members c

-- a word character stands there ("IsWordChar")
abbrev pub word_at : Table → Bool → Option ℕ → Bool
word_at table folded o = is_some_and o (is_word table folded)

-- exactly one neighbour is a word character
abbrev pub differ : Table → Bool → Option ℕ → Option ℕ → Bool
differ table folded a b = if word_at table folded a then not (word_at table folded b) else word_at table folded b

-- the state at the place that was found beside, if its code points pass
abbrev pub stepped : (List ℕ → Bool) → State → Option (List ℕ × ℕ) → List State
stepped test s None = []
stepped test s (Some (cs, p)) = if test cs then record s { place = p } ∷ [] else []

-- the groups, the first of which has the number i, without those from first to before last
abbrev pub clear_from : ℕ → ℕ → ℕ → List (Option (ℕ × ℕ)) → List (Option (ℕ × ℕ))
clear_from i first last [] = []
clear_from i first last (g ∷ gs) = (if nat_le first i && nat_lt i last then None else g) ∷ clear_from (i + 1) first last gs

-- the state with those groups cleared
abbrev pub cleared : ℕ → ℕ → State → State
cleared first last s = record s { groups = clear_from 0 first last s.groups }

-- the second state is at another place
abbrev pub moved : State → State → Bool
moved s t = not (s.place == t.place)

-- At most `left` more iterations, of which `need` have to come; past the least number one that takes nothing is no
-- outcome ("RepeatMatcher").
unfoldable pub iterations : Outcomes → Bool → ℕ → ℕ → Outcomes
iterations body greedy zero need s = s ∷ []
iterations body greedy (suc left) zero s =
    let more = flat_map (iterations body greedy left zero) (filter (moved s) (body s)) in
    if greedy then more ++ s ∷ [] else s ∷ more
iterations body greedy (suc left) (suc need) s = flat_map (iterations body greedy left need) (body s)

-- a lookaround answers its contents' first groups at the old place, a negated one the old state ("CompileAssertion")
abbrev pub looked : Bool → State → List State → List State
looked true s [] = s ∷ []
looked true s (t ∷ ts) = []
looked false s [] = []
looked false s (t ∷ ts) = record s { groups = t.groups } ∷ []

-- group k takes what lies between two places
abbrev pub captured : ℕ → ℕ → State → State
captured k from t = record t { groups = slice_set t.groups k (Some (min from t.place, max from t.place)) }

-- the state, where the test passes
abbrev pub keep_if : Bool → Outcomes
keep_if b s = if b then s ∷ [] else []

-- source order forward, its reverse backward ("MatchSequence")
abbrev pub in_order : {A : Type 0} → Direction → (A → A → A) → A → A → A
in_order Forward f a b = f a b
in_order Backward f a b = f b a

-- first a, then b
abbrev pub then_go : Outcomes → Outcomes → Outcomes
then_go a b s = flat_map b (a s)

-- one setting under a modifier
abbrev pub switched : Bool → Bool → Bool → Bool
switched on off now = (now || on) && not off

-- the settings inside a modifier ("UpdateModifiers")
abbrev pub with : Settings → Settings → Settings → Settings
with on off e = record { icase = switched on.icase off.icase e.icase; multiline = switched on.multiline off.multiline e.multiline; dot_all = switched on.dot_all off.dot_all e.dot_all }

module _ (context : Context) where
  -- the code point before a place
  abbrev pub before : ℕ → Option ℕ
  before zero = None
  before (suc p) = slice_get context.text p

  -- the code point after a place
  abbrev pub after : ℕ → Option ℕ
  after p = slice_get context.text p

  -- the code points of the k places beside p, and the place behind them
  unfoldable pub beside : Direction → ℕ → ℕ → Option (List ℕ × ℕ)
  beside Forward k p = if nat_le (p + k) (length context.text) then Some (slice_range context.text p (p + k), p + k) else None
  beside Backward k p = if nat_le k p then Some (slice_range context.text (p - k) p, p - k) else None

  -- Steps over the k code points beside the place where they pass the test ("CharacterSetMatcher").
  unfoldable pub step : Direction → ℕ → (List ℕ → Bool) → Outcomes
  step dir k test s = stepped test s (beside dir k s.place)

  -- Strings of n or fewer code points: one outcome for each length, the longest first ("CompileAtom").
  unfoldable pub string_steps : Direction → Bool → Strings → ℕ → Outcomes
  string_steps dir icase v zero s = step dir 0 (λ cs. list_any (same_all context.table context.unicode icase cs) v.others) s
  string_steps dir icase v (suc k) s =
      step dir (suc k) (λ cs. if k == 0 then list_all (closed context.table context.unicode icase v.singles) cs
      else list_any (same_all context.table context.unicode icase cs) v.others) s ++ string_steps dir icase v k s

  -- A class. An outermost `^` is applied after the closure ("CompileCharacterClass").
  unfoldable pub class_steps : Direction → Bool → Bool → Strings → Outcomes
  class_steps dir icase true v s = step dir 1 (list_all (λ c. not (closed context.table context.unicode icase v.singles c))) s
  class_steps dir icase false v s = string_steps dir icase v (max 1 (longest v.others)) s

  -- what a group took stands here once more; a group that took nothing repeats nothing ("BackreferenceMatcher")
  unfoldable pub repeat_group : Direction → Bool → Option (Option (ℕ × ℕ)) → Outcomes
  repeat_group dir icase None s = s ∷ []
  repeat_group dir icase (Some None) s = s ∷ []
  repeat_group dir icase (Some (Some (a, b))) s =
      step dir (b - a) (same_all context.table context.unicode icase (slice_range context.text a b)) s

  -- one after another
  unfoldable pub references : Direction → Bool → List ℕ → Outcomes
  references dir icase [] s = s ∷ []
  references dir icase (k ∷ ks) s = flat_map (references dir icase ks) (repeat_group dir icase (slice_get s.groups k) s)

  -- The outcomes of a tree, in a direction, under settings ("CompileSubpattern", "CompileAssertion", "CompileAtom").
  unfoldable pub outcomes : Pattern → Direction → Settings → Outcomes
  outcomes nothing dir e s = s ∷ []
  outcomes (character c) dir e s = step dir 1 (list_all (same context.table context.unicode e.icase c)) s
  outcomes any dir e s = step dir 1 (list_all (λ c. e.dot_all || not (is_line_end c))) s
  outcomes (class_escape set) dir e s = class_steps dir e.icase false (value_of context.table (context.unicode && e.icase) set) s
  outcomes (class negated set) dir e s = class_steps dir e.icase negated (value_of context.table (context.unicode && e.icase) set) s
  outcomes (sequence a b) dir e s = in_order dir then_go (outcomes a dir e) (outcomes b dir e) s
  outcomes (choice a b) dir e s = outcomes a dir e s ++ outcomes b dir e s
  outcomes (capture k name a) dir e s = map (captured k s.place) (outcomes a dir e s)
  outcomes (grouped a) dir e s = outcomes a dir e s
  outcomes (atomic a) dir e s = take 1 (outcomes a dir e s)
  outcomes (modified on off a) dir e s = outcomes a dir (with on off e) s
  outcomes (repeated a first last least most greedy) dir e s =
      iterations (λ t. outcomes a dir e (cleared first last t)) greedy most least s
  outcomes (look negated backward a) dir e s = looked negated s (outcomes a (if backward then Backward else Forward) e s)
  outcomes (reference ks) Forward e s = references Forward e.icase ks s
  outcomes (reference ks) Backward e s = references Backward e.icase (reverse ks) s
  outcomes line_start dir e s = keep_if (s.place == 0 || (e.multiline && is_some_and (before s.place) is_line_end)) s
  outcomes line_end dir e s = keep_if (s.place == length context.text || (e.multiline && is_some_and (after s.place) is_line_end)) s
  outcomes (word_boundary negated) dir e s =
      let d = differ context.table (context.unicode && e.icase) (before s.place) (after s.place) in keep_if (if negated then not d else d) s
