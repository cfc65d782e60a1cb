-- A text is written with others in the place of its matches, one match after another.
use Rattle.std.proofs.Common.{◌≡◌, ◌⊎◌, ℕ, zero, suc, ◌+◌, ◌-◌, ◌<◌, ◌≤◌, arith, List, [], ◌∷◌, ◌++◌, drop, take, map, Option, Some, None, Result, Ok, Err, slice_range, inl, inr, refl, sym, ap, subst, ◌∙◌, append_assoc}
use Rattle.std.proofs.lemmas.Str.{IsCharBoundary-start}
use Rattle.std.specs.Prelude.{IfOk, IfErr, string_bytes}
use Rattle.std.specs.declared.alloc.Global.{Global}
use Rattle.std.specs.declared.string.String.{String}
use Rattle.std.specs.Str.{IsUtf8, IsCharBoundary}
use Rattle.regress_meaning.specs.Laws.{ItemsRise}
use Rattle.regress_meaning.specs.Matches.{Item}
use Rattle.regress_match.specs.declared.found.Match.{Match}
use Rattle.regress_match.specs.Views.{item_of}
use Rattle.regress_match.specs.GroupViews.{names_of_match}
use Rattle.regress_match.specs.TextRanges.{LiesInText, IsMatchIn}
use Rattle.regress_replacing.specs.Replacing.{replaced_from, replaced}
use Rattle.regress_matched.specs.Answering.{Answering, AnswersTo, AnswersText, AnswersEach, RefusesOne}
use Rattle.regress_matched.specs.Behind.{LieBehind}
use Rattle.regress_matched.specs.Giving.{GivesFound, GivesInText, Errs}
use Rattle.regress_matched.proofs.RisingLemmas.{behind-front}

-- a text up to an item, with a new text in its place, and what is behind it
pub replaced-more : (text : List ℕ) (at : ℕ) (i : Item) (items : List Item) (new : List ℕ) (news : List (List ℕ))
    → replaced_from text at (i ∷ items) (new ∷ news) ≡ slice_range text at i.start ++ new ++ replaced_from text i.end items news
unfolding replaced_from
replaced-more text at i items new news = refl

-- without an item it is the rest of the text
pub replaced-end : (text : List ℕ) (at : ℕ) → replaced_from text at [] [] ≡ drop at text
unfolding replaced_from
replaced-end text at = refl

module _ {M : Type 0} (searched : M → List ℕ) (names_in : M → List (List ℕ)) (coming : M → List Item) where
  -- The matches are of a text and of a pattern with these names, and those still to come lie behind an offset, where the text may
  -- be cut.
  pub record IsBehind (text : List ℕ) (names : List (List ℕ)) (at : ℕ) (ms : M) : Type 0 where
    pub over : searched ms ≡ text
    pub named : names_in ms ≡ names
    pub cut : IsCharBoundary text at
    pub order : LieBehind at (coming ms)

  pub behind-start : (text : List ℕ) (ms : M) → IsUtf8 text → searched ms ≡ text → ItemsRise (coming ms) → IsBehind text (names_in ms) 0 ms
  behind-start text ms utf8 over rises =
      record { over = over; named = refl; cut = IsCharBoundary-start text utf8; order = behind-front (coming ms) rises }

  -- A call gave a match, which lies in the text behind the offset.
  pub record IsGiven (text : List ℕ) (names : List (List ℕ)) (at : ℕ) (old : M) (m : Match) (new : M) : Type 0 where
    pub first : coming old ≡ item_of m ∷ coming new
    pub later : at ≤ m.range.start
    pub inside : LiesInText text m
    pub called : names_of_match m ≡ names
    pub behind : IsBehind text names m.range.end new

  pub given-one : {E : Type 0} (text : List ℕ) (names : List (List ℕ)) (at : ℕ) (old new : M) (r : Option (Result Match E)) (m : Match) → IsBehind text names at old
      → GivesInText searched names_in coming old r new → r ≡ Some (Ok m) → IsGiven text names at old m new
  given-one {E} text names at old new r m h step found =
      let given : GivesFound {E = E} (IsMatchIn (searched old) (names_in old)) (coming old) (Some (Ok m)) (coming new) = rw found at step.first in
      let order : LieBehind at (item_of m ∷ coming new) = subst (λ (items : List Item). LieBehind at items) given.0 h.order in
      let inside : LiesInText text m = subst (λ (bytes : List ℕ). LiesInText bytes m) h.over given.1.0 in
      record {
        first = given.0;
        later = order.0;
        inside = inside;
        called = given.1.1 ∙ h.named;
        behind = record { over = step.over ∙ h.over; named = step.named ∙ h.named; cut = inside.0.2; order = order.2 };
      }

  -- a call that gave nothing had nothing left
  pub given-none : {E : Type 0} (old new : M) (r : Option (Result Match E)) → GivesInText searched names_in coming old r new → r ≡ None → coming old ≡ []
  given-none {E} old new r step none =
      let given : GivesFound {E = E} (IsMatchIn (searched old) (names_in old)) (coming old) None (coming new) = rw none at step.first in given.0

module _ {M E : Type 0} (gives : M → Option (Result Match E) → M → Type 0) where
  -- the errors of calls from one state on are those of calls from another on
  abbrev pub ErrsOf : M → M → Type 0
  ErrsOf from now = (e : E) → Errs gives now e → Errs gives from e

  pub errs-start : (from : M) → ErrsOf from from
  errs-start from e errs = errs

  pub errs-more : (from old new : M) (m : Match) → ErrsOf from old → gives old (Some (Ok m)) new → ErrsOf from new
  errs-more from old new m earlier step e (given, (before, after, yields, errs)) = earlier e (m ∷ given, (before, after, (new, step, yields), errs))

  pub errs-here : (from old new : M) (e : E) → ErrsOf from old → gives old (Some (Err e)) new → Errs gives from e
  errs-here from old new e earlier step = earlier e ([], (old, new, refl, step))

-- what is written, and what the items that are left make of the rest of the text
module _ (text : List ℕ) (new_text : Item → List ℕ) where
  abbrev pub finished : List ℕ → ℕ → List Item → List ℕ
  finished written at items = written ++ replaced_from text at items (map new_text items)

  pub finished-more : (written : List ℕ) (at : ℕ) (i : Item) (before after : List Item) → before ≡ i ∷ after
      → finished ((written ++ slice_range text at i.start) ++ new_text i) i.end after ≡ finished written at before
  finished-more written at i before after first = rw (first, replaced-more text at i after (new_text i) (map new_text after)) (simp append_assoc)

  pub finished-end : (written : List ℕ) (at : ℕ) (left : List Item) → left ≡ [] → written ++ drop at text ≡ finished written at left
  finished-end written at left none = rw (none, replaced-end text at) refl

-- ---- items and names by equal ones

-- a text that is written with items is written with equal ones
pub replaced-as : {E : Type 0} (r : Result (String Global) E) (text : List ℕ) (new_text : List (List ℕ) → Item → List ℕ) (some : List Item → List Item)
    (items others : List Item) (names named : List (List ℕ)) → items ≡ others → names ≡ named
    → IfOk r (λ s. string_bytes s ≡ replaced text (some items) (map (new_text names) (some items)))
    → IfOk r (λ s. string_bytes s ≡ replaced text (some others) (map (new_text named) (some others)))
replaced-as r text new_text some items others names named same called =
    subst (λ (x : List Item × List (List ℕ)). IfOk r (λ s. string_bytes s ≡ replaced text (some x.0) (map (new_text x.1) (some x.0)))) (λ i. (same i, called i))

-- so is one that is written with the answers of a closure
pub answered-as : {F E : Type 0} (r : Result (String Global) E) (Answers : Answering F) (text : List ℕ) (some : List Item → List Item)
    (items others : List Item) (names named : List (List ℕ)) → items ≡ others → names ≡ named
    → IfOk r (λ s. (news : List (List ℕ)) × AnswersEach Answers names (some items) news × (string_bytes s ≡ replaced text (some items) news))
    → IfOk r (λ s. (news : List (List ℕ)) × AnswersEach Answers named (some others) news × (string_bytes s ≡ replaced text (some others) news))
answered-as r Answers text some items others names named same called =
    subst (λ (x : List Item × List (List ℕ)). IfOk r (λ s. (news : List (List ℕ)) × AnswersEach Answers x.1 (some x.0) news × (string_bytes s ≡ replaced text (some x.0) news)))
    (λ i. (same i, called i))

-- and what a closure refuses of items it refuses of equal ones
pub refused-as : {E T : Type 0} (r : Result T E) (Answers : Answering E) (some : List Item → List Item) (P Q : E → Type 0)
    (items others : List Item) (names named : List (List ℕ)) → items ≡ others → names ≡ named → ((e : E) → P e → Q e)
    → IfErr r (λ e. P e ⊎ RefusesOne Answers names (some items) e)
    → IfErr r (λ e. Q e ⊎ RefusesOne Answers named (some others) e)
refused-as (Ok x) Answers some P Q items others names named same called other h = tt
refused-as (Err e) Answers some P Q items others names named same called other (inl p) = inl (other e p)
refused-as (Err e) Answers some P Q items others names named same called other (inr one) =
    inr (subst (λ (x : List Item × List (List ℕ)). RefusesOne Answers x.1 (some x.0) e) (λ i. (same i, called i)) one)

-- ---- one match

-- a text with one item replaced
pub replaced-one : (text : List ℕ) (i : Item) (new : List ℕ) → (slice_range text 0 i.start ++ new) ++ drop i.end text ≡ replaced text (i ∷ []) (new ∷ [])
replaced-one text i new = rw (replaced-more text 0 i [] new [], replaced-end text i.end) refl

pub replaced-none : (text : List ℕ) → text ≡ replaced text [] []
replaced-none text = rw (replaced-end text 0) refl

-- ---- the texts that a closure answers

module _ {E : Type 0} (Answers : Answering E) (names : List (List ℕ)) where
  -- what is written, and what the texts for the items that are left make of the rest of the text
  abbrev pub WrittenBy : List ℕ → List Item → List ℕ → ℕ → List Item → Type 0
  WrittenBy text items written at left = (rest : List (List ℕ)) → AnswersEach Answers names left rest
      → (news : List (List ℕ)) × AnswersEach Answers names items news × (written ++ replaced_from text at left rest ≡ replaced text items news)

  pub written-more : (text : List ℕ) (items : List Item) (written : List ℕ) (at : ℕ) (i : Item) (before after : List Item) (new : List ℕ)
      → WrittenBy text items written at before → before ≡ i ∷ after → AnswersText Answers names i new
      → WrittenBy text items ((written ++ slice_range text at i.start) ++ new) i.end after
  written-more text items written at i before after new earlier first answered = λ rest answers.
      let at_first : WrittenBy text items written at (i ∷ after) = subst (λ (left : List Item). WrittenBy text items written at left) first earlier in
      let (news, each, same) = at_first (new ∷ rest) (answered, answers) in
      let together : ((written ++ slice_range text at i.start) ++ new) ++ replaced_from text i.end after rest
      ≡ written ++ (slice_range text at i.start ++ new ++ replaced_from text i.end after rest) = simp append_assoc in
      (news, each, together ∙ rw (replaced-more text at i after new rest) at same)

  pub written-end : (text : List ℕ) (items : List Item) (written : List ℕ) (at : ℕ) (left : List Item) → WrittenBy text items written at left → left ≡ []
      → (news : List (List ℕ)) × AnswersEach Answers names items news × (written ++ drop at text ≡ replaced text items news)
  written-end text items written at left earlier none =
      let at_none : WrittenBy text items written at [] = subst (λ (l : List Item). WrittenBy text items written at l) none earlier in
      let (news, each, same) = at_none [] tt in
      (news, each, ap (λ (rest : List ℕ). written ++ rest) (sym (replaced-end text at)) ∙ same)

  -- what the closure refuses of the items that are left, it refuses of all
  abbrev pub RefusesOf : List Item → List Item → Type 0
  RefusesOf items left = (e : E) → RefusesOne Answers names left e → RefusesOne Answers names items e

  pub refuses-more : (items : List Item) (i : Item) (before after : List Item) (new : List ℕ) → RefusesOf items before → before ≡ i ∷ after
      → AnswersText Answers names i new → RefusesOf items after
  refuses-more items i before after new earlier first answered = λ e refused.
      let at_first : RefusesOf items (i ∷ after) = subst (λ (left : List Item). RefusesOf items left) first earlier in
      at_first e (inr ((new, answered), refused))

  pub refuses-here : (items : List Item) (i : Item) (before after : List Item) (e : E) → RefusesOf items before → before ≡ i ∷ after
      → AnswersTo Answers names i (Err e) → RefusesOne Answers names items e
  refuses-here items i before after e earlier first refused =
      let at_first : RefusesOf items (i ∷ after) = subst (λ (left : List Item). RefusesOf items left) first earlier in
      at_first e (inl refused)

-- ---- the first matches alone

-- one of the first items, and then the others
pub first-of : (limit count : ℕ) (before after : List Item) (i : Item) → count < limit → before ≡ i ∷ after
    → take (limit - count) before ≡ i ∷ take (limit - (count + 1)) after
first-of limit count before after i less first =
    let more : limit - count ≡ suc (limit - (count + 1)) = omega (arith, less) in
    rw (more, first) refl

-- none is left where none comes, or where as many were replaced as may be
pub none-of : (n : ℕ) (items : List Item) → items ≡ [] → take n items ≡ []
none-of zero items none = refl
none-of (suc n) items none = rw none refl

pub no-more : (limit count : ℕ) (items : List Item) → limit ≤ count → take (limit - count) items ≡ []
no-more limit count items all = let zero_left : limit - count ≡ 0 = omega (arith, all) in rw zero_left refl
