-- The parts of a text, one after another.
use Rattle.std.proofs.Common.{◌≡◌, ◌≢◌, ℕ, zero, suc, ◌<◌, List, [], ◌∷◌, drop, take, length, Option, Some, None, Result, Ok, Err, slice_range, refl, sym, ap, subst, ◌∙◌, arith}
use Rattle.std.specs.Borrow.{Bor}
use Rattle.std.specs.Iterator.{at_most, MakesProgress, Yields}
use Rattle.regress_meaning.specs.Matches.{Item}
use Rattle.regress_meaning.specs.Parts.{parts_from, parts, first_parts}
use Rattle.regress_match.specs.declared.found.Match.{Match}
use Rattle.regress_match.specs.Views.{item_of}
use Rattle.regress_matched.specs.declared.splitting.Split.{Split}
use Rattle.regress_matched.specs.declared.splitting.SplitN.{SplitN}
use Rattle.regress_matched.specs.Giving.{Errs}
use Rattle.regress_matched.specs.Splitting.{parts_on, first_parts_on, parts_left, first_parts_left, GivesFirstPart, GivesPart, GivesBy, GivesSplit, GivesFirstOf}

-- up to an item, and behind it
pub parts-more : (text : List ℕ) (at : ℕ) (i : Item) (items : List Item) → parts_from text at (i ∷ items) ≡ slice_range text at i.start ∷ parts_from text i.end items
unfolding parts_from
parts-more text at i items = refl

-- behind the last item is the rest
pub parts-end : (text : List ℕ) (at : ℕ) → parts_from text at [] ≡ drop at text ∷ []
unfolding parts_from
parts-end text at = refl

-- there is always a part
pub parts-some : (text : List ℕ) (at : ℕ) (items : List Item) → parts_from text at items ≢ []
unfolding parts_from
parts-some text at [] none = cc
parts-some text at (i ∷ items) none = cc

-- from the front on, up to a limit
pub first-parts : (limit : ℕ) (text : List ℕ) (items : List Item) → first_parts_on limit text (Some 0) items ≡ first_parts limit text items
first-parts zero text items = refl
first-parts (suc n) text items = refl

-- a step of the search gave a match: the part up to it, and the parts behind it
pub part-given : (text : List ℕ) (behind : Option ℕ) (at end : ℕ) (before after : List Item) (m : Match) (part : List ℕ) → behind ≡ Some at
    → before ≡ item_of m ∷ after → part ≡ slice_range text at m.range.start → end ≡ m.range.end → parts_on text behind before ≡ part ∷ parts_on text (Some end) after
part-given text behind at end before after m part is first here ends = rw (is, first, here, ends) (parts-more text at (item_of m) after)

-- it gave nothing: the last part
pub part-last : (text : List ℕ) (behind next : Option ℕ) (at : ℕ) (before after : List Item) (part : List ℕ) → behind ≡ Some at
    → before ≡ [] → part ≡ drop at text → next ≡ None → parts_on text behind before ≡ part ∷ parts_on text next after
part-last text behind next at before after part is none here over = rw (is, none, here, over) (parts-end text at)

-- without an offset there is none
pub parts-over : (text : List ℕ) (next : Option ℕ) (items : List Item) → next ≡ None → parts_on text next items ≡ []
parts-over text next items over = rw over refl

-- there is a part where there is an offset
pub part-some : (text : List ℕ) (behind : Option ℕ) (at : ℕ) (items : List Item) → behind ≡ Some at → parts_on text behind items ≢ []
part-some text behind at items is none = parts-some text at items (ap (λ (b : Option ℕ). parts_on text b items) (sym is) ∙ none)

-- none up to a limit, none at all
pub parts-none : (text : List ℕ) (behind : Option ℕ) (items fewer : List Item) → parts_on text behind fewer ≡ [] → parts_on text behind items ≡ []
parts-none text None items fewer none = refl
parts-none text (Some at) items fewer none = absurd (parts-some text at fewer none)

-- a limit of two or more
pub limited-step : {E : Type 0} (limit less n : ℕ) (text rest : List ℕ) (behind next : Option ℕ) (before after : List Item) (r : Option (Result (Bor (List ℕ)) E))
    → limit ≡ suc (suc n) → less ≡ suc n → GivesFirstPart (parts_on text behind (take (suc n) before)) r (parts_on rest next (take n after))
    → GivesFirstPart (first_parts_on limit text behind before) r (first_parts_on less rest next after)
limited-step limit less n text rest behind next before after r two one step = rw (two, one) step

pub limited-none : (limit n : ℕ) (text : List ℕ) (behind : Option ℕ) (items : List Item) → limit ≡ suc (suc n)
    → first_parts_on limit text behind items ≡ [] → parts_on text behind items ≡ []
limited-none limit n text behind items two none =
    parts-none text behind items (take (suc n) items) (ap (λ (k : ℕ). first_parts_on k text behind items) (sym two) ∙ none)

-- each step leaves fewer parts
pub makes-progress : {S E : Type 0} (can : S → Type 0) (left : S → List (List ℕ)) (s t : S) (r : Option (Result (Bor (List ℕ)) E)) → can t
    → GivesPart left s r t → MakesProgress can (λ u. at_most (length (left u))) s r t
makes-progress can left s t None may gives = record { on = λ _. tt; keeps = tt; rests = λ _. tt }
makes-progress can left s t (Some (Ok part)) may gives = record { on = λ _. (may, tt, omega (arith, ap length gives.first)); keeps = may; rests = λ _. tt }
makes-progress can left s t (Some (Err e)) may gives =
    record { on = λ _. (may, tt, omega (arith, ap length gives.first, counted (left s) (λ none. let over = gives.ended none in absurd (cc)))); keeps = may; rests = λ _. tt }
  where
    counted : (parts : List (List ℕ)) → parts ≢ [] → 0 < length parts
    counted [] some = absurd (some refl)
    counted (x ∷ parts) some = omega arith

-- ---- the errors of the parts are those of the matches

module _ {S M E : Type 0} (gives : M → Option (Result Match E) → M → Type 0) (matches_of : S → M) (behind_of : S → Option ℕ) (left : S → List (List ℕ))
    (steps : S → Option (Result (Bor (List ℕ)) E) → S → Type 0)
    (part : (old new : S) (r : Option (Result (Bor (List ℕ)) E)) → steps old r new → GivesPart left old r new)
    (by : (old new : S) (r : Option (Result (Bor (List ℕ)) E)) → steps old r new → GivesBy gives (matches_of old) r (matches_of new) (behind_of new))
    (over : (s : S) → behind_of s ≡ None → left s ≡ []) where
  -- where no part is coming, none comes
  nothing-more : (given : List (Result (Bor (List ℕ)) E)) (s old new : S) (e : E) → left s ≡ [] → Yields steps s given old → steps old (Some (Err e)) new → ⊥
  nothing-more [] s old new e none same step =
      let none_here = (part old new (Some (Err e)) step).ended (subst (λ x. left x ≡ []) same none) in absurd (cc)
  nothing-more (x ∷ given) s old new e none (next, first, others) step = let none_here = (part s next (Some x) first).ended none in absurd (cc)

  pub parts-err : (given : List (Result (Bor (List ℕ)) E)) (s old new : S) (e : E) → Yields steps s given old → steps old (Some (Err e)) new → Errs gives (matches_of s) e
  parts-err [] s old new e same step =
      subst (λ x. Errs gives (matches_of x) e) (sym same) ([], (matches_of old, matches_of new, refl, by old new (Some (Err e)) step))
  parts-err (Err x ∷ given) s old new e (next, first, others) step = absurd (nothing-more given next old new e (part s next (Some (Err x)) first).first others step)
  parts-err (Ok p ∷ given) s old new e (next, first, others) step =
      let rest = parts-err given next old new e others step in
      behind (behind_of next) refl rest (by s next (Some (Ok p)) first)
    where
      behind : (at : Option ℕ) → behind_of next ≡ at → Errs gives (matches_of next) e → GivesBy gives (matches_of s) (Some (Ok p)) (matches_of next) at → Errs gives (matches_of s) e
      behind None is rest gave = absurd (nothing-more given next old new e (over next is) others step)
      behind (Some at) is (found, (before, after, yields, errs)) (m, gave) = (m ∷ found, (before, after, (matches_of next, gave, yields), errs))

-- of an iterator over all parts
pub split-errs : {M E : Type 0} {g h : _} (gives : M → Option (Result Match E) → M → Type 0) (coming : M → List Item) (given : List (Result (Bor (List ℕ)) E)) (s old new : Split M E g h) (e : E)
    → Yields (GivesSplit gives coming) s given old → GivesSplit gives coming old (Some (Err e)) new → Errs gives s.matches e
split-errs gives coming given s old new e yields step =
    parts-err gives (λ x. x.matches) (λ x. x.behind) (parts_left coming) (GivesSplit gives coming) (λ old new r step. step.part) (λ old new r step. step.by)
    (λ x none. parts-over x.source.now x.behind (coming x.matches) none) given s old new e yields step

-- and of one over the first parts
pub splitn-errs : {M E : Type 0} {g h : _} (gives : M → Option (Result Match E) → M → Type 0) (coming : M → List Item) (given : List (Result (Bor (List ℕ)) E)) (s old new : SplitN M E g h) (e : E)
    → Yields (GivesFirstOf gives coming) s given old → GivesFirstOf gives coming old (Some (Err e)) new → Errs gives s.parts.matches e
splitn-errs gives coming given s old new e yields step =
    parts-err gives (λ x. x.parts.matches) (λ x. x.parts.behind) (first_parts_left coming) (GivesFirstOf gives coming) (λ old new r step. step.part) (λ old new r step. step.by)
    (λ x none. first-over x.limit x.parts.source.now x.parts.behind (coming x.parts.matches) none) given s old new e yields step
  where
    first-over : (limit : ℕ) (text : List ℕ) (behind : Option ℕ) (items : List Item) → behind ≡ None → first_parts_on limit text behind items ≡ []
    first-over zero text behind items none = refl
    first-over (suc n) text behind items none = parts-over text behind (take n items) none

-- ---- an iterator that was made has all parts still to come

pub split-made : {M E : Type 0} {g h : _} (coming : M → List Item) (s : Split M E g h) (text : List ℕ) (ms : M) (items : List Item) → s.source.now ≡ text → s.behind ≡ Some 0
    → s.matches ≡ ms → coming ms ≡ items → parts_left coming s ≡ parts text items
split-made coming s text ms items source behind matches same = rw (source, behind, matches, same) refl

pub splitn-made : {M E : Type 0} {g h : _} (coming : M → List Item) (s : SplitN M E g h) (all : Split M E g h) (limit : ℕ) (text : List ℕ) (ms : M) (items : List Item)
    → s.parts ≡ all → s.limit ≡ limit → all.source.now ≡ text → all.behind ≡ Some 0 → all.matches ≡ ms → coming ms ≡ items
    → first_parts_left coming s ≡ first_parts limit text items
splitn-made coming s all limit text ms items of most source behind matches same = rw (of, most, source, behind, matches, same) (first-parts limit text items)
