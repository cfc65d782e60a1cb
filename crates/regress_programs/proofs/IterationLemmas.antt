-- The matches of a compiled pattern, one after another: what is still to come.
use Rattle.std.proofs.Common.{◌≡◌, ℕ, List, [], ◌∷◌, map, option_map, Option, Some, None, Result, Ok, Err, IfOk, IfSome, inl, refl, sym, ap, subst, ◌∙◌}
use Rattle.std.specs.Prelude.{slice_get}
use Rattle.std.specs.Option.{option_transpose}
use Rattle.std.specs.Iterator.{Yields}
use Rattle.std.specs.Str.{IsUtf8, IsCharBoundary}
use Rattle.regress_meaning.specs.Matches.{Item}
use Rattle.regress_front_core.specs.declared.error.Error.{Error}
use Rattle.regress_match.specs.declared.found.Match.{Match}
use Rattle.regress_match.specs.Views.{item_of}
use Rattle.regress_match.specs.Iterating.{GivesFirst, GivesMatch}
use Rattle.regress_match.specs.TextRanges.{LiesInText, IsMatchIn}
use Rattle.regress_front_bytes.proofs.TextLemmas.{place_of_boundary}
use Rattle.regress_programs.specs.declared.matches.Matches.{Matches}
use Rattle.regress_programs.specs.Coming.{searched, searched_names, coming, HasEnded, IsStart, BeginsAndEndsAtStarts, HoldsOfEach}

-- the first item of a list is what a step over it gives
pub first-given : (IsInside : Match → Type 0) (before after : List Item) (given : Option (Result Match Error)) (tell : Item → Item) (items : List Item)
    → GivesFirst IsInside before given after → before ≡ map tell items
    → IfOk (option_transpose given) (λ found. option_map item_of found ≡ option_map tell (slice_get items 0))
first-given IsInside before after None tell [] first same = refl
first-given IsInside before after None tell (i ∷ items) first same = absurd (let some = sym same ∙ first.0 in cc)
first-given IsInside before after (Some (Ok m)) tell [] first same = absurd (let some = sym same ∙ first.0 in cc)
first-given IsInside before after (Some (Ok m)) tell (i ∷ items) first same = let some = sym same ∙ first.0 in let head : item_of m ≡ tell i = cc in ap Some head
first-given IsInside before after (Some (Err e)) tell items first same = tt

-- where a text may be cut, a search in it may begin
pub start_of_boundary : (bytes : List ℕ) → IsUtf8 bytes → (at : ℕ) → IsCharBoundary bytes at → IsStart bytes at
start_of_boundary bytes utf8 at cut = let (place, within, here) = place_of_boundary bytes utf8 at cut in (place, inl (within, here))

-- a match that lies in a text begins and ends where a search may begin
pub starts-inside : (bytes : List ℕ) → IsUtf8 bytes → (m : Match) → LiesInText bytes m → BeginsAndEndsAtStarts bytes m
starts-inside bytes utf8 m lies = (start_of_boundary bytes utf8 m.range.start lies.0.1, start_of_boundary bytes utf8 m.range.end lies.0.2)

-- so does what a step gave
pub starts-given : (bytes : List ℕ) → IsUtf8 bytes → (text : List ℕ) → text ≡ bytes → (names : List (List ℕ)) (before after : List Item)
    (given : Option (Result Match Error)) → GivesFirst (IsMatchIn text names) before given after
    → IfOk (option_transpose given) (λ found. IfSome found (BeginsAndEndsAtStarts bytes))
starts-given bytes utf8 text same names before after None first = tt
starts-given bytes utf8 text same names before after (Some (Ok m)) first = starts-inside bytes utf8 m (subst (λ (t : List ℕ). LiesInText t m) same first.1.0)
starts-given bytes utf8 text same names before after (Some (Err e)) first = tt

-- what a step of an iterator over a text is
abbrev pub gives_in_text : {S : Type 0} → (S → List ℕ) → (S → List (List ℕ)) → (S → List Item) → (S → Type 0) → S → Option (Result Match Error) → S → Type 0
gives_in_text searched names coming HasEnded old r new = (searched new ≡ searched old) × (names new ≡ names old)
    × GivesMatch coming HasEnded (IsMatchIn (searched old) (names old)) old r new

module _ {S : Type 0} (searched : S → List ℕ) (names : S → List (List ℕ)) (coming : S → List Item) (HasEnded : S → Type 0) where
  -- steps go over one text
  pub searched-along : (ms old : S) (given : List (Result Match Error)) → Yields (gives_in_text searched names coming HasEnded) ms given old → searched old ≡ searched ms
  searched-along ms old [] same = ap searched (sym same)
  searched-along ms old (x ∷ given) (next, step, others) = searched-along next old given others ∙ step.0

  -- each match that steps give lies in the text
  pub inside-each : (ms : S) (bytes : List ℕ) → searched ms ≡ bytes → HoldsOfEach (gives_in_text searched names coming HasEnded) (LiesInText bytes) ms
  inside-each ms bytes over given old new r m yields step found =
      let same : searched old ≡ bytes = searched-along ms old given yields ∙ over in
      let first : GivesFirst (IsMatchIn (searched old) (names old)) (coming old) (Some (Ok m)) (coming new) = rw found at step.2.first in
      let P : List ℕ → Type 0 = λ text. LiesInText text m in
      subst P same first.1.0

  -- and each begins and ends where a search may begin
  pub starts-each : (ms : S) (bytes : List ℕ) → IsUtf8 bytes → searched ms ≡ bytes
      → HoldsOfEach (gives_in_text searched names coming HasEnded) (BeginsAndEndsAtStarts bytes) ms
  starts-each ms bytes utf8 over given old new r m yields step found =
      starts-inside bytes utf8 m (inside-each ms bytes over given old new r m yields step found)

-- what a step of the iterator over a text of UTF-8 is
abbrev pub gives_next : Matches → Option (Result Match Error) → Matches → Type 0
gives_next = gives_in_text searched searched_names coming HasEnded

-- a step gives the first of the items also where less is said of its match
pub first-weaker : (P Q : Match → Type 0) → ((m : Match) → P m → Q m) → (before after : List Item) (r : Option (Result Match Error))
    → GivesFirst P before r after → GivesFirst Q before r after
first-weaker P Q weaker before after None first = first
first-weaker P Q weaker before after (Some (Ok m)) first = (first.0, weaker m first.1)
first-weaker P Q weaker before after (Some (Err e)) first = first
