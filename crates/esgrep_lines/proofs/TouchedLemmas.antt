-- In the lines of a text the part of a match begins and ends between characters.
use Rattle.std.proofs.Common.{◌≡◌, ◌⊎◌, ℕ, zero, suc, ◌+◌, ◌<◌, ◌≤◌, Bool, true, false, ◌&&◌, ◌||◌, List, [], ◌∷◌, length, take, get_or, inl, inr, refl, sym, ap, subst, ◌∙◌, length-take, get_or-take, eqb, arith}
use Rattle.std.specs.Prelude.{nat_lt, nat_le, All}
use Rattle.std.specs.Str.{IsUtf8, IsCharBoundary}
use Rattle.std.proofs.lemmas.Bool.{cases_lt, eqb-true}
use Rattle.std.proofs.lemmas.List.Elements.{All-nil, All-cons}
use Rattle.std.proofs.lemmas.Str.{IsCharBoundary-start, IsCharBoundary-after_ascii}
use Rattle.regress_meaning.specs.Matches.{Item}
use Rattle.esgrep_rows.specs.declared.ending.Ending.{Ending}
use Rattle.esgrep_rows.specs.Lines.{Line, lines, in_front, numbered, body, body_len, byte_of}
use Rattle.esgrep_rows.proofs.LineLemmas.{lines-end, lines-more, lines-none}
use Rattle.esgrep_rows.proofs.PassingLemmas.{byte-ascii}
use Rattle.esgrep_lines.specs.Parts.{touches, told_in, is_between, has_part}
use Rattle.esgrep_lines.specs.Laws.{TouchedLinesHaveParts}
use Rattle.esgrep_lines.proofs.PartLemmas.{boundary-between, between-end}

module _ (whole : List ℕ) (utf8 : IsUtf8 whole) where
  -- some bytes stand at an offset of the whole text
  abbrev StandAt : ℕ → List ℕ → Type 0
  StandAt at bytes = (k : ℕ) → k < length bytes → get_or bytes k 0 ≡ get_or whole (at + k) 0

  -- lines stand there one behind the other, each where a character begins
  abbrev Follow : ℕ → List (List ℕ) → Type 0
  Follow at [] = Unit {0}
  Follow at (line ∷ lines) = IsCharBoundary whole at × StandAt at line × Follow (at + length line) lines

  -- the same, where the first line need not begin there
  abbrev FollowOn : ℕ → List (List ℕ) → Type 0
  FollowOn at [] = Unit {0}
  FollowOn at (line ∷ lines) = StandAt at line × Follow (at + length line) lines

  follow-here : (at : ℕ) (ls : List (List ℕ)) → IsCharBoundary whole at → FollowOn at ls → Follow at ls
  follow-here at [] boundary follow = tt
  follow-here at (line ∷ ls) boundary follow = (boundary, follow.0, follow.1)

  stand-first : (at b : ℕ) → b ≡ get_or whole (at + 0) 0 → StandAt at (b ∷ [])
  stand-first at b is zero below = is
  stand-first at b is (suc k) below = absurd (omega (arith, below))

  stand-more : (at b : ℕ) (line : List ℕ) → b ≡ get_or whole (at + 0) 0 → StandAt (at + 1) line → StandAt at (b ∷ line)
  stand-more at b line is stands zero below = is
  stand-more at b line is stands (suc k) below =
      let less : k < length line = omega (arith, below) in
      let e : at + 1 + k ≡ at + suc k = omega arith in stands k less ∙ ap (λ n. get_or whole n 0) e

  stand-behind : (at b : ℕ) (text : List ℕ) → StandAt at (b ∷ text) → StandAt (at + 1) text
  stand-behind at b text stands k below =
      let less : suc k < length (b ∷ text) = omega (arith, below) in
      let e : at + suc k ≡ at + 1 + k = omega arith in stands (suc k) less ∙ ap (λ n. get_or whole n 0) e

  follow-more : (at b : ℕ) (ls : List (List ℕ)) → b ≡ get_or whole (at + 0) 0 → FollowOn (at + 1) ls → FollowOn at (in_front b ls)
  follow-more at b [] is follow = (stand-first at b is, tt)
  follow-more at b (line ∷ ls) is follow =
      let e : at + 1 + length line ≡ at + length (b ∷ line) = omega arith in
      (stand-more at b line is follow.0, subst (λ n. Follow n ls) e follow.1)

  follow-lines : (end : ℕ) → end < 128 → (at : ℕ) (text : List ℕ) → StandAt at text → at + length text ≤ length whole → FollowOn at (lines end text)
  follow-lines end ascii at [] stands room = rw (lines-none end) tt
  follow-lines end ascii at (b ∷ text) stands room =
      let e : at + 1 + length text ≡ at + length (b ∷ text) = omega arith in
      by (follow-lines end ascii (at + 1) text (stand-behind at b text stands) (omega (arith, room, e))) (eqb b end) refl
    where
      here : b ≡ get_or whole (at + 0) 0
      here = stands 0 (omega arith)

      by : FollowOn (at + 1) (lines end text) → (t : Bool) → eqb b end ≡ t → FollowOn at (lines end (b ∷ text))
      by rest true is =
          let same : get_or whole at 0 ≡ end = let e : at ≡ at + 0 = omega arith in ap (λ n. get_or whole n 0) e ∙ sym here ∙ eqb-true b end is in
          let boundary = IsCharBoundary-after_ascii whole at utf8 (omega (arith, room)) (omega (arith, same, ascii)) in
          rw (lines-end end b text is) (stand-first at b here, follow-here (at + 1) (lines end text) boundary rest)
      by rest false is = rw (lines-more end b text is) (follow-more at b (lines end text) here rest)

  -- an offset between characters of the whole text is told as one of the front of a line
  told-at : (at : ℕ) (line : List ℕ) (n place k : ℕ) → k ≡ told_in at (take n line) place → IsCharBoundary whole at → StandAt at line → IsCharBoundary whole place
      → is_between (take n line) k ≡ true
  told-at at line n place k is first stands boundary = by (cases_lt k (length (take n line))) (cases_lt at place)
    where
      reads : k < length (take n line) → is_between (take n line) k ≡ is_between whole (at + k)
      reads below =
          let size = length-take n line in
          let same : get_or (take n line) k 0 ≡ get_or whole (at + k) 0 = get_or-take n line k 0 (omega (arith, below, size)) ∙ stands k (omega (arith, below, size)) in
          ap (λ b. nat_lt b 128 || nat_le 192 b) same

      by : (k < length (take n line)) ⊎ (length (take n line) ≤ k) → (at < place) ⊎ (place ≤ at) → is_between (take n line) k ≡ true
      by (inr past) _ = between-end (take n line) k past
      by (inl below) (inl less) =
          let e : place ≡ at + k = omega (arith, is, below, less) in reads below ∙ sym (ap (is_between whole) e) ∙ boundary-between whole place boundary
      by (inl below) (inr most) =
          let e : at ≡ at + k = omega (arith, is, below, most) in reads below ∙ sym (ap (is_between whole) e) ∙ boundary-between whole at first

  module _ (i : Item) (from : IsCharBoundary whole i.start) (to : IsCharBoundary whole i.end) (ending : Ending) where
    abbrev HasPart : Line → Type 0
    HasPart line = has_part ending whole line.start (body ending line.bytes) i ≡ touches ending whole line.start (body ending line.bytes) i

    both-so : (t b c : Bool) → b ≡ true → c ≡ true → (t && b && c) ≡ t
    both-so true b c first second = rw (first, second) refl
    both-so false b c first second = refl

    all-parts : (number at : ℕ) (ls : List (List ℕ)) → Follow at ls → All HasPart (numbered number at ls)
    unfolding numbered
    all-parts number at [] follow = All-nil HasPart
    all-parts number at (line ∷ ls) follow =
        All-cons HasPart (record { number = number; start = at; bytes = line }) (numbered (number + 1) (at + length line) ls)
        (both-so (touches ending whole at (body ending line) i) (is_between (body ending line) (told_in at (body ending line) i.start)) (is_between (body ending line) (told_in at (body ending line) i.end))
        (told-at at line (body_len ending line) i.start _ refl follow.0 follow.1 from) (told-at at line (body_len ending line) i.end _ refl follow.0 follow.1 to))
        (all-parts (number + 1) (at + length line) ls follow.2)

pub touched-lines : TouchedLinesHaveParts
touched-lines whole utf8 i from to ending =
    let end = byte_of ending in
    let stands : StandAt whole utf8 0 whole = λ k below. let e : k ≡ 0 + k = omega arith in ap (λ n. get_or whole n 0) e in
    let follow = follow-lines whole utf8 end (byte-ascii ending) 0 whole stands (omega arith) in
    all-parts whole utf8 i from to ending 1 0 (lines end whole) (follow-here whole utf8 0 (lines end whole) (IsCharBoundary-start whole utf8) follow)
