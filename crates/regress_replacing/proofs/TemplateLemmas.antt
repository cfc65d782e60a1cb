-- What a template gives, step by step.
use Rattle.std.proofs.Common.{◌≡◌, ◌≢◌, ◌⊎◌, inl, inr, Bor, ℕ, zero, suc, ◌+◌, ◌<◌, Bool, true, false, ◌==◌, List, [], ◌∷◌, ◌++◌, length, take, drop, get_or, codes, Option, Some, None, if◌then◌else◌, refl, sym, ap, ◌∙◌, arith, ne_eqb}
use Rattle.std.specs.Prelude.{slice_get, slice_range}
use Rattle.std.specs.Char.{is_ascii_digit}
use Rattle.std.specs.List.{position_or_len, before_first, after_first}
use Rattle.std.specs.Option.{option_copied}
use Rattle.std.specs.Str.{IsUtf8, IsCharBoundary}
use Rattle.std.proofs.Math.Bool.{and-false}
use Rattle.std.proofs.lemmas.Bool.{lt-ltb, le-ltb}
use Rattle.std.proofs.lemmas.Str.{IsCharBoundary-after_ascii}
use Rattle.regress_meaning.specs.Matches.{Item}
use Rattle.regress_replacing.specs.Replacing.{part_at}
use Rattle.regress_match.specs.NamedRanges.{named_taken}
use Rattle.regress_replacing.specs.Substitution.{is_some_named, at_digit, at_bracket, at_mark, substituted_behind, substitution}
use Rattle.regress_replacing.specs.TemplateParts.{mark_gives}

module _ (names : List (List ℕ)) (text : List ℕ) (i : Item) where
  -- what is passed over gives nothing
  substituted-passed : (n : ℕ) (t : List ℕ) → substituted_behind names text i n t ≡ substitution names (drop n t) text i
  unfolding substituted_behind
  substituted-passed zero t = refl
  substituted-passed (suc n) [] = refl
  substituted-passed (suc n) (c ∷ t) = substituted-passed n t

  -- what has no `$` stands for itself
  pub substituted-plain : (xs ys : List ℕ) → ((k : ℕ) → k < length xs → get_or xs k 0 ≢ 0x24)
      → substitution names (xs ++ ys) text i ≡ xs ++ substitution names ys text i
  unfolding substituted_behind
  substituted-plain [] ys none = refl
  substituted-plain (c ∷ xs) ys none =
      rw (ne_eqb c 0x24 (none 0 (omega arith)), substituted-plain xs ys (λ k below. none (suc k) (omega arith))) refl

  pub substituted-end : substitution names [] text i ≡ []
  unfolding substituted_behind
  substituted-end = refl

  -- a `$` gives what it stands for, before what is left
  pub substituted-mark : (t given left : List ℕ) (n : ℕ) → at_mark names text i t ≡ (given, n) → left ≡ drop n t
      → substitution names (0x24 ∷ t) text i ≡ given ++ substitution names left text i
  unfolding substituted_behind
  substituted-mark t given left n is after =
      ap (λ (r : List ℕ). (at_mark names text i t).0 ++ r) (substituted-passed (at_mark names text i t).1 t)
      ∙ rw (is, after) refl

  -- one character behind it
  pub mark-there : (c : ℕ) (t given : List ℕ) → mark_gives text i c ≡ Some given → at_mark names text i (c ∷ t) ≡ (given, 1)
  mark-there c t given = go (c == 0x24) (c == 0x60) (c == 0x26) (c == 0x27)
      (if is_ascii_digit c then at_digit names text i (c ∷ t) else if c == 0x3C then at_bracket names text i t else (codes "$", 0))
    where
      go : (a b d e : Bool) (other : List ℕ × ℕ)
          → (if a then Some (codes "$")
          else if b then Some (take i.start text)
          else if d then Some (slice_range text i.start i.end)
          else if e then Some (drop i.end text)
          else None)
          ≡ Some given
          → (if a then (codes "$", 1)
          else if b then (take i.start text, 1)
          else if d then (slice_range text i.start i.end, 1)
          else if e then (drop i.end text, 1)
          else other)
          ≡ (given, 1)
      go true b d e other is = let same : codes "$" ≡ given = cc in ap (λ (g : List ℕ). (g, 1)) same
      go false true d e other is = let same : take i.start text ≡ given = cc in ap (λ (g : List ℕ). (g, 1)) same
      go false false true e other is = let same : slice_range text i.start i.end ≡ given = cc in ap (λ (g : List ℕ). (g, 1)) same
      go false false false true other is = let same : drop i.end text ≡ given = cc in ap (λ (g : List ℕ). (g, 1)) same
      go false false false false other is = absurd (cc)

  pub mark-none : (c : ℕ) (t : List ℕ) → mark_gives text i c ≡ None → at_mark names text i (c ∷ t)
      ≡ (if is_ascii_digit c then at_digit names text i (c ∷ t) else if c == 0x3C then at_bracket names text i t else (codes "$", 0))
  mark-none c t = go (c == 0x24) (c == 0x60) (c == 0x26) (c == 0x27)
      (if is_ascii_digit c then at_digit names text i (c ∷ t) else if c == 0x3C then at_bracket names text i t else (codes "$", 0))
    where
      go : (a b d e : Bool) (other : List ℕ × ℕ)
          → (if a then Some (codes "$")
          else if b then Some (take i.start text)
          else if d then Some (slice_range text i.start i.end)
          else if e then Some (drop i.end text)
          else None)
          ≡ None
          → (if a then (codes "$", 1)
          else if b then (take i.start text, 1)
          else if d then (slice_range text i.start i.end, 1)
          else if e then (drop i.end text, 1)
          else other)
          ≡ other
      go true b d e other is = absurd (cc)
      go false true d e other is = absurd (cc)
      go false false true e other is = absurd (cc)
      go false false false true other is = absurd (cc)
      go false false false false other is = refl

  -- the name behind a `$<`, and where there is none
  bracket-there : (t : List ℕ) → is_some_named names ≡ true → position_or_len (λ c. c == 0x3E) t < length t
      → at_bracket names text i t ≡ (part_at text (named_taken names i.groups (before_first (λ c. c == 0x3E) t)), position_or_len (λ c. c == 0x3E) t + 2)
  bracket-there t some inside = rw (some, lt-ltb (position_or_len (λ c. c == 0x3E) t) (length t) inside) refl

  bracket-none : (t : List ℕ) → (is_some_named names ≡ false) ⊎ (position_or_len (λ c. c == 0x3E) t ≡ length t) → at_bracket names text i t ≡ (codes "$", 0)
  bracket-none t (inl none) = rw none refl
  bracket-none t (inr past) = rw (past, le-ltb (length t) (length t) (omega arith), and-false) refl

  -- A template that begins with a `$` gives what that stands for, and then what is left of it.
  pub template-end : substitution names (0x24 ∷ []) text i ≡ codes "$" ++ substitution names [] text i
  template-end = substituted-mark [] (codes "$") [] 0 refl refl

  pub template-mark : (t left given : List ℕ) (c : ℕ) → t ≡ c ∷ left → mark_gives text i c ≡ Some given
      → substitution names (0x24 ∷ t) text i ≡ given ++ substitution names left text i
  template-mark t left given c is there = rw is (substituted-mark (c ∷ left) given left 1 (mark-there c left given there) refl)

  pub template-name : (t inside name rest : List ℕ) → t ≡ 0x3C ∷ inside → is_some_named names ≡ true → position_or_len (λ c. c == 0x3E) inside < length inside
      → name ≡ before_first (λ c. c == 0x3E) inside → rest ≡ after_first (λ c. c == 0x3E) inside
      → substitution names (0x24 ∷ t) text i ≡ part_at text (named_taken names i.groups name) ++ substitution names rest text i
  template-name t inside name rest is some within named after =
      let end = position_or_len (λ c. c == 0x3E) inside in
      let past : end + 2 ≡ suc (end + 1) = omega arith in
      rw (is, named, after)
      (substituted-mark (0x3C ∷ inside) _ (drop (end + 1) inside) (end + 2) (bracket-there inside some within) (ap (λ n. drop n (0x3C ∷ inside)) (sym past)))

  pub template-none : (t left : List ℕ) (c : ℕ) → t ≡ c ∷ left → mark_gives text i c ≡ None → is_ascii_digit c ≡ false
      → (c ≢ 0x3C) ⊎ ((is_some_named names ≡ false) ⊎ (position_or_len (λ d. d == 0x3E) left ≡ length left))
      → substitution names (0x24 ∷ t) text i ≡ codes "$" ++ substitution names t text i
  template-none t left c is none other nothing =
      rw is (substituted-mark (c ∷ left) (codes "$") (c ∷ left) 0 (mark-none c left none ∙ rw other (go nothing)) refl)
    where
      go : (c ≢ 0x3C) ⊎ ((is_some_named names ≡ false) ⊎ (position_or_len (λ d. d == 0x3E) left ≡ length left))
          → (if c == 0x3C then at_bracket names text i left else (codes "$", 0)) ≡ (codes "$", 0)
      go (inl apart) = rw (ne_eqb c 0x3C apart) refl
      go (inr no_name) = either (c == 0x3C) (bracket-none left no_name)
        where
          either : (b : Bool) → at_bracket names text i left ≡ (codes "$", 0) → (if b then at_bracket names text i left else (codes "$", 0)) ≡ (codes "$", 0)
          either true e = e
          either false e = refl

-- the first character of a text that is not empty
pub read-first : (t : List ℕ) (r : Option (Bor ℕ)) (x : Bor ℕ) → option_copied r ≡ slice_get t 0 → r ≡ Some x → t ≡ x.now ∷ drop 1 t
read-first [] r x told is = absurd (let none : option_copied (Some x) ≡ None = ap option_copied (sym is) ∙ told in cc)
read-first (c ∷ t) r x told is = let same : Some x.now ≡ Some c = ap option_copied (sym is) ∙ told in let e : x.now ≡ c = cc in ap (λ (d : ℕ). d ∷ t) (sym e)

pub read-none : (t : List ℕ) (r : Option (Bor ℕ)) → option_copied r ≡ slice_get t 0 → r ≡ None → t ≡ []
read-none [] r told is = refl
read-none (c ∷ t) r told is = absurd (let none : None ≡ Some c = ap option_copied (sym is) ∙ told in cc)

-- it is a character of its own where it is ASCII
pub first-cut : (t left : List ℕ) (c : ℕ) → IsUtf8 t → t ≡ c ∷ left → c < 128 → IsCharBoundary t 1
first-cut t left c utf8 is low =
    IsCharBoundary-after_ascii t 0 utf8 (omega (arith, ap length is)) (omega (arith, ap (λ (s : List ℕ). get_or s 0 0) is))
