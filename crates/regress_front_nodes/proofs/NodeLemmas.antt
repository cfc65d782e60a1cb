-- What single nodes match, and which trees nodes stand for.
use Rattle.std.proofs.Common.{◌≡◌, ℕ, zero, suc, ◌+◌, ◌-◌, ◌<◌, ◌≤◌, Bool, true, false, ◌&&◌, ◌==◌, nat_le, nat_eq, List, [], ◌∷◌, ◌++◌, length, map, reverse, chars, All, slice_range, take, drop, refl, sym, ap, ◌∙◌, arith}
use Rattle.std.specs.List.{list_all}
use Rattle.std.proofs.lemmas.Bool.{cond_both, leb-true, and_parts, false≢true, eqb-true, not-true}
use Rattle.std.proofs.lemmas.Bool.Decides.{nat_tests}
use Rattle.std.proofs.lemmas.List.{reverse-append, map-append, length-drop}
use Rattle.std.proofs.lemmas.List.Elements.{All-nil, All-cons, All-head, All-take, All-drop}
use Rattle.regress_meaning.specs.Text.{holds, same_text}
use Rattle.regress_meaning.specs.Table.{code_points}
use Rattle.regress_meaning.specs.TableParts.{is_code_point}
use Rattle.regress_meaning.specs.Meaning.{State, Direction, Forward, Backward, Context, beside, stepped, step}
use Rattle.regress_front_nodes.specs.declared.node.AnchorType.{AnchorType}
use Rattle.regress_front_nodes.specs.declared.node.AnchorType.TheVariants.{StartOfLine, EndOfLine}
use Rattle.regress_front_nodes.specs.Trees.{Tree, cat_of, anchor_of, char, bytes, byte_set, char_set, any, any_in_line, bracket}
use Rattle.regress_front_nodes.specs.TreeMeaning.{node_outcomes, one, bracket_has}
use Rattle.regress_front_nodes.specs.Forms.{is_empty, is_cat, parts, turned}
use Rattle.regress_front_nodes.specs.Singles.{always_fails, takes_one, IsOneFurther}
use Rattle.regress_front_nodes.proofs.EmptyBrackets.{some_below-fails}

-- ---- texts

pub same_text-same : (cs : List ℕ) → same_text cs cs ≡ true
same_text-same [] = refl
same_text-same (c ∷ cs) = rw (same c, same_text-same cs) refl
  where
    same : (c : ℕ) → nat_eq c c ≡ true
    same c = grind (arith, nat_tests)

pub and_true_true : (b c : Bool) → c ≡ true → b ≡ ((b && true) && c)
and_true_true true c e = sym e
and_true_true false c e = refl

-- ---- the parts of a `Cat`

pub parts-cat_of : (ts : List Tree) → parts (cat_of ts) ≡ ts
parts-cat_of [] = refl
parts-cat_of (t ∷ ts) = ap (λ us. t ∷ us) (parts-cat_of ts)

pub turned-cat_of : (ts : List Tree) → turned (cat_of ts) ≡ cat_of (reverse ts)
turned-cat_of [] = refl
turned-cat_of (t ∷ ts) = ap (λ us. cat_of (reverse (t ∷ us))) (parts-cat_of ts)

pub is_cat-cat_of : (ts : List Tree) → is_cat (cat_of ts) ≡ true
is_cat-cat_of [] = refl
is_cat-cat_of (t ∷ ts) = refl

pub is_empty-cat_of : (ts : List Tree) → is_empty (cat_of ts) ≡ false
is_empty-cat_of [] = refl
is_empty-cat_of (t ∷ ts) = refl

pub always_fails-cat_of : (ts : List Tree) → always_fails (cat_of ts) ≡ false
always_fails-cat_of [] = refl
always_fails-cat_of (t ∷ ts) = refl

pub takes_one-cat_of : (ts : List Tree) → takes_one (cat_of ts) ≡ false
takes_one-cat_of [] = refl
takes_one-cat_of (t ∷ ts) = refl

-- ---- anchors

pub is_empty-anchor_of : (t : AnchorType) (multiline : Bool) → is_empty (anchor_of t multiline) ≡ false
is_empty-anchor_of StartOfLine multiline = refl
is_empty-anchor_of EndOfLine multiline = refl

pub always_fails-anchor_of : (t : AnchorType) (multiline : Bool) → always_fails (anchor_of t multiline) ≡ false
always_fails-anchor_of StartOfLine multiline = refl
always_fails-anchor_of EndOfLine multiline = refl

pub takes_one-anchor_of : (t : AnchorType) (multiline : Bool) → takes_one (anchor_of t multiline) ≡ false
takes_one-anchor_of StartOfLine multiline = refl
takes_one-anchor_of EndOfLine multiline = refl

pub map-reverse : {A B : Type 0} (f : A → B) (xs : List A) → map f (reverse xs) ≡ reverse (map f xs)
map-reverse f [] = refl
map-reverse f (x ∷ xs) =
    ap (map f) (reverse-append (x ∷ []) xs) ∙ map-append f (reverse xs) (x ∷ [])
    ∙ ap (λ l. l ++ f x ∷ []) (map-reverse f xs) ∙ sym (reverse-append (f x ∷ []) (map f xs))

-- ---- one step

not_zero : (n : ℕ) → (suc n == 0) ≡ true → ⊥
not_zero n h = grind (arith, nat_tests)

-- no code point passes, so no text of one does
none_passes : (test : ℕ → Bool) → ((c : ℕ) → is_code_point c → test c ≡ false) → (cs : List ℕ) → All is_code_point cs → 0 < length cs → list_all test cs ≡ false
none_passes test fails [] all some = absurd (omega arith)
none_passes test fails (c ∷ cs) all some = rw (fails c (All-head is_code_point c cs all)) refl

some_taken : {A : Type 0} (n a : ℕ) (xs : List A) → 0 < n → a < length xs → 0 < length (take n (drop a xs))
some_taken n a xs h k = some n (drop a xs) h (omega (arith, k, length-drop a xs))
  where
    some : {A : Type 0} (n : ℕ) (xs : List A) → 0 < n → 0 < length xs → 0 < length (take n xs)
    some zero xs h k = absurd (omega arith)
    some (suc n) [] h k = absurd (omega arith)
    some (suc n) (x ∷ xs) h k = omega arith

module _ (context : Context) where
  pub all_further : (dir : Direction) (test : List ℕ → Bool) (s : State) → All (IsOneFurther dir s) (step context dir 1 test s)
  unfolding step beside
  all_further Forward test s =
      cond_both (nat_le (s.place + 1) (length context.text)) _ _ (λ o. All (IsOneFurther Forward s) (stepped test s o))
      (λ l. cond_both (test (slice_range context.text s.place (s.place + 1))) _ _ (All (IsOneFurther Forward s))
      (λ p. All-cons (IsOneFurther Forward s) _ [] (refl, refl) (All-nil (IsOneFurther Forward s))) (λ p. All-nil (IsOneFurther Forward s)))
      (λ l. All-nil (IsOneFurther Forward s))
  all_further Backward test s =
      cond_both (nat_le 1 s.place) _ _ (λ o. All (IsOneFurther Backward s) (stepped test s o))
      (λ l. cond_both (test (slice_range context.text (s.place - 1) s.place)) _ _ (All (IsOneFurther Backward s))
      (λ p. All-cons (IsOneFurther Backward s) _ [] (omega (arith, leb-true _ _ l), refl) (All-nil (IsOneFurther Backward s))) (λ p. All-nil (IsOneFurther Backward s)))
      (λ l. All-nil (IsOneFurther Backward s))

  -- each outcome of what takes one character is one place further
  pub takes_one-further : (t : Tree) (dir : Direction) (s : State) → takes_one t ≡ true → All (IsOneFurther dir s) (node_outcomes context t dir s)
  unfolding node_outcomes
  takes_one-further (char c) dir s h = all_further dir (list_all (nat_eq c)) s
  takes_one-further any dir s h = all_further dir (list_all (λ c. true)) s
  takes_one-further any_in_line dir s h = all_further dir _ s
  takes_one-further (bytes bs) dir s h =
      rw (eqb-true (length (chars bs)) 1 (and_parts _ _ (and_parts _ _ h).0).0) (all_further dir (same_text (chars bs)) s)
  takes_one-further (byte_set bs) dir s h = all_further dir (list_all (holds bs)) s
  takes_one-further (char_set cs) dir s h = all_further dir (list_all (holds cs)) s
  takes_one-further (bracket inverted intervals) dir s h = all_further dir (list_all (bracket_has inverted intervals)) s
  takes_one-further _ dir s h = absurd (false≢true h)

  -- where no code point passes, there is no outcome
  pub none_further : (dir : Direction) (test : ℕ → Bool) (s : State) → ((c : ℕ) → is_code_point c → test c ≡ false) → All is_code_point context.text
      → s.place ≤ length context.text → one context dir test s ≡ []
  unfolding step beside
  none_further Forward test s fails all inside =
      cond_both (nat_le (s.place + 1) (length context.text)) _ _ (λ o. stepped (list_all test) s o ≡ [])
      (λ l. rw (none_passes test fails (slice_range context.text s.place (s.place + 1)) (All-take is_code_point _ _ (All-drop is_code_point s.place context.text all))
      (some_taken (s.place + 1 - s.place) s.place context.text (omega arith) (omega (arith, leb-true _ _ l)))) refl)
      (λ l. refl)
  none_further Backward test s fails all inside =
      cond_both (nat_le 1 s.place) _ _ (λ o. stepped (list_all test) s o ≡ [])
      (λ l. rw (none_passes test fails (slice_range context.text (s.place - 1) s.place) (All-take is_code_point _ _ (All-drop is_code_point (s.place - 1) context.text all)) (some_taken (s.place - (s.place - 1)) (s.place - 1) context.text (omega (arith, leb-true _ _ l)) (omega (arith, leb-true _ _ l, inside)))) refl)
      (λ l. refl)

  pub always_fails-nothing : (t : Tree) (dir : Direction) (s : State) → always_fails t ≡ true → All is_code_point context.text
      → s.place ≤ length context.text → node_outcomes context t dir s ≡ []
  unfolding node_outcomes
  always_fails-nothing (byte_set []) dir s h all inside = none_further dir (holds []) s (λ c l. refl) all inside
  always_fails-nothing (char_set []) dir s h all inside = none_further dir (holds []) s (λ c l. refl) all inside
  always_fails-nothing (byte_set (c ∷ cs)) dir s h all inside = absurd (not_zero (length cs) h)
  always_fails-nothing (char_set (c ∷ cs)) dir s h all inside = absurd (not_zero (length cs) h)
  always_fails-nothing (bracket inverted intervals) dir s h all inside =
      none_further dir (bracket_has inverted intervals) s (λ c l. some_below-fails code_points c (bracket_has inverted intervals) (not-true _ h) (omega arith)) all inside
  always_fails-nothing _ dir s h all inside = absurd (false≢true h)
