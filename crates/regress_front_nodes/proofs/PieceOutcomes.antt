-- The pieces of a string, one after another, match what the string does.
use Rattle.std.proofs.Common.{◌≡◌, ℕ, suc, ◌+◌, ◌-◌, ◌<◌, ◌≤◌, Bool, true, false, ◌&&◌, ◌||◌, ◌==◌, List, [], ◌∷◌, ◌++◌, length, if◌then◌else◌, nat_eq, nat_le, nat_lt, chars, encode_utf8, take, drop, reverse, get_or, All, IsUtf8, refl, sym, ap, ◌∙◌, inl, inr, arith}
use Rattle.std.specs.List.{flat_map, list_all}
use Rattle.std.specs.Char.{IsScalar}
use lib.Pointwise.{pointwise}
use lib.Utf8.{scalar}
use Rattle.std.proofs.lemmas.Bool.{cases_lt, and_parts, and_from, le-leb, lt-leb, lt-ltb}
use Rattle.std.proofs.lemmas.Bool.Decides.{nat_tests}
use Rattle.std.proofs.lemmas.List.{append-nil, reverse-append, drop_more}
use Rattle.std.proofs.lemmas.List.Elements.{All-nil, All-cons, All-head, All-tail, All-append}
use Rattle.std.proofs.lemmas.Str.{chars-append, chars-encodes, IsUtf8-encode, length-encode, len_utf8_bounds}
use Rattle.regress_meaning.specs.Text.{holds}
use Rattle.regress_meaning.specs.Table.{canon, code_points}
use Rattle.regress_meaning.specs.TableParts.{is_code_point, is_surrogate}
use Rattle.regress_meaning.specs.Meaning.{State, Forward, Backward, Context, beside, step, same, same_all}
use Rattle.regress_front_nodes.specs.Trees.{Tree, char, bytes, byte_set, char_set, cat_of}
use Rattle.regress_front_nodes.specs.TreeMeaning.{one, node_outcomes}
use Rattle.regress_front_nodes.specs.Pieces.{expansion, bytes_before, before, pieces_of}
use Rattle.regress_front_nodes.proofs.StepLemmas.{list_all-agree, step-agree, flat_map-again, flat_map-self, sized-agree}
use Rattle.regress_front_nodes.proofs.PieceLemmas.{held-below, expansion-points, scalar-from}

flat_map-All : {X : Type 0} (P : X → Type 0) (f : X → List X) → ((x : X) → P x → All P (f x)) → (xs : List X) → All P xs → All P (flat_map f xs)
flat_map-All P f h [] k = All-nil P
flat_map-All P f h (x ∷ xs) k = All-append P (f x) (flat_map f xs) (h x (All-head P x xs k)) (flat_map-All P f h xs (All-tail P x xs k))

pub flat_map-agree : {X Y : Type 0} (P : X → Type 0) (f g : X → List Y) → ((x : X) → P x → f x ≡ g x) → (xs : List X) → All P xs → flat_map f xs ≡ flat_map g xs
flat_map-agree P f g h [] k = refl
flat_map-agree P f g h (x ∷ xs) k =
    let here = h x (All-head P x xs k) in
    let rest = flat_map-agree P f g h xs (All-tail P x xs k) in
    (λ i. here i ++ rest i)

module _ (w : Context) where
  -- steps over the text that is there, and over more
  pub step-in : (k : ℕ) (test : List ℕ → Bool) (s : State) → s.place + k ≤ length w.text
      → step w Forward k test s ≡ (if test (take k (drop s.place w.text)) then record s { place = s.place + k } ∷ [] else [])
  unfolding step beside
  step-in k test s h =
      let room : nat_le (s.place + k) (length w.text) ≡ true = le-leb (s.place + k) (length w.text) h in
      let size : s.place + k - s.place ≡ k = omega arith in
      rw (room, size) refl

  pub step-out : (k : ℕ) (test : List ℕ → Bool) (s : State) → length w.text < s.place + k → step w Forward k test s ≡ []
  unfolding step beside
  step-out k test s h = let room : nat_le (s.place + k) (length w.text) ≡ false = lt-leb (s.place + k) (length w.text) h in rw room refl

  -- what leads on alike from inside the text does so after a step
  flat_map-step : (f g : State → List State) → ((t : State) → t.place ≤ length w.text → f t ≡ g t) → (k : ℕ) (test : List ℕ → Bool) (s : State)
      → flat_map f (step w Forward k test s) ≡ flat_map g (step w Forward k test s)
  flat_map-step f g agree k test s =
      elim (cases_lt (length w.text) (s.place + k)) [
        | inl h ↦ rw (step-out k test s h) refl
        | inr h ↦ rw (step-in k test s h) (by_test (test (take k (drop s.place w.text))) h)
      ]
    where
      by_test : (b : Bool) → s.place + k ≤ length w.text
          → flat_map f (if b then record s { place = s.place + k } ∷ [] else []) ≡ flat_map g (if b then record s { place = s.place + k } ∷ [] else [])
      by_test true h = let t : State = record s { place = s.place + k } in rw (agree t h) refl
      by_test false h = refl

  -- a step over several is one over the first and then one over the others
  pub step-first : (p : ℕ → Bool) (q t : List ℕ → Bool) → ((d : ℕ) (ds : List ℕ) → t (d ∷ ds) ≡ (p d && q ds)) → (n : ℕ) (s : State)
      → step w Forward (suc n) t s ≡ flat_map (step w Forward n q) (step w Forward 1 (list_all p) s)
  step-first p q t split n s =
      elim (cases_lt s.place (length w.text)) [
        | inl h ↦ rw (step-in 1 (list_all p) s (omega arith), drop_more w.text s.place 0 h) (by_first h (p (get_or w.text s.place 0)) refl)
        | inr h ↦ rw (step-out 1 (list_all p) s (omega arith), step-out (suc n) t s (omega arith)) refl
      ]
    where
      d : ℕ
      d = get_or w.text s.place 0

      rest : List ℕ
      rest = drop (s.place + 1) w.text

      next : State
      next = record s { place = s.place + 1 }

      first : s.place < length w.text → t (take (suc n) (drop s.place w.text)) ≡ (p d && q (take n rest))
      first h = rw (drop_more w.text s.place 0 h) (split d (take n rest))

      by_first : s.place < length w.text → (b : Bool) → p d ≡ b
          → step w Forward (suc n) t s ≡ flat_map (step w Forward n q) (if b && true then next ∷ [] else [])
      by_first h true e =
          elim (cases_lt (length w.text) (s.place + suc n)) [
            | inl out ↦ rw (step-out (suc n) t s out, step-out n q next (omega arith)) refl
            | inr room ↦
                let there : s.place + suc n ≡ s.place + 1 + n = omega arith in
                rw (step-in (suc n) t s room, step-in n q next (omega arith), first h, e, there)
                (sym (append-nil (if q (take n rest) then record s { place = s.place + 1 + n } ∷ [] else [])))
          ]
      by_first h false e =
          elim (cases_lt (length w.text) (s.place + suc n)) [
            | inl out ↦ step-out (suc n) t s out
            | inr room ↦ rw (step-in (suc n) t s room, first h, e) refl
          ]

  -- a literal goes by its first character
  spelled-first : (c : ℕ) (cs : List ℕ) (s : State)
      → step w Forward (length (c ∷ cs)) (pointwise nat_eq (c ∷ cs)) s ≡ flat_map (step w Forward (length cs) (pointwise nat_eq cs)) (one w Forward (nat_eq c) s)
  spelled-first c cs s = step-first (nat_eq c) (pointwise nat_eq cs) (pointwise nat_eq (c ∷ cs)) (λ d ds. refl) (length cs) s

  -- ---- from right to left

  pub back-in : (k : ℕ) (test : List ℕ → Bool) (s : State) → k ≤ s.place
      → step w Backward k test s ≡ (if test (take k (drop (s.place - k) w.text)) then record s { place = s.place - k } ∷ [] else [])
  unfolding step beside
  back-in k test s h =
      let room : nat_le k s.place ≡ true = le-leb k s.place h in
      let size : s.place - (s.place - k) ≡ k = omega arith in
      rw (room, size) refl

  pub back-out : (k : ℕ) (test : List ℕ → Bool) (s : State) → s.place < k → step w Backward k test s ≡ []
  unfolding step beside
  back-out k test s h = let room : nat_le k s.place ≡ false = lt-leb k s.place h in rw room refl

  -- a step over several is one over the last of them to come, the first of the text, after one over the others
  pub step-last : (p : ℕ → Bool) (q t : List ℕ → Bool) → ((d : ℕ) (ds : List ℕ) → t (d ∷ ds) ≡ (p d && q ds)) → (n : ℕ) (s : State) → s.place ≤ length w.text
      → step w Backward (suc n) t s ≡ flat_map (step w Backward 1 (list_all p)) (step w Backward n q s)
  step-last p q t split n s inside =
      elim (cases_lt s.place (suc n)) [
        | inl out ↦ rw (back-out (suc n) t s out) (sym (by_room out))
        | inr room ↦ rw (back-in (suc n) t s room, back-in n q s (omega arith), first room) (by_tests room (q rest) (p d) refl)
      ]
    where
      d : ℕ
      d = get_or w.text (s.place - suc n) 0

      rest : List ℕ
      rest = take n (drop (s.place - n) w.text)

      next : State
      next = record s { place = s.place - n }

      first : suc n ≤ s.place → t (take (suc n) (drop (s.place - suc n) w.text)) ≡ (p d && q rest)
      first room =
          let there : s.place - suc n + 1 ≡ s.place - n = omega arith in
          let here : s.place - suc n < length w.text = omega arith in
          rw (drop_more w.text (s.place - suc n) 0 here, there) (split d rest)

      by_room : s.place < suc n → flat_map (step w Backward 1 (list_all p)) (step w Backward n q s) ≡ []
      by_room out =
          elim (cases_lt s.place n) [
            | inl further ↦ rw (back-out n q s further) refl
            | inr room ↦ rw (back-in n q s room) (by_test (q rest))
          ]
        where
          by_test : (b : Bool) → flat_map (step w Backward 1 (list_all p)) (if b then next ∷ [] else []) ≡ []
          by_test true = rw (back-out 1 (list_all p) next (omega arith)) refl
          by_test false = refl

      by_tests : suc n ≤ s.place → (a b : Bool) → p d ≡ b
          → (if b && a then record s { place = s.place - suc n } ∷ [] else []) ≡ flat_map (step w Backward 1 (list_all p)) (if a then next ∷ [] else [])
      by_tests room false true e = refl
      by_tests room false false e = refl
      by_tests room true b e =
          let there : s.place - suc n + 1 ≡ s.place - n = omega arith in
          let before_it : s.place - n - 1 ≡ s.place - suc n = omega arith in
          let here : s.place - suc n < length w.text = omega arith in
          rw (back-in 1 (list_all p) next (omega arith), before_it, drop_more w.text (s.place - suc n) 0 here, e) (ends b)
        where
          ends : (b : Bool) → (if b && true then record s { place = s.place - suc n } ∷ [] else []) ≡ (if b && true then record s { place = s.place - suc n } ∷ [] else []) ++ []
          ends true = refl
          ends false = refl

  abbrev Within : State → Type 0
  Within s = s.place ≤ length w.text

  back-stays : (k : ℕ) (test : List ℕ → Bool) (s : State) → Within s → All Within (step w Backward k test s)
  back-stays k test s inside =
      elim (cases_lt s.place k) [
        | inl h ↦ rw (back-out k test s h) (All-nil Within)
        | inr h ↦ rw (back-in k test s h) (by_test (test (take k (drop (s.place - k) w.text))))
      ]
    where
      by_test : (b : Bool) → All Within (if b then record s { place = s.place - k } ∷ [] else [])
      by_test true = let t : State = record s { place = s.place - k } in All-cons Within t [] (omega arith) (All-nil Within)
      by_test false = All-nil Within

  abbrev is_piece : Tree → Bool
  is_piece (char c) = true
  is_piece (bytes bs) = true
  is_piece (byte_set bs) = true
  is_piece (char_set cs) = true
  is_piece _ = false

  piece-stays : (t : Tree) → is_piece t ≡ true → (s : State) → Within s → All Within (node_outcomes w t Backward s)
  unfolding node_outcomes
  piece-stays (char c) e s inside = back-stays 1 (list_all (nat_eq c)) s inside
  piece-stays (bytes bs) e s inside = back-stays (length (chars bs)) (pointwise nat_eq (chars bs)) s inside
  piece-stays (byte_set bs) e s inside = back-stays 1 (list_all (holds bs)) s inside
  piece-stays (char_set cs) e s inside = back-stays 1 (list_all (holds cs)) s inside
  piece-stays _ e s inside = absurd (cc)

  parts-append : (ts us : List Tree) (s : State)
      → node_outcomes w (cat_of (ts ++ us)) Backward s ≡ flat_map (node_outcomes w (cat_of us) Backward) (node_outcomes w (cat_of ts) Backward s)
  unfolding node_outcomes
  parts-append [] us s = sym (append-nil (node_outcomes w (cat_of us) Backward s))
  parts-append (t ∷ ts) us s =
      (λ i. flat_map (λ r. parts-append ts us r i) (node_outcomes w t Backward s))
      ∙ sym (flat_map-again (node_outcomes w (cat_of us) Backward) (node_outcomes w (cat_of ts) Backward) (node_outcomes w t Backward s))

  -- the first piece comes last
  turned-first : (t : Tree) (ts : List Tree) (s : State)
      → node_outcomes w (cat_of (reverse (t ∷ ts))) Backward s ≡ flat_map (node_outcomes w t Backward) (node_outcomes w (cat_of (reverse ts)) Backward s)
  unfolding node_outcomes
  turned-first t ts s =
      ap (λ us. node_outcomes w (cat_of us) Backward s) (reverse-append (t ∷ []) ts) ∙ parts-append (reverse ts) (t ∷ []) s
      ∙ (λ i. flat_map (λ r. flat_map-self (node_outcomes w t Backward r) i) (node_outcomes w (cat_of (reverse ts)) Backward s))

  pieces-stay : (ts : List Tree) → list_all is_piece ts ≡ true → (s : State) → Within s → All Within (node_outcomes w (cat_of (reverse ts)) Backward s)
  unfolding node_outcomes
  pieces-stay [] e s inside = All-cons Within s [] inside (All-nil Within)
  pieces-stay (t ∷ ts) e s inside =
      let parts = and_parts (is_piece t) (list_all is_piece ts) e in
      rw (turned-first t ts s) (
      flat_map-All Within (node_outcomes w t Backward) (piece-stays t parts.0) (node_outcomes w (cat_of (reverse ts)) Backward s) (pieces-stay ts parts.1 s inside)
      )

  bytes-pieces : (xs : List ℕ) (ts : List Tree) → list_all is_piece ts ≡ true → list_all is_piece (bytes_before xs ts) ≡ true
  bytes-pieces [] ts e = e
  bytes-pieces (b ∷ bs) [] e = refl
  bytes-pieces (b ∷ bs) (bytes ds ∷ ts) e = e
  bytes-pieces (b ∷ bs) (t ∷ ts) e = e

  before-pieces : (ms : List ℕ) (ts : List Tree) → list_all is_piece ts ≡ true → list_all is_piece (before ms ts) ≡ true
  before-pieces [] ts e = e
  before-pieces (m ∷ []) ts e = by_kind (is_surrogate m)
    where
      by_kind : (b : Bool) → list_all is_piece (if b then char m ∷ ts else bytes_before (encode_utf8 m) ts) ≡ true
      by_kind true = e
      by_kind false = bytes-pieces (encode_utf8 m) ts e
  before-pieces (m ∷ k ∷ ms) ts e = by_kind (list_all (λ c. nat_lt c 0x80) (m ∷ k ∷ ms))
    where
      by_kind : (b : Bool) → list_all is_piece ((if b then byte_set (m ∷ k ∷ ms) else char_set (m ∷ k ∷ ms)) ∷ ts) ≡ true
      by_kind true = e
      by_kind false = e

  all-pieces : (icase : Bool) (cs : List ℕ) → list_all is_piece (pieces_of w.table icase w.unicode cs) ≡ true
  unfolding pieces_of
  all-pieces icase [] = refl
  all-pieces icase (c ∷ cs) = before-pieces (expansion w.table icase w.unicode c) (pieces_of w.table icase w.unicode cs) (all-pieces icase cs)

  -- ---- literals

  module _ (valid : All is_code_point w.text) where
    -- alone, as one of a set of itself
    spelled-alone : (c : ℕ) (s : State) → s.place ≤ length w.text → step w Forward 1 (pointwise nat_eq (c ∷ [])) s ≡ one w Forward (nat_eq c) s
    spelled-alone c s inside = sized-agree w valid Forward s inside 1 (pointwise nat_eq (c ∷ [])) (list_all (nat_eq c)) agree
      where
        agree : (ds : List ℕ) → length ds ≡ 1 → All is_code_point ds → pointwise nat_eq (c ∷ []) ds ≡ list_all (nat_eq c) ds
        agree [] h k = absurd (omega arith)
        agree (d ∷ []) h k = refl
        agree (d ∷ e ∷ ds) h k = absurd (omega arith)

    -- a character as bytes before other pieces comes first
    literal-before : (c : ℕ) (xs : List ℕ) (ts : List Tree) (s : State) → s.place ≤ length w.text → 0 < length xs → IsUtf8 xs → chars xs ≡ c ∷ []
        → node_outcomes w (cat_of (bytes_before xs ts)) Forward s ≡ flat_map (node_outcomes w (cat_of ts) Forward) (one w Forward (nat_eq c) s)
    unfolding node_outcomes
    literal-before c [] ts s inside some utf8 e = absurd (omega arith)
    literal-before c (b ∷ bs) [] s inside some utf8 e = rw (e, spelled-alone c s inside) refl
    literal-before c (b ∷ bs) (bytes ds ∷ ts) s inside some utf8 e =
        rw (chars-append (b ∷ bs) ds utf8, e, spelled-first c (chars ds) s)
        (flat_map-again (node_outcomes w (cat_of ts) Forward) (node_outcomes w (bytes ds) Forward) (one w Forward (nat_eq c) s))
    literal-before c (b ∷ bs) (t ∷ ts) s inside some utf8 e = rw (e, spelled-alone c s inside) refl

    -- ---- what stands for a code point

    set-first : (test : ℕ → Bool) (ms : List ℕ) (ascii : Bool) (ts : List Tree) (s : State) → ((d : ℕ) → is_code_point d → holds ms d ≡ test d)
        → node_outcomes w (cat_of ((if ascii then byte_set ms else char_set ms) ∷ ts)) Forward s ≡ flat_map (node_outcomes w (cat_of ts) Forward) (one w Forward test s)
    unfolding node_outcomes
    set-first test ms ascii ts s members = by_kind ascii
      where
        alike : one w Forward (holds ms) s ≡ one w Forward test s
        alike = step-agree w valid Forward 1 (list_all (holds ms)) (list_all test) (list_all-agree (holds ms) test members) s

        by_kind : (b : Bool)
            → node_outcomes w (cat_of ((if b then byte_set ms else char_set ms) ∷ ts)) Forward s ≡ flat_map (node_outcomes w (cat_of ts) Forward) (one w Forward test s)
        by_kind true = rw alike refl
        by_kind false = rw alike refl

    spelled-back : (c : ℕ) → IsScalar c → chars (encode_utf8 c) ≡ c ∷ []
    spelled-back c h = ap chars (sym (append-nil (encode_utf8 c))) ∙ chars-encodes (c ∷ []) (and_from (scalar c) true h refl)

    place-kept : (s : State) → s ∷ [] ≡ record s { place = s.place + 0 } ∷ []
    place-kept s = let same : s.place ≡ s.place + 0 = omega arith in (λ i. record s { place = same i } ∷ [])

    stands-for : (icase : Bool) (c d : ℕ) → is_code_point d → holds (expansion w.table icase w.unicode c) d ≡ same w.table w.unicode icase c d
    unfolding expansion
    stands-for false c d h = grind (arith, nat_tests)
    stands-for true c d h =
        let test : ℕ → Bool = λ x. canon w.table w.unicode x == canon w.table w.unicode c in
        let below : nat_lt d code_points ≡ true = lt-ltb d code_points (omega arith) in
        let other : (canon w.table w.unicode d == canon w.table w.unicode c) ≡ (canon w.table w.unicode c == canon w.table w.unicode d) = grind (arith, nat_tests) in
        held-below code_points test d ∙ rw below other

    before-first : (test : ℕ → Bool) (ms : List ℕ) (ts : List Tree) (s : State) → All is_code_point ms → ((d : ℕ) → is_code_point d → holds ms d ≡ test d)
        → s.place ≤ length w.text → node_outcomes w (cat_of (before ms ts)) Forward s ≡ flat_map (node_outcomes w (cat_of ts) Forward) (one w Forward test s)
    unfolding node_outcomes
    before-first test [] ts s points members inside = set-first test [] true ts s members
    before-first test (m ∷ []) ts s points members inside = by_kind (is_surrogate m) refl
      where
        single : (d : ℕ) → is_code_point d → nat_eq m d ≡ test d
        single d h = let same : nat_eq m d ≡ (nat_eq m d || false) = grind (arith, nat_tests) in same ∙ members d h

        alone : one w Forward (nat_eq m) s ≡ one w Forward test s
        alone = step-agree w valid Forward 1 (list_all (nat_eq m)) (list_all test) (list_all-agree (nat_eq m) test single) s

        by_kind : (b : Bool) → is_surrogate m ≡ b
            → node_outcomes w (cat_of (if b then char m ∷ ts else bytes_before (encode_utf8 m) ts)) Forward s ≡ flat_map (node_outcomes w (cat_of ts) Forward) (one w Forward test s)
        by_kind true e = rw alone refl
        by_kind false e =
            let is_scalar : IsScalar m = scalar-from m (All-head is_code_point m [] points) e in
            let some = (len_utf8_bounds m).0 in
            literal-before m (encode_utf8 m) ts s inside (omega (arith, length-encode m)) (IsUtf8-encode m is_scalar) (spelled-back m is_scalar) ∙ rw alone refl
    before-first test (m ∷ k ∷ ms) ts s points members inside = set-first test (m ∷ k ∷ ms) (list_all (λ c. nat_lt c 0x80) (m ∷ k ∷ ms)) ts s members

    -- the string and its pieces
    pub pieces-outcomes : (icase : Bool) (cs : List ℕ) (s : State) → All is_code_point cs → s.place ≤ length w.text
        → node_outcomes w (cat_of (pieces_of w.table icase w.unicode cs)) Forward s ≡ step w Forward (length cs) (same_all w.table w.unicode icase cs) s
    unfolding node_outcomes pieces_of
    pieces-outcomes icase [] s points inside = rw (step-in 0 (same_all w.table w.unicode icase []) s (omega arith)) (place-kept s)
    pieces-outcomes icase (c ∷ cs) s points inside =
        let ms : List ℕ = expansion w.table icase w.unicode c in
        let ts : List Tree = pieces_of w.table icase w.unicode cs in
        let own : is_code_point c = All-head is_code_point c cs points in
        before-first (same w.table w.unicode icase c) ms ts s (expansion-points w.table w.unicode c icase own) (stands-for icase c) inside
        ∙ flat_map-step (node_outcomes w (cat_of ts) Forward) (step w Forward (length cs) (same_all w.table w.unicode icase cs))
        (λ t h. pieces-outcomes icase cs t (All-tail is_code_point c cs points) h) 1 (list_all (same w.table w.unicode icase c)) s
        ∙ sym (step-first (same w.table w.unicode icase c) (same_all w.table w.unicode icase cs) (same_all w.table w.unicode icase (c ∷ cs)) (λ d ds. refl) (length cs) s)

    -- ---- from right to left

    back-alone : (c : ℕ) (s : State) → Within s → step w Backward 1 (pointwise nat_eq (c ∷ [])) s ≡ one w Backward (nat_eq c) s
    back-alone c s inside = sized-agree w valid Backward s inside 1 (pointwise nat_eq (c ∷ [])) (list_all (nat_eq c)) agree
      where
        agree : (ds : List ℕ) → length ds ≡ 1 → All is_code_point ds → pointwise nat_eq (c ∷ []) ds ≡ list_all (nat_eq c) ds
        agree [] h k = absurd (omega arith)
        agree (d ∷ []) h k = refl
        agree (d ∷ e ∷ ds) h k = absurd (omega arith)

    -- a character as bytes before other pieces comes last
    literal-behind : (c : ℕ) (xs : List ℕ) (ts : List Tree) (s : State) → Within s → list_all is_piece ts ≡ true → 0 < length xs → IsUtf8 xs → chars xs ≡ c ∷ []
        → node_outcomes w (cat_of (reverse (bytes_before xs ts))) Backward s ≡ flat_map (one w Backward (nat_eq c)) (node_outcomes w (cat_of (reverse ts)) Backward s)
    unfolding node_outcomes
    literal-behind c [] ts s inside are some utf8 e = absurd (omega arith)
    literal-behind c (b ∷ bs) [] s inside are some utf8 e =
        turned-first (bytes (b ∷ bs)) [] s
        ∙ flat_map-agree Within (node_outcomes w (bytes (b ∷ bs)) Backward) (one w Backward (nat_eq c)) (λ t h. rw e (back-alone c t h)) (s ∷ []) (pieces-stay [] are s inside)
    literal-behind c (b ∷ bs) (bytes ds ∷ ts) s inside are some utf8 e =
        let before_it : List State = node_outcomes w (cat_of (reverse ts)) Backward s in
        turned-first (bytes (b ∷ bs ++ ds)) ts s
        ∙ flat_map-agree Within (node_outcomes w (bytes (b ∷ bs ++ ds)) Backward) (λ t. flat_map (one w Backward (nat_eq c)) (node_outcomes w (bytes ds) Backward t))
        (λ t h. rw (chars-append (b ∷ bs) ds utf8, e) (step-last (nat_eq c) (pointwise nat_eq (chars ds)) (pointwise nat_eq (c ∷ chars ds)) (λ x xs. refl) (length (chars ds)) t h))
        before_it (pieces-stay ts are s inside)
        ∙ sym (flat_map-again (one w Backward (nat_eq c)) (node_outcomes w (bytes ds) Backward) before_it)
        ∙ ap (λ us. flat_map (one w Backward (nat_eq c)) us) (sym (turned-first (bytes ds) ts s))
    literal-behind c (b ∷ bs) (t ∷ ts) s inside are some utf8 e =
        turned-first (bytes (b ∷ bs)) (t ∷ ts) s
        ∙ flat_map-agree Within (node_outcomes w (bytes (b ∷ bs)) Backward) (one w Backward (nat_eq c)) (λ u h. rw e (back-alone c u h)) (node_outcomes w (cat_of (reverse (t ∷ ts))) Backward s)
        (pieces-stay (t ∷ ts) are s inside)

    set-last : (test : ℕ → Bool) (ms : List ℕ) (ascii : Bool) (ts : List Tree) (s : State) → ((d : ℕ) → is_code_point d → holds ms d ≡ test d)
        → node_outcomes w (cat_of (reverse ((if ascii then byte_set ms else char_set ms) ∷ ts))) Backward s ≡ flat_map (one w Backward test) (node_outcomes w (cat_of (reverse ts)) Backward s)
    unfolding node_outcomes
    set-last test ms ascii ts s members = by_kind ascii
      where
        alike : (t : State) → one w Backward (holds ms) t ≡ one w Backward test t
        alike t = step-agree w valid Backward 1 (list_all (holds ms)) (list_all test) (list_all-agree (holds ms) test members) t

        by_kind : (b : Bool)
            → node_outcomes w (cat_of (reverse ((if b then byte_set ms else char_set ms) ∷ ts))) Backward s ≡ flat_map (one w Backward test) (node_outcomes w (cat_of (reverse ts)) Backward s)
        by_kind true = turned-first (byte_set ms) ts s ∙ (λ i. flat_map (λ t. alike t i) (node_outcomes w (cat_of (reverse ts)) Backward s))
        by_kind false = turned-first (char_set ms) ts s ∙ (λ i. flat_map (λ t. alike t i) (node_outcomes w (cat_of (reverse ts)) Backward s))

    before-last : (test : ℕ → Bool) (ms : List ℕ) (ts : List Tree) (s : State) → All is_code_point ms → ((d : ℕ) → is_code_point d → holds ms d ≡ test d)
        → Within s → list_all is_piece ts ≡ true
        → node_outcomes w (cat_of (reverse (before ms ts))) Backward s ≡ flat_map (one w Backward test) (node_outcomes w (cat_of (reverse ts)) Backward s)
    unfolding node_outcomes
    before-last test [] ts s points members inside are = set-last test [] true ts s members
    before-last test (m ∷ []) ts s points members inside are = by_kind (is_surrogate m) refl
      where
        single : (d : ℕ) → is_code_point d → nat_eq m d ≡ test d
        single d h = let same : nat_eq m d ≡ (nat_eq m d || false) = grind (arith, nat_tests) in same ∙ members d h

        alike : (t : State) → one w Backward (nat_eq m) t ≡ one w Backward test t
        alike t = step-agree w valid Backward 1 (list_all (nat_eq m)) (list_all test) (list_all-agree (nat_eq m) test single) t

        further : flat_map (one w Backward (nat_eq m)) (node_outcomes w (cat_of (reverse ts)) Backward s) ≡ flat_map (one w Backward test) (node_outcomes w (cat_of (reverse ts)) Backward s)
        further = (λ i. flat_map (λ t. alike t i) (node_outcomes w (cat_of (reverse ts)) Backward s))

        by_kind : (b : Bool) → is_surrogate m ≡ b
            → node_outcomes w (cat_of (reverse (if b then char m ∷ ts else bytes_before (encode_utf8 m) ts))) Backward s ≡ flat_map (one w Backward test) (node_outcomes w (cat_of (reverse ts)) Backward s)
        by_kind true e = turned-first (char m) ts s ∙ further
        by_kind false e =
            let is_scalar : IsScalar m = scalar-from m (All-head is_code_point m [] points) e in
            let some = (len_utf8_bounds m).0 in
            literal-behind m (encode_utf8 m) ts s inside are (omega (arith, length-encode m)) (IsUtf8-encode m is_scalar) (spelled-back m is_scalar) ∙ further
    before-last test (m ∷ k ∷ ms) ts s points members inside are = set-last test (m ∷ k ∷ ms) (list_all (λ c. nat_lt c 0x80) (m ∷ k ∷ ms)) ts s members

    place-left : (s : State) → s ∷ [] ≡ record s { place = s.place - 0 } ∷ []
    place-left s = let same : s.place ≡ s.place - 0 = omega arith in (λ i. record s { place = same i } ∷ [])

    -- the string and its pieces, the last first
    pub back-outcomes : (icase : Bool) (cs : List ℕ) (s : State) → All is_code_point cs → s.place ≤ length w.text
        → node_outcomes w (cat_of (reverse (pieces_of w.table icase w.unicode cs))) Backward s ≡ step w Backward (length cs) (same_all w.table w.unicode icase cs) s
    unfolding node_outcomes pieces_of
    back-outcomes icase [] s points inside = rw (back-in 0 (same_all w.table w.unicode icase []) s (omega arith)) (place-left s)
    back-outcomes icase (c ∷ cs) s points inside =
        let ms : List ℕ = expansion w.table icase w.unicode c in
        let ts : List Tree = pieces_of w.table icase w.unicode cs in
        let own : is_code_point c = All-head is_code_point c cs points in
        before-last (same w.table w.unicode icase c) ms ts s (expansion-points w.table w.unicode c icase own) (stands-for icase c) inside (all-pieces icase cs)
        ∙ ap (λ us. flat_map (one w Backward (same w.table w.unicode icase c)) us) (back-outcomes icase cs s (All-tail is_code_point c cs points) inside)
        ∙ sym (step-last (same w.table w.unicode icase c) (same_all w.table w.unicode icase cs) (same_all w.table w.unicode icase (c ∷ cs)) (λ d ds. refl) (length cs) s inside)
