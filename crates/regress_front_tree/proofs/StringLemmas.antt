-- The strings of a class, the longer first, are alike one outcome for each length, falling.
use Rattle.std.proofs.Common.{◌≡◌, ℕ, zero, suc, ◌-◌, ◌<◌, ◌≤◌, Bool, true, false, ◌&&◌, ◌||◌, ◌==◌, not, List, [], ◌∷◌, ◌++◌, length, Option, Some, None, if◌then◌else◌, max, nat_eq, All, refl, sym, ap, subst, ◌∙◌, arith, eqb-true, suc-ne-zero}
use Rattle.std.specs.List.{flat_map, list_any, list_all}
use lib.Pointwise.{pointwise}
use Rattle.std.proofs.lemmas.Bool.Decides.{nat_tests}
use Rattle.std.proofs.lemmas.List.{append_assoc}
use Rattle.std.proofs.lemmas.List.Elements.{All-nil, All-cons, All-head, All-tail}
use Rattle.regress_meaning.specs.Text.{same_text}
use Rattle.regress_meaning.specs.Table.{canon}
use Rattle.regress_meaning.specs.TableParts.{is_code_point}
use Rattle.regress_meaning.specs.Class.{Strings, among, longest}
use Rattle.regress_meaning.specs.Pattern.{Settings}
use Rattle.regress_meaning.specs.Meaning.{State, Direction, Context, beside, stepped, step, same, same_all, closed, string_steps}
use Rattle.regress_front_nodes.specs.Alike.{distinct, AreAlike}
use Rattle.regress_front_tree.specs.Lowering.{LengthsFall, AreByLength}
use Rattle.regress_front_nodes.proofs.DistinctLemmas.{joined-alike, same_state-self, repeat-left_out}
use Rattle.regress_front_nodes.proofs.StepLemmas.{sized-agree}
use Rattle.regress_meaning.proofs.TableLemmas.{same_bool}
use Rattle.regress_front_nodes.proofs.NodeLemmas.{same_text-same}

-- lists that agree one by one are of one length
pointwise-length : (f : ℕ → ℕ → Bool) (cs ds : List ℕ) → pointwise f cs ds ≡ true → length cs ≡ length ds
pointwise-length f [] [] e = refl
pointwise-length f [] (d ∷ ds) e = absurd (cc)
pointwise-length f (c ∷ cs) [] e = absurd (cc)
pointwise-length f (c ∷ cs) (d ∷ ds) e = ap (λ n. suc n) (by_first (f c d) e (pointwise-length f cs ds))
  where
    by_first : (b : Bool) → (b && pointwise f cs ds) ≡ true → (pointwise f cs ds ≡ true → length cs ≡ length ds) → length cs ≡ length ds
    by_first true h rest = rest h
    by_first false h rest = absurd (cc)

pointwise-turned : (f g : ℕ → ℕ → Bool) → ((c d : ℕ) → f c d ≡ g d c) → (cs ds : List ℕ) → pointwise f cs ds ≡ pointwise g ds cs
pointwise-turned f g turned [] [] = refl
pointwise-turned f g turned [] (d ∷ ds) = refl
pointwise-turned f g turned (c ∷ cs) [] = refl
pointwise-turned f g turned (c ∷ cs) (d ∷ ds) = rw (turned c d, pointwise-turned f g turned cs ds) refl

-- a text is no other
same_text-is : (cs ds : List ℕ) → same_text cs ds ≡ true → cs ≡ ds
same_text-is [] [] e = refl
same_text-is [] (d ∷ ds) e = absurd (cc)
same_text-is (c ∷ cs) [] e = absurd (cc)
same_text-is (c ∷ cs) (d ∷ ds) e = by_first (nat_eq c d) refl e (same_text-is cs ds)
  where
    by_first : (b : Bool) → nat_eq c d ≡ b → (b && same_text cs ds) ≡ true → (same_text cs ds ≡ true → cs ≡ ds) → c ∷ cs ≡ d ∷ ds
    by_first true h k rest = rw (eqb-true c d h, rest k) refl
    by_first false h k rest = absurd (cc)

-- a string of the list passes, and so some string does; and the other way
among-any : (p : List ℕ → Bool) (ss : List (List ℕ)) (s : List ℕ) → among ss s ≡ true → p s ≡ true → list_any p ss ≡ true
among-any p [] s h k = absurd (cc)
among-any p (r ∷ ss) s h k = by_first (same_text s r) refl h (among-any p ss s)
  where
    by_rest : (b : Bool) → list_any p ss ≡ true → (b || list_any p ss) ≡ true
    by_rest true e = refl
    by_rest false e = e

    by_first : (b : Bool) → same_text s r ≡ b → (b || among ss s) ≡ true → (among ss s ≡ true → p s ≡ true → list_any p ss ≡ true) → list_any p (r ∷ ss) ≡ true
    by_first true e h rest = let same : s ≡ r = same_text-is s r e in rw (← same, k) refl
    by_first false e h rest = by_rest (p r) (rest h k)

any-among : (p : List ℕ → Bool) (ss : List (List ℕ)) → list_any p ss ≡ true → (s : List ℕ) × (among ss s ≡ true) × (p s ≡ true)
any-among p [] h = absurd (cc)
any-among p (r ∷ ss) h = by_first (p r) refl h (any-among p ss)
  where
    behind : (s : List ℕ) → among ss s ≡ true → (b : Bool) → (b || among ss s) ≡ true
    behind s e true = refl
    behind s e false = e

    by_first : (b : Bool) → p r ≡ b → (b || list_any p ss) ≡ true → (list_any p ss ≡ true → (s : List ℕ) × (among ss s ≡ true) × (p s ≡ true)) → (s : List ℕ) × (among (r ∷ ss) s ≡ true) × (p s ≡ true)
    by_first true e h rest = (r, rw (same_text-same r) refl, e)
    by_first false e h rest = let (s, found, passes) = rest h in (s, behind s found (same_text s r), passes)

-- no string is longer than the longest
among-longest : (ss : List (List ℕ)) (s : List ℕ) → among ss s ≡ true → length s ≤ longest ss
among-longest [] s h = absurd (cc)
among-longest (r ∷ ss) s h = by_first (same_text s r) refl h (among-longest ss s)
  where
    by_first : (b : Bool) → same_text s r ≡ b → (b || among ss s) ≡ true → (among ss s ≡ true → length s ≤ longest ss) → length s ≤ max (length r) (longest ss)
    by_first true e h rest = let same = ap (λ (t : List ℕ). length t) (same_text-is s r e) in omega arith
    by_first false e h rest = let shorter = rest h in omega arith

-- what holds of each string of a list holds of all
All-among : (P : List ℕ → Type 0) (ss : List (List ℕ)) → ((r : List ℕ) → among ss r ≡ true → P r) → All P ss
All-among P [] h = All-nil P
All-among P (r ∷ ss) h = All-cons P r ss (h r (rw (same_text-same r) refl)) (All-among P ss (λ t found. h t (behind t (same_text t r) found)))
  where
    behind : (t : List ℕ) (b : Bool) → among ss t ≡ true → (b || among ss t) ≡ true
    behind t true e = refl
    behind t false e = e

pub among-All : (P : List ℕ → Type 0) (ss : List (List ℕ)) → All P ss → (r : List ℕ) → among ss r ≡ true → P r
among-All P [] h r found = absurd (cc)
among-All P (t ∷ ss) h r found = by_first (same_text r t) refl found (among-All P ss (All-tail P t ss h) r)
  where
    by_first : (b : Bool) → same_text r t ≡ b → (b || among ss r) ≡ true → (among ss r ≡ true → P r) → P r
    by_first true e found rest = subst P (sym (same_text-is r t e)) (All-head P t ss h)
    by_first false e found rest = rest found

module _ (w : Context) (valid : All is_code_point w.text) (dir : Direction) (s : State) (inside : s.place ≤ length w.text) where
  never-steps : (k : ℕ) → step w dir k (λ cs. false) s ≡ []
  unfolding step
  never-steps k = by_found (beside w dir k s.place)
    where
      by_found : (o : Option (List ℕ × ℕ)) → stepped (λ cs. false) s o ≡ []
      by_found None = refl
      by_found (Some (cs, p)) = refl

  -- a step by one test or by another
  either-alike : (k : ℕ) (f g : List ℕ → Bool) → AreAlike (step w dir k f s ++ step w dir k g s) (step w dir k (λ cs. f cs || g cs) s)
  unfolding step
  either-alike k f g = by_found (beside w dir k s.place)
    where
      by_tests : (cs : List ℕ) (p : ℕ) (a b : Bool) → AreAlike ((if a then record s { place = p } ∷ [] else []) ++ (if b then record s { place = p } ∷ [] else [])) (if a || b then record s { place = p } ∷ [] else [])
      by_tests cs p true true = let t : State = record s { place = p } in repeat-left_out (t ∷ []) t [] (rw (same_state-self t) refl)
      by_tests cs p true false = refl
      by_tests cs p false true = refl
      by_tests cs p false false = refl

      by_found : (o : Option (List ℕ × ℕ)) → AreAlike (stepped f s o ++ stepped g s o) (stepped (λ cs. f cs || g cs) s o)
      by_found None = refl
      by_found (Some (cs, p)) = by_tests cs p (f cs) (g cs)

  -- steps by texts that pass, of each length from n down to two
  abbrev pub levels : (List ℕ → Bool) → ℕ → List State
  levels test zero = []
  levels test (suc zero) = []
  levels test (suc (suc k)) = step w dir (suc (suc k)) test s ++ levels test (suc k)

  levels-agree : (f g : List ℕ → Bool) (n : ℕ) → ((cs : List ℕ) → 2 ≤ length cs → length cs ≤ n → f cs ≡ g cs) → levels f n ≡ levels g n
  levels-agree f g zero agree = refl
  levels-agree f g (suc zero) agree = refl
  levels-agree f g (suc (suc k)) agree =
      let here = sized-agree w valid dir s inside (suc (suc k)) f g (λ cs e h. agree cs (omega arith) (omega arith)) in
      let further = levels-agree f g (suc k) (λ cs a b. agree cs a (omega arith)) in
      (λ i. here i ++ further i)

  levels-none : (n : ℕ) → levels (λ cs. false) n ≡ []
  levels-none zero = refl
  levels-none (suc zero) = refl
  levels-none (suc (suc k)) = rw (never-steps (suc (suc k)), levels-none (suc k)) refl

  module _ (like : List ℕ → List ℕ → Bool) (like-length : (cs ds : List ℕ) → like cs ds ≡ true → length cs ≡ length ds) where
    like-other : (cs ds : List ℕ) → (length cs ≡ length ds → ⊥) → like cs ds ≡ false
    like-other cs ds h = by_test (like cs ds) refl
      where
        by_test : (b : Bool) → like cs ds ≡ b → b ≡ false
        by_test false e = refl
        by_test true e = absurd (h (like-length cs ds e))

    any-shorter : (n : ℕ) (ss : List (List ℕ)) → All (λ r. length r ≤ n) ss → (cs : List ℕ) → n < length cs → list_any (λ r. like r cs) ss ≡ false
    any-shorter n [] h cs k = refl
    any-shorter n (r ∷ ss) h cs k =
        let short = All-head (λ t. length t ≤ n) r ss h in
        rw (like-other r cs (λ e. omega arith), any-shorter n ss (All-tail (λ t. length t ≤ n) r ss h) cs k) refl

    -- the steps of the strings one by one
    abbrev pub each-string : List (List ℕ) → List State
    each-string ss = flat_map (λ r. step w dir (length r) (like r) s) ss

    abbrev pub Between : ℕ → List ℕ → Type 0
    Between n r = (2 ≤ length r) × (length r ≤ n)

    Between-less : (n : ℕ) (ss : List (List ℕ)) (m : ℕ) → All (λ r. length r ≤ m) ss → All (Between n) ss → All (Between m) ss
    Between-less n [] m h k = All-nil (Between m)
    Between-less n (r ∷ ss) m h k =
        let (low, high) = All-head (Between n) r ss k in
        All-cons (Between m) r ss (low, All-head (λ t. length t ≤ m) r ss h) (Between-less n ss m (All-tail (λ t. length t ≤ m) r ss h) (All-tail (Between n) r ss k))

    Short : (m n : ℕ) (ss : List (List ℕ)) → m ≤ n → All (λ r. length r ≤ m) ss → All (λ r. length r ≤ n) ss
    Short m n [] h k = All-nil (λ r. length r ≤ n)
    Short m n (r ∷ ss) h k = let low = All-head (λ t. length t ≤ m) r ss k in All-cons (λ t. length t ≤ n) r ss (omega arith) (Short m n ss h (All-tail (λ t. length t ≤ m) r ss k))

    -- strings in order of falling length lead to one outcome for each length
    pub strings-alike : (n : ℕ) (ss : List (List ℕ)) → LengthsFall ss → All (Between n) ss → AreAlike (each-string ss) (levels (λ cs. list_any (λ r. like r cs) ss) n)
    strings-alike zero [] falls bounds = refl
    strings-alike zero (r ∷ ss) falls bounds = let (low, high) = All-head (Between zero) r ss bounds in absurd (omega arith)
    strings-alike (suc zero) [] falls bounds = refl
    strings-alike (suc zero) (r ∷ ss) falls bounds = let (low, high) = All-head (Between (suc zero)) r ss bounds in absurd (omega arith)
    strings-alike (suc (suc k)) ss falls bounds = one_by_one ss falls bounds (strings-alike (suc k))
      where
        n : ℕ
        n = suc (suc k)

        one_by_one : (ss : List (List ℕ)) → LengthsFall ss → All (Between n) ss
            → ((rs : List (List ℕ)) → LengthsFall rs → All (Between (suc k)) rs → AreAlike (each-string rs) (levels (λ cs. list_any (λ r. like r cs) rs) (suc k)))
            → AreAlike (each-string ss) (levels (λ cs. list_any (λ r. like r cs) ss) n)
        one_by_one [] falls bounds shorter = ap distinct (sym (levels-none n))
        one_by_one (r ∷ ss) falls bounds shorter = by_length (length r == n) refl (one_by_one ss falls.1 (All-tail (Between n) r ss bounds) shorter)
          where
            test : List (List ℕ) → List ℕ → Bool
            test rs cs = list_any (λ t. like t cs) rs

            by_length : (b : Bool) → (length r == n) ≡ b → AreAlike (each-string ss) (levels (test ss) n) → AreAlike (each-string (r ∷ ss)) (levels (test (r ∷ ss)) n)
            by_length true e rest =
                let long : length r ≡ n = eqb-true (length r) n e in
                let below : levels (test ss) (suc k) ≡ levels (test (r ∷ ss)) (suc k) =
                levels-agree (test ss) (test (r ∷ ss)) (suc k) (λ cs a b. rw (like-other r cs (λ h. omega arith)) refl) in
                joined-alike (step w dir (length r) (like r) s) (each-string ss) (step w dir (length r) (like r) s) (levels (test ss) n) refl rest
                ∙ rw long (
                ap distinct (sym (append_assoc (step w dir n (like r) s) (step w dir n (test ss) s) (levels (test ss) (suc k))))
                ∙ joined-alike (step w dir n (like r) s ++ step w dir n (test ss) s) (levels (test ss) (suc k)) (step w dir n (test (r ∷ ss)) s) (levels (test (r ∷ ss)) (suc k))
                (either-alike n (like r) (test ss)) (ap distinct below)
                )
            by_length false e rest =
                let (low, high) = All-head (Between n) r ss bounds in
                let short : length r ≤ suc k = grind (arith, nat_tests) in
                let all_short : All (λ t. length t ≤ suc k) (r ∷ ss) = All-cons (λ t. length t ≤ suc k) r ss short (Short (length r) (suc k) ss short falls.0) in
                let none : step w dir n (test (r ∷ ss)) s ≡ [] =
                sized-agree w valid dir s inside n (test (r ∷ ss)) (λ cs. false) (λ cs h v. any-shorter (suc k) (r ∷ ss) all_short cs (omega arith)) ∙ never-steps n in
                shorter (r ∷ ss) falls (Between-less n (r ∷ ss) (suc k) all_short bounds)
                ∙ ap (λ us. distinct (us ++ levels (test (r ∷ ss)) (suc k))) (sym none)

  -- the outcomes of a set of strings: of each length, then the single characters, then the empty string
  string_steps-levels : (e : Settings) (v : Strings) (k : ℕ) → string_steps w dir e.icase v (suc k) s
      ≡ levels (λ cs. list_any (same_all w.table w.unicode e.icase cs) v.others) (suc k) ++ (step w dir 1 (list_all (closed w.table w.unicode e.icase v.singles)) s ++ step w dir 0 (λ cs. list_any (same_all w.table w.unicode e.icase cs) v.others) s)
  unfolding string_steps
  string_steps-levels e v zero = refl
  string_steps-levels e v (suc k) =
      let test : List ℕ → Bool = λ cs. list_any (same_all w.table w.unicode e.icase cs) v.others in
      let rest : List State = step w dir 1 (list_all (closed w.table w.unicode e.icase v.singles)) s ++ step w dir 0 test s in
      let no : (suc k == 0) ≡ false = grind (arith, nat_tests) in
      let here : step w dir (suc (suc k)) (λ cs. if suc k == 0 then list_all (closed w.table w.unicode e.icase v.singles) cs else list_any (same_all w.table w.unicode e.icase cs) v.others) s ≡ step w dir (suc (suc k)) test s =
      sized-agree w valid dir s inside (suc (suc k)) (λ cs. if suc k == 0 then list_all (closed w.table w.unicode e.icase v.singles) cs else list_any (same_all w.table w.unicode e.icase cs) v.others) test (λ cs a b. rw no refl) in
      (λ i. here i ++ string_steps-levels e v k i) ∙ sym (append_assoc (step w dir (suc (suc k)) test s) (levels test (suc k)) rest)

  -- strings of a node against a text
  abbrev pub like : Settings → List ℕ → List ℕ → Bool
  like e r cs = same_all w.table w.unicode e.icase r cs

  like-turned : (e : Settings) (r cs : List ℕ) → like e r cs ≡ same_all w.table w.unicode e.icase cs r
  like-turned e r cs = pointwise-turned (same w.table w.unicode e.icase) (same w.table w.unicode e.icase) (λ c d. turned e.icase c d) r cs
    where
      turned : (b : Bool) (c d : ℕ) → (if b then canon w.table w.unicode c == canon w.table w.unicode d else c == d) ≡ (if b then canon w.table w.unicode d == canon w.table w.unicode c else d == c)
      turned true c d = grind (arith, nat_tests)
      turned false c d = grind (arith, nat_tests)

  -- some string of the node passes where some string of the class does, but for the empty one
  any-agree : (e : Settings) (strings others : List (List ℕ)) → ((r : List ℕ) → among strings r ≡ (not (length r == 0) && among others r)) → (cs : List ℕ) → 1 ≤ length cs
      → list_any (λ r. like e r cs) strings ≡ list_any (same_all w.table w.unicode e.icase cs) others
  any-agree e strings others members cs long = same_bool (list_any (λ r. like e r cs) strings) (list_any (same_all w.table w.unicode e.icase cs) others) there back
    where
      second : (a b : Bool) → (a && b) ≡ true → b ≡ true
      second true b h = h
      second false b h = absurd (cc)

      there : list_any (λ r. like e r cs) strings ≡ true → list_any (same_all w.table w.unicode e.icase cs) others ≡ true
      there h =
          let (r, found, passes) = any-among (λ r. like e r cs) strings h in
          among-any (same_all w.table w.unicode e.icase cs) others r (second (not (length r == 0)) (among others r) (sym (members r) ∙ found)) (sym (like-turned e r cs) ∙ passes)

      back : list_any (same_all w.table w.unicode e.icase cs) others ≡ true → list_any (λ r. like e r cs) strings ≡ true
      back h =
          let (r, found, passes) = any-among (same_all w.table w.unicode e.icase cs) others h in
          let size = pointwise-length (same w.table w.unicode e.icase) cs r passes in
          let some : (length r == 0) ≡ false = grind (arith, nat_tests) in
          among-any (λ t. like e t cs) strings r (members r ∙ rw (some, found) refl) (like-turned e r cs ∙ passes)

  -- the empty string, as a set of its own
  pub empty-agrees : (e : Settings) (others : List (List ℕ)) → among others [] ≡ true → step w dir 0 (like e []) s ≡ step w dir 0 (λ cs. list_any (same_all w.table w.unicode e.icase cs) others) s
  empty-agrees e others found = sized-agree w valid dir s inside 0 (like e []) (λ cs. list_any (same_all w.table w.unicode e.icase cs) others) agree
    where
      agree : (cs : List ℕ) → length cs ≡ 0 → All is_code_point cs → like e [] cs ≡ list_any (same_all w.table w.unicode e.icase cs) others
      agree [] h k = sym (among-any (same_all w.table w.unicode e.icase []) others [] found refl)
      agree (c ∷ cs) h k = absurd (suc-ne-zero (length cs) h)

  pub no_empty-agrees : (e : Settings) (others : List (List ℕ)) → among others [] ≡ false → step w dir 0 (λ cs. list_any (same_all w.table w.unicode e.icase cs) others) s ≡ []
  no_empty-agrees e others none = sized-agree w valid dir s inside 0 (λ cs. list_any (same_all w.table w.unicode e.icase cs) others) (λ cs. false) agree ∙ never-steps 0
    where
      fails : (b : Bool) → list_any (same_all w.table w.unicode e.icase []) others ≡ b → b ≡ false
      fails false h = refl
      fails true h = let (r, found, passes) = any-among (same_all w.table w.unicode e.icase []) others h in absurd (only r found passes)
        where
          only : (r : List ℕ) → among others r ≡ true → same_all w.table w.unicode e.icase [] r ≡ true → ⊥
          only [] found passes = cc
          only (c ∷ r) found passes = cc

      agree : (cs : List ℕ) → length cs ≡ 0 → All is_code_point cs → list_any (same_all w.table w.unicode e.icase cs) others ≡ false
      agree [] h k = fails (list_any (same_all w.table w.unicode e.icase []) others) refl
      agree (c ∷ cs) h k = absurd (suc-ne-zero (length cs) h)

  pub like-sized : (e : Settings) (r cs : List ℕ) → like e r cs ≡ true → length r ≡ length cs
  like-sized e r cs h = pointwise-length (same w.table w.unicode e.icase) r cs h

  -- strings of a class, its characters and its empty string are alike its outcomes
  pub arms-of-class : (e : Settings) (v : Strings) (strings : List (List ℕ)) → ((r : List ℕ) → among v.others r ≡ true → (length r == 1) ≡ false) → AreByLength strings v.others
      → AreAlike (each-string (like e) (like-sized e) strings ++ (step w dir 1 (list_all (closed w.table w.unicode e.icase v.singles)) s ++ step w dir 0 (λ cs. list_any (same_all w.table w.unicode e.icase cs) v.others) s))
      (string_steps w dir e.icase v (max 1 (longest v.others)) s)
  arms-of-class e v strings sizes h =
      let test : List ℕ → Bool = λ cs. list_any (same_all w.table w.unicode e.icase cs) v.others in
      let rest : List State = step w dir 1 (list_all (closed w.table w.unicode e.icase v.singles)) s ++ step w dir 0 test s in
      let k : ℕ = max 1 (longest v.others) - 1 in
      let most : max 1 (longest v.others) ≡ suc k = omega arith in
      let bounds : All (Between (like e) (like-sized e) (suc k)) strings = All-among (Between (like e) (like-sized e) (suc k)) strings (bounded k (omega arith)) in
      let alike : AreAlike (each-string (like e) (like-sized e) strings) (levels test (suc k)) =
      strings-alike (like e) (like-sized e) (suc k) strings h.order bounds
      ∙ ap distinct (levels-agree (λ cs. list_any (λ r. like e r cs) strings) test (suc k) (λ cs a b. any-agree e strings v.others h.members cs (omega arith))) in
      joined-alike (each-string (like e) (like-sized e) strings) rest (levels test (suc k)) rest alike refl
      ∙ ap distinct (sym (string_steps-levels e v k))
      ∙ (λ i. distinct (string_steps w dir e.icase v (sym most i) s))
    where
      both : (a b : Bool) → (a && b) ≡ true → (a ≡ true) × (b ≡ true)
      both true true p = (refl, refl)
      both true false p = absurd (cc)
      both false b p = absurd (cc)

      bounded : (k : ℕ) → longest v.others ≤ suc k → (r : List ℕ) → among strings r ≡ true → (2 ≤ length r) × (length r ≤ suc k)
      bounded k room r found =
          let (some, other) = both (not (length r == 0)) (among v.others r) (sym (h.members r) ∙ found) in
          let single = sizes r other in
          let short = among-longest v.others r other in
          (grind (arith, nat_tests), omega arith)
