-- Each rule makes a tree that is alike.
use Rattle.std.proofs.Common.{◌≡◌, ℕ, ◌≤◌, Bool, true, false, ◌&&◌, ◌||◌, ◌==◌, List, [], ◌∷◌, ◌++◌, length, nat_eq, nat_le, chars, encode_utf8, All, IsUtf8, refl, sym, ap, ◌∙◌, arith, eqb-true}
use Rattle.std.specs.List.{flat_map, list_any, list_all}
use lib.Utf8.{scalar}
use Rattle.std.proofs.lemmas.List.{append-nil}
use Rattle.std.proofs.lemmas.List.Elements.{All-head, All-tail}
use Rattle.std.proofs.lemmas.Bool.{and_parts, and_from, leb-true}
use Rattle.std.proofs.lemmas.Str.{chars-append, chars-encodes}
use Rattle.regress_meaning.specs.Text.{same_text}
use Rattle.regress_meaning.specs.TableParts.{is_code_point, is_surrogate}
use Rattle.regress_meaning.specs.Meaning.{State, Direction, Forward, Backward, Outcomes, Context}
use Rattle.regress_meaning.specs.Laws.{IsInside}
use Rattle.regress_front_nodes.specs.Trees.{Tree, empty, char, bytes, char_set, cat, cat_of, alt, capture, submatch, loop, single_loop}
use Rattle.regress_front_nodes.specs.Forms.{parts}
use Rattle.regress_front_nodes.specs.Singles.{always_fails, takes_one}
use Rattle.regress_front_nodes.specs.Sizes.{size, loops}
use Rattle.regress_front_nodes.specs.WellFormed.{group_ids, goals, AreLawful}
use Rattle.regress_front_nodes.specs.TreeMeaning.{bracket_has, literal_steps, node_outcomes}
use Rattle.regress_front_nodes.specs.Alike.{distinct, GoAlike}
use Rattle.regress_front_nodes.proofs.StepLemmas.{flat_map-again, flat_map-self, sized-agree}
use Rattle.regress_front_nodes.proofs.DistinctLemmas.{each-alike, repeat-left_out, same_state-self}
use Rattle.regress_front_nodes.proofs.CharacterLemmas.{takes-steps}
use Rattle.regress_front_nodes.proofs.SequenceLemmas.{cat_of-append}
use Rattle.regress_front_nodes.proofs.PieceLemmas.{scalar-from}
use Rattle.regress_front_nodes.proofs.NodeLemmas.{always_fails-nothing, parts-cat_of}
use Rattle.regress_front_rules.specs.NormalForm.{is_unrollable, is_lost_cat, has_no_group}
use Rattle.regress_front_rules.specs.Rules.{joined, RewritesAtRoot, flattens, drops_empty, is_one_part, is_no_part, joins, spells, lists, is_empty_choice, is_lost, unrolls, loops_one, idles, skips, shares}
use Rattle.regress_front_rules.proofs.StepLemmas.{literals-joined}
use Rattle.regress_front_rules.proofs.InsideLemmas.{tree-inside}
use Rattle.regress_front_rules.proofs.LoopLemmas.{unrolled-same, single-same}
use Rattle.regress_front_rules.proofs.IdleLemmas.{none-of, idle-alike, skipped-alike}
use Rattle.regress_front_rules.proofs.WordLemmas.{words-same}

pub parts-lawful : (n : ℕ) (ts us : List Tree) → AreLawful n (cat_of (ts ++ us)) → AreLawful n (cat_of ts) × AreLawful n (cat_of us)
parts-lawful n [] us h = (tt, h)
parts-lawful n (t ∷ ts) us h = let (a, b) = parts-lawful n ts us h.1 in ((h.0, a), b)

-- what takes one character has no groups
pub takes_one-groups : (t : Tree) → takes_one t ≡ true → group_ids t ≡ []
takes_one-groups (cat a b) h = absurd (cc)
takes_one-groups (alt a b) h = absurd (cc)
takes_one-groups (capture k name a) h = absurd (cc)
takes_one-groups (submatch kind first last a) h = absurd (cc)
takes_one-groups (loop a first last least most greedy) h = absurd (cc)
takes_one-groups (single_loop a least most greedy) h = absurd (cc)
takes_one-groups _ h = refl

-- A loop that is unrolled: few copies of a small body without groups and loops.
pub record IsSmallLoop (a : Tree) (least : ℕ) : Type 0 where
  pub some : 1 ≤ least
  pub few : least ≤ 5
  pub no_group : group_ids a ≡ []
  pub no_loop : loops a ≡ 0
  pub small : size a ≤ 1280

pub small_loop : (a : Tree) (first last least most : ℕ) (greedy : Bool) → is_unrollable (loop a first last least most greedy) ≡ true → IsSmallLoop a least
small_loop a first last least most greedy e =
    let p1 = and_parts (nat_le 1 least && nat_le least 5 && has_no_group a && (loops a == 0)) (nat_le (size a) 1280) e in
    let p2 = and_parts (nat_le 1 least && nat_le least 5 && has_no_group a) (loops a == 0) p1.0 in
    let p3 = and_parts (nat_le 1 least && nat_le least 5) (has_no_group a) p2.0 in
    let p4 = and_parts (nat_le 1 least) (nat_le least 5) p3.0 in
    record {
      some = leb-true 1 least p4.0;
      few = leb-true least 5 p4.1;
      no_group = none-of (group_ids a) p3.1;
      no_loop = eqb-true (loops a) 0 p2.1;
      small = leb-true (size a) 1280 p1.1;
    }

-- A `Cat` that always fails has a part that does, and neither groups nor `Goal`.
pub record IsLostCat (t : Tree) : Type 0 where
  pub fails : list_any always_fails (parts t) ≡ true
  pub no_group : group_ids t ≡ []
  pub no_goal : goals t ≡ 0

pub lost-parts : (t : Tree) → is_lost_cat t ≡ true → IsLostCat t
lost-parts t e =
    let p1 = and_parts (list_any always_fails (parts t) && has_no_group t) (goals t == 0) e in
    let p2 = and_parts (list_any always_fails (parts t)) (has_no_group t) p1.0 in
    record { fails = p2.0; no_group = none-of (group_ids t) p2.1; no_goal = eqb-true (goals t) 0 p1.1 }

-- where each leads nowhere, all do
flat_map-none : (P : State → Type 0) (f : Outcomes) → ((r : State) → P r → f r ≡ []) → (rs : List State) → All P rs → flat_map f rs ≡ []
flat_map-none P f h [] all = refl
flat_map-none P f h (r ∷ rs) all = let here = h r (All-head P r rs all) in let rest = flat_map-none P f h rs (All-tail P r rs all) in (λ i. here i ++ rest i)

-- the literal of a character
pub spelled-chars : (c : ℕ) → is_code_point c → is_surrogate c ≡ false → chars (encode_utf8 c) ≡ c ∷ []
spelled-chars c h e = ap chars (sym (append-nil (encode_utf8 c))) ∙ chars-encodes (c ∷ []) (and_from (scalar c) true (scalar-from c h e) refl)

spelled-alone : (c : ℕ) (ds : List ℕ) → length ds ≡ 1 → same_text (c ∷ []) ds ≡ list_all (nat_eq c) ds
spelled-alone c [] h = absurd (omega arith)
spelled-alone c (d ∷ []) h = refl
spelled-alone c (d ∷ e ∷ ds) h = absurd (omega arith)

module _ (w : Context) (valid : All is_code_point w.text) where
  abbrev go : Direction → Tree → Outcomes
  go dir t = node_outcomes w t dir

  -- behind the same parts what is alike stays alike
  pub behind-alike : (dir : Direction) (ts us vs : List Tree) → GoAlike w (go dir (cat_of us)) (go dir (cat_of vs)) → GoAlike w (go dir (cat_of (ts ++ us))) (go dir (cat_of (ts ++ vs)))
  behind-alike dir ts us vs h s inside =
      ap distinct (cat_of-append w ts us dir s)
      ∙ each-alike (IsInside w.text) (go dir (cat_of us)) (go dir (cat_of vs)) (go dir (cat_of ts) s) h (tree-inside w (cat_of ts) dir s inside)
      ∙ sym (ap distinct (cat_of-append w ts vs dir s))

  same-alike : (f g : Outcomes) → ((s : State) → f s ≡ g s) → GoAlike w f g
  same-alike f g h s inside = ap distinct (h s)

  flat-same : (dir : Direction) (us vs : List Tree) (s : State) → go dir (cat_of (cat_of us ∷ vs)) s ≡ go dir (cat_of (us ++ vs)) s
  unfolding node_outcomes
  flat-same dir us vs s = sym (cat_of-append w us vs dir s)

  empty-same : (dir : Direction) (vs : List Tree) (s : State) → go dir (cat_of (empty ∷ vs)) s ≡ go dir (cat_of vs) s
  unfolding node_outcomes
  empty-same dir vs s = append-nil (go dir (cat_of vs) s)

  one_part-same : (dir : Direction) (t : Tree) (s : State) → go dir (cat_of (t ∷ [])) s ≡ go dir t s
  unfolding node_outcomes
  one_part-same dir t s = flat_map-self (go dir t s)

  chars-joined : (dir : Direction) (xs ys : List ℕ) → IsUtf8 xs → IsUtf8 ys → chars (joined dir xs ys) ≡ joined dir (chars xs) (chars ys)
  chars-joined Forward xs ys h k = chars-append xs ys h
  chars-joined Backward xs ys h k = chars-append ys xs k

  joins-same : (dir : Direction) (xs ys : List ℕ) (vs : List Tree) → IsUtf8 xs → IsUtf8 ys → (s : State)
      → go dir (cat_of (bytes xs ∷ bytes ys ∷ vs)) s ≡ go dir (cat_of (bytes (joined dir xs ys) ∷ vs)) s
  unfolding node_outcomes
  joins-same dir xs ys vs h k s =
      sym (flat_map-again (go dir (cat_of vs)) (literal_steps w dir (chars ys)) (literal_steps w dir (chars xs) s))
      ∙ ap (flat_map (go dir (cat_of vs))) (literals-joined w dir (chars xs) (chars ys) s)
      ∙ (λ i. flat_map (go dir (cat_of vs)) (literal_steps w dir (sym (chars-joined dir xs ys h k) i) s))

  spells-same : (dir : Direction) (c : ℕ) → is_code_point c → is_surrogate c ≡ false → (s : State) → IsInside w.text s → go dir (char c) s ≡ go dir (bytes (encode_utf8 c)) s
  unfolding node_outcomes
  spells-same dir c h e s inside =
      sym (sized-agree w valid dir s inside.place 1 (same_text (c ∷ [])) (list_all (nat_eq c)) (λ ds sized all. spelled-alone c ds sized))
      ∙ (λ i. literal_steps w dir (sym (spelled-chars c h e) i) s)

  -- behind a part that always fails there is nothing
  lost-nothing : (dir : Direction) (ts : List Tree) → list_any always_fails ts ≡ true → (s : State) → IsInside w.text s → go dir (cat_of ts) s ≡ []
  unfolding node_outcomes
  lost-nothing dir [] h s inside = absurd (cc)
  lost-nothing dir (t ∷ ts) h s inside = by_test (always_fails t) refl h (λ k r i. lost-nothing dir ts k r i)
    where
      by_test : (b : Bool) → always_fails t ≡ b → (b || list_any always_fails ts) ≡ true
          → (list_any always_fails ts ≡ true → (r : State) → IsInside w.text r → go dir (cat_of ts) r ≡ []) → flat_map (go dir (cat_of ts)) (go dir t s) ≡ []
      by_test true e k rest = rw (always_fails-nothing w t dir s e valid inside.place) refl
      by_test false e k rest = flat_map-none (IsInside w.text) (go dir (cat_of ts)) (rest k) (go dir t s) (tree-inside w t dir s inside)

  -- Each rule makes what is alike, in the direction in which it is read.
  pub root-alike : {dir : Direction} {t u : Tree} → RewritesAtRoot dir t u → (n : ℕ) → AreLawful n t → GoAlike w (go dir t) (go dir u)
  unfolding node_outcomes
  root-alike {dir} (flattens ts us vs) n h = behind-alike dir ts (cat_of us ∷ vs) (us ++ vs) (same-alike _ _ (flat-same dir us vs))
  root-alike {dir} (drops_empty ts vs) n h = behind-alike dir ts (empty ∷ vs) vs (same-alike _ _ (empty-same dir vs))
  root-alike {dir} (is_one_part {t}) n h = same-alike _ _ (one_part-same dir t)
  root-alike is_no_part n h = λ s inside. refl
  root-alike {dir} (joins ts vs xs ys) n h =
      let (before, behind) = parts-lawful n ts (bytes xs ∷ bytes ys ∷ vs) h in
      behind-alike dir ts (bytes xs ∷ bytes ys ∷ vs) (bytes (joined dir xs ys) ∷ vs) (same-alike _ _ (joins-same dir xs ys vs behind.0.1 behind.1.0.1))
  root-alike {dir} (spells {c} e) n h = λ s inside. ap distinct (spells-same dir c h e s inside)
  root-alike {dir} (lists {inverted} {intervals} {t} k takes) n h = λ s inside. ap distinct (sym (takes-steps w valid t (bracket_has inverted intervals) takes dir s))
  root-alike is_empty_choice n h = λ s inside. repeat-left_out (s ∷ []) s [] (rw (same_state-self s) refl)
  root-alike {dir} (is_lost ts e) n h = λ s inside.
      let some : list_any always_fails (parts (cat_of ts)) ≡ true = (lost-parts (cat_of ts) e).fails in
      let lost = lost-nothing dir ts (rw (← parts-cat_of ts) some) s inside in
      ap distinct (lost ∙ sym (always_fails-nothing w (char_set []) dir s refl valid inside.place))
  root-alike {dir} (unrolls {a} {first} {last} {least} {most} {greedy} e) n h =
      same-alike _ _ (unrolled-same w a first last least most greedy dir (small_loop a first last least most greedy e).no_group h.0 h.1)
  root-alike {dir} (loops_one {a} {first} {last} {least} {most} {greedy} e) n h =
      same-alike _ _ (single-same w a first last least most greedy dir (takes_one-groups a e) h.0)
  root-alike {dir} (idles {a} {first} {last} {least} {most} {greedy} e) n h = λ s inside. idle-alike w a first last least most greedy dir n e h s
  root-alike {dir} (skips {a} {first} {last} {least} {most} {greedy} e k) n h = λ s inside. skipped-alike w a first last least most greedy dir n e k h s
  root-alike {dir} (shares {a} {b} {u} e h k alike lawful larger lighter) n l = λ s inside. ap distinct (words-same w dir e (alt a b) u h k alike s inside)
