-- Each rule keeps what has to be kept, and lowers the weight.
use Rattle.std.proofs.Common.{◌≡◌, ℕ, zero, ◌+◌, ◌-◌, ◌<◌, ◌≤◌, Bool, true, false, ◌==◌, List, [], ◌∷◌, ◌++◌, Option, Some, length, chars, encode_utf8, nat_le, if◌then◌else◌, refl, sym, ap, ◌∙◌, arith, length-append}
use Rattle.std.specs.Option.{option_or, unwrap_or}
use Rattle.std.proofs.lemmas.List.{append-nil}
use Rattle.std.proofs.lemmas.List.Elements.{All-nil}
use Rattle.std.proofs.lemmas.Bool.{le-leb}
use Rattle.std.proofs.lemmas.Str.{IsUtf8-append, IsUtf8-encode, chars-append, length-encode, len_utf8_bounds}
use Rattle.regress_meaning.specs.TableParts.{is_code_point, is_surrogate}
use Rattle.regress_meaning.specs.Meaning.{Direction, Forward, Backward}
use Rattle.regress_front_nodes.specs.Trees.{Tree, empty, goal, char, bytes, byte_set, char_set, cat, no_part, cat_of, alt, any, any_in_line, capture, bracket, submatch, Submatch, loop, single_loop}
use Rattle.regress_front_nodes.specs.Sizes.{size, loops}
use Rattle.regress_front_nodes.specs.Singles.{takes_one}
use Rattle.regress_front_nodes.specs.WellFormed.{group_ids, goals, last_part, AreLawful, AreCharacters, name_by_number}
use Rattle.regress_front_nodes.specs.Characters.{is_character}
use Rattle.regress_front_nodes.proofs.PieceLemmas.{scalar-from}
use Rattle.regress_front_nodes.proofs.OptionLemmas.{option_or-none}
use Rattle.regress_front_rules.specs.Rules.{joined, unrolled, is_bracket, RewritesAtRoot, flattens, drops_empty, is_one_part, is_no_part, joins, spells, lists, is_empty_choice, is_lost, unrolls, loops_one, idles, skips, shares, once, Rewrites, there, in_part, in_first, in_second, in_capture, in_submatch, in_loop, in_single_loop, Reaches, stays, and_then}
use Rattle.regress_front_rules.specs.Weight.{pending, bulk, weight}
use Rattle.regress_front_rules.specs.Kept.{Keeps}
use Rattle.regress_front_rules.proofs.IdleLemmas.{idle-groups, none-of}
use Rattle.regress_front_rules.specs.NormalForm.{is_idle}
use Rattle.regress_front_rules.proofs.RuleLemmas.{IsLostCat, lost-parts, IsSmallLoop, small_loop, spelled-chars}
use Rattle.regress_front_rules.proofs.WordLemmas.{words-ids, words-goals, words-loops, words-pending, words-lawful}
use Rattle.regress_front_rules.proofs.OneLemmas.{rewrites-one}
use Rattle.regress_front_rules.proofs.MeasureLemmas.{size-append, bulk-append, pending-append, loops-append, goals-append, ids-append, names-append, lawful-append, pending-loops, bulk-size, size-copies, bulk-copies, pending-copies, loops-copies, goals-copies, ids-copies, no_names, lawful-copies}

-- what one rule does besides
pub record IsRewritten (t u : Tree) : Type 0 where
  pub keeps : Keeps t u
  pub lighter : (n : ℕ) → AreLawful n t → weight u < weight t

-- ---- `Goal` stands last

-- where `Goal` is the last part, there is one
pub goal-counts : (t : Tree) → last_part t ≡ goal → 1 ≤ goals t
goal-counts goal h = omega arith
goal-counts (cat a no_part) h = omega (arith, goal-counts a h)
goal-counts (cat a b) h = omega (arith, goal-counts b h)
goal-counts _ h = absurd (cc)

last-behind : (t u : Tree) → last_part u ≡ goal → last_part (cat t u) ≡ goal
last-behind t no_part h = absurd (cc)
last-behind t _ h = h

last-append : (ts us : List Tree) → last_part (cat_of us) ≡ goal → last_part (cat_of (ts ++ us)) ≡ goal
last-append [] us h = h
last-append (t ∷ ts) us h = last-behind t (cat_of (ts ++ us)) (last-append ts us h)

last-some : (t : Tree) (ts : List Tree) (u : Tree) (us : List Tree) → last_part (cat t (cat_of (ts ++ u ∷ us))) ≡ goal → last_part (cat_of (ts ++ u ∷ us)) ≡ goal
last-some t [] u us h = h
last-some t (v ∷ ts) u us h = h

-- ---- trees without groups, loops and `Goal`

leaf-rewritten : (t u : Tree) → group_ids t ≡ [] → group_ids u ≡ [] → goals t ≡ 0 → goals u ≡ 0 → loops u ≡ 0 → pending u ≡ 0
    → ((n : ℕ) → AreLawful n t → AreLawful n u × (size u ≤ size t) × (bulk u < bulk t)) → IsRewritten t u
leaf-rewritten t u ids-t ids-u goals-t goals-u loops-u pending-u h = record {
  keeps = record {
    ids = ids-u ∙ sym ids-t;
    named = λ k. no_names k u ids-u ∙ sym (no_names k t ids-t);
    few_loops = omega (arith, loops-u);
    no_goal = λ e. goals-u;
    goal_last = λ e l. absurd (omega (arith, goals-t, e));
    lawful = λ n l. (h n l).0;
    no_larger = λ n l. let (a, b, c) = h n l in omega (arith, pending-u, b);
  };
  lighter = λ n l. let (a, b, c) = h n l in omega (arith, pending-u, c);
}

-- ---- one rule alone

flat-rewritten : (us vs : List Tree) → IsRewritten (cat_of (cat_of us ∷ vs)) (cat_of (us ++ vs))
flat-rewritten us vs = record {
  keeps = record {
    ids = ids-append us vs;
    named = λ k. names-append k us vs;
    few_loops = omega (arith, loops-append us vs);
    no_goal = λ e. omega (arith, goals-append us vs, e);
    goal_last = λ e l. (omega (arith, goals-append us vs, e), by_rest vs l);
    lawful = λ n l. lawful-append n us vs l.0 l.1;
    no_larger = λ n l. omega (arith, size-append us vs, pending-append us vs);
  };
  lighter = λ n l. omega (arith, bulk-append us vs, pending-append us vs);
}
  where
    by_rest : (vs : List Tree) → last_part (cat (cat_of us) (cat_of vs)) ≡ goal → last_part (cat_of (us ++ vs)) ≡ goal
    by_rest [] l = rw (append-nil us) l
    by_rest (v ∷ vs) l = last-append us (v ∷ vs) l

empty-rewritten : (vs : List Tree) → IsRewritten (cat_of (empty ∷ vs)) (cat_of vs)
empty-rewritten vs = record {
  keeps = record {
    ids = refl;
    named = λ k. refl;
    few_loops = omega arith;
    no_goal = λ e. omega (arith, e);
    goal_last = λ e l. (omega (arith, e), by_rest vs l);
    lawful = λ n l. l.1;
    no_larger = λ n l. omega arith;
  };
  lighter = λ n l. omega arith;
}
  where
    by_rest : (vs : List Tree) → last_part (cat empty (cat_of vs)) ≡ goal → last_part (cat_of vs) ≡ goal
    by_rest [] l = absurd (cc)
    by_rest (v ∷ vs) l = l

one_part-rewritten : (t : Tree) → IsRewritten (cat_of (t ∷ [])) t
one_part-rewritten t = record {
  keeps = record {
    ids = sym (append-nil (group_ids t));
    named = λ k. sym (option_or-none (name_by_number k t));
    few_loops = omega arith;
    no_goal = λ e. omega (arith, e);
    goal_last = λ e l. (omega (arith, e), l);
    lawful = λ n l. l.0;
    no_larger = λ n l. omega arith;
  };
  lighter = λ n l. omega arith;
}

-- two literals as one are a literal, of all their characters
pub joined-lawful : (dir : Direction) (xs ys : List ℕ) → AreCharacters xs → AreCharacters ys → AreCharacters (joined dir xs ys) × (length (chars (joined dir xs ys)) ≡ length (chars xs) + length (chars ys))
joined-lawful Forward xs ys h k =
    ((omega (arith, length-append xs ys, h.0), IsUtf8-append xs ys h.1 k.1), ap length (chars-append xs ys h.1) ∙ length-append (chars xs) (chars ys))
joined-lawful Backward xs ys h k =
    let e : length (chars (ys ++ xs)) ≡ length (chars ys) + length (chars xs) = ap length (chars-append ys xs k.1) ∙ length-append (chars ys) (chars xs) in
    ((omega (arith, length-append ys xs, h.0), IsUtf8-append ys xs k.1 h.1), omega (arith, e))

joins-rewritten : (dir : Direction) (xs ys : List ℕ) (vs : List Tree) → IsRewritten (cat_of (bytes xs ∷ bytes ys ∷ vs)) (cat_of (bytes (joined dir xs ys) ∷ vs))
joins-rewritten dir xs ys vs = record {
  keeps = record {
    ids = refl;
    named = λ k. refl;
    few_loops = omega arith;
    no_goal = λ e. omega (arith, e);
    goal_last = λ e l. (omega (arith, e), by_rest vs l);
    lawful = λ n l. ((joined-lawful dir xs ys l.0 l.1.0).0, l.1.1);
    no_larger = λ n l. let (a, b) = joined-lawful dir xs ys l.0 l.1.0 in omega (arith, b);
  };
  lighter = λ n l. let (a, b) = joined-lawful dir xs ys l.0 l.1.0 in omega (arith, b);
}
  where
    by_rest : (vs : List Tree) → last_part (cat_of (bytes xs ∷ bytes ys ∷ vs)) ≡ goal → last_part (cat_of (bytes (joined dir xs ys) ∷ vs)) ≡ goal
    by_rest [] l = absurd (cc)
    by_rest (v ∷ vs) l = l

spells-rewritten : (c : ℕ) → is_surrogate c ≡ false → IsRewritten (char c) (bytes (encode_utf8 c))
spells-rewritten c e = leaf-rewritten (char c) (bytes (encode_utf8 c)) refl refl refl refl refl refl
    (λ n h. ((omega (arith, length-encode c, (len_utf8_bounds c).0), IsUtf8-encode c (scalar-from c h e)), omega (arith, ap length (spelled-chars c h e)), omega (arith, ap length (spelled-chars c h e))))

lists-rewritten : (inverted : Bool) (intervals : List (ℕ × ℕ)) (t : Tree) → is_bracket t ≡ false → is_character t ≡ true → AreLawful 0 t → IsRewritten (bracket inverted intervals) t
lists-rewritten inverted intervals (char c) k e h = leaf-rewritten (bracket inverted intervals) (char c) refl refl refl refl refl refl (λ n l. (h, omega arith, omega arith))
lists-rewritten inverted intervals (byte_set bs) k e h = leaf-rewritten (bracket inverted intervals) (byte_set bs) refl refl refl refl refl refl (λ n l. (h, omega arith, omega arith))
lists-rewritten inverted intervals (char_set cs) k e h = leaf-rewritten (bracket inverted intervals) (char_set cs) refl refl refl refl refl refl (λ n l. (h, omega arith, omega arith))
lists-rewritten inverted intervals any k e h = leaf-rewritten (bracket inverted intervals) any refl refl refl refl refl refl (λ n l. (h, omega arith, omega arith))
lists-rewritten inverted intervals any_in_line k e h = leaf-rewritten (bracket inverted intervals) any_in_line refl refl refl refl refl refl (λ n l. (h, omega arith, omega arith))
lists-rewritten inverted intervals (bracket i xs) k e h = absurd (cc)
lists-rewritten inverted intervals _ k e h = absurd (cc)

some-parts : (ts : List Tree) → (1 ≤ size (cat_of ts)) × (2 ≤ bulk (cat_of ts))
some-parts [] = (omega arith, omega arith)
some-parts (t ∷ ts) = let (a, b) = some-parts ts in (omega (arith, a), omega (arith, b))

lost-rewritten : (ts : List Tree) → IsLostCat (cat_of ts) → IsRewritten (cat_of ts) (char_set [])
lost-rewritten ts l = leaf-rewritten (cat_of ts) (char_set []) l.no_group refl l.no_goal refl refl refl
    (λ n h. let (a, b) = some-parts ts in ((omega arith, All-nil is_code_point), a, omega (arith, b)))

unrolls-rewritten : (a : Tree) (first last least most : ℕ) (greedy : Bool) → IsSmallLoop a least → IsRewritten (loop a first last least most greedy) (unrolled a first last least most greedy)
unrolls-rewritten a first last least most greedy s =
    let rest : Tree = loop a first last zero (most - least) greedy in
    let none : pending a ≡ 0 = omega (arith, s.no_loop, pending-loops a) in
    let one : nat_le 1 least ≡ true = le-leb 1 least s.some in
    let before : pending (loop a first last least most greedy) ≡ pending a + 1 = rw one refl in
    let after : pending (unrolled a first last least most greedy) ≡ 0 = pending-copies least a (rest ∷ []) none ∙ (rw none refl) in
    record {
      keeps = record {
        ids = ids-copies least a (rest ∷ []) s.no_group ∙ append-nil (group_ids a);
        named = λ k. no_names k (unrolled a first last least most greedy) (ids-copies least a (rest ∷ []) s.no_group ∙ append-nil (group_ids a) ∙ s.no_group) ∙ sym (no_names k a s.no_group);
        few_loops = omega (arith, loops-copies least a (rest ∷ []) s.no_loop);
        no_goal = λ e. goals-copies least a (rest ∷ []) e ∙ omega (arith, e);
        goal_last = λ e l. absurd (cc);
        lawful = λ n l. lawful-copies n least a (rest ∷ []) l.2 ((l.0, omega arith, l.2), tt);
        no_larger = λ n l. omega (arith, before, after, none, s.few, s.small, size-copies least a (rest ∷ []) s.small);
      };
      lighter = λ n l.
          let bounded : bulk a ≤ 8960 = omega (arith, bulk-size n a l.2, s.small) in
          omega (arith, before, after, none, s.few, bulk-copies least a (rest ∷ []) bounded);
    }

single-rewritten : (a : Tree) (first last least most : ℕ) (greedy : Bool) → takes_one a ≡ true → IsRewritten (loop a first last least most greedy) (single_loop a least most greedy)
single-rewritten a first last least most greedy e = record {
  keeps = record {
    ids = refl;
    named = λ k. refl;
    few_loops = omega arith;
    no_goal = λ g. g;
    goal_last = λ g l. absurd (cc);
    lawful = λ n l. (e, l.1, l.2);
    no_larger = λ n l. omega arith;
  };
  lighter = λ n l. omega arith;
}

-- nothing, in place of a loop without groups
skipped-rewritten : (a : Tree) (first last least most : ℕ) (greedy : Bool) → group_ids a ≡ [] → IsRewritten (loop a first last least most greedy) empty
skipped-rewritten a first last least most greedy none = record {
  keeps = record {
    ids = sym none;
    named = λ k. sym (no_names k a none);
    few_loops = omega arith;
    no_goal = λ g. refl;
    goal_last = λ g l. absurd (cc);
    lawful = λ n l. tt;
    no_larger = λ n l. omega arith;
  };
  lighter = λ n l. omega arith;
}

-- what never takes a character, once, or nothing
idle-rewritten : (a : Tree) (first last least most : ℕ) (greedy : Bool) → is_idle a ≡ true → IsRewritten (loop a first last least most greedy) (once a least)
idle-rewritten a first last least most greedy e = by_test (nat_le 1 least) (idle-groups a e)
  where
    by_test : (b : Bool) → group_ids a ≡ [] → IsRewritten (loop a first last least most greedy) (if b then a else empty)
    by_test true none = record {
      keeps = record {
        ids = refl;
        named = λ k. refl;
        few_loops = omega arith;
        no_goal = λ g. g;
        goal_last = λ g l. absurd (cc);
        lawful = λ n l. l.2;
        no_larger = λ n l. omega arith;
      };
      lighter = λ n l. omega arith;
    }
    by_test false none = skipped-rewritten a first last least most greedy none

-- ---- one rule, in a place

left-rewritten : (t x y : Tree) → (last_part (cat t x) ≡ goal → last_part x ≡ goal) → IsRewritten x y → IsRewritten (cat t x) (cat t y)
left-rewritten t x y some h =
    let k = h.keeps in
    record {
      keeps = record {
        ids = ap (λ ids. group_ids t ++ ids) k.ids;
        named = λ i. ap (λ o. option_or (name_by_number i t) o) (k.named i);
        few_loops = omega (arith, k.few_loops);
        no_goal = λ e. let a : goals x ≡ 0 = omega (arith, e) in omega (arith, e, k.no_goal a);
        goal_last = λ e l.
            let a : goals x ≡ 1 = omega (arith, e, goal-counts x (some l)) in
            let b = k.goal_last a (some l) in
            (omega (arith, e, a, b.0), last-behind t y b.1);
        lawful = λ n l. (l.0, k.lawful n l.1);
        no_larger = λ n l. omega (arith, k.no_larger n l.1);
      };
      lighter = λ n l. omega (arith, h.lighter n l.1);
    }

right-rewritten : (a b : Tree) (vs : List Tree) → IsRewritten a b → IsRewritten (cat_of (a ∷ vs)) (cat_of (b ∷ vs))
right-rewritten a b vs h =
    let k = h.keeps in
    record {
      keeps = record {
        ids = ap (λ ids. ids ++ group_ids (cat_of vs)) k.ids;
        named = λ i. ap (λ o. option_or o (name_by_number i (cat_of vs))) (k.named i);
        few_loops = omega (arith, k.few_loops);
        no_goal = λ e. let c : goals a ≡ 0 = omega (arith, e) in omega (arith, e, k.no_goal c);
        goal_last = by_rest vs;
        lawful = λ n l. (k.lawful n l.0, l.1);
        no_larger = λ n l. omega (arith, k.no_larger n l.0);
      };
      lighter = λ n l. omega (arith, h.lighter n l.0);
    }
  where
    by_rest : (vs : List Tree) → goals (cat_of (a ∷ vs)) ≡ 1 → last_part (cat_of (a ∷ vs)) ≡ goal → (goals (cat_of (b ∷ vs)) ≡ 1) × (last_part (cat_of (b ∷ vs)) ≡ goal)
    by_rest [] e l =
        let c : goals a ≡ 1 = omega (arith, e) in
        let d = h.keeps.goal_last c l in
        (omega (arith, d.0), d.1)
    by_rest (v ∷ vs) e l =
        let c : goals a ≡ 0 = omega (arith, e, goal-counts (cat_of (v ∷ vs)) l) in
        (omega (arith, e, c, h.keeps.no_goal c), l)

-- behind the same parts
behind-rewritten : (ts : List Tree) (u : Tree) (us vs : List Tree) → IsRewritten (cat_of (u ∷ us)) (cat_of vs) → IsRewritten (cat_of (ts ++ u ∷ us)) (cat_of (ts ++ vs))
behind-rewritten [] u us vs h = h
behind-rewritten (t ∷ ts) u us vs h = left-rewritten t (cat_of (ts ++ u ∷ us)) (cat_of (ts ++ vs)) (last-some t ts u us) (behind-rewritten ts u us vs h)

-- one rule, where it applies
pub root-rewritten : {dir : Direction} {t u : Tree} → RewritesAtRoot dir t u → IsRewritten t u
root-rewritten (flattens ts us vs) = behind-rewritten ts (cat_of us) vs (us ++ vs) (flat-rewritten us vs)
root-rewritten (drops_empty ts vs) = behind-rewritten ts empty vs vs (empty-rewritten vs)
root-rewritten (is_one_part {t}) = one_part-rewritten t
root-rewritten is_no_part = leaf-rewritten no_part empty refl refl refl refl refl refl (λ n l. (tt, omega arith, omega arith))
root-rewritten {dir} (joins ts vs xs ys) = behind-rewritten ts (bytes xs) (bytes ys ∷ vs) (bytes (joined dir xs ys) ∷ vs) (joins-rewritten dir xs ys vs)
root-rewritten (spells {c} e) = spells-rewritten c e
root-rewritten (lists {inverted} {intervals} {t} k takes) = lists-rewritten inverted intervals t k takes.alone takes.lawful
root-rewritten is_empty_choice = leaf-rewritten (alt empty empty) empty refl refl refl refl refl refl (λ n l. (tt, omega arith, omega arith))
root-rewritten (is_lost ts e) = lost-rewritten ts (lost-parts (cat_of ts) e)
root-rewritten (unrolls {a} {first} {last} {least} {most} {greedy} e) = unrolls-rewritten a first last least most greedy (small_loop a first last least most greedy e)
root-rewritten (loops_one {a} {first} {last} {least} {most} {greedy} e) = single-rewritten a first last least most greedy e
root-rewritten (idles {a} {first} {last} {least} {most} {greedy} e) = idle-rewritten a first last least most greedy e
root-rewritten (skips {a} {first} {last} {least} {most} {greedy} e h) = skipped-rewritten a first last least most greedy (none-of (group_ids a) h)
root-rewritten (shares {a} {b} {u} e h k alike lawful larger lighter) =
    leaf-rewritten (alt a b) u (words-ids (alt a b) h) (words-ids u k) (words-goals (alt a b) h) (words-goals u k) (words-loops u k) (words-pending u k)
    (λ n l. (words-lawful n u k lawful, larger, lighter))

first-rewritten : (a b c : Tree) → IsRewritten a b → IsRewritten (alt a c) (alt b c)
first-rewritten a b c h =
    let k = h.keeps in
    record {
      keeps = record {
        ids = ap (λ ids. ids ++ group_ids c) k.ids;
        named = λ i. ap (λ o. option_or o (name_by_number i c)) (k.named i);
        few_loops = omega (arith, k.few_loops);
        no_goal = λ e. let d : goals a ≡ 0 = omega (arith, e) in omega (arith, e, k.no_goal d);
        goal_last = λ e l. absurd (cc);
        lawful = λ n l. (k.lawful n l.0, l.1);
        no_larger = λ n l. omega (arith, k.no_larger n l.0);
      };
      lighter = λ n l. omega (arith, h.lighter n l.0);
    }

second-rewritten : (a b c : Tree) → IsRewritten b c → IsRewritten (alt a b) (alt a c)
second-rewritten a b c h =
    let k = h.keeps in
    record {
      keeps = record {
        ids = ap (λ ids. group_ids a ++ ids) k.ids;
        named = λ i. ap (λ o. option_or (name_by_number i a) o) (k.named i);
        few_loops = omega (arith, k.few_loops);
        no_goal = λ e. let d : goals b ≡ 0 = omega (arith, e) in omega (arith, e, k.no_goal d);
        goal_last = λ e l. absurd (cc);
        lawful = λ n l. (l.0, k.lawful n l.1);
        no_larger = λ n l. omega (arith, k.no_larger n l.1);
      };
      lighter = λ n l. omega (arith, h.lighter n l.1);
    }

capture-rewritten : (k : ℕ) (name : Option (List ℕ)) (a b : Tree) → IsRewritten a b → IsRewritten (capture k name a) (capture k name b)
capture-rewritten j name a b h =
    let k = h.keeps in
    record {
      keeps = record {
        ids = ap (λ ids. j ∷ ids) k.ids;
        named = λ i. (λ z. name_of i (k.named i z));
        few_loops = k.few_loops;
        no_goal = k.no_goal;
        goal_last = λ e l. absurd (cc);
        lawful = λ n l. (l.0, k.lawful n l.1);
        no_larger = λ n l. omega (arith, k.no_larger n l.1);
      };
      lighter = λ n l. omega (arith, h.lighter n l.1);
    }
  where
    name_of : ℕ → Option (List ℕ) → Option (List ℕ)
    name_of i o = if j == i then Some (unwrap_or name []) else o

submatch-rewritten : (kind : Submatch) (first last : ℕ) (a b : Tree) → IsRewritten a b → IsRewritten (submatch kind first last a) (submatch kind first last b)
submatch-rewritten kind first last a b h =
    let k = h.keeps in
    record {
      keeps = record {
        ids = k.ids;
        named = k.named;
        few_loops = k.few_loops;
        no_goal = k.no_goal;
        goal_last = λ e l. absurd (cc);
        lawful = λ n l. (rw k.ids l.0, k.lawful n l.1);
        no_larger = λ n l. omega (arith, k.no_larger n l.1);
      };
      lighter = λ n l. omega (arith, h.lighter n l.1);
    }

loop-rewritten : (first last least most : ℕ) (greedy : Bool) (a b : Tree) → IsRewritten a b → IsRewritten (loop a first last least most greedy) (loop b first last least most greedy)
loop-rewritten first last least most greedy a b h =
    let k = h.keeps in
    record {
      keeps = record {
        ids = k.ids;
        named = k.named;
        few_loops = omega (arith, k.few_loops);
        no_goal = k.no_goal;
        goal_last = λ e l. absurd (cc);
        lawful = λ n l. (rw k.ids l.0, l.1, k.lawful n l.2);
        no_larger = λ n l. omega (arith, k.no_larger n l.2);
      };
      lighter = λ n l. omega (arith, h.lighter n l.2);
    }

single_loop-rewritten : (least most : ℕ) (greedy : Bool) (a b : Tree) → ((n : ℕ) → AreLawful n a → takes_one a ≡ true → takes_one b ≡ true) → IsRewritten a b → IsRewritten (single_loop a least most greedy) (single_loop b least most greedy)
single_loop-rewritten least most greedy a b one h =
    let k = h.keeps in
    record {
      keeps = record {
        ids = k.ids;
        named = k.named;
        few_loops = k.few_loops;
        no_goal = k.no_goal;
        goal_last = λ e l. absurd (cc);
        lawful = λ n l. (one n l.2 l.0, l.1, k.lawful n l.2);
        no_larger = λ n l. omega (arith, k.no_larger n l.2);
      };
      lighter = λ n l. omega (arith, h.lighter n l.2);
    }

-- one rule, somewhere
pub rewrites-rewritten : {dir : Direction} {t u : Tree} → Rewrites dir t u → IsRewritten t u
rewrites-rewritten (there h) = root-rewritten h
rewrites-rewritten (in_part {a = a} {b = b} ts vs h) = behind-rewritten ts a vs (b ∷ vs) (right-rewritten a b vs (rewrites-rewritten h))
rewrites-rewritten (in_first {a = a} {b = b} {c = c} h) = first-rewritten a b c (rewrites-rewritten h)
rewrites-rewritten (in_second {a = a} {b = b} {c = c} h) = second-rewritten a b c (rewrites-rewritten h)
rewrites-rewritten (in_capture {k = k} {name = name} {a = a} {b = b} h) = capture-rewritten k name a b (rewrites-rewritten h)
rewrites-rewritten (in_submatch {kind = kind} {first = first} {last = last} {a = a} {b = b} h) = submatch-rewritten kind first last a b (rewrites-rewritten h)
rewrites-rewritten (in_loop {first = first} {last = last} {least = least} {most = most} {greedy = greedy} {a = a} {b = b} h) = loop-rewritten first last least most greedy a b (rewrites-rewritten h)
rewrites-rewritten (in_single_loop {least = least} {most = most} {greedy = greedy} {a = a} {b = b} h) = single_loop-rewritten least most greedy a b (rewrites-one h) (rewrites-rewritten h)

-- no rule
pub keeps-self : (t : Tree) → Keeps t t
keeps-self t = record {
  ids = refl;
  named = λ k. refl;
  few_loops = omega arith;
  no_goal = λ e. e;
  goal_last = λ e l. (e, l);
  lawful = λ n l. l;
  no_larger = λ n l. omega arith;
}

-- rules, and then others
pub keeps-then : {t u v : Tree} → Keeps t u → Keeps u v → Keeps t v
keeps-then a b = record {
  ids = b.ids ∙ a.ids;
  named = λ k. b.named k ∙ a.named k;
  few_loops = omega (arith, a.few_loops, b.few_loops);
  no_goal = λ e. b.no_goal (a.no_goal e);
  goal_last = λ e l. let c = a.goal_last e l in b.goal_last c.0 c.1;
  lawful = λ n l. b.lawful n (a.lawful n l);
  no_larger = λ n l. omega (arith, a.no_larger n l, b.no_larger n (a.lawful n l));
}

-- rules one after another keep what is to be kept
pub reaches-keeps : {dir : Direction} {t u : Tree} → Reaches dir t u → Keeps t u
reaches-keeps {t = t} stays = keeps-self t
reaches-keeps (and_then h rest) = keeps-then (rewrites-rewritten h).keeps (reaches-keeps rest)

-- and never raise the weight
pub reaches-weight : {dir : Direction} {t u : Tree} → Reaches dir t u → (n : ℕ) → AreLawful n t → weight u ≤ weight t
reaches-weight stays n l = omega arith
reaches-weight (and_then h rest) n l =
    let r = rewrites-rewritten h in omega (arith, r.lighter n l, reaches-weight rest n (r.keeps.lawful n l))

-- rules, and then others, are rules one after another
pub reaches-then : {dir : Direction} {t u v : Tree} → Reaches dir t u → Reaches dir u v → Reaches dir t v
reaches-then stays k = k
reaches-then (and_then h rest) k = and_then h (reaches-then rest k)

-- rules below a place are rules above it
pub reaches-in : {dir below : Direction} (f : Tree → Tree) → ((a b : Tree) → Rewrites below a b → Rewrites dir (f a) (f b)) → {t u : Tree} → Reaches below t u → Reaches dir (f t) (f u)
reaches-in f place stays = stays
reaches-in f place (and_then {t} {u} h rest) = and_then (place t u h) (reaches-in f place rest)

-- one rule is rules one after another
pub root-once : {dir : Direction} {t u : Tree} → RewritesAtRoot dir t u → Reaches dir t u
root-once h = and_then (there h) stays
