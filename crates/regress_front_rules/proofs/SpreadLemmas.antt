-- No rule lets a tree spread further.
use Rattle.std.proofs.Common.{◌≡◌, ℕ, zero, suc, ◌+◌, ◌-◌, ◌*◌, ◌≤◌, Bool, true, false, ◌&&◌, List, [], ◌∷◌, ◌++◌, length, nat_le, min, if◌then◌else◌, refl, ap, arith}
use Rattle.std.proofs.Math.Nat.{mul-le-mul}
use Rattle.std.proofs.lemmas.Bool.{le-leb}
use Rattle.regress_meaning.specs.Meaning.{Direction}
use Rattle.regress_front_nodes.specs.Trees.{Tree, empty, char, bytes, byte_set, char_set, cat, cat_of, alt, any, any_in_line, capture, bracket, submatch, loop, single_loop}
use Rattle.regress_front_nodes.specs.Sizes.{size, loops, spread, unrolling, most_unrolled, largest_unrolled}
use Rattle.regress_front_nodes.specs.WellFormed.{AreLawful}
use Rattle.regress_front_nodes.specs.Characters.{is_character}
use Rattle.regress_front_rules.specs.Rules.{joined, copies, unrolled, once, RewritesAtRoot, flattens, drops_empty, is_one_part, is_no_part, joins, spells, lists, is_empty_choice, is_lost, unrolls, loops_one, idles, skips, shares, Rewrites, there, in_part, in_first, in_second, in_capture, in_submatch, in_loop, in_single_loop, Reaches, stays, and_then}
use Rattle.regress_front_rules.proofs.RuleLemmas.{IsSmallLoop, small_loop, spelled-chars, parts-lawful}
use Rattle.regress_front_rules.proofs.WordLemmas.{words-loops}
use Rattle.regress_front_rules.proofs.KeepLemmas.{joined-lawful, rewrites-rewritten}

-- more of a body is not less unrolled
pub unrolling-more : (least a b : ℕ) → a ≤ b → unrolling least a ≤ unrolling least b
unrolling-more least a b h = by_test (nat_le 1 least && nat_le least most_unrolled)
  where
    by_test : (t : Bool) → (if t then least * min a largest_unrolled + 1 else 0) ≤ (if t then least * min b largest_unrolled + 1 else 0)
    by_test true =
        let few : min a largest_unrolled ≤ min b largest_unrolled = omega (arith, h) in
        let own : least ≤ least = omega arith in
        let more : least * min a largest_unrolled ≤ least * min b largest_unrolled = mul-le-mul own few in
        omega (arith, more)
    by_test false = omega arith

-- where it is unrolled, all of a small body is
unrolling-small : (least body : ℕ) → 1 ≤ least → least ≤ 5 → body ≤ 1280 → unrolling least body ≡ least * body + 1
unrolling-small least body some few small =
    let first : nat_le 1 least ≡ true = le-leb 1 least some in
    let second : nat_le least 5 ≡ true = le-leb least 5 few in
    let whole : min body 1280 ≡ body = omega (arith, small) in
    rw (first, second, whole) refl

spread-append : (us vs : List Tree) → spread (cat_of (us ++ vs)) + 1 ≡ spread (cat_of us) + spread (cat_of vs)
spread-append [] vs = omega arith
spread-append (u ∷ us) vs = omega (arith, spread-append us vs)

spread-copies : (k : ℕ) (a : Tree) (rest : List Tree) → spread (cat_of (copies k a rest)) ≡ k * spread a + spread (cat_of rest)
spread-copies zero a rest = omega arith
spread-copies (suc k) a rest = omega (arith, spread-copies k a rest)

-- a tree without loops spreads over its nodes alone
flat : (t : Tree) → loops t ≡ 0 → spread t ≡ size t
flat (cat a b) h = omega (arith, flat a (omega (arith, h)), flat b (omega (arith, h)))
flat (alt a b) h = omega (arith, flat a (omega (arith, h)), flat b (omega (arith, h)))
flat (capture k name a) h = omega (arith, flat a h)
flat (submatch kind first last a) h = omega (arith, flat a h)
flat (loop a first last least most greedy) h = absurd (omega (arith, h))
flat (single_loop a least most greedy) h = omega (arith, flat a h)
flat _ h = refl

-- one character is one node
one_character : (t : Tree) → is_character t ≡ true → spread t ≡ 1
one_character (char c) h = refl
one_character (byte_set bs) h = refl
one_character (char_set cs) h = refl
one_character any h = refl
one_character any_in_line h = refl
one_character (bracket inverted intervals) h = refl
one_character _ h = absurd (cc)

some-spread : (ts : List Tree) → 1 ≤ spread (cat_of ts)
some-spread [] = omega arith
some-spread (t ∷ ts) = omega (arith, some-spread ts)

unrolls-spread : (a : Tree) (first last least most : ℕ) (greedy : Bool) → IsSmallLoop a least
    → spread (unrolled a first last least most greedy) ≤ spread (loop a first last least most greedy)
unrolls-spread a first last least most greedy s =
    let rest : Tree = loop a first last zero (most - least) greedy in
    let own : spread a ≡ size a = flat a s.no_loop in
    let copied = spread-copies least a (rest ∷ []) in
    let added : unrolling least (spread a) ≡ least * spread a + 1 = unrolling-small least (spread a) s.some s.few (omega (arith, own, s.small)) in
    omega (arith, copied, added)

once-spread : (a : Tree) (first last least most : ℕ) (greedy : Bool) → spread (once a least) ≤ spread (loop a first last least most greedy)
once-spread a first last least most greedy = by_test (nat_le 1 least)
  where
    by_test : (b : Bool) → spread (if b then a else empty) ≤ spread a + 1 + (last - first) + unrolling least (spread a)
    by_test true = omega arith
    by_test false = omega arith

-- one rule, where it applies
root-spread : {dir : Direction} {t u : Tree} → RewritesAtRoot dir t u → (n : ℕ) → AreLawful n t → spread u ≤ spread t
root-spread (flattens ts us vs) n l = omega (arith, spread-append ts (cat_of us ∷ vs), spread-append ts (us ++ vs), spread-append us vs)
root-spread (drops_empty ts vs) n l = omega (arith, spread-append ts (empty ∷ vs), spread-append ts vs)
root-spread is_one_part n l = omega arith
root-spread is_no_part n l = omega arith
root-spread {dir} (joins ts vs xs ys) n l =
    let both = (parts-lawful n ts (bytes xs ∷ bytes ys ∷ vs) l).1 in
    let same = (joined-lawful dir xs ys both.0 both.1.0).1 in
    omega (arith, same, spread-append ts (bytes xs ∷ bytes ys ∷ vs), spread-append ts (bytes (joined dir xs ys) ∷ vs))
root-spread (spells {c} e) n l = omega (arith, ap length (spelled-chars c l e))
root-spread (lists {t = t} k takes) n l = omega (arith, one_character t takes.alone)
root-spread is_empty_choice n l = omega arith
root-spread (is_lost ts e) n l = some-spread ts
root-spread (unrolls {a} {first} {last} {least} {most} {greedy} e) n l = unrolls-spread a first last least most greedy (small_loop a first last least most greedy e)
root-spread (loops_one e) n l = omega arith
root-spread (idles {a} {first} {last} {least} {most} {greedy} e) n l = once-spread a first last least most greedy
root-spread (skips e h) n l = omega arith
root-spread (shares {a} {b} {u} e h k alike lawful larger lighter) n l =
    omega (arith, larger, flat u (words-loops u k), flat (alt a b) (words-loops (alt a b) h))

-- one rule, somewhere
rewrites-spread : {dir : Direction} {t u : Tree} → Rewrites dir t u → (n : ℕ) → AreLawful n t → spread u ≤ spread t
rewrites-spread (there h) n l = root-spread h n l
rewrites-spread (in_part {a = a} {b = b} ts vs h) n l =
    let here = rewrites-spread h n (parts-lawful n ts (a ∷ vs) l).1.0 in
    omega (arith, here, spread-append ts (a ∷ vs), spread-append ts (b ∷ vs))
rewrites-spread (in_first h) n l = omega (arith, rewrites-spread h n l.0)
rewrites-spread (in_second h) n l = omega (arith, rewrites-spread h n l.1)
rewrites-spread (in_capture h) n l = omega (arith, rewrites-spread h n l.1)
rewrites-spread (in_submatch h) n l = omega (arith, rewrites-spread h n l.1)
rewrites-spread (in_loop {least = least} {a = a} {b = b} h) n l =
    let here = rewrites-spread h n l.2 in omega (arith, here, unrolling-more least (spread b) (spread a) here)
rewrites-spread (in_single_loop h) n l = omega (arith, rewrites-spread h n l.2)

-- rules one after another
pub reaches-spread : {dir : Direction} {t u : Tree} → Reaches dir t u → (n : ℕ) → AreLawful n t → spread u ≤ spread t
reaches-spread stays n l = omega arith
reaches-spread (and_then h rest) n l = omega (arith, rewrites-spread h n l, reaches-spread rest n ((rewrites-rewritten h).keeps.lawful n l))
