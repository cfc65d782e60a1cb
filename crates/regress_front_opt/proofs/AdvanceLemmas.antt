-- What each pass turns a tree into, by rules.
use Rattle.std.proofs.Common.{◌≡◌, ℕ, Bool, true, false, ◌&&◌, List, [], ◌∷◌, ◌++◌, ◌+◌, suc, map, encode_utf8, length, length-append, nat_lt, refl, sym, ap, ◌∙◌, arith}
use Rattle.std.proofs.lemmas.List.{length-map}
use Rattle.regress_front_nodes.specs.declared.node.Node.{Node}
use Rattle.regress_meaning.specs.TableParts.{is_surrogate}
use Rattle.regress_front_nodes.specs.Singles.{takes_one}
use Rattle.std.proofs.lemmas.Bool.{false≢true, and_parts, ltb-true}
use Rattle.regress_meaning.specs.Meaning.{Direction}
use Rattle.regress_front_nodes.specs.Trees.{Tree, tree, cat_of, empty, char, bytes, alt, loop, single_loop}
use Rattle.regress_front_nodes.specs.Forms.{is_empty, is_cat, parts}
use Rattle.regress_front_nodes.proofs.NodeLemmas.{parts-cat_of, is_cat-cat_of}
use Rattle.regress_front_rules.specs.NormalForm.{is_empty_choice, is_short_cat}
use Rattle.regress_front_rules.specs.Rules as rules
use Rattle.regress_front_opt.specs.Passes.{Advances}
use Rattle.regress_front_opt.proofs.PassLemmas.{root-advances}
use Rattle.regress_front_rules.proofs.ClauseLemmas.{is-empty}

pub choice-advances : (dir : Direction) (t : Tree) → is_empty_choice t ≡ true → Advances dir t empty
choice-advances dir (alt a b) h =
    let both = and_parts (is_empty a) (is_empty b) h in
    rw (is-empty a both.0, is-empty b both.1) (root-advances rules.is_empty_choice)
choice-advances dir _ h = absurd (false≢true h)

pub letter-advances : (dir : Direction) (t : Tree) (c : ℕ) → t ≡ char c → is_surrogate c ≡ false → Advances dir t (bytes (encode_utf8 c))
letter-advances dir t c e h = rw e (root-advances (rules.spells h))

pub loop-advances : (dir : Direction) (a : Tree) (first last least most : ℕ) (greedy : Bool) → takes_one a ≡ true → Advances dir (loop a first last least most greedy) (single_loop a least most greedy)
loop-advances dir a first last least most greedy h = root-advances (rules.loops_one h)

-- ---- sequences of few parts

pub short-cat : (ts : List Tree) → is_short_cat (cat_of ts) ≡ nat_lt (length ts) 2
short-cat ts = rw (is_cat-cat_of, parts-cat_of) refl

pub no_cat-short : (t : Tree) → is_cat t ≡ false → is_short_cat t ≡ false
no_cat-short t e = rw e refl

pub one_part-advances : (dir : Direction) (t : Tree) → Advances dir (cat_of (t ∷ [])) t
one_part-advances dir t = root-advances rules.is_one_part

pub no_part-advances : (dir : Direction) → Advances dir (cat_of []) empty
no_part-advances dir = root-advances rules.is_no_part

pub last-advances : (dir : Direction) (ns ms : List Node) (n : Node) → ns ≡ ms ++ n ∷ [] → is_short_cat (cat_of (map tree ns)) ≡ true → Advances dir (cat_of (map tree ns)) (tree n)
last-advances dir ns [] n e h = rw e (one_part-advances dir (tree n))
last-advances dir ns (m ∷ ms) n e h =
    let few = ltb-true (length (map tree ns)) 2 (sym (short-cat (map tree ns)) ∙ h) in
    let size : length (map tree ns) ≡ suc (length ms + 1) = length-map _ _ ∙ ap length e ∙ ap suc (length-append ms (n ∷ [])) in
    absurd (omega (arith, few, size))

pub none-advances : (dir : Direction) (ns : List Node) → length ns ≡ 0 → Advances dir (cat_of (map tree ns)) empty
none-advances dir [] h = no_part-advances dir
none-advances dir (n ∷ ns) h = absurd (omega (arith, h))
