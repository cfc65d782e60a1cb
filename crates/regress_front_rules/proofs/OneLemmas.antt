-- What takes one character still does when rules have rewritten it.
use Rattle.std.proofs.Common.{◌≡◌, ℕ, suc, Bool, true, false, not, ◌==◌, List, [], ◌∷◌, ◌++◌, length, encode_utf8, refl, sym, ◌∙◌, arith}
use Rattle.std.proofs.lemmas.Bool.{false≢true}
use lib.Utf8.{scalar}
use Rattle.std.proofs.lemmas.List.{append-nil}
use Rattle.std.proofs.lemmas.Bool.Decides.{nat_tests}
use Rattle.regress_meaning.specs.Table.{code_points, some_below}
use Rattle.regress_meaning.specs.TableParts.{is_code_point, is_surrogate}
use Rattle.regress_meaning.specs.Meaning.{Direction}
use Rattle.regress_meaning.proofs.TableLemmas.{some_below-true}
use Rattle.regress_front_nodes.specs.Trees.{Tree, empty, char, bytes, byte_set, char_set, cat_of, any, any_in_line, bracket}
use Rattle.regress_front_nodes.specs.Singles.{takes_one}
use Rattle.regress_front_nodes.specs.WellFormed.{AreLawful}
use Rattle.regress_front_nodes.specs.TreeMeaning.{bracket_has}
use Rattle.regress_front_nodes.specs.Characters.{Takes}
use Rattle.regress_front_nodes.proofs.NodeLemmas.{takes_one-cat_of, same_text-same}
use Rattle.regress_front_nodes.proofs.PieceLemmas.{scalar-from}
use Rattle.regress_front_rules.specs.Rules.{is_bracket, flattens, drops_empty, is_one_part, is_no_part, joins, spells, lists, is_empty_choice, is_lost, unrolls, loops_one, idles, skips, shares, Rewrites, there, in_part, in_first, in_second, in_capture, in_submatch, in_loop, in_single_loop}
use Rattle.regress_front_rules.proofs.RuleLemmas.{spelled-chars}

-- a `Bracket` that takes something takes no more as a set of none
some-members : (inverted : Bool) (intervals : List (ℕ × ℕ)) → ((c : ℕ) → is_code_point c → bracket_has inverted intervals c ≡ false) → takes_one (bracket inverted intervals) ≡ false
some-members inverted intervals none = by_test (some_below code_points (bracket_has inverted intervals)) refl
  where
    by_test : (b : Bool) → some_below code_points (bracket_has inverted intervals) ≡ b → takes_one (bracket inverted intervals) ≡ false
    by_test false e = rw e refl
    by_test true e =
        let one = some_below-true code_points (bracket_has inverted intervals) e in
        absurd (false≢true (sym (none one.0 (omega (arith, one.1))) ∙ one.2))

not_zero : (n : ℕ) → not (suc n == 0) ≡ true
not_zero n = grind (arith, nat_tests)

lists-one : (inverted : Bool) (intervals : List (ℕ × ℕ)) (t : Tree) → is_bracket t ≡ false → Takes t (bracket_has inverted intervals) → takes_one (bracket inverted intervals) ≡ true → takes_one t ≡ true
lists-one inverted intervals (char c) k takes h = refl
lists-one inverted intervals any k takes h = refl
lists-one inverted intervals any_in_line k takes h = refl
lists-one inverted intervals (byte_set []) k takes h = absurd (false≢true (sym (some-members inverted intervals (λ c l. sym (takes.members c l))) ∙ h))
lists-one inverted intervals (char_set []) k takes h = absurd (false≢true (sym (some-members inverted intervals (λ c l. sym (takes.members c l))) ∙ h))
lists-one inverted intervals (byte_set (b ∷ bs)) k takes h = not_zero (length bs)
lists-one inverted intervals (char_set (c ∷ cs)) k takes h = not_zero (length cs)
lists-one inverted intervals (bracket i xs) k takes h = absurd (false≢true (sym k))
lists-one inverted intervals _ k takes h = absurd (false≢true takes.alone)

spells-one : (c : ℕ) → is_code_point c → is_surrogate c ≡ false → takes_one (bytes (encode_utf8 c)) ≡ true
spells-one c h e =
    let s : scalar c ≡ true = scalar-from c h e in
    let back : encode_utf8 c ++ [] ≡ encode_utf8 c = append-nil (encode_utf8 c) in
    rw (spelled-chars c h e, s, back, same_text-same (encode_utf8 c)) refl

no_cat : (ts : List Tree) → takes_one (cat_of ts) ≡ true → ⊥
no_cat ts h = false≢true (sym (takes_one-cat_of ts) ∙ h)

pub rewrites-one : {dir : Direction} {t u : Tree} → Rewrites dir t u → (n : ℕ) → AreLawful n t → takes_one t ≡ true → takes_one u ≡ true
rewrites-one (there (flattens ts us vs)) n l h = absurd (no_cat (ts ++ cat_of us ∷ vs) h)
rewrites-one (there (drops_empty ts vs)) n l h = absurd (no_cat (ts ++ empty ∷ vs) h)
rewrites-one (there (is_one_part {t})) n l h = absurd (no_cat (t ∷ []) h)
rewrites-one (there is_no_part) n l h = absurd (no_cat [] h)
rewrites-one (there (joins ts vs xs ys)) n l h = absurd (no_cat (ts ++ bytes xs ∷ bytes ys ∷ vs) h)
rewrites-one (there (spells {c} e)) n l h = spells-one c l e
rewrites-one (there (lists {inverted} {intervals} {t} k takes)) n l h = lists-one inverted intervals t k takes h
rewrites-one (there is_empty_choice) n l h = absurd (false≢true h)
rewrites-one (there (is_lost ts e)) n l h = absurd (no_cat ts h)
rewrites-one (there (unrolls e)) n l h = absurd (false≢true h)
rewrites-one (there (loops_one e)) n l h = absurd (false≢true h)
rewrites-one (there (idles e)) n l h = absurd (false≢true h)
rewrites-one (there (skips e k)) n l h = absurd (false≢true h)
rewrites-one (there (shares e f k alike lawful larger lighter)) n l h = absurd (false≢true h)
rewrites-one (in_part {a = a} ts vs r) n l h = absurd (no_cat (ts ++ a ∷ vs) h)
rewrites-one (in_first r) n l h = absurd (false≢true h)
rewrites-one (in_second r) n l h = absurd (false≢true h)
rewrites-one (in_capture r) n l h = absurd (false≢true h)
rewrites-one (in_submatch r) n l h = absurd (false≢true h)
rewrites-one (in_loop r) n l h = absurd (false≢true h)
rewrites-one (in_single_loop r) n l h = absurd (false≢true h)
