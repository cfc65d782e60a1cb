-- Classes of few characters.
use Rattle.std.proofs.Common.{◌≡◌, ℕ, suc, ◌+◌, ◌<◌, ◌≤◌, Bool, true, false, not, ◌&&◌, ◌||◌, ◌==◌, List, [], ◌∷◌, ◌++◌, length, map, take, get_or, All, nat_le, nat_lt, refl, sym, ap, ◌∙◌, subst, arith}
use Rattle.std.specs.List.{list_any, list_all}
use Rattle.std.proofs.lemmas.Bool.{false≢true}
use Rattle.std.proofs.lemmas.Bool.Decides.{nat_tests}
use Rattle.std.proofs.lemmas.List.{take_more, map-append}
use Rattle.std.proofs.lemmas.List.Elements.{All-nil, All-cons, All-append}
use Rattle.regress_meaning.specs.Meaning.{Direction}
use Rattle.regress_meaning.specs.Text.{holds, between}
use Rattle.regress_meaning.specs.TableParts.{is_code_point, in_intervals}
use Rattle.regress_meaning.specs.Table.{code_points, some_below}
use Rattle.regress_front_core.specs.Limits.{most_members}
use Rattle.regress_front_sets.specs.declared.interval.Interval.{Interval}
use Rattle.regress_front_sets.specs.Intervals.{ends, ends_of, in_interval}
use Rattle.regress_front_sets.proofs.IntervalLemmas.{in_intervals-append}
use Rattle.regress_front_tables.proofs.FoldingLemmas.{or_none, or_split}
use Rattle.regress_front_nodes.specs.Trees.{Tree, byte_set, char_set, any, bracket}
use Rattle.regress_front_nodes.specs.TreeMeaning.{bracket_has}
use Rattle.regress_front_nodes.specs.Characters.{Takes}
use Rattle.regress_front_nodes.specs.Singles.{bracket_is_empty}
use Rattle.regress_front_nodes.proofs.EmptyBrackets.{some_below-fails}
use Rattle.regress_front_nodes.proofs.PieceLemmas.{ascii-all}
use Rattle.regress_front_rules.specs.Rules as rules
use Rattle.regress_front_rules.specs.Rules.{is_bracket}
use Rattle.regress_front_opt.specs.Passes.{Advances}
use Rattle.regress_front_opt.proofs.PassLemmas.{root-advances}

holds-one : (xs : List ℕ) (x d : ℕ) → holds (xs ++ x ∷ []) d ≡ (holds xs d || (x == d))
holds-one [] x d = or_none (x == d)
holds-one (y ∷ xs) x d = ap (λ b. (y == d) || b) (holds-one xs x d) ∙ sym (or_split (y == d) (holds xs d) (x == d))

none-between : (a d : ℕ) → (nat_le a d && nat_lt d a) ≡ false
none-between a d = grind (arith, nat_tests)

one-more : (a x d : ℕ) → a ≤ x → ((nat_le a d && nat_lt d x) || (x == d)) ≡ (nat_le a d && nat_lt d (x + 1))
one-more a x d h = grind (arith, nat_tests)

to-the-last : (a b d : ℕ) → (nat_le a d && nat_lt d (b + 1)) ≡ between a b d
to-the-last a b d = grind (arith, nat_tests)

pub holds-none : (xs : List ℕ) (a d : ℕ) → holds xs d ≡ (holds xs d || (nat_le a d && nat_lt d a))
holds-none xs a d = sym (or_none (holds xs d)) ∙ ap (λ b. holds xs d || b) (sym (none-between a d))

pub holds-more : (old xs ys : List ℕ) (a x d : ℕ) → a ≤ x → ys ≡ xs ++ x ∷ [] → holds xs d ≡ (holds old d || (nat_le a d && nat_lt d x)) → holds ys d ≡ (holds old d || (nat_le a d && nat_lt d (x + 1)))
holds-more old xs ys a x d h e k =
    ap (λ zs. holds zs d) e ∙ holds-one xs x d ∙ ap (λ b. b || (x == d)) k ∙ or_split (holds old d) (nat_le a d && nat_lt d x) (x == d)
    ∙ ap (λ b. holds old d || b) (one-more a x d h)

pub holds-all : (old xs : List ℕ) (i : Interval) (x d : ℕ) → x ≡ i.last + 1 → holds xs d ≡ (holds old d || (nat_le i.first d && nat_lt d x)) → holds xs d ≡ (holds old d || in_interval i d)
holds-all old xs i x d e k =
    k ∙ ap (λ y. holds old d || (nat_le i.first d && nat_lt d y)) e ∙ ap (λ b. holds old d || b) (to-the-last i.first i.last d)

pub points-more : (xs ys : List ℕ) (x : ℕ) → ys ≡ xs ++ x ∷ [] → is_code_point x → All is_code_point xs → All is_code_point ys
points-more xs ys x e h k = subst (All is_code_point) (sym e) (All-append is_code_point xs (x ∷ []) k (All-cons is_code_point x [] h (All-nil is_code_point)))

one-interval : (i : Interval) (d : ℕ) → in_intervals (ends i ∷ []) d ≡ in_interval i d
unfolding in_intervals
one-interval i d = or_none (between i.first i.last d)

pub intervals-more : (is : List Interval) (k : ℕ) (i : Interval) (old new : List ℕ) (d : ℕ) → k < length is → i ≡ get_or is k i → holds old d ≡ in_intervals (ends_of (take k is)) d
    → holds new d ≡ (holds old d || in_interval i d) → holds new d ≡ in_intervals (ends_of (take (k + 1) is)) d
intervals-more is k i old new d l e h n =
    n ∙ ap (λ b. b || in_interval i d) h ∙ ap (λ b. in_intervals (ends_of (take k is)) d || b) (sym (one-interval i d))
    ∙ sym (in_intervals-append (ends_of (take k is)) (ends i ∷ []) d)
    ∙ ap (λ xs. in_intervals xs d) (sym (ap ends_of (take_more is k i l ∙ ap (λ j. take k is ++ j ∷ []) (sym e)) ∙ map-append ends (take k is) (i ∷ [])))

-- ---- what a class becomes

pub empty-takes : (inverted : Bool) (xs : List (ℕ × ℕ)) → bracket_is_empty inverted xs ≡ true → Takes (char_set []) (bracket_has inverted xs)
empty-takes inverted xs h = record {
  alone = refl;
  members = λ c l. sym (some_below-fails code_points c (bracket_has inverted xs) (turned (some_below code_points (bracket_has inverted xs)) h) (omega (arith, l)));
  lawful = (omega arith, All-nil is_code_point);
}
  where
    turned : (b : Bool) → not b ≡ true → b ≡ false
    turned false e = refl
    turned true e = sym e

pub all-takes : (xs : List (ℕ × ℕ)) → xs ≡ [] → Takes any (bracket_has true xs)
unfolding in_intervals
all-takes xs e = record { alone = refl; members = λ c l. rw e refl; lawful = tt }

pub few-takes : (t : Tree) (ms : List ℕ) (xs : List (ℕ × ℕ)) → Takes t (holds ms) → ((c : ℕ) → holds ms c ≡ in_intervals xs c) → Takes t (bracket_has false xs)
few-takes t ms xs h same = record { alone = h.alone; members = λ c l. h.members c l ∙ same c; lawful = h.lawful }

pub bracket-advances : (dir : Direction) (inverted : Bool) (xs : List (ℕ × ℕ)) (t : Tree) → is_bracket t ≡ false → Takes t (bracket_has inverted xs) → Advances dir (bracket inverted xs) t
bracket-advances dir inverted xs t k h = root-advances (rules.lists k h)

pub no-intervals : (is : List Interval) → (length is == 0) ≡ true → ends_of is ≡ []
no-intervals [] h = refl
no-intervals (i ∷ is) h = absurd (false≢true (sym (not-zero (length is)) ∙ h))
  where
    not-zero : (n : ℕ) → (suc n == 0) ≡ false
    not-zero n = grind (arith, nat_tests)
