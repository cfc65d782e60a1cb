-- The function that reads a class without `v`, behind its opening bracket, and that it fits the grammar both ways.
use Rattle.std.proofs.Common.{◌≡◌, ℕ, suc, zero, ◌<◌, ◌≤◌, true, false, not, ◌&&◌, ◌==◌, nat_le, List, [], ◌∷◌, length, drop, Some, refl, ap, eqb-true, subst, arith, rules}
use Rattle.std.proofs.lemmas.Bool.{or_from, and_parts, not-true, leb-true, le-leb}
use Rattle.regress_meaning.specs.Text.{◌∈◌}
use Rattle.regress_meaning.specs.Class.{Class, range, union}
use Rattle.regress_meaning.specs.Tokens.{Mode, Escape, point, class_escape_at}
use Rattle.regress_meaning.specs.Grammar.{class_of, member_class, dash_before_member, is_point, Member, as_itself, escaped, Members, no_member, single, from_to, loose}
use Rattle.regress_meaning.specs.ReadingClass.{closes_class, read_member, dashed, read_members}
use Rattle.regress_meaning.proofs.Inversion.{Gives, gives-none, gives-some, gives-weaker, gives-guard, gives-map, gives-then}
use Rattle.regress_meaning.proofs.Shorter.{Member-shorter}
use Rattle.regress_meaning.proofs.ReadSteps.{gives-test, gives-itself, on_true, on_false, on_some, on_map, told_apart, front}

-- What is read fits the grammar.

read_member-gives : (m : Mode) (t : List ℕ) → Gives (λ x. Member m t x.0 x.1) (read_member m t)
unfolding read_member
read_member-gives m [] = gives-none
read_member-gives m (c ∷ t) = gives-test (c == 0x5C)
    (λ backslash. rw (eqb-true c 0x5C backslash) (gives-weaker (λ x h. escaped h) (gives-itself (class_escape_at m t))))
    (λ no_backslash. gives-test (c == 0x5D) (λ _. gives-none) (λ no_bracket. gives-some (as_itself (search (rules, or_from)))))

dash_front : (u : List ℕ) → dash_before_member u ≡ true → u ≡ 0x2D ∷ drop 1 u
dash_front [] h = cc
dash_front (c ∷ u) h = ap (λ d. d ∷ u) (eqb-true c 0x2D (and_parts _ _ h).0)

dashed-gives : (m : Mode) {t u v r : List ℕ} (d e : Escape) {s : Class} → Member m t d (0x2D ∷ u) → dash_before_member (0x2D ∷ u) ≡ true
    → Member m u e v → Members m v s r → Gives (λ k. Members m t k r) (dashed m d e s)
dashed-gives m (point a) (point b) h dash k l = gives-guard (nat_le a b) (λ ordered. gives-some (from_to h dash k (leb-true a b ordered) l))
dashed-gives m d e h dash k l = gives-guard (not m.unicode) (λ legacy. gives-some (loose (not-true _ legacy) h dash k refl l))

pub read_members-gives : (m : Mode) (n : ℕ) (t : List ℕ) → Gives (λ x. Members m t x.0 x.1) (read_members m n t)
unfolding read_members
read_members-gives m zero t = gives-none
read_members-gives m (suc n) t = gives-test (closes_class t)
    (λ closes. rw (front 0x5D t closes) (gives-some no_member))
    (λ _. gives-then _ _ (read_member-gives m t) (λ x h. gives-test (dash_before_member x.1)
    (λ dash. let here = dash_front x.1 dash in
    gives-then _ _ (read_member-gives m (drop 1 x.1)) (λ y k. gives-then _ _ (read_members-gives m n y.1) (λ z l. gives-map _ _
    (dashed-gives m x.0 y.0 (subst (Member m t x.0) here h) (subst (λ u. dash_before_member u ≡ true) here dash) k l) (λ s g. g))))
    (λ none. gives-map _ _ (read_members-gives m n x.1) (λ y l. single h none l))))

-- What the grammar spells is read.

read_member-complete : (m : Mode) {t r : List ℕ} {e : Escape} → Member m t e r → read_member m t ≡ Some (e, r)
unfolding read_member
read_member-complete m (as_itself {c = c} h) =
    let apart = told_apart (λ c. c ∈ "\\]") c in on_false _ (apart 0x5C h refl) (on_false _ (apart 0x5D h refl) refl)
read_member-complete m (escaped h) = h

Member-opens : (m : Mode) {t r : List ℕ} {e : Escape} → Member m t e r → closes_class t ≡ false
Member-opens m (as_itself {c = c} h) = told_apart (λ c. c ∈ "\\]") c 0x5D h refl
Member-opens m (escaped h) = refl

dashed-range : (m : Mode) (a b : ℕ) (s : Class) → a ≤ b → dashed m (point a) (point b) s ≡ Some (union (range a b) s)
dashed-range m a b s h = rw (le-leb a b h)

dashed-loose : (m : Mode) (d e : Escape) (s : Class) → m.unicode ≡ false → (is_point d && is_point e) ≡ false
    → dashed m d e s ≡ Some (union (member_class d) (union (class_of 0x2D) (union (member_class e) s)))
dashed-loose m (point a) (point b) s legacy h = cc
dashed-loose m d e s legacy h = rw legacy

pub read_members-complete : (m : Mode) (n : ℕ) {t r : List ℕ} {s : Class} → length t < n → Members m t s r → read_members m n t ≡ Some (s, r)
unfolding read_members
read_members-complete m zero room h = absurd (omega arith)
read_members-complete m (suc n) room no_member = refl
read_members-complete m (suc n) room (single h none l) =
    on_false _ (Member-opens m h) (on_some _ (read_member-complete m h) (on_false _ none
    (on_map _ (read_members-complete m n (omega (arith, Member-shorter m h)) l))))
read_members-complete m (suc n) room (from_to {a = a} {b = b} h dash k ordered l) =
    on_false _ (Member-opens m h) (on_some _ (read_member-complete m h) (on_true _ dash (on_some _ (read_member-complete m k)
    (on_some _ (read_members-complete m n (omega (arith, Member-shorter m h, Member-shorter m k)) l) (on_map _ (dashed-range m a b _ ordered))))))
read_members-complete m (suc n) room (loose {d = d} {e = e} legacy h dash k sets l) =
    on_false _ (Member-opens m h) (on_some _ (read_member-complete m h) (on_true _ dash (on_some _ (read_member-complete m k)
    (on_some _ (read_members-complete m n (omega (arith, Member-shorter m h, Member-shorter m k)) l) (on_map _ (dashed-loose m d e _ legacy sets))))))
