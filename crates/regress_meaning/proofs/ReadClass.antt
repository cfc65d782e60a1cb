-- The function that reads a class, and that it fits the grammar both ways.
use Rattle.std.proofs.Common.{◌≡◌, ℕ, suc, ◌+◌, ◌*◌, true, List, length, Some, refl, arith}
use Rattle.regress_meaning.specs.Class.{Class}
use Rattle.regress_meaning.specs.Tokens.{Mode}
use Rattle.regress_meaning.specs.Grammar.{ClassBody, of_members, of_contents}
use Rattle.regress_meaning.specs.ReadingClass.{read_class}
use Rattle.regress_meaning.proofs.Inversion.{gives-weaker, Gives}
use Rattle.regress_meaning.proofs.ReadSteps.{gives-test, on_true, on_false, on_some}
use Rattle.regress_meaning.proofs.ReadMembers.{read_members-gives, read_members-complete}
use Rattle.regress_meaning.proofs.ReadContents.{behind_bracket-gives, read_contents-gives}
use Rattle.regress_meaning.proofs.ReadContentsComplete.{read_contents-complete}

read_class-gives : (m : Mode) (t : List ℕ) → Gives (λ x. ClassBody m t x.0 x.1) (read_class m t)
unfolding read_class
read_class-gives m t = gives-test (m.sets)
    (λ sets. gives-weaker (λ x k. of_contents sets k) (behind_bracket-gives m t (read_contents-gives m (2 * length t + 2) t)))
    (λ none. gives-weaker (λ x k. of_members none k) (read_members-gives m (suc (length t)) t))

pub read_class-sound : (m : Mode) (t : List ℕ) {s : Class} {r : List ℕ} → read_class m t ≡ Some (s, r) → ClassBody m t s r
read_class-sound m t h = (read_class-gives m t).holds h

pub read_class-complete : (m : Mode) → (m.sets ≡ true → m.unicode ≡ true) → {t r : List ℕ} {s : Class} → ClassBody m t s r → read_class m t ≡ Some (s, r)
unfolding read_class
read_class-complete m unicode (of_members {t = t} none h) = on_false _ none (read_members-complete m (suc (length t)) (omega arith) h)
read_class-complete m unicode (of_contents {t = t} sets h) = on_true _ sets (on_some _ (read_contents-complete m (unicode sets) (2 * length t + 2) (omega arith) h) refl)
