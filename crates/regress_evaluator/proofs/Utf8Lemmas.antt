-- Bytes of UTF-8, read one by one.
use Rattle.std.proofs.Common.{◌≡◌, ℕ, zero, suc, ◌<◌, List, [], ◌∷◌, ◌++◌, append_assoc, refl, sym, ap, ◌∙◌, arith}
use Rattle.std.specs.Str.{chars, chars_after}
use Rattle.regress_evaluator.specs.Utf8Reading.{pending}

-- a character with no byte to come is read
pub chars_after-ready : (c : ℕ) (bs : List ℕ) → chars_after 0 c bs ≡ c ∷ chars bs
unfolding chars
chars_after-ready c [] = refl
chars_after-ready c (b ∷ bs) = refl

-- one with bytes to come is not
pub chars_after-pending : (left c : ℕ) (bs : List ℕ) → 0 < left → chars_after left c bs ≡ pending left c bs
chars_after-pending zero c bs some = absurd (omega arith)
chars_after-pending (suc left) c bs some = refl

-- behind the last byte no character comes
pub pending-nil : (left c : ℕ) → pending left c [] ≡ []
unfolding chars
pending-nil zero c = refl
pending-nil (suc left) c = refl

-- a character that is read is told
pub pending-push : (left c : ℕ) (told points rest all : List ℕ) → told ≡ points ++ c ∷ [] → left ≡ 0 → points ++ chars_after left c rest ≡ all
    → told ++ pending left c rest ≡ all
pending-push left c told points rest all push none read =
    rw (push, none) (append_assoc points (c ∷ []) (chars rest) ∙ ap (λ (cs : List ℕ). points ++ cs) (sym (chars_after-ready c rest)) ∙ rw none at read)
