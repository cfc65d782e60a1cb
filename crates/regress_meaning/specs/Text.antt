-- Words on texts. A text is a list of code points, and a word stands at its front.
use Rattle.std.specs.Prelude.{ℕ, zero, suc, Bool, false, ◌&&◌, ◌==◌, nat_eq, nat_le, List, [], ◌∷◌, if◌then◌else◌}
use Rattle.std.specs.List.{list_any}
use Prim.Native.String.{String}
use lib.Chars.{codes}
use lib.Pointwise.{pointwise}

-- c lies from a to b, both included
abbrev pub between : ℕ → ℕ → ℕ → Bool
between a b c = nat_le a c && nat_le c b

-- the n numbers from a on
abbrev pub count_up : ℕ → ℕ → List ℕ
count_up a zero = []
count_up a (suc n) = a ∷ count_up (suc a) n

-- the list holds c
abbrev pub holds : List ℕ → ℕ → Bool
holds cs c = list_any (λ d. d == c) cs

infix 60 ◌∈◌
-- c is one of the characters written
abbrev pub ◌∈◌ : ℕ → String → Bool
c ∈ s = holds (codes s) c

-- two texts are equal
abbrev pub same_text : List ℕ → List ℕ → Bool
same_text a b = pointwise nat_eq a b

-- the text begins with a code point that passes
abbrev pub is_at : (ℕ → Bool) → List ℕ → Bool
is_at test [] = false
is_at test (c ∷ t) = test c

-- the longest front whose members pass, and the rest
unfoldable pub span : (ℕ → Bool) → List ℕ → List ℕ × List ℕ
span test [] = ([], [])
span test (c ∷ t) = if test c then (c ∷ (span test t).0, (span test t).1) else ([], c ∷ t)

-- at most n of that front, and the rest
unfoldable pub span_up_to : ℕ → (ℕ → Bool) → List ℕ → List ℕ × List ℕ
span_up_to zero test t = ([], t)
span_up_to (suc n) test [] = ([], [])
span_up_to (suc n) test (c ∷ t) = if test c then (c ∷ (span_up_to n test t).0, (span_up_to n test t).1) else ([], c ∷ t)
