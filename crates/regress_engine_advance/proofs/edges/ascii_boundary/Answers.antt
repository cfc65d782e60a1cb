use mathlib.Core.Bool.{beq}
use Rattle.std.proofs.Common.{◌≡◌, Bool, true, false, not, Option, Some, option_map, if◌then◌else◌, ◌||◌, ℕ, refl}
use Rattle.regress_meaning.specs.Class.{is_word, is_ascii_word}
use Rattle.regress_meaning.specs.Meaning.{differ}
use Rattle.regress_meaning.specs.Table.{Table}
use Rattle.regress_engine_input.specs.Views.{input_of}
use Rattle.regress_engine_advance.proofs.edges.ascii_boundary.Goals as goal

-- that two answers are not the same, told by cases
differs : (a b : Bool) → not (beq a b) ≡ (if a then not b else b)
differs true true = refl
differs true false = refl
differs false true = refl
differs false false = refl

-- with nothing else an alternative is what it is
alone : (b : Bool) → (b || false) ≡ b
alone true = refl
alone false = refl

-- where case is not ignored, the characters of words are those of ASCII
plain : (t : Table) (c : ℕ) → is_word t false c ≡ is_ascii_word c
unfolding is_word
plain t c = alone (is_ascii_word c)

-- what is told of the characters on both sides of an offset tells whether a word begins or ends there
edge : (t : Table) (x y : Option (ℕ × ℕ)) (a b : ℕ × ℕ) (p q : Bool) → x ≡ Some a → y ≡ Some b → p ≡ is_ascii_word a.0 → q ≡ is_ascii_word b.0
    → not (beq p q) ≡ differ t false (option_map (λ z. z.0) x) (option_map (λ z. z.0) y)
edge t x y a b p q before ahead was is = rw (was, is, before, ahead, plain t a.0, plain t b.0) (differs (is_ascii_word a.0) (is_ascii_word b.0))

pub returns : goal.returns
returns g c =
    edge (input_of (g.Input.InputIndexer.view c.args.input.now)).table _ _ _ _ c.is_word_char-was.result c.is_word_char.result
    c.in_ok-before.ensures c.in_ok-ahead.ensures c.is_word_char-was.ensures c.is_word_char.ensures
