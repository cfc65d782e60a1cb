-- How large a pattern may be. The standard knows no such limits.
use Rattle.std.specs.Prelude.{ℕ, ◌+◌, ◌<◌, ◌≤◌, Bool, List, length, max, count_by}
use Rattle.regress_meaning.specs.Table.{Table}
use Rattle.regress_meaning.specs.Class.{Class, union, intersection, difference, nested}
use Rattle.regress_meaning.specs.Pattern.{Pattern, names_of, class, sequence, choice, capture, grouped, atomic, modified, repeated, look}
use Rattle.regress_meaning.specs.Flags.{Options}
use Rattle.regress_meaning.specs.Text.{◌∈◌}
use Rattle.regress_meaning.specs.Grammar.{Spells}

-- how many brackets of the class are open at once, besides its own
abbrev pub class_depth : Class → ℕ
class_depth (union a b) = max (class_depth a) (class_depth b)
class_depth (intersection a b) = max (class_depth a) (class_depth b)
class_depth (difference a b) = max (class_depth a) (class_depth b)
class_depth (nested negated a) = class_depth a + 1
class_depth _ = 0

-- how many parentheses and brackets are open at once
abbrev pub depth : Pattern → ℕ
depth (class negated a) = class_depth a + 1
depth (sequence a b) = max (depth a) (depth b)
depth (choice a b) = max (depth a) (depth b)
depth (capture k name a) = depth a + 1
depth (grouped a) = depth a + 1
depth (atomic a) = depth a + 1
depth (modified on off a) = depth a + 1
depth (repeated a from to least most greedy) = depth a
depth (look negated backward a) = depth a + 1
depth _ = 0

-- how many quantifiers there are
abbrev pub quantifiers : Pattern → ℕ
quantifiers (sequence a b) = quantifiers a + quantifiers b
quantifiers (choice a b) = quantifiers a + quantifiers b
quantifiers (capture k name a) = quantifiers a
quantifiers (grouped a) = quantifiers a
quantifiers (atomic a) = quantifiers a
quantifiers (modified on off a) = quantifiers a
quantifiers (repeated a from to least most greedy) = quantifiers a + 1
quantifiers (look negated backward a) = quantifiers a
quantifiers _ = 0

-- how many parentheses and brackets may be open at once
abbrev pub greatest_depth : ℕ
greatest_depth = 256

-- how many capturing groups there may be
abbrev pub most_groups : ℕ
most_groups = 65535

-- how many quantifiers there may be
abbrev pub most_quantifiers : ℕ
most_quantifiers = 65535

-- The tree passes no limit.
pub record WithinLimits (p : Pattern) : Type 0 where
  pub deep : depth p ≤ greatest_depth
  pub groups : length (names_of p) ≤ most_groups
  pub loops : quantifiers p ≤ most_quantifiers

-- The characters by which a limit is judged in a text that spells no tree.
abbrev pub opens_nesting : ℕ → Bool
opens_nesting c = c ∈ "(["

abbrev pub opens_group : ℕ → Bool
opens_group c = c ∈ "("

abbrev pub opens_quantifier : ℕ → Bool
opens_quantifier c = c ∈ "*+?{"

module _ (table : Table) (o : Options) (text : List ℕ) where
  -- no tree is spelled
  abbrev pub SpellsNone : Type 0
  SpellsNone = (p : Pattern) → Spells table o text p → ⊥

  -- A limit is passed: by each tree that the text spells, and by a text that spells none where it holds more such
  -- characters than that.
  abbrev pub Passes : (Pattern → ℕ) → (ℕ → Bool) → ℕ → Type 0
  Passes size opens limit =
      ((p : Pattern) → Spells table o text p → limit < size p) × (SpellsNone → limit < count_by opens text)

  abbrev pub PassesNesting : Type 0
  PassesNesting = Passes depth opens_nesting greatest_depth

  abbrev pub PassesGroups : Type 0
  PassesGroups = Passes (λ p. length (names_of p)) opens_group most_groups

  abbrev pub PassesLoops : Type 0
  PassesLoops = Passes quantifiers opens_quantifier most_quantifiers
