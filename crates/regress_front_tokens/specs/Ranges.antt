-- How many groups the parts of a pattern open, and the ranges of groups that parts tell.
use Rattle.std.specs.Prelude.{◌≡◌, ℕ, suc, ◌&&◌, ◌==◌, List, [], ◌∷◌, Option, Some, None, option_and_then, if◌then◌else◌, map}
use Rattle.std.specs.List.{flat_map}
use Rattle.regress_front_tokens.specs.declared.syntax.Term.{Term}
use Rattle.regress_front_tokens.specs.declared.syntax.Syntax.{Syntax}
use Rattle.regress_front_tokens.specs.declared.syntax.Syntax.TheOpen.{Syntax-F}
use Rattle.regress_front_tokens.specs.declared.syntax.Syntax.TheFolds.{fold-Syntax}

-- What a part opens is told so: of how many groups were opened before it, how many are up to its end, and of none where some
-- range in it is not that of the groups inside.

-- a part that opens no group
abbrev pub opens_none : ℕ → Option ℕ
opens_none k = Some k

-- parts one after another
abbrev pub in_turn : List (ℕ → Option ℕ) → ℕ → Option ℕ
in_turn [] k = Some k
in_turn (f ∷ fs) k = option_and_then (in_turn fs) (f k)

-- a part with a range, which has to be that of the groups inside
abbrev pub with_range : (first last : ℕ) → (ℕ → Option ℕ) → ℕ → Option ℕ
with_range first last f k = option_and_then (λ l. if first == k && last == l then Some l else None) (f k)

-- the parts of what stands in an alternative, where one term is seen so
abbrev pub term_parts : {A : Type 0} → (A → ℕ → Option ℕ) → Term A → List (ℕ → Option ℕ)
term_parts seen (Term.Text points) = map (λ c. opens_none) points.items
term_parts seen (Term.One a) = seen a ∷ []

-- one value, with what each part opens in its place
abbrev pub node_opens : Syntax-F (ℕ → Option ℕ) → ℕ → Option ℕ
node_opens (Syntax-F.Character c) = opens_none
node_opens Syntax-F.Any = opens_none
node_opens (Syntax-F.Class negated c) = opens_none
node_opens (Syntax-F.ClassEscape c) = opens_none
node_opens (Syntax-F.Alternative terms) = in_turn (flat_map (term_parts (λ f. f)) terms.items)
node_opens (Syntax-F.Disjunction arms) = in_turn arms.items
node_opens (Syntax-F.Capture id name contents) = λ k. contents.value (suc k)
node_opens (Syntax-F.Group contents) = contents.value
node_opens (Syntax-F.Atomic contents groups) = with_range groups.start groups.end contents.value
node_opens (Syntax-F.Modified on off contents) = contents.value
node_opens (Syntax-F.Loop loopee quant groups) = loopee.value
node_opens (Syntax-F.Look negated backward contents groups) = with_range groups.start groups.end contents.value
node_opens (Syntax-F.Reference groups) = opens_none
node_opens Syntax-F.LineStart = opens_none
node_opens Syntax-F.LineEnd = opens_none
node_opens (Syntax-F.WordBoundary negated) = opens_none

-- What a value opens. A loop tells its range in its tree, so nothing is asked of it here.
abbrev pub opens : Syntax → ℕ → Option ℕ
opens = fold-Syntax (ℕ → Option ℕ) node_opens

-- the parts of all terms of an alternative, one after another
abbrev pub parts_of : List (Term Syntax) → List (ℕ → Option ℕ)
parts_of = flat_map (term_parts opens)

-- Each range in a whole pattern is that of the groups inside.
abbrev pub HasRanges : Syntax → Type 0
HasRanges s = (k : ℕ) × (opens s 0 ≡ Some k)
