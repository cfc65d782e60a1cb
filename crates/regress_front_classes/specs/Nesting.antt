-- What an answer says of what holds brackets.
use Rattle.std.specs.Global.{Box}
use Rattle.std.specs.Prelude.{◌≡◌, ℕ, ◌+◌, ◌<◌, ◌≤◌, Bool, List, Some, None, Result, Ok, Err, count_by}
use Rattle.regress_meaning.specs.Class as meaning
use Rattle.regress_meaning.specs.Pattern.{Pattern, class}
use Rattle.regress_meaning.specs.Tokens.{Mode, Reads}
use Rattle.regress_meaning.specs.Limits.{class_depth, depth, opens_nesting, greatest_depth}
use Rattle.regress_meaning.specs.Reading.{single, no_term, class_opening}
use Rattle.regress_front_core.specs.declared.error.Error.{Error}
use Rattle.regress_front_core.specs.declared.error.Error.TheVariants.{Syntax as SyntaxError, TooDeep, OutOfMemory}
use Rattle.regress_front_tokens.specs.declared.syntax.Class.{Class}
use Rattle.regress_front_tokens.specs.Trees.{class_view}
use Rattle.regress_front_classes.specs.Classes.{boxed_view}

-- What was answered for what holds brackets, as many as `size` tells open at once, where so many parentheses and brackets are
-- open: it was read at the front of the text and nests no deeper than it may; or there is none; or whatever is read there
-- nests too deeply, and so do as many openings as stand in the text.
abbrev pub IsNested : {A B : Type 0} → (view : A → B) → (size : B → ℕ) → ℕ → Reads B → List ℕ → Result A Error → List ℕ → Type 0
IsNested view size nesting reads text (Ok x) rest = (reads text ≡ Some (view x, rest)) × (nesting + size (view x) ≤ greatest_depth)
IsNested view size nesting reads text (Err (SyntaxError message)) rest = reads text ≡ None
IsNested {B = B} view size nesting reads text (Err TooDeep) rest =
    ((y : B) (r : List ℕ) → reads text ≡ Some (y, r) → greatest_depth < nesting + size y) × (greatest_depth < nesting + count_by opens_nesting text)
IsNested view size nesting reads text (Err OutOfMemory) rest = Unit {0}
IsNested view size nesting reads text (Err _) rest = ⊥

-- The same for a class, its own bracket being open.
abbrev pub IsClassAnswer : ℕ → Reads meaning.Class → List ℕ → Result (Box Class) Error → List ℕ → Type 0
IsClassAnswer = IsNested boxed_view class_depth

-- What was answered for a class behind its opening bracket, so many parentheses and brackets being open around it: whether it
-- is negated, and its class.
abbrev pub IsBracketAnswer : ℕ → Mode → List ℕ → Result (Bool × Class) Error → List ℕ → Type 0
IsBracketAnswer nesting m text (Ok (negated, c)) rest =
    (class_opening m text ≡ single (class negated (class_view c)) rest) × (nesting + class_depth (class_view c) + 1 ≤ greatest_depth)
IsBracketAnswer nesting m text (Err (SyntaxError message)) rest = class_opening m text ≡ no_term
IsBracketAnswer nesting m text (Err TooDeep) rest =
    ((p : Pattern) (r : List ℕ) → class_opening m text ≡ single p r → greatest_depth < nesting + depth p) × (greatest_depth < nesting + count_by opens_nesting text + 1)
IsBracketAnswer nesting m text (Err OutOfMemory) rest = Unit {0}
IsBracketAnswer nesting m text (Err _) rest = ⊥

-- what was answered, without its box
abbrev pub unboxed : Result (Bool × Box Class) Error → Result (Bool × Class) Error
unboxed (Ok (negated, c)) = Ok (negated, c.value)
unboxed (Err e) = Err e
