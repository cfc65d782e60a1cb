-- What the parser's calls read, against the definitions of what stands at the front of a text.
use Rattle.std.specs.Prelude.{◌≡◌, ℕ, Bool, List, [], ◌∷◌, Option, Some, None, Result, Ok, Err}
use Rattle.regress_meaning.specs.Tokens.{Reads}
use Rattle.regress_front_core.specs.declared.error.Error.{Error}
use Rattle.regress_front_core.specs.declared.error.Error.TheVariants.{Syntax, OutOfMemory}

-- the code point at the front was taken, where there is one
abbrev pub IsNext : List ℕ → Option ℕ → List ℕ → Type 0
IsNext text None rest = (text ≡ []) × (rest ≡ [])
IsNext text (Some c) rest = text ≡ c ∷ rest

-- what a call answers is what the test says
abbrev pub Tells : (ℕ → Bool → Type 0) → (ℕ → Bool) → Type 0
Tells answers test = (c : ℕ) (r : Bool) → answers c r → r ≡ test c

-- The value was read at the front of the text; where there is none, the text is as it was.
abbrev pub IsReading : {A B : Type 0} → (A → B) → Reads B → List ℕ → Option A → List ℕ → Type 0
IsReading view reads text (Some x) rest = reads text ≡ Some (view x, rest)
IsReading view reads text None rest = (reads text ≡ None) × (rest ≡ text)

-- The value was read at the front of the text; it is an error that there is none.
abbrev pub IsRead : {A B : Type 0} → (A → B) → Reads B → List ℕ → Result A Error → List ℕ → Type 0
IsRead view reads text (Ok x) rest = reads text ≡ Some (view x, rest)
IsRead view reads text (Err (Syntax message)) rest = reads text ≡ None
IsRead view reads text (Err OutOfMemory) rest = Unit {0}
IsRead view reads text (Err _) rest = ⊥
