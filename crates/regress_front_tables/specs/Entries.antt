-- Values under keys.
use Rattle.std.specs.Prelude.{ℕ, List, chars, String}
use Rattle.std.specs.String.{string_bytes}

-- a key as its code points, with what is shown of the value under it
abbrev pub entry_of : {Z A B : Type 0} → (A → B) → String Z × A → List ℕ × B
entry_of shown e = (chars (string_bytes e.0), shown e.1)
