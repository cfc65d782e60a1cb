-- Texts as they stand in a caller's buffer.
use Rattle.std.specs.Prelude.{◌≡◌, ℕ, ◌<◌, ◌≤◌, List, [], ◌∷◌, ◌++◌, length, take, drop, Result, Ok, Err}
use Rattle.regress_call_errors.specs.declared.call_error.CallError.{CallError}
use Rattle.regress_call_errors.specs.declared.call_error.CallError.TheVariants.{NoRoom}

-- a text, and a null byte behind it
abbrev pub ended : List ℕ → List ℕ
ended text = text ++ (0 ∷ [])

-- what a buffer shows with a text at its beginning: as far as there is room with a null byte behind it, and all else as it was
abbrev pub with_text : (text old : List ℕ) → List ℕ
with_text text old = take (length old) (ended text) ++ drop (length (ended text)) old

-- A text is copied to a buffer; where there is no room for it, the buffer is as it was.
abbrev pub IsCopied : (text old new : List ℕ) → (written : ℕ) → Result Unit CallError → Type 0
IsCopied text old new written (Ok u) = (written ≡ length text) × (length text ≤ length old) × (new ≡ with_text text old)
IsCopied text old new written (Err e) = (e ≡ NoRoom) × (written ≡ length text) × (length old < length text) × (new ≡ old)

-- A text is copied to a buffer, unless there is none to copy for another reason than room.
abbrev pub IsCopiedIfMade : (text old new : List ℕ) → (written : ℕ) → Result Unit CallError → Type 0
IsCopiedIfMade text old new written (Err NoRoom) = IsCopied text old new written (Err NoRoom)
IsCopiedIfMade text old new written (Err e) = new ≡ old
IsCopiedIfMade text old new written (Ok u) = IsCopied text old new written (Ok u)
