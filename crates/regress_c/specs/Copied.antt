-- What exports that copy a text answer, and why they refuse.
use Rattle.std.specs.Prelude.{◌≡◌, ℕ, ℤ, ◌⊎◌, List, Result, Ok, Err}
use Rattle.std.specs.Str.{IsUtf8}
use Rattle.regress_call_errors.specs.declared.call_error.CallError.{CallError}
use Rattle.regress_call_errors.specs.declared.call_error.CallError.TheVariants.{NoRoom, NotUtf8}
use Rattle.regress_calls.specs.Buffers.{IsCopied}
use Rattle.regress_calls.specs.Codes.{IfCount, IfError}
use Rattle.regress_calls.specs.Handles.{Content}
use Rattle.regress_calls.specs.Refusals.{MayRefuseCopy, MayRefuseCopyOf, MayRefuseCounted}

-- what stands in a buffer after an error: where there is no room, `written` tells what is needed, and the buffer is as it was
abbrev pub IsCopiedOrNot : (text old new : List ℕ) → (written : ℕ) → CallError → Type 0
IsCopiedOrNot text old new written NoRoom = IsCopied text old new written (Err NoRoom)
IsCopiedOrNot text old new written e = new ≡ old

-- A text is copied, as a number answers; after an error that is none of room, the buffer is as it was.
pub record IsCopiedBy (text old new : List ℕ) (written : ℕ) (code : ℤ) : Type 0 where
  pub copied : IfCount code (λ _. IsCopied text old new written (Ok tt))
  pub refused : IfError code (IsCopiedOrNot text old new written)

-- why a call that counts groups by a name that is checked is refused
abbrev pub MayRefuseChecked : Content → List ℕ → CallError → Type 0
MayRefuseChecked c bytes NotUtf8 = ¬ (IsUtf8 bytes)
MayRefuseChecked c bytes e = MayRefuseCounted c e

-- why a text that is checked is not copied
abbrev pub MayRefuseCheckedCopy : List ℕ → CallError → Type 0
MayRefuseCheckedCopy bytes NotUtf8 = ¬ (IsUtf8 bytes)
MayRefuseCheckedCopy bytes e = MayRefuseCopy e

-- why what a pattern makes of two texts that are checked is not copied
abbrev pub MayRefuseCheckedCopyOf : Content → (text replacement : List ℕ) → CallError → Type 0
MayRefuseCheckedCopyOf c text replacement NotUtf8 = (¬ (IsUtf8 text)) ⊎ (¬ (IsUtf8 replacement))
MayRefuseCheckedCopyOf c text replacement e = MayRefuseCopyOf c e
