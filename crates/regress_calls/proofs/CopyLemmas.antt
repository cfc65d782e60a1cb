-- Texts that are copied, and groups by their numbers.
use Rattle.std.specs.Prelude.{◌≡◌, ℕ, zero, suc, ◌-◌, List, Some, slice_get, Result, Ok, Err}
use Rattle.std.proofs.Common.{subst, sub-one}
use Rattle.regress.specs.declared.api.Regex.{Regex}
use Rattle.regress_call_errors.specs.declared.call_error.CallError.{CallError}
use Rattle.regress_call_errors.specs.declared.call_error.CallError.TheVariants.{NoRoom}
use Rattle.regress_calls.specs.Buffers.{IsCopied, IsCopiedIfMade}
use Rattle.regress_calls.specs.Handles.{OfPattern}
use Rattle.regress_calls.specs.Names.{IsNumbered}

-- a text that is copied was made
pub if-made : (text old new : List ℕ) (written : ℕ) (r : Result Unit CallError) → IsCopied text old new written r → IsCopiedIfMade text old new written r
if-made text old new written (Ok u) copied = copied
if-made text old new written (Err NoRoom) copied = copied
if-made text old new written (Err _) copied = copied.3

-- what is copied is what it is made to be
pub made-as : (made text old new : List ℕ) (written : ℕ) (r : Result Unit CallError) → made ≡ text → IsCopied made old new written r → IsCopiedIfMade text old new written r
made-as made text old new written r is copied =
    subst (λ (l : List ℕ). IsCopiedIfMade l old new written r) is (if-made made old new written r copied)

-- one pattern is held at a time
pub one-pattern : (r s : Regex) → OfPattern r ≡ OfPattern s → r ≡ s
one-pattern r s e = cc

-- a group with a number is the one at the number less one
pub numbered-at : (names : List (List ℕ)) (n : ℕ) (name : List ℕ) → IsNumbered names n name → slice_get names (n - 1) ≡ Some name
numbered-at names zero name is = absurd is
numbered-at names (suc k) name is = rw sub-one is
