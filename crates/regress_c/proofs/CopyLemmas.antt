-- Texts that are copied, as a number answers.
use Rattle.std.specs.Prelude.{◌≡◌, ℕ, ℤ, negsuc, List, Result, Ok, Err}
use Rattle.std.proofs.Common.{refl, sym, subst}
use Rattle.regress_call_errors.specs.declared.call_error.CallError.{CallError}
use Rattle.regress_call_errors.specs.declared.call_error.CallError.TheVariants.{OutOfMemory, WrongHandle, Null, NotUtf8, BadStart, NoRoom, Syntax, TooDeep, TooManyGroups, TooManyLoops, TooLarge, UnknownFlag, RepeatedFlag, BothUnicodeFlags, NoGroup, BrokenTables, SameHandle, PastLimit, TooManySteps}
use Rattle.regress_calls.specs.Buffers.{IsCopied, IsCopiedIfMade}
use Rattle.regress_calls.specs.Codes.{done_code, number_of}
use Rattle.regress_c.specs.Copied.{IsCopiedBy, IsCopiedOrNot}
use Rattle.regress_c.proofs.CodeLemmas.{by-number}

-- what a call copies
pub copied-by : (r : Result Unit CallError) (n : ℤ) (text old new : List ℕ) (written : ℕ) → n ≡ done_code r → IsCopiedIfMade text old new written r
    → IsCopiedBy text old new written n
copied-by (Ok u) n text old new written e h = subst (λ (z : ℤ). IsCopiedBy text old new written z) (sym e) (record { copied = h; refused = tt })
copied-by (Err x) n text old new written e h =
    subst (λ (z : ℤ). IsCopiedBy text old new written z) (sym e) (record { copied = tt; refused = by-number x (IsCopiedOrNot text old new written) (or-not x h) })
  where
    or-not : (x : CallError) → IsCopiedIfMade text old new written (Err x) → IsCopiedOrNot text old new written x
    or-not OutOfMemory h = h
    or-not WrongHandle h = h
    or-not Null h = h
    or-not NotUtf8 h = h
    or-not BadStart h = h
    or-not NoRoom h = h
    or-not Syntax h = h
    or-not TooDeep h = h
    or-not TooManyGroups h = h
    or-not TooManyLoops h = h
    or-not TooLarge h = h
    or-not UnknownFlag h = h
    or-not RepeatedFlag h = h
    or-not BothUnicodeFlags h = h
    or-not NoGroup h = h
    or-not BrokenTables h = h
    or-not SameHandle h = h
    or-not PastLimit h = h
    or-not TooManySteps h = h

-- where a call is refused at once, the buffer is as it was
pub not-copied : (n : ℤ) (text old : List ℕ) (written : ℕ) → n ≡ negsuc (number_of NotUtf8) → IsCopiedBy text old old written n
not-copied n text old written e = subst (λ (z : ℤ). IsCopiedBy text old old written z) (sym e) (record { copied = tt; refused = refl })
