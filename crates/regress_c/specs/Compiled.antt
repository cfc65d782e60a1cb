-- What exports that compile answer, and why they refuse.
use Rattle.std.specs.Prelude.{◌≡◌, Bool, ℕ, ℤ, ◌⊎◌, List, Result, Ok, Err, pos, negsuc, chars}
use Rattle.std.specs.Str.{IsUtf8}
use Rattle.regress_call_errors.specs.declared.call_error.CallError.{CallError}
use Rattle.regress_call_errors.specs.declared.call_error.CallError.TheVariants.{NotUtf8}
use Rattle.regress_calls.specs.declared.compiling.Refusal.{Refusal}
use Rattle.regress_calls.specs.Codes.{number_of}
use Rattle.regress_calls.specs.Compiling.{MayRefuseCompile}
use Rattle.regress_calls.specs.Handles.{Content}

-- 0, or the code of a refusal
abbrev pub refusal_code : Result Unit Refusal → ℤ
refusal_code (Ok u) = pos 0
refusal_code (Err r) = negsuc (number_of r.error)

-- Why a pattern in bytes is not compiled within a limit: they are not UTF-8, or as any.
abbrev pub MayRefuseText : Content → (limit : ℕ) → (whole : Bool) → (bytes letters : List ℕ) → CallError → Type 0
MayRefuseText c limit whole bytes letters e = ((e ≡ NotUtf8) × ¬ (IsUtf8 bytes)) ⊎ MayRefuseCompile c limit whole (λ o. chars bytes) letters e
