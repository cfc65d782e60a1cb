-- What the whole program does, from the words of its command line on.
use Rattle.std.specs.Prelude.{◌≡◌, ◌≢◌, ◌↔◌, ◌⊎◌, ℕ, List, [], Bool, true, Option, Some, Result, Ok, chars, IsUtf8, OnOk, IfSome, IsErrOf, IsOkAnd}
use Rattle.std.specs.Vec.Iter.{into_iter_items}
use Rattle.std.specs.Io.KnownBytes.{Appends}
use Rattle.std.specs.declared.vec.IntoIter.{IntoIter}
use Rattle.std.specs.declared.string.String.{String}
use Rattle.std.specs.declared.alloc.Global.{Global}
use Rattle.std.specs.declared.io.Error as io
use Rattle.regress_meaning.specs.Flags.{options_of}
use Rattle.regress_front_core.specs.declared.error.Error as library
use Rattle.regress_front_core.specs.declared.error.Error.TheVariants as library_error
use Rattle.regress.specs.Refusing.{MayRefuseRegex}
use Rattle.regress_program.specs.declared.error.ToolError.{ToolError}
use Rattle.regress_program.specs.declared.error.ToolError.TheVariants.{Pattern, Read, NotUtf8, Write, OutOfMemory}
use Rattle.regress_program.specs.declared.words.Request.{Request}
use Rattle.regress_program.specs.Running.{small, AppendsFront, Accepted, Searched}
use Rattle.regress_program.specs.Words.{request_of}

-- the words were read, and ask for this
abbrev pub Asks : Result (IntoIter (String Global) Global) io.Error → Request → Type 0
Asks words request = IsOkAnd words (λ ws. request_of (into_iter_items ws) ≡ Ok request)

-- What a run with these flags and this pattern does, from a source and a sink to what they are after it, and what it answers.
pub record Runs {R W : Type 0} (left : R → Option (List ℕ)) (read_failed : R → Bool) (written : W → Option (List ℕ)) (write_failed : W → Bool) (flags pattern : List ℕ) (before after : R) (sink sink2 : W) (answer : Result (Unit {0}) ToolError) : Type 0 where
  pub ok : OnOk answer (IfSome (left before) (λ input. Searched flags pattern input (left after) (Appends (written sink) (written sink2))))
  pub pattern_error : (e : library.Error) → IsErrOf answer (Pattern e) → MayRefuseRegex small (options_of (chars flags)) (chars pattern) e × (e ≢ library_error.OutOfMemory) × (after ≡ before) × (sink2 ≡ sink)
  pub read : IsErrOf answer Read ↔ (read_failed after ≡ true)
  pub on_read : IsErrOf answer Read → Accepted flags pattern × (sink2 ≡ sink)
  pub not_utf8 : IsErrOf answer NotUtf8 → Accepted flags pattern × (sink2 ≡ sink) × IfSome (left before) (λ input. (left after ≡ Some []) × ¬ IsUtf8 input)
  pub write : IsErrOf answer Write ↔ (write_failed sink2 ≡ true)
  pub on_write : IsErrOf answer Write → IfSome (left before) (λ input. Searched flags pattern input (left after) (AppendsFront (written sink) (written sink2)))
  pub out_of_memory : IsErrOf answer OutOfMemory → (sink2 ≡ sink) ⊎ IfSome (left before) (λ input. Searched flags pattern input (left after) (AppendsFront (written sink) (written sink2)))
