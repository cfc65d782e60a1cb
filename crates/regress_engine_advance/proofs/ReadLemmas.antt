-- Instructions that were read, and what they ask.
use Rattle.std.specs.Prelude.{nat_lt, slice_get, get_or, is_some, option_map}
use Rattle.std.proofs.lemmas.Bool.Decides.{nat_tests}
use Rattle.std.proofs.lemmas.Option.{slice_get-map, slice_get-get_or}
use Rattle.std.proofs.Common.{◌≡◌, ℕ, zero, suc, ◌<◌, ◌==◌, true, false, List, length, map, Option, Some, None, refl, sym, ap, ◌∙◌, subst, arith}
use Rattle.regress_meaning.specs.Meaning.{Direction}
use Rattle.regress_meaning.specs.Inputs.{Input}
use Rattle.regress_meaning.specs.Steps.{literal}
use Rattle.regress_engine_insn.specs.Instructions.{Instruction, Program, Stands, bytes_in, is_byte_seq}
use Rattle.regress_engine_insn.specs.Instructions as code
use Rattle.regress_engine_insn.specs.InsnViews.{instruction}
use Rattle.regress_engine_insn.specs.declared.insn.Insn.{Insn}
use Rattle.regress_engine_runs.specs.States.{Marks}
use Rattle.regress_engine_runs.specs.Runs.{advance}
use Rattle.regress_engine_runs.specs.Meets.{reads_character}
use Rattle.regress_engine_runs.specs.Closed.{Fits}
use Rattle.regress_engine_search.specs.Ready.{is_simple}
use Rattle.regress_engine_singles.specs.Taking.{is_assertion}

-- an instruction that was read stands there
pub stands-read : (slice insns : List Insn) (at : ℕ) (d : Insn) → slice ≡ insns → at < length slice → slice_get (map instruction insns) at ≡ Some (instruction (get_or slice at d))
stands-read slice insns at d same within =
    subst (λ xs. slice_get (map instruction xs) at ≡ Some (instruction (get_or slice at d))) same
    (slice_get-map instruction slice at ∙ ap (option_map instruction) (slice_get-get_or slice at d within))

-- one instruction stands at an address
pub stands-one : (program : Program) (at : ℕ) (i j : Instruction) → Stands program at i → Stands program at j → i ≡ j
stands-one program at i j h k = let e : Some i ≡ Some j = sym h ∙ k in cc

-- what takes bytes reads no character
pub bytes-simple : (program : Program) (at : ℕ) (i : Instruction) → is_byte_seq i ≡ true → Fits program at i → (is_simple i ≡ true) × (reads_character i ≡ false) × Fits program 0 i
bytes-simple program at (code.byte_seq bs) e fits = (refl, refl, fits)
bytes-simple program at _ e fits = absurd (grind arith)

pub none-is : (x : Option ℕ) → is_some x ≡ false → None ≡ x
none-is None e = refl
none-is (Some o) e = absurd (cc e)

-- what takes bytes takes them where they stand
pub bytes-taken : (program : Program) (input : Input) (i : Instruction) (dir : Direction) (groups : List Marks) (o : ℕ) → is_byte_seq i ≡ true → literal input dir (bytes_in i) o ≡ advance program input i dir groups o
bytes-taken program input (code.byte_seq bs) dir groups o e = refl
bytes-taken program input _ dir groups o e = absurd (grind arith)

-- bytes are those of a program of bytes
pub bytes-units : (program : Program) (at : ℕ) (i : Instruction) → is_byte_seq i ≡ true → Fits program at i → program.units ≡ false
bytes-units program at (code.byte_seq bs) e fits = fits
bytes-units program at _ e fits = absurd (grind arith)

pub some-there : (n : ℕ) → false ≡ (n == 0) → 0 < n
some-there zero e = absurd (grind arith)
some-there (suc n) e = omega arith

pub more-than : (n : ℕ) → 0 < n → nat_lt 0 n ≡ true
more-than n some = grind (arith, nat_tests)

-- what asks what stands beside an offset changes nothing but that
pub assertion-simple : (i : Instruction) → is_assertion i ≡ true → is_simple i ≡ true
assertion-simple (code.line_start multiline) e = refl
assertion-simple (code.line_end multiline) e = refl
assertion-simple (code.boundary inverted folded) e = refl
assertion-simple _ e = absurd (grind arith)
