-- What was found, what of it waits, and what was written.
use Rattle.std.proofs.Common.{◌≡◌, ℕ, List, take, Option, Bool, true, false, Result, Ok, Err, OnOk, OnErr, ◌⊎◌, inl, inr, sym, ap, ◌∙◌}
use Rattle.std.specs.Prelude.{IfErr}
use Rattle.std.specs.Io.KnownBytes.{Appends}
use Rattle.regress_program.specs.declared.error.ToolError.{ToolError}
use Rattle.regress_program.specs.declared.error.ToolError.TheVariants.{Write, OutOfMemory}
use Rattle.regress_program.specs.Running.{AppendsFront, Waits}
use Rattle.regress_program.proofs.RunLemmas.{Waits-all, Waits-part, Waits-front}

-- A run found lines, which wait, and a beginning of them was written.
pub found-front : (found : Result (Unit {0}) ToolError) (a b c : Option (List ℕ)) (pending all : List ℕ)
    → OnOk found (Waits a b pending all) → (found ≡ Err OutOfMemory → (count : ℕ) × Waits a b pending (take count all))
    → IfErr found (λ e. (e ≡ Write) ⊎ (e ≡ OutOfMemory)) → (found ≡ Err Write → ⊥) → AppendsFront b c pending → AppendsFront a c all
found-front (Ok x) a b c pending all ok refused errors going now = Waits-front a b c pending all ok now
found-front (Err e) a b c pending all ok refused (inl write) going now = absurd (going (ap Err write))
found-front (Err e) a b c pending all ok refused (inr memory) going now = let w = refused (ap Err memory) in Waits-part a b c pending all w.0 w.1 now

-- all that it found was written
pub found-ok : (found : Result (Unit {0}) ToolError) (a b c : Option (List ℕ)) (pending all : List ℕ)
    → OnOk found (Waits a b pending all) → Appends b c pending → OnOk found (Appends a c all)
found-ok (Ok x) a b c pending all ok now = Waits-all a b c pending all ok now
found-ok (Err e) a b c pending all ok now = tt

-- an error ended it, and what it found was written
pub found-err : (found : Result (Unit {0}) ToolError) (a b c : Option (List ℕ)) (pending all : List ℕ)
    → (found ≡ Err OutOfMemory → (count : ℕ) × Waits a b pending (take count all))
    → IfErr found (λ e. (e ≡ Write) ⊎ (e ≡ OutOfMemory)) → (found ≡ Err Write → ⊥) → Appends b c pending → OnErr found (AppendsFront a c all)
found-err (Ok x) a b c pending all refused errors going now = tt
found-err (Err e) a b c pending all refused (inl write) going now = absurd (going (ap Err write))
found-err (Err e) a b c pending all refused (inr memory) going now = let w = refused (ap Err memory) in (w.0, Waits-all a b c pending (take w.0 all) w.1 now)

-- the sink failed before all was found
pub found-failed-ok : (found : Result (Unit {0}) ToolError) (P : Type 0) → found ≡ Err Write → OnOk found P
found-failed-ok (Ok x) P e = absurd (cc e)
found-failed-ok (Err y) P e = tt

pub found-failed-err : (found : Result (Unit {0}) ToolError) (P : Type 0) → found ≡ Err Write → P → OnErr found P
found-failed-err (Ok x) P e p = tt
found-failed-err (Err y) P e p = p

-- a sink that is told to be sound has not failed
pub still-sound : (told failed : Bool) → told ≡ failed → told ≡ false → failed ≡ true → ⊥
still-sound told failed e sound now = absurd (cc)
