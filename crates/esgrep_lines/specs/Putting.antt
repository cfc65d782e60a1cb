-- What was put out, and what of it was written.
use Rattle.std.specs.Prelude.{◌≡◌, ℕ, List, ◌++◌, take, Bool, is_some, Option, Some, ⊤}
use Rattle.std.specs.Io.KnownBytes.{Appends, append_known}
use Rattle.esgrep_lines.specs.declared.output.Output.{Output}

-- a write has failed
abbrev pub has_failed : {W : Type 0} → Output W → Bool
has_failed o = is_some o.failure

-- what was written, where the writer tells it
abbrev pub written : {W : Type 0} → (W → Option (List ℕ)) → Output W → Option (List ℕ)
written contents o = contents o.writer

-- all that was put out: what was written, and then what waits to be
abbrev pub put_out : {W : Type 0} → (W → Option (List ℕ)) → Output W → Option (List ℕ)
put_out contents o = append_known (contents o.writer) o.pending.items

-- bytes grow by a beginning of these
abbrev pub AppendsFront : Option (List ℕ) → Option (List ℕ) → List ℕ → Type 0
AppendsFront old new bytes = (count : ℕ) × Appends old new (take count bytes)

-- known bytes are a beginning of others
abbrev pub IsBeginning : Option (List ℕ) → Option (List ℕ) → Type 0
IsBeginning (Some front) (Some all) = (rest : List ℕ) × (front ++ rest ≡ all)
IsBeginning _ _ = ⊤
