-- How what is run by itself goes on.
use Rattle.std.specs.Prelude.{ℕ, Bool, false, not}
use Rattle.regress_front_nodes.specs.Trees.{Submatch, lookaround, atomic}
use Rattle.regress_engine_search.specs.declared.submatch.Submatch as code
use Rattle.regress_engine_search.specs.declared.submatch.Submatch.TheVariants.{Lookaround, Atomic}

-- what is run by itself, as the definitions have it
abbrev pub submatch_of : code.Submatch → Submatch
submatch_of (Lookaround negated backward) = lookaround negated backward
submatch_of Atomic = atomic

-- whether it holds where its contents don't
abbrev pub is_negated : Submatch → Bool
is_negated (lookaround negated backward) = negated
is_negated atomic = false

-- where it goes on, by the offset at which it stands and that at which its contents end
abbrev pub end_offset : Submatch → (outside inside : ℕ) → ℕ
end_offset (lookaround negated backward) outside inside = outside
end_offset atomic outside inside = inside

-- whether its contents are read forward, by whether what is outside is
abbrev pub reads_forward : Submatch → Bool → Bool
reads_forward (lookaround negated backward) forward = not backward
reads_forward atomic forward = forward
