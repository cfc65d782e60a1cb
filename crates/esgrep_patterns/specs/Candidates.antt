-- Where a match of a pattern may begin.
use Rattle.std.specs.Prelude.{◌≡◌, ℕ, Bool, true, false, List, length, All}
use Rattle.regress.specs.declared.api.Regex.{Regex}
use Rattle.regress_engine_prefix.specs.declared.start.StartPredicate.{StartPredicate}
use Rattle.regress_engine_prefix.specs.declared.start.StartPredicate.TheVariants.{Arbitrary, StartAnchored}
use Rattle.regress_engine_prefix.specs.declared.start.StartPredicate.TheVariants as variant
use Rattle.regress_engine_search.specs.declared.prefilter.Prefilter.{Prefilter}

-- it speaks of the bytes from an offset on alone
abbrev pub looks_ahead : StartPredicate → Bool
looks_ahead Arbitrary = false
looks_ahead StartAnchored = false
looks_ahead (variant.WordStart _) = false
looks_ahead _ = true

-- what matches of a regex begin with
abbrev pub start_of : Regex → StartPredicate
start_of regex = regex.compiled.byte_program.start_pred

-- there is one regex, and it is told where its matches may begin, by the bytes from there on
abbrev pub IsOfOne : List Regex → Prefilter → Type 0
IsOfOne regexes prefilter =
    (length regexes ≡ 1) × All (λ regex. prefilter.start.now ≡ start_of regex) regexes × (looks_ahead prefilter.start.now ≡ true)
