use Rattle.std.proofs.Common.{◌≡◌, ◌++◌, ℕ, List, length, flat_map}
use denote.Text.{Utf8}
use denote.Shadow.{shadow}
use Rattle.regress_meaning.specs.Matches.{Item}
use Rattle.regress_replacing.specs.Substitution.{is_some_named, substitution}
use Rattle.regress_replacing.specs.TemplateParts.{part_gives}
use Rattle.regress_replacing.proofs.template.parts.Given as goal

abbrev pub invariant-loop-plain : goal.invariant-loop-plain
invariant-loop-plain l =
    shadow (Utf8 l.rest) × ((names : List (List ℕ)) (text : List ℕ) (i : Item) → is_some_named names ≡ l.is_named →
    flat_map (part_gives names text i) l.parts.items ++ substitution names l.rest text i ≡ substitution names l.fn.source text i)

abbrev pub decreases-loop-plain : goal.decreases-loop-plain
decreases-loop-plain l = length l.rest
